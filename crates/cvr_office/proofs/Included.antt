-- Sets of facts within others: what their bodies may name, and which of their records are whole.
use Rattle.std.proofs.Common.{◌≡◌, ℕ, List, true, Some, Contains, refl, sym, ◌∙◌}
use Rattle.std.proofs.Common.{subst, inl, inr}
use Rattle.std.specs.Prelude.{◌⊎◌}
use Rattle.std.specs.FinSet.{contains, items, union, contains-union}
use Rattle.std.proofs.lemmas.Cmp.{nat_list_eq_equiv}
use Rattle.std.proofs.lemmas.Map.Views.{Contains-from_any, list_any-from_Contains}
use Rattle.std.proofs.lemmas.Slice.Eq.{bytes_eq-Decides}
use Rattle.std.proofs.lemmas.Bool.{or_left, or_right, or_cases}
use Rattle.cdf_parts.specs.Places.{Texts}
use Rattle.cdf_definition.specs.References.{Scope}
use Rattle.cdf_check.proofs.Laws.{header_stays, snapshot_stays}
use Rattle.cdf_check.specs.Wider.{Includes, Wider}
use Rattle.cvr_fact_types.specs.Facts.{Fact, Device, Header, Snapshot, Facts, fact_total}
use Rattle.cvr_facts.specs.Stands.{Stands, HasRecord, IsOfRecord}
use Rattle.cvr_facts.proofs.Laws.{contains_iff}
use Rattle.cvr_facts.proofs.Lemmas.{Contains-filter_map, from-filter_map}
use Rattle.cvr_office.specs.Names.{device_in}
use Rattle.cvr_office.specs.Under.{device_ids}

-- each fact of s is one of t
abbrev pub IsWithin : Facts → Facts → Type 0
IsWithin s t = (f : Fact) → contains s f ≡ true → contains t f ≡ true

-- ---- unions

module _ (s t : Facts) where
  pub left_within : IsWithin s (union s t)
  left_within f h = contains-union fact_total s t f ∙ or_left (contains s f) (contains t f) h

  pub right_within : IsWithin t (union s t)
  right_within f h = contains-union fact_total s t f ∙ or_right (contains s f) (contains t f) h

  pub from_union : (f : Fact) → contains (union s t) f ≡ true
      → (contains s f ≡ true) ⊎ (contains t f ≡ true)
  from_union f h =
      or_cases (contains s f) (contains t f) (sym (contains-union fact_total s t f) ∙ h)

  -- what holds of the facts of both holds of those of the union
  pub of_union : (P : Fact → Type 0) → ((f : Fact) → contains s f ≡ true → P f)
      → ((f : Fact) → contains t f ≡ true → P f)
      → (f : Fact) → contains (union s t) f ≡ true → P f
  of_union P a b f h = elim (from_union f h) [ inl x ↦ a f x | inr y ↦ b f y ]

-- ---- ids of devices

-- ids that are all among others
pub includes : (xs ys : Texts) → ((id : List ℕ) → Contains xs id → Contains ys id) → Includes xs ys
includes xs ys h id e =
    list_any-from_Contains nat_list_eq_equiv id ys
    (h id (Contains-from_any (λ a b. (bytes_eq-Decides a b).0) id xs e))

pub device_known : (s : Facts) (id body : List ℕ) → contains s (Device id body) ≡ true
    → Contains (device_ids s) id
device_known s id body h = Contains-filter_map device_in (items s) (Device id body) id
    ((contains_iff s (Device id body)).0 h) refl

device_of : (s : Facts) (id : List ℕ) (f : Fact) → contains s f ≡ true → device_in f ≡ Some id
    → (body : List ℕ) × (contains s (Device id body) ≡ true)
device_of s id (Device i b) h is = (
  b,
  subst (λ j. contains s (Device j b) ≡ true)
      (let same : i ≡ id = cc in same) h,
)
device_of s id (Header d u b) h is = absurd (cc)
device_of s id (Snapshot d u i b) h is = absurd (cc)

pub known_device : (s : Facts) (id : List ℕ) → Contains (device_ids s) id
    → (body : List ℕ) × (contains s (Device id body) ≡ true)
known_device s id a =
    let p = from-filter_map device_in (items s) id a in
    device_of s id p.0 ((contains_iff s p.0).1 p.1) p.2

pub devices_within : (s t : Facts) → IsWithin s t → Includes (device_ids s) (device_ids t)
devices_within s t w =
    includes (device_ids s) (device_ids t)
    (λ id a. let d = known_device s id a in device_known t id d.0 (w (Device id d.0) d.1))

-- ---- what carries over to a larger set

-- a body that stands still does where more can be named
pub stands_wider : (a b : Scope) → Wider a b → (f : Fact) → Stands a f → Stands b f
stands_wider a b w (Device id body) h = h
stands_wider a b w (Header device unique body) h =
    (h.0, h.1, header_stays a b w device unique h.0 h.2)
stands_wider a b w (Snapshot device unique id body) h = (h.0, h.1, snapshot_stays a b w id h.0 h.2)

record_wider : (s t : Facts) → IsWithin s t → (device unique : List ℕ) → HasRecord s device unique
    → HasRecord t device unique
record_wider s t w device unique h = record {
  header = (h.header.0, w (Header device unique h.header.0) h.header.1);
  snapshot = (
    h.snapshot.0,
    h.snapshot.1,
    w (Snapshot device unique h.snapshot.0 h.snapshot.1)
        h.snapshot.2,
  );
  creator = (h.creator.0, w (Device device h.creator.0) h.creator.1);
}

pub whole_wider : (s t : Facts) → IsWithin s t → (f : Fact) → IsOfRecord s f → IsOfRecord t f
whole_wider s t w (Device id body) h = h
whole_wider s t w (Header device unique body) h = record_wider s t w device unique h
whole_wider s t w (Snapshot device unique id body) h = record_wider s t w device unique h
