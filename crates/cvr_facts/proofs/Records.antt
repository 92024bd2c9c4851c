-- The bodies of a record are those of its facts.
use Rattle.std.specs.Prelude.{◌≡◌, ◌↔◌, ◌⊎◌, ℕ, true, bytes_eq}
use Rattle.std.specs.Prelude.{List, [], ◌∷◌, Option, Some, None}
use Rattle.std.proofs.Common.{refl, sym, ap, ◌∙◌, subst, inl, inr}
use Rattle.std.proofs.lemmas.Map.Views.{Contains-from_any, list_any-from_Contains}
use Rattle.std.proofs.lemmas.Slice.Eq.{bytes_eq-Decides}
use Rattle.std.proofs.lemmas.Bool.{and_parts}
use Rattle.std.proofs.lemmas.Option.{cond_some}
use Rattle.std.specs.List.{filter_map, cons_option, Contains}
use Rattle.std.specs.Cmp.{Equal-is, eq_by_cmp_equiv}
use Rattle.std.specs.FinSet.{contains, items, contains-items}
use Rattle.cvr_fact_types.specs.declared.name.RecordName.{RecordName}
use Rattle.cvr_fact_types.specs.Facts.{Fact, Device, Header, Snapshot, Facts, fact_cmp, fact_total}
use Rattle.cvr_fact_types.specs.Facts.{fact_exact}
use Rattle.cvr_facts.specs.Choosing.{is_name, header_body, snapshot_body, header_bodies}
use Rattle.cvr_facts.specs.Choosing.{snapshot_bodies}
use Rattle.cvr_facts.proofs.Members.{at_head, at_tail, head_or_tail, none_listed}

-- ---- items of a set

-- a set of facts has those of its list
pub contains_iff : (s : Facts) (f : Fact) → (contains s f ≡ true) ↔ Contains (items s) f
contains_iff s f = (
  λ h. Contains-from_any (λ x y t. fact_exact x y ((Equal-is (fact_cmp x y)).0 t)) f (items s)
      (sym (contains-items s f) ∙ h),
  λ h. contains-items s f ∙ list_any-from_Contains (eq_by_cmp_equiv fact_total) f (items s) h,
)

-- ---- what a filter gives

module _ {X Y : Type 0} (h : X → Option Y) where
  added : (o : Option Y) (y : Y) (ys : List Y) → Contains ys y → Contains (cons_option o ys) y
  added None y ys at = at
  added (Some z) y ys at = at_tail z y ys at

  added_cases : (o : Option Y) (y : Y) (ys : List Y) → Contains (cons_option o ys) y
      → (o ≡ Some y) ⊎ Contains ys y
  added_cases None y ys at = inr at
  added_cases (Some z) y ys at =
      elim (head_or_tail z y ys at) [ inl e ↦ inl (ap Some e) | inr rest ↦ inr rest ]

  pub Contains-filter_map : (xs : List X) (x : X) (y : Y) → Contains xs x → h x ≡ Some y
      → Contains (filter_map h xs) y
  Contains-filter_map [] x y at e = absurd (none_listed x at)
  Contains-filter_map (z ∷ xs) x y at e =
      elim (head_or_tail z x xs at) [
        | inl is ↦ subst (λ o. Contains (cons_option o (filter_map h xs)) y) (sym (ap h is ∙ e))
            (at_head y (filter_map h xs))
        | inr rest ↦ added (h z) y (filter_map h xs) (Contains-filter_map xs x y rest e)
      ]

  pub from-filter_map : (xs : List X) (y : Y) → Contains (filter_map h xs) y
      → (x : X) × Contains xs x × (h x ≡ Some y)
  from-filter_map [] y at = absurd (none_listed y at)
  from-filter_map (z ∷ xs) y at =
      elim (added_cases (h z) y (filter_map h xs) at) [
        | inl e ↦ (z, at_head z xs, e)
        | inr rest ↦ let found =
            from-filter_map xs y rest in (found.0, at_tail z found.0 xs found.1, found.2)
      ]

-- ---- names

module _ (key : RecordName) where
  own_name : is_name key key.device key.unique ≡ true
  own_name = rw (
    (bytes_eq-Decides key.device key.device).1 refl,
    (bytes_eq-Decides key.unique key.unique).1 refl,
  ) refl

  pub of_name : (device unique : List ℕ) → is_name key device unique ≡ true
      → (key.device ≡ device) × (key.unique ≡ unique)
  of_name device unique e =
      let parts = and_parts (bytes_eq key.device device) (bytes_eq key.unique unique) e in (
        (bytes_eq-Decides key.device device).0 parts.0,
        (bytes_eq-Decides key.unique unique).0
            parts.1,
      )

  -- ---- facts of a record

  header_body-own : (b : List ℕ) → header_body key (Header key.device key.unique b) ≡ Some b
  header_body-own b = rw own_name refl

  snapshot_body-own : (id b : List ℕ) → snapshot_body key (Snapshot key.device key.unique id b)
      ≡ Some b
  snapshot_body-own id b = rw own_name refl

  header_body-is : (f : Fact) (b : List ℕ) → header_body key f ≡ Some b
      → f ≡ Header key.device key.unique b
  header_body-is (Device i c) b e = Prim.cc e
  header_body-is (Header d u c) b e =
      let had = cond_some (is_name key d u) c b e in
      let names = of_name d u had.0 in
      λ i. Header (sym names.0 i) (sym names.1 i) (had.1 i)
  header_body-is (Snapshot d u i c) b e = Prim.cc e

  snapshot_body-is : (f : Fact) (b : List ℕ) → snapshot_body key f ≡ Some b
      → (id : List ℕ) × (f ≡ Snapshot key.device key.unique id b)
  snapshot_body-is (Device i c) b e = Prim.cc e
  snapshot_body-is (Header d u c) b e = Prim.cc e
  snapshot_body-is (Snapshot d u id c) b e =
      let had = cond_some (is_name key d u) c b e in
      let names = of_name d u had.0 in
      (id, λ i. Snapshot (sym names.0 i) (sym names.1 i) id (had.1 i))

-- ---- bodies of a record

pub Contains-header_bodies : (s : Facts) (key : RecordName) (b : List ℕ)
    → Contains (header_bodies s key) b ↔ (contains s (Header key.device key.unique b) ≡ true)
Contains-header_bodies s key b = (
  λ at. let found = from-filter_map (header_body key) (items s) b at in
      let is = header_body-is key found.0 b found.2 in
      (contains_iff s (Header key.device key.unique b)).1 (subst (Contains (items s)) is found.1),
  λ has. Contains-filter_map (header_body key) (items s) (Header key.device key.unique b) b
      ((contains_iff s (Header key.device key.unique b)).0 has) (header_body-own key b),
)

pub Contains-snapshot_bodies : (s : Facts) (key : RecordName) (b : List ℕ)
    → Contains (snapshot_bodies s key) b
    ↔ ((id : List ℕ) × (contains s (Snapshot key.device key.unique id b) ≡ true))
Contains-snapshot_bodies s key b = (
  λ at. let found = from-filter_map (snapshot_body key) (items s) b at in
      let is = snapshot_body-is key found.0 b found.2 in (
        is.0,
        (contains_iff s (Snapshot key.device key.unique is.0 b)).1
            (subst (Contains (items s)) is.1 found.1),
      ),
  λ has. Contains-filter_map (snapshot_body key) (items s) (Snapshot key.device key.unique has.0 b)
      b ((contains_iff s (Snapshot key.device key.unique has.0 b)).0 has.1)
      (snapshot_body-own key has.0 b),
)
