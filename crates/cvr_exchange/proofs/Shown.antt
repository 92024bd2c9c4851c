-- The bodies under a name, and those that a volume shows, are held.
use Rattle.std.proofs.Common.{◌≡◌, ◌↔◌, ◌<◌, ℕ, List, [], ◌∷◌, map, length, reverse, Contains, true}
use Rattle.std.proofs.Common.{false, Bool, cond, Some, inl, inr, ◌⊎◌, refl, sym, ap, ◌∙◌, subst}
use Rattle.std.proofs.Common.{arith}
use Rattle.std.specs.List.{filter}
use Rattle.std.specs.Option.{option_map_or}
use Rattle.std.specs.FinSet.{contains, items}
use Rattle.std.specs.declared.cmp.Ordering.{Ordering}
use Rattle.std.specs.Ordering.{on, is_gt}
use Rattle.std.proofs.lemmas.List.Sorted.{IsPermutation-reverse, Contains-permutation}
use Rattle.std.proofs.lemmas.Slice.Eq.{bytes_eq-Decides}
use Rattle.cdf_typed.specs.Greatest.{max_of, max_by}
use Rattle.cvr_fact_types.specs.declared.name.RecordName.{RecordName}
use Rattle.cvr_fact_types.specs.Facts.{Fact, Device, Header, Snapshot, Facts}
use Rattle.cvr_facts.specs.Choosing.{choice_cmp}
use Rattle.cvr_facts.specs.Stands.{HasRecord}
use Rattle.cvr_facts.proofs.Laws.{text_total, text_exact, choice_total, choice_exact, contains_iff}
use Rattle.cvr_facts.proofs.Lemmas.{at_head, at_tail, in_map, from_map}
use Rattle.cdf_definition.specs.Frame.{Frame}
use Rattle.cvr_office.specs.declared.conflict.ConflictName.TheVariants as name
use Rattle.cvr_office.specs.CanHold.{CanHold}
use Rattle.cvr_office.specs.Names.{records, devices, snapshot_ids, is_named, body_of}
use Rattle.cvr_office.specs.Readers.{header_list, device_list, snapshot_list}
use Rattle.cvr_office.proofs.Lemmas.{from_ordered, in_ordered, from_filter, in_filter}
use Rattle.cvr_office.proofs.Laws.{device_known, known_device, header_under, snapshot_under}
use Rattle.cvr_office.proofs.Laws.{id_under}
use Rattle.cvr_report.specs.Page.{Shown, shown_body, current_id}
use Rattle.cvr_report.proofs.Lemmas.{unreversed}
use Rattle.cvr_report.proofs.Laws.{shown_listed, headed, id_shows}

-- ---- bodies of a name

reversed : {X : Type 0} (xs : List X) (x : X) → Contains xs x → Contains (reverse xs) x
reversed xs x at = Contains-permutation xs (reverse xs) x (IsPermutation-reverse xs) at

named_device : (id : List ℕ) (f : Fact) → is_named (name.Device id) f ≡ true
    → f ≡ Device id (body_of f)
named_device id (Device j b) e = ap (λ k. Device k b) (sym ((bytes_eq-Decides id j).0 e))
named_device id (Header d u b) e = absurd (Prim.cc e)
named_device id (Snapshot d u j b) e = absurd (Prim.cc e)

module _ (s : Facts) where
  pub of_device : (id b : List ℕ) → Contains (device_list s id) b
      ↔ (contains s (Device id b) ≡ true)
  of_device id b = (
    λ at.
        let found = from_map body_of b (filter (is_named (name.Device id)) (items s))
        (from_ordered text_total text_exact _ b (unreversed _ b at)) in
        let kept = from_filter (is_named (name.Device id)) (items s) found.0 found.1 in
        (contains_iff s (Device id b)).1
        (subst (Contains (items s)) (named_device id found.0 kept.1 ∙ ap (Device id) found.2)
        kept.0),
    λ has.
        reversed _ b (in_ordered text_total text_exact _ b
        (in_map body_of (Device id b) (filter (is_named (name.Device id)) (items s))
        (in_filter (is_named (name.Device id)) (items s) (Device id b)
        ((contains_iff s (Device id b)).0 has) ((bytes_eq-Decides id id).1 refl)))),
  )

  pub of_header : (key : RecordName) (b : List ℕ)
      → Contains (header_list s key) b ↔ (contains s (Header key.device key.unique b) ≡ true)
  of_header key b = (
    λ at. (header_under key s b).0 (from_ordered text_total text_exact _ b (unreversed _ b at)),
    λ has. reversed _ b (in_ordered text_total text_exact _ b ((header_under key s b).1 has)),
  )

  pub of_snapshot : (key : RecordName) (id b : List ℕ)
      → Contains (snapshot_list s key id) b
      ↔ (contains s (Snapshot key.device key.unique id b) ≡ true)
  of_snapshot key id b = (
    λ at. (snapshot_under key s id b).0
        (from_ordered choice_total choice_exact _ b (unreversed _ b at)),
    λ has. reversed _ b (in_ordered choice_total choice_exact _ b
        ((snapshot_under key s id b).1 has)),
  )

  pub of_id : (key : RecordName) (id : List ℕ)
      → Contains (snapshot_ids s key) id
      ↔ ((b : List ℕ) × (contains s (Snapshot key.device key.unique id b) ≡ true))
  of_id key id = (
    λ at. (id_under key s id).0 (from_ordered text_total text_exact _ id at),
    λ has. in_ordered text_total text_exact _ id ((id_under key s id).1 has),
  )

  pub of_device_id : (id : List ℕ) → Contains (devices s) id
      ↔ ((b : List ℕ) × (contains s (Device id b) ≡ true))
  of_device_id id = (
    λ at. known_device s id (from_ordered text_total text_exact _ id at),
    λ has. in_ordered text_total text_exact _ id (device_known s id has.0 has.1),
  )

-- ---- what is shown

shown_in : (i : ℕ) (xs : List (List ℕ)) (x : List ℕ) → 0 < i → Contains xs x
    → Contains xs (shown_body i xs)
shown_in i xs x pos at = let lt = at.1 in shown_listed i xs pos (omega (arith, lt))

module _ (frame : Frame) (s : Facts) (can_hold : CanHold frame s) (i : ℕ) (pos : 0 < i) where
  pub device_shown : (id : List ℕ) → Contains (devices s) id
      → contains s (Device id (shown_body i (device_list s id))) ≡ true
  device_shown id at =
      let known = (of_device_id s id).0 at in
      (of_device s id _).0 (shown_in i (device_list s id) known.0 pos
      ((of_device s id known.0).1 known.1))

  module _ (key : RecordName) where
    pub snapshot_shown : (id : List ℕ) → Contains (snapshot_ids s key) id
        → contains s (Snapshot key.device key.unique id (shown_body i (snapshot_list s key id)))
        ≡ true
    snapshot_shown id at = (of_snapshot s key id _).0
        (shown_listed i (snapshot_list s key id) pos (id_shows frame s can_hold key id at))

    module _ (at : Contains (records s) key) where
      pub header_shown : contains s (Header key.device key.unique
          (shown_body i (header_list s key))) ≡ true
      header_shown = (of_header s key _).0
          (shown_listed i (header_list s key) pos (headed frame s can_hold key at))

      pub some_id : (id : List ℕ) × Contains (snapshot_ids s key) id
      some_id =
          let whole : HasRecord s key.device key.unique = can_hold.whole
          (Header key.device key.unique (shown_body i (header_list s key))) header_shown in
          (whole.snapshot.0, (of_id s key whole.snapshot.0).1 (whole.snapshot.1, whole.snapshot.2))

-- ---- the current one is among those that are shown

greater_is : {K : Type 0} (b : Bool) (x y : K) → (cond b x y ≡ x) ⊎ (cond b x y ≡ y)
greater_is true x y = inl refl
greater_is false x y = inr refl

greatest_listed : {K : Type 0} (R : K → K → Ordering) (x : K) (xs : List K)
    → (y : K) × (max_by R (x ∷ xs) ≡ Some y) × Contains (x ∷ xs) y
greatest_listed R x [] = (x, refl, at_head x [])
greatest_listed R x (z ∷ xs) =
    let p = greatest_listed R z xs in
    let is : max_by R (x ∷ z ∷ xs) ≡ Some (max_of R x p.0) =
    ap (λ o. Some (option_map_or (max_of R x) o x)) p.1 in
    elim (greater_is (is_gt (R x p.0)) x p.0) [
      | inl e ↦ (max_of R x p.0, is, subst (Contains (x ∷ z ∷ xs)) (sym e) (at_head x (z ∷ xs)))
      | inr e ↦ (
        max_of R x p.0,
        is,
        subst (Contains (x ∷ z ∷ xs)) (sym e)
            (at_tail x p.0 (z ∷ xs) p.2),
      )
    ]

pub current_listed : (ss : List Shown) → 0 < length ss
    → Contains (map (λ (q : Shown). q.id) ss) (current_id ss)
current_listed [] some = absurd (omega (arith, some))
current_listed (q ∷ ss) some =
    let p = greatest_listed (on (λ (s : Shown). s.body) choice_cmp) q ss in
    subst (λ o. Contains (map (λ (s : Shown). s.id) (q ∷ ss))
    (option_map_or (λ (s : Shown). s.id) o [])) (sym p.1)
    (in_map (λ (s : Shown). s.id) p.0 (q ∷ ss) p.2)
