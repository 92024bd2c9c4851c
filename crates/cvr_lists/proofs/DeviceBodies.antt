-- The bodies of a device are those of its facts, which stand side by side in a plain office's list.
use Rattle.std.proofs.Common.{◌≡◌, ℕ, Bool, true, false, List, map, take, drop, Contains, Option}
use Rattle.std.proofs.Common.{Some, None, Ordering, Less, Equal, Greater, refl, sym, ap, ◌∙◌, subst}
use Rattle.std.proofs.Common.{true≢false, arith}
use Rattle.std.specs.Prelude.{bytes_eq}
use Rattle.std.specs.List.{filter}
use Rattle.std.specs.List.Sorted.{IsStrictlySortedBy, IsPartitionedBy, IsPartitionPoint}
use Rattle.std.specs.Option.{option_map_or}
use Rattle.std.specs.Ordering.{is_eq, is_lt, is_le, is_gt, ordering_then, ordering_reverse}
use Rattle.std.specs.Cmp.{Equal-is, both_ways, tied_itself, upto}
use Rattle.std.specs.FinSet.{items}
use Rattle.std.proofs.lemmas.List.Kept.{IsStrictlySortedBy-filter}
use Rattle.std.proofs.lemmas.Slice.Eq.{bytes_eq-Decides}
use Rattle.cvr_fact_types.specs.Facts.{Fact, Device, Header, Snapshot, text_cmp}
use Rattle.cvr_facts.proofs.Laws.{text_total, text_exact}
use Rattle.cvr_facts.proofs.Lemmas.{in_map, from_map}
use Rattle.cvr_office.specs.declared.any_fact.AnyFact.{AnyFact}
use Rattle.cvr_office.specs.declared.conflict.ConflictName.TheVariants as name
use Rattle.cvr_office.specs.Names.{is_named, body_of, bodies_under, device_in}
use Rattle.cvr_office.specs.Place.{fact_of, any_cmp, place_cmp}
use Rattle.cvr_office.specs.Plain.{set_of}
use Rattle.cvr_lists.proofs.Orderings.{then-Equal}
use Rattle.cvr_office.proofs.Lemmas.{keys_in_order-members, in_items, from_items, device_passes}
use Rattle.cvr_office.proofs.Lemmas.{devices_parted, device_up, none_last, in_filter, from_filter}
use Rattle.cvr_lists.proofs.Sides.{filter-between, map-rises, parted_behind}

module _ (id : List ℕ) where
  abbrev pub is_own : AnyFact → Bool
  is_own x = is_named (name.Device id) (fact_of x)

  same_id : (i : List ℕ) → bytes_eq id i ≡ true → i ≡ id
  same_id i e = sym ((bytes_eq-Decides id i).0 e)

  -- ---- in order, its bodies are those that the list has under its id

  bodies_up : (f g : Fact) → is_named (name.Device id) f ≡ true → is_named (name.Device id) g ≡ true
      → place_cmp f g ≡ Less → text_cmp (body_of f) (body_of g) ≡ Less
  bodies_up (Device i b) (Device j c) e h less =
      let tie : text_cmp i j ≡ Equal =
      ap (text_cmp i) (same_id j h ∙ sym (same_id i e)) ∙ tied_itself text_total i in
      sym (then-Equal (text_cmp b c)) ∙
      (ap (λ r. ordering_then r (ordering_then (text_cmp b c) Equal)) (sym tie) ∙ less)
  bodies_up (Device i b) (Header d u c) e h less = absurd (true≢false (sym h))
  bodies_up (Device i b) (Snapshot d u j c) e h less = absurd (true≢false (sym h))
  bodies_up (Header d u b) g e h less = absurd (true≢false (sym e))
  bodies_up (Snapshot d u i b) g e h less = absurd (true≢false (sym e))

  module _ (xs : List AnyFact) (rises : IsStrictlySortedBy any_cmp xs) where
    abbrev text : AnyFact → List ℕ
    text x = body_of (fact_of x)

    there : (b : List ℕ) → Contains (map body_of
        (filter (is_named (name.Device id)) (items (set_of xs)))) b
        → Contains (map text (filter is_own xs)) b
    there b at =
        let fact = from_map body_of b (filter (is_named (name.Device id)) (items (set_of xs))) at in
        let held = from_filter (is_named (name.Device id)) (items (set_of xs)) fact.0 fact.1 in
        let x = from_items xs fact.0 held.0 in
        subst (Contains (map text (filter is_own xs))) (ap body_of x.2 ∙ fact.2)
        (in_map text x.0 (filter is_own xs)
        (in_filter is_own xs x.0 x.1 (ap (is_named (name.Device id)) x.2 ∙ held.1)))

    back : (b : List ℕ) → Contains (map text (filter is_own xs)) b
        → Contains (map body_of (filter (is_named (name.Device id)) (items (set_of xs)))) b
    back b at =
        let x = from_map text b (filter is_own xs) at in
        let own = from_filter is_own xs x.0 x.1 in
        subst (Contains (map body_of (filter (is_named (name.Device id)) (items (set_of xs))))) x.2
        (in_map body_of (fact_of x.0) (filter (is_named (name.Device id)) (items (set_of xs)))
        (in_filter (is_named (name.Device id)) (items (set_of xs)) (fact_of x.0)
        (in_items xs x.0 own.0) own.1))

    pub bodies_under-filter : bodies_under (set_of xs) (name.Device id)
        ≡ map text (filter is_own xs)
    bodies_under-filter = keys_in_order-members text_total text_exact
        (map body_of (filter (is_named (name.Device id)) (items (set_of xs))))
        (map text (filter is_own xs))
        (map-rises any_cmp text_cmp text is_own
        (λ x y e h less. bodies_up (fact_of x) (fact_of y) e h less) xs
        (IsStrictlySortedBy-filter any_cmp is_own xs rises)) back there

-- ---- where they begin and end

named_tie : (id i : List ℕ) → bytes_eq id i ≡ is_eq (text_cmp i id)
named_tie id i = both_ways (bytes_eq id i) (is_eq (text_cmp i id))
    (λ e. (Equal-is (text_cmp i id)).1 (ap (text_cmp i) ((bytes_eq-Decides id i).0 e)
    ∙ tied_itself text_total i))
    (λ e. (bytes_eq-Decides id i).1 (sym (text_exact i id ((Equal-is (text_cmp i id)).0 e))))

pub lt_not_eq : (r : Ordering) → is_lt r ≡ true → is_eq r ≡ false
lt_not_eq r e = grind arith

gt_not_eq : (r : Ordering) → is_le r ≡ false → is_eq r ≡ false
gt_not_eq r e = grind arith

only_eq : (r : Ordering) → is_lt r ≡ false → is_le r ≡ true → is_eq r ≡ true
only_eq Less e h = sym e
only_eq Equal e h = refl
only_eq Greater e h = h

lt_turned : (r s : Ordering) → r ≡ ordering_reverse s → is_lt r ≡ is_gt s
lt_turned r Less e = ap is_lt e
lt_turned r Equal e = ap is_lt e
lt_turned r Greater e = ap is_lt e

module _ (id : List ℕ) where
  abbrev pub is_low : Option (List ℕ) → Bool
  is_low o = option_map_or (λ i. is_lt (text_cmp i id)) o false

  abbrev pub device_below : AnyFact → Bool
  device_below x = is_low (device_in (fact_of x))

  abbrev is_high : Option (List ℕ) → Bool
  is_high o = option_map_or (λ i. is_le (text_cmp i id)) o false

  no_lower : (f : Fact) → is_low (device_in f) ≡ true → is_named (name.Device id) f ≡ false
  no_lower f e = grind (arith, named_tie, lt_not_eq, text_cmp)

  no_higher : (f : Fact) → is_high (device_in f) ≡ false → is_named (name.Device id) f ≡ false
  no_higher f e = grind (arith, named_tie, gt_not_eq, text_cmp)

  just_own : (f : Fact) → is_low (device_in f) ≡ false → is_high (device_in f) ≡ true
      → is_named (name.Device id) f ≡ true
  just_own (Device i b) e h = named_tie id i ∙ only_eq (text_cmp i id) e h
  just_own (Header d u b) e h = absurd (true≢false (sym h))
  just_own (Snapshot d u i b) e h = absurd (true≢false (sym h))

  still_low : (a b : Option (List ℕ)) → is_gt (none_last text_cmp a b) ≡ false → is_low b ≡ true
      → is_low a ≡ true
  still_low a None up ok = absurd (true≢false (sym ok))
  still_low None (Some b) up ok = absurd (true≢false up)
  still_low (Some a) (Some b) up ok =
      lt_turned (text_cmp a id) (text_cmp id a) (text_total.antisymm a id)
      ∙ elim (is_gt (text_cmp id a)) as (λ v. is_gt (text_cmp id a) ≡ v → v ≡ true) [
        | true ↦ λ _. refl
        | false ↦ λ e. sym (upto text_total id a b e up)
            ∙ (sym (lt_turned (text_cmp b id) (text_cmp id b) (text_total.antisymm b id)) ∙ ok)
      ] refl

  module _ (xs : List AnyFact) (rises : IsStrictlySortedBy any_cmp xs) where
    pub below_parted : IsPartitionedBy device_below xs
    below_parted i j d le lt ok = still_low _ _ (device_up xs rises i j d le lt) ok

    abbrev pub up_to_own : AnyFact → Bool
    up_to_own = device_passes xs rises (Some id)

    module _ (rest : List AnyFact) (i : ℕ) (rest-is : rest ≡ drop i xs) where
      pub up_to_parted : IsPartitionedBy up_to_own rest
      up_to_parted = subst (IsPartitionedBy up_to_own) (sym rest-is)
          (parted_behind xs i up_to_own (devices_parted xs rises (Some id)))

      pub bodies_between : (j : ℕ) → IsPartitionPoint (λ x. device_below x ≡ true)
          (λ x. device_below x ≡ false) xs i
          → IsPartitionPoint (λ x. up_to_own x ≡ true) (λ x. up_to_own x ≡ false) rest j
          → map (λ x. body_of (fact_of x)) (take j rest) ≡ bodies_under (set_of xs) (name.Device id)
      bodies_between j start end =
          ap (λ ys. map (λ x. body_of (fact_of x)) (take j ys)) rest-is
          ∙ (ap (map (λ x. body_of (fact_of x)))
          (sym (filter-between device_below up_to_own (is_own id) (λ x e. no_lower (fact_of x) e)
          (λ x e. no_higher (fact_of x) e) (λ x e h. just_own (fact_of x) e h) xs i j start
          (subst (λ ys. IsPartitionPoint (λ x. up_to_own x ≡ true) (λ x. up_to_own x ≡ false) ys j)
          rest-is end)))
          ∙ sym (bodies_under-filter id xs rises))
