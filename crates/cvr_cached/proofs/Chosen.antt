-- A part of facts in order has the header of all, if that is in it, and the current snapshot.
use Rattle.std.proofs.Common.{◌≡◌, List, [], ◌∷◌, Contains, inl, inr, Less, Equal}
use Rattle.std.proofs.Common.{arith, cond, Ordering, Option, Some, None, refl, sym, ap, ◌∙◌, subst}
use Rattle.std.specs.List.{filter_map, last_or}
use Rattle.std.specs.List.Sorted.{IsStrictlySortedBy}
use Rattle.std.specs.Option.{option_map_or}
use Rattle.std.specs.Ordering.{is_gt, ordering_then, then_cmp, on}
use Rattle.std.specs.Cmp.{IsTotalOrder}
use Rattle.std.proofs.lemmas.Cmp.{on_total, then_total}
use Rattle.std.proofs.lemmas.List.Elements.{All-contains, All-from_recursion}
use Rattle.cdf_typed.specs.Greatest.{max_of, max_by}
use Rattle.cvr_fact_types.specs.declared.header.HeaderFact.{HeaderFact}
use Rattle.cvr_fact_types.specs.declared.snapshot.SnapshotFact.{SnapshotFact}
use Rattle.cvr_facts.specs.Choosing.{fact_choice, IsGreatest}
use Rattle.cvr_facts.proofs.Laws.{fact_total}
use Rattle.cvr_facts.proofs.Lemmas.{none_listed, greatest_is, Contains-filter_map, from-filter_map}
use Rattle.cvr_facts.proofs.Lemmas.{tied}
use Rattle.cvr_office.specs.declared.any_fact.AnyFact.{AnyFact}
use Rattle.cvr_office.specs.declared.any_fact.AnyFact.TheVariants as any
use Rattle.cvr_office.specs.Place.{fact_of, place_exact, any_cmp, any_total}
use Rattle.cvr_office.specs.Plain.{IsPut}
use Rattle.cvr_office.specs.Runs.{as_header, as_snapshot, headers, snapshots}
use Rattle.cvr_office.proofs.Lemmas.{of_snapshot, of_header}
use Rattle.cvr_cached.specs.Fresh.{AreApart}
use Rattle.cvr_cached.proofs.FreshFacts.{Once, once_rising, old_in}
use Rattle.cvr_lists.proofs.Lemmas.{rises-filter_map, last_greatest, none_last, equal_both}

-- ---- the greatest of a kind of facts

-- h: the fact of the kind, if it is of it; f: such a fact as any; R: their order
module _ {Y : Type 0} (h : AnyFact → Option Y) (f : Y → AnyFact) (R : Y → Y → Ordering)
    (t : IsTotalOrder R) (own : (y : Y) → h (f y) ≡ Some y)
    (back : (x : AnyFact) (y : Y) → h x ≡ Some y → x ≡ f y)
    (alike : (a b : Y) → R a b ≡ Equal → fact_of (f a) ≡ fact_of (f b)) where
  -- the greatest of all that is in the part is the greatest of it
  greatest_part : (xs ys : List AnyFact) → Once xs
      → ((x : AnyFact) → Contains ys x → Contains xs x) → (a b : Y)
      → IsGreatest R (filter_map h xs) a → Contains ys (f a) → IsGreatest R (filter_map h ys) b
      → b ≡ a
  greatest_part xs ys once part a b all at some =
      let x = from-filter_map h ys b some.listed in
      let is = back x.0 b x.2 in
      let there = subst (Contains xs) is (part x.0 x.1) in
      let first = all.top b (Contains-filter_map h xs (f b) b there (own b)) in
      let second = some.top a (Contains-filter_map h ys (f a) a at (own a)) in
      let tie = equal_both (R b a) (R a b) (t.antisymm b a) first second in
      let same : f b ≡ f a = once (f b) (f a) there (part (f a) at) (alike b a tie) in
      let both : Some b ≡ Some a = sym (own b) ∙ (ap h same ∙ own a) in
      Prim.cc both

  module _ (best : List AnyFact → Option Y)
      (greatest : (xs : List AnyFact) (y : Y) → IsStrictlySortedBy any_cmp xs → best xs ≡ Some y
      → IsGreatest R (filter_map h xs) y)
      (none : (xs : List AnyFact) → best xs ≡ None → filter_map h xs ≡ []) where
    not_none : (xs : List AnyFact) (y : Y) → Contains xs (f y) → best xs ≡ None → ⊥
    not_none xs y at is = none_listed y (subst (λ ys. Contains ys y) (none xs is)
        (Contains-filter_map h xs (f y) y at (own y)))

    best_in : (xs : List AnyFact) (y : Y) → IsStrictlySortedBy any_cmp xs → best xs ≡ Some y
        → Contains xs (f y)
    best_in xs y rises is =
        let x = from-filter_map h xs y (greatest xs y rises is).listed in
        subst (Contains xs) (back x.0 y x.2) x.1

    best_part : (xs ys : List AnyFact) → IsStrictlySortedBy any_cmp xs
        → IsStrictlySortedBy any_cmp ys → ((x : AnyFact) → Contains ys x → Contains xs x) → (y : Y)
        → best xs ≡ Some y → Contains ys (f y) → best ys ≡ Some y
    best_part xs ys xs_rise ys_rise part y is at =
        elim (best ys) as (λ o. best ys ≡ o → o ≡ Some y) [
          | None ↦ λ e. absurd (not_none ys y at e)
          | Some b ↦ λ e. ap Some (greatest_part xs ys (once_rising xs xs_rise) part y b
              (greatest xs y xs_rise is) at (greatest ys b ys_rise e))
        ] refl

    -- two lists in order, of which the one is a part of the other
    part_chooses : (xs ys : List AnyFact) → IsStrictlySortedBy any_cmp xs
        → IsStrictlySortedBy any_cmp ys → ((x : AnyFact) → Contains ys x → Contains xs x)
        → ((y : Y) → best xs ≡ Some y → Contains ys (f y)) → best ys ≡ best xs
    part_chooses xs ys xs_rise ys_rise part has =
        elim (best xs) as (λ o. best xs ≡ o → best ys ≡ o) [
          | None ↦ λ e. elim (best ys) as (λ w. best ys ≡ w → w ≡ None) [
            | None ↦ λ _. refl
            | Some b ↦ λ k. absurd (not_none xs b (part (f b) (best_in ys b ys_rise k)) e)
          ] refl
          | Some y ↦ λ e. best_part xs ys xs_rise ys_rise part y e (has y e)
        ] refl

    -- fresh facts beside the chosen one choose what all do
    pub shown_chooses : (old fresh some few new : List AnyFact) → IsStrictlySortedBy any_cmp old
        → IsStrictlySortedBy any_cmp fresh → AreApart old fresh
        → ((x : AnyFact) → Contains some x → Contains old x)
        → ((y : Y) → best old ≡ Some y → Contains some (f y))
        → ((x : AnyFact) → Contains fresh x → Contains few x)
        → ((x : AnyFact) → Contains some x → Contains few x)
        → ((x : AnyFact) → Contains few x → Contains new x)
        → IsPut fresh some few → IsPut old fresh new → best few ≡ best new
    shown_chooses old fresh some few new rises fresh_rises apart among has from_fresh from_some part
        put all = part_chooses new few all.rises put.rises part (λ y is.
        elim (all.from (f y) (best_in new y all.rises is)) [
          | inl a ↦ from_some (f y) (has y (best_part new old all.rises rises
              (old_in old fresh new (once_rising old rises) (once_rising fresh fresh_rises) apart
              all) y is a))
          | inr b ↦ from_fresh (f y) b
        ])

-- ---- headers

abbrev header_cmp : HeaderFact → HeaderFact → Ordering
header_cmp = on any.Header any_cmp

header_total : IsTotalOrder header_cmp
header_total = on_total any.Header any_total

headers_rise : (xs : List AnyFact) → IsStrictlySortedBy any_cmp xs
    → IsStrictlySortedBy header_cmp (headers xs)
headers_rise = rises-filter_map any_cmp header_cmp as_header (λ x y a b p q less.
    subst (λ z. any_cmp z (any.Header b) ≡ Less) (of_header x a p)
    (subst (λ z. any_cmp x z ≡ Less) (of_header y b q) less))

pub shown_header : (old fresh some few new : List AnyFact) → IsStrictlySortedBy any_cmp old
    → IsStrictlySortedBy any_cmp fresh → AreApart old fresh
    → ((x : AnyFact) → Contains some x → Contains old x)
    → ((h : HeaderFact) → last_or None (headers old) ≡ Some h → Contains some (any.Header h))
    → ((x : AnyFact) → Contains fresh x → Contains few x)
    → ((x : AnyFact) → Contains some x → Contains few x)
    → ((x : AnyFact) → Contains few x → Contains new x)
    → IsPut fresh some few → IsPut old fresh new
    → last_or None (headers few) ≡ last_or None (headers new)
shown_header = shown_chooses as_header any.Header header_cmp header_total (λ h. refl) of_header
    (λ a b e. place_exact (fact_of (any.Header a)) (fact_of (any.Header b)) e)
    (λ xs. last_or None (headers xs))
    (λ xs y rises is. last_greatest header_total (headers xs) y (headers_rise xs rises) is)
    (λ xs is. none_last (headers xs) is)

-- ---- snapshots

abbrev snapshot_cmp : SnapshotFact → SnapshotFact → Ordering
snapshot_cmp = on any.Snapshot any_cmp

snapshots_rise : (xs : List AnyFact) → IsStrictlySortedBy any_cmp xs
    → IsStrictlySortedBy snapshot_cmp (snapshots xs)
snapshots_rise = rises-filter_map any_cmp snapshot_cmp as_snapshot (λ x y a b p q less.
    subst (λ z. any_cmp z (any.Snapshot b) ≡ Less) (of_snapshot x a p)
    (subst (λ z. any_cmp x z ≡ Less) (of_snapshot y b q) less))

no_more : (r s : Ordering) → s ≡ Less → is_gt (ordering_then r s) ≡ is_gt r
no_more r s e = grind arith

-- of a list in strict order, the greatest by another order is that by this and then by its own
module _ {K : Type 0} (R S : K → K → Ordering) (t : IsTotalOrder R) where
  max_then : (xs : List K) → IsStrictlySortedBy S xs → max_by R xs ≡ max_by (then_cmp R S) xs
  unfolding IsStrictlySortedBy
  max_then [] rises = refl
  max_then (x ∷ xs) rises =
      let rest = max_then xs rises.1 in
      ap Some (elim (max_by R xs) as (λ o. max_by R xs ≡ o
      → option_map_or (max_of R x) o x ≡ option_map_or (max_of (then_cmp R S) x) o x) [
        | None ↦ λ e. refl
        | Some m ↦ λ e. ap (λ b. cond b x m) (sym (no_more (R x m) (S x m)
            (All-contains (λ y. S x y ≡ Less) xs m
            (All-from_recursion (λ y. S x y ≡ Less) xs rises.0) (greatest_is t xs m e).listed)))
      ] refl ∙ ap (λ o. option_map_or (max_of (then_cmp R S) x) o x) rest)

none_max : (ss : List SnapshotFact) → max_by fact_choice ss ≡ None → ss ≡ []
none_max [] is = refl
none_max (s ∷ ss) is = Prim.cc is

pub shown_current : (old fresh some few new : List AnyFact) → IsStrictlySortedBy any_cmp old
    → IsStrictlySortedBy any_cmp fresh → AreApart old fresh
    → ((x : AnyFact) → Contains some x → Contains old x)
    → ((s : SnapshotFact) → max_by fact_choice (snapshots old) ≡ Some s
    → Contains some (any.Snapshot s))
    → ((x : AnyFact) → Contains fresh x → Contains few x)
    → ((x : AnyFact) → Contains some x → Contains few x)
    → ((x : AnyFact) → Contains few x → Contains new x)
    → IsPut fresh some few → IsPut old fresh new
    → max_by fact_choice (snapshots few) ≡ max_by fact_choice (snapshots new)
shown_current =
    let total : IsTotalOrder (then_cmp fact_choice snapshot_cmp) =
    then_total fact_total (on_total any.Snapshot any_total) in
    shown_chooses as_snapshot any.Snapshot (then_cmp fact_choice snapshot_cmp) total (λ s. refl)
    of_snapshot
    (λ a b e. place_exact (fact_of (any.Snapshot a)) (fact_of (any.Snapshot b))
    (tied (fact_choice a b) (snapshot_cmp a b) e).1)
    (λ xs. max_by fact_choice (snapshots xs))
    (λ xs y rises is. greatest_is total (snapshots xs) y
    (sym (max_then fact_choice snapshot_cmp fact_total (snapshots xs) (snapshots_rise xs rises))
    ∙ is))
    (λ xs is. none_max (snapshots xs) is)
