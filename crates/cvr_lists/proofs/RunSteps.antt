-- A loop over a run: what one more fact adds to its headers and snapshots.
use Rattle.std.proofs.Common.{◌≡◌, ℕ, ◌+◌, ◌<◌, true, false, cond, List, [], ◌∷◌, ◌++◌, length}
use Rattle.std.proofs.Common.{take, get_or, Contains, Ordering, Some, None}
use Rattle.std.proofs.Common.{inl, inr, refl, sym, ap, ◌∙◌, subst, append-nil, arith}
use Rattle.std.specs.Prelude.{Option}
use Rattle.std.specs.List.{filter_map, cons_option, last_or}
use Rattle.std.specs.Ordering.{is_gt}
use Rattle.std.specs.Cmp.{IsTotalOrder, upto, tied_itself}
use Rattle.std.proofs.lemmas.List.{take_more}
use Rattle.std.proofs.lemmas.List.Elements.{filter_map-append, Contains-append_left}
use Rattle.std.proofs.lemmas.List.Elements.{Contains-append_right, Contains-append_cases}
use Rattle.cdf_typed.specs.Greatest.{max_of}
use Rattle.cvr_fact_types.specs.declared.header.HeaderFact.{HeaderFact}
use Rattle.cvr_fact_types.specs.declared.snapshot.SnapshotFact.{SnapshotFact}
use Rattle.cvr_facts.specs.Choosing.{fact_choice, IsGreatest}
use Rattle.cvr_facts.proofs.Laws.{fact_total}
use Rattle.cvr_facts.proofs.Lemmas.{at_head, head_or_tail, none_listed, gt_back}
use Rattle.cvr_office.specs.declared.any_fact.AnyFact.{AnyFact}
use Rattle.cvr_office.specs.declared.any_fact.AnyFact.TheVariants as any
use Rattle.cvr_office.specs.Runs.{as_header, as_snapshot, headers, snapshots, chosen_snapshot}
use Rattle.cvr_office.specs.Runs.{IsChosen}

-- ---- one more fact

filter_map_more : {X Y : Type 0} (h : X → Option Y) (xs : List X) (i : ℕ) (x : X) → i < length xs
    → x ≡ get_or xs i x
    → filter_map h (take (i + 1) xs) ≡ filter_map h (take i xs) ++ cons_option (h x) []
filter_map_more h xs i x lt at =
    ap (filter_map h) (take_more xs i x lt)
    ∙ (filter_map-append h (take i xs) (get_or xs i x ∷ [])
    ∙ ap (λ y. filter_map h (take i xs) ++ cons_option (h y) []) (sym at))

not_header : (x : AnyFact) → ((h : HeaderFact) → x ≡ any.Header h → ⊥) → as_header x ≡ None
not_header x other = grind arith

not_snapshot : (x : AnyFact) → ((s : SnapshotFact) → x ≡ any.Snapshot s → ⊥) → as_snapshot x ≡ None
not_snapshot x other = grind arith

last_or-push : {X : Type 0} (o : Option X) (xs : List X) (x : X) → last_or o (xs ++ x ∷ []) ≡ Some x
last_or-push o [] x = refl
last_or-push o (y ∷ xs) x = last_or-push (Some y) xs x

module _ (xs : List AnyFact) (i : ℕ) (x : AnyFact) (lt : i < length xs)
    (at : x ≡ get_or xs i x) where
  pub header_taken : (h : HeaderFact) → x ≡ any.Header h
      → headers (take (i + 1) xs) ≡ headers (take i xs) ++ h ∷ []
  header_taken h is = filter_map_more as_header xs i x lt at
      ∙ ap (λ y. headers (take i xs) ++ cons_option (as_header y) []) is

  pub last_taken : (h : HeaderFact) → x ≡ any.Header h
      → last_or None (headers (take (i + 1) xs)) ≡ Some h
  last_taken h is =
      ap (last_or None) (header_taken h is) ∙ last_or-push None (headers (take i xs)) h

  pub header_passed : ((h : HeaderFact) → x ≡ any.Header h → ⊥)
      → headers (take (i + 1) xs) ≡ headers (take i xs)
  header_passed other =
      filter_map_more as_header xs i x lt at
      ∙ (ap (λ o. headers (take i xs) ++ cons_option o []) (not_header x other)
      ∙ append-nil (headers (take i xs)))

  pub snapshot_taken : (s : SnapshotFact) → x ≡ any.Snapshot s
      → snapshots (take (i + 1) xs) ≡ snapshots (take i xs) ++ s ∷ []
  snapshot_taken s is = filter_map_more as_snapshot xs i x lt at
      ∙ ap (λ y. snapshots (take i xs) ++ cons_option (as_snapshot y) []) is

  pub snapshot_passed : ((s : SnapshotFact) → x ≡ any.Snapshot s → ⊥)
      → snapshots (take (i + 1) xs) ≡ snapshots (take i xs)
  snapshot_passed other =
      filter_map_more as_snapshot xs i x lt at
      ∙ (ap (λ o. snapshots (take i xs) ++ cons_option o []) (not_snapshot x other)
      ∙ append-nil (snapshots (take i xs)))

-- ---- the greatest

module _ {K : Type 0} {R : K → K → Ordering} (t : IsTotalOrder R) where
  not_past : (x y : K) → x ≡ y → is_gt (R y x) ≡ false
  not_past x y e = subst (λ z. is_gt (R z x) ≡ false) e (ap is_gt (tied_itself t x))

  at_last : (x y : K) → Contains (x ∷ []) y → x ≡ y
  at_last x y h =
      elim (head_or_tail x y [] h) [ inl e ↦ e | inr rest ↦ absurd (none_listed y rest) ]

  pub one_greatest : (x : K) → IsGreatest R (x ∷ []) x
  one_greatest x = record { listed = at_head x []; top = λ y h. not_past x y (at_last x y h) }

  stays : (x y : K) (xs : List K) → IsGreatest R xs x → is_gt (R x y) ≡ true
      → IsGreatest R (xs ++ y ∷ []) x
  stays x y xs was gt = record {
    listed = Contains-append_left xs (y ∷ []) x was.listed;
    top = λ z h. elim (Contains-append_cases xs (y ∷ []) z h) [
      | inl before ↦ was.top z before
      | inr last ↦ subst (λ w. is_gt (R w x) ≡ false) (at_last y z last)
          (gt_back (R y x) (R x y) (t.antisymm y x) gt)
    ];
  }

  yields : (x y : K) (xs : List K) → IsGreatest R xs x → is_gt (R x y) ≡ false
      → IsGreatest R (xs ++ y ∷ []) y
  yields x y xs was below = record {
    listed = Contains-append_right xs (y ∷ []) y (at_head y []);
    top = λ z h. elim (Contains-append_cases xs (y ∷ []) z h) [
      | inl before ↦ upto t z x y (was.top z before) below
      | inr last ↦ not_past y z (at_last y z last)
    ];
  }

  pub greater_more : (x y : K) (xs : List K) → IsGreatest R xs x
      → IsGreatest R (xs ++ y ∷ []) (max_of R x y)
  greater_more x y xs was =
      elim (is_gt (R x y)) as (λ b. is_gt (R x y) ≡ b → IsGreatest R (xs ++ y ∷ []) (cond b x y))
      [ true ↦ stays x y xs was | false ↦ yields x y xs was ] refl

pub chosen_more : (xs : List SnapshotFact) (o : Option SnapshotFact) (s : SnapshotFact)
    → IsChosen xs o → IsChosen (xs ++ s ∷ []) (Some (chosen_snapshot o s))
chosen_more xs None s is =
    subst (λ ys. IsGreatest fact_choice (ys ++ s ∷ []) s) (sym is) (one_greatest fact_total s)
chosen_more xs (Some one) s is = greater_more fact_total one s xs is
