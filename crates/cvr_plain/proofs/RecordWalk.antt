-- A walk over the records that adds each to a tally, from the first to the last.
use Rattle.std.proofs.Common.{◌≡◌, ℕ, suc, ◌+◌, ◌<◌, ◌≤◌, Bool, true, false, cond, List, [], ◌∷◌}
use Rattle.std.proofs.Common.{◌++◌, length, Contains, Option, Some, None, IfSome, Ordering, sym, ap}
use Rattle.std.proofs.Common.{◌∙◌, subst, arith, append_assoc, append-nil}
use Rattle.std.specs.List.{filter_map, cons_option}
use Rattle.std.specs.FinMap.{get, empty, get-empty, same_map, len, len-insert, len-entries}
use Rattle.std.specs.FinMap.{len-empty, entries, contains_key}
use Rattle.std.specs.Cmp.{IsTotalOrder}
use Rattle.std.proofs.lemmas.List.{length-map, length-append}
use Rattle.cdf_parts.specs.Places.{Contest}
use Rattle.cvr_fact_types.specs.declared.name.RecordName.{RecordName}
use Rattle.cvr_fact_types.specs.Facts.{Facts, name_cmp}
use Rattle.cvr_facts.specs.Ordered.{keys_of, keys_in_order}
use Rattle.cvr_facts.proofs.Lemmas.{ordered_rises}
use Rattle.cvr_tally.specs.declared.key.RowKey.{RowKey}
use Rattle.cvr_tally.specs.Keys.{key_cmp, keys_total, keys_exact}
use Rattle.cvr_tally.specs.Rows.{Rows, ballot_limit}
use Rattle.cvr_office.specs.declared.any_fact.AnyFact.{AnyFact}
use Rattle.cvr_office.specs.Names.{record_of, records}
use Rattle.cvr_office.specs.Place.{fact_of}
use Rattle.cvr_office.specs.Plain.{set_of}
use Rattle.cvr_office.specs.Readers.{next}
use Rattle.cvr_office.specs.Tallied.{row, row_over, rows, total_limit, IsBelow}
use Rattle.cvr_office.specs.Adding.{CurrentsAreSums, added_sums, row_with, CanGrow, HaveRoom}
use Rattle.cvr_office.proofs.Laws.{name_total, name_exact, rows_law}
use Rattle.cvr_lists.proofs.Laws.{row_over-more}
use Rattle.cvr_office.proofs.Lemmas.{keys_in_order-given, from, next_listed, from-next_none}
use Rattle.cvr_office.proofs.Lemmas.{from-some}
use Rattle.cvr_plain.proofs.RowBounds.{row_over-below, row_over-grows}

-- ---- how many records there are

length-filter_map-le : {X Y : Type 0} (f : X → Option Y) (xs : List X)
    → length (filter_map f xs) ≤ length xs
length-filter_map-le f [] = omega arith
length-filter_map-le {Y = Y} f (x ∷ xs) =
    let le = length-filter_map-le f xs in
    elim (f x) as (λ o. length (cons_option o (filter_map f xs)) ≤ suc (length xs)) [
      | None ↦ omega (arith, le)
      | Some y ↦ omega (arith, le)
    ]

one_more-le : (b : Bool) (m n : ℕ) → m ≤ n → cond b m (m + 1) ≤ suc n
one_more-le true m n le = omega (arith, le)
one_more-le false m n le = omega (arith, le)

module _ {K : Type 0} {R : K → K → Ordering} (t : IsTotalOrder R) where
  len-keys_of-le : (ks : List K) → len (keys_of R ks) ≤ length ks
  len-keys_of-le [] = let e = len-empty R (Unit {0}) in omega (arith, e)
  len-keys_of-le (k ∷ ks) =
      subst (λ n. n ≤ suc (length ks)) (sym (len-insert t (keys_of R ks) k tt))
      (one_more-le (contains_key (keys_of R ks) k) (len (keys_of R ks)) (length ks)
      (len-keys_of-le ks))

  length-keys_in_order-le : (ks : List K) → length (keys_in_order R ks) ≤ length ks
  length-keys_in_order-le ks =
      let le = len-keys_of-le ks in
      let long = length-map (entries (keys_of R ks)) (λ (e : K × Unit {0}). e.0) in
      let is = len-entries (keys_of R ks) in
      omega (arith, le, long, is)

-- no more than facts
pub records-le : (xs : List AnyFact) → length (records (set_of xs)) ≤ length xs
records-le xs =
    let is : length (records (set_of xs))
    ≡ length (keys_in_order name_cmp (filter_map (λ x. record_of (fact_of x)) xs)) = ap length
    (keys_in_order-given record_of xs name_total name_exact) in
    let few = length-keys_in_order-le name_total (filter_map (λ x. record_of (fact_of x)) xs) in
    let le = length-filter_map-le (λ x. record_of (fact_of x)) xs in
    omega (arith, is, few, le)

-- ---- the walk

-- the records from a given one on
abbrev pub records_from : Facts → Option RecordName → List RecordName
records_from s key = from name_cmp key (records s)

-- some records from the first on are added, and the next comes behind them
pub record Walked (contests : List Contest) (s : Facts) (m : Rows)
    (here : Option RecordName) : Type 0 where
  pub past : List RecordName
  pub split : records s ≡ past ++ records_from s here
  pub listed : IfSome here (Contains (records s))
  pub row_is : (q : RowKey) → get m q ≡ row_over contests s q past

module _ (contests : List Contest) (s : Facts) where
  next_there : (after found : Option RecordName) → found ≡ next name_cmp (records s) after
      → IfSome found (Contains (records s))
  next_there after found is =
      subst (λ o. IfSome o (Contains (records s))) (sym is) (next_listed name_cmp (records s) after)

  pub walk_begins : (m : Rows) (first : Option RecordName) → m ≡ empty
      → first ≡ next name_cmp (records s) None → Walked contests s m first
  walk_begins m first none is = record {
    past = [];
    split = sym (ap (λ o. records_from s o) is ∙ from-next_none name_cmp name_total (records s));
    listed = next_there None first is;
    row_is = λ q. ap (λ m. get m q) none ∙ get-empty key_cmp q;
  }

  module _ (m : Rows) (here : Option RecordName) (walked : Walked contests s m here)
      (key : RecordName) (at : here ≡ Some key) where
    here_is : records_from s here ≡ key ∷ records_from s (next name_cmp (records s) (Some key))
    here_is =
        ap (records_from s) at
        ∙ from-some name_cmp name_total (records s) key (ordered_rises name_cmp _)
        (subst (λ o. IfSome o (Contains (records s))) at walked.listed)

    module _ (above : Option RecordName) (is : above ≡ next name_cmp (records s) (Some key)) where
      step_is : records_from s here ≡ key ∷ records_from s above
      step_is = here_is ∙ ap (λ o. key ∷ records_from s o) (sym is)

      pub walk_shorter : length (records_from s above) < length (records_from s here)
      walk_shorter = let one = ap length step_is in omega (arith, one)

      pub walk_goes_on : CurrentsAreSums contests s → (new : Rows)
          → ((q : RowKey) → get new q ≡ row_with contests q (get m q) (added_sums contests s q key))
          → Walked contests s new above
      walk_goes_on sums new adds = record {
        past = walked.past ++ key ∷ [];
        split = walked.split ∙ (ap (λ ks. walked.past ++ ks) step_is
            ∙ sym (append_assoc walked.past (key ∷ []) (records_from s above)));
        listed = next_there (Some key) above is;
        row_is = λ q. adds q ∙ (ap (λ o. row_with contests q o (added_sums contests s q key))
            (walked.row_is q) ∙ sym (row_over-more contests s sums q walked.past key));
      }

    -- each row has room for another record
    pub walk_has_room : CurrentsAreSums contests s → length (records s) ≤ ballot_limit → HaveRoom m
    walk_has_room sums few q =
        let long = ap length (walked.split ∙ ap (λ ks. walked.past ++ ks) here_is) in
        let parts = length-append walked.past
        (key ∷ records_from s (next name_cmp (records s) (Some key))) in
        subst (λ o. IfSome o CanGrow) (sym (walked.row_is q))
        (row_over-grows contests s sums q walked.past (omega (arith, long, parts, few)))

  module _ (m : Rows) (here : Option RecordName) (walked : Walked contests s m here)
      (ends : here ≡ None) where
    all_past : walked.past ≡ records s
    all_past = sym (walked.split ∙ (ap (λ o. walked.past ++ records_from s o) ends
        ∙ append-nil walked.past))

    row_there : (q : RowKey) → get m q ≡ row contests s q
    row_there q = walked.row_is q ∙ ap (row_over contests s q) all_past

    -- the rows are those of all records
    pub walk_ends : m ≡ rows contests s
    walk_ends = same_map keys_total keys_exact m (rows contests s)
        (λ q. row_there q ∙ sym (rows_law contests s q))

    pub walk_below : CurrentsAreSums contests s → length (records s) ≤ ballot_limit → (q : RowKey)
        → IfSome (get m q) (IsBelow total_limit)
    walk_below sums few q = subst (λ o. IfSome o (IsBelow total_limit)) (sym (row_there q))
        (row_over-below contests s sums q (records s) few)
