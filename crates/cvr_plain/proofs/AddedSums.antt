-- The sums of a snapshot, added one by one: what is then at each key.
use Rattle.std.proofs.Common.{◌≡◌, ◌==◌, ℕ, ◌+◌, ◌<◌, ◌≤◌, Bool, true, false, cond, List, [], ◌∷◌}
use Rattle.std.proofs.Common.{◌++◌, map, length, get_or, take, Contains, Option, Some, None, IfSome}
use Rattle.std.proofs.Common.{refl, sym, ap, ◌∙◌, subst, arith}
use Rattle.std.specs.Prelude.{unwrap_or, IsSome}
use Rattle.std.specs.List.{find}
use Rattle.std.specs.Cmp.{Equal-is, tied_itself}
use Rattle.std.specs.FinMap.{get, insert, get-insert}
use Rattle.std.specs.Option.{option_or, option_map_or}
use Rattle.std.proofs.lemmas.Bool.{eqb-false}
use Rattle.std.proofs.lemmas.List.{take_more, take_all, get_or-map, length-map}
use Rattle.std.proofs.lemmas.List.Folds.{find-append}
use Rattle.std.proofs.lemmas.Map.Keys.{apart_from_distinct}
use Rattle.std.proofs.Common.{get_or-take, length-take-le}
use Rattle.cdf_parts.specs.Places.{Contest, selections_at}
use Rattle.cvr_fact_types.specs.declared.sums.VoteSums.{VoteSums}
use Rattle.cvr_facts.specs.Sums.{sum_limit, AreBelow}
use Rattle.cvr_tally.specs.declared.key.RowKey.{RowKey}
use Rattle.cvr_tally.specs.declared.row.Row.{Row}
use Rattle.cvr_tally.specs.Keys.{key_cmp, is_key, keys_total}
use Rattle.cvr_tally.specs.Rows.{Rows, zero_row, row_plus, rows_opened, rows_plus, HasRoom}
use Rattle.cvr_tally.proofs.Lemmas.{below_limits, number_in-zero_row, is_key-same}
use Rattle.cvr_office.specs.Adding.{IsSums, AreSums, key_for, sums_for, row_with, CanGrow, HaveRoom}
use Rattle.cvr_office.proofs.Lemmas.{found}

-- ---- keys

pub own_key : (k : RowKey) → is_key k k ≡ true
own_key k = (Equal-is (key_cmp k k)).1 (tied_itself keys_total k)

-- ---- one row is opened, and sums are added to it

repeated : {A : Type 0} (b : Bool) (x y z : A) → cond b x (cond b y z) ≡ cond b x z
repeated true x y z = refl
repeated false x y z = refl

module _ (contests : List Contest) (m : Rows) (k : RowKey) where
  abbrev zeros : Row
  zeros = zero_row (length (selections_at contests k.contest))

  opened_by : (q : RowKey) (o : Option Row) → get m k ≡ o
      → get (rows_opened contests m k) q ≡ cond (is_key q k) (Some (unwrap_or o zeros)) (get m q)
  opened_by q None is = ap (λ o. get (option_map_or (λ _. m) o (insert m k zeros)) q) is
      ∙ get-insert keys_total m k zeros q
  opened_by q (Some r) is =
      ap (λ o. get (option_map_or (λ _. m) o (insert m k zeros)) q) is
      ∙ elim (is_key q k) as (λ b. is_key q k ≡ b → get m q ≡ cond b (Some r) (get m q)) [
        | true ↦ λ e. ap (get m) (is_key-same q k e) ∙ is
        | false ↦ λ e. refl
      ] refl

  -- the opened row
  pub open_here : get (rows_opened contests m k) k ≡ Some (unwrap_or (get m k) zeros)
  open_here = opened_by k (get m k) refl
      ∙ ap (λ b. cond b (Some (unwrap_or (get m k) zeros)) (get m k)) (own_key k)

  -- what is then at each key
  pub added_at : (v : VoteSums) (q : RowKey)
      → get (rows_plus (rows_opened contests m k) k v) q
      ≡ cond (is_key q k) (row_with contests k (get m k) (Some v)) (get m q)
  added_at v q =
      let made = rows_opened contests m k in
      let w = unwrap_or (get m k) zeros in
      ap (λ o. get (option_map_or (λ r. insert made k (row_plus r v)) o made) q) open_here
      ∙ (get-insert keys_total made k (row_plus w v) q
      ∙ (ap (cond (is_key q k) (Some (row_plus w v))) (opened_by q (get m k) refl)
      ∙ repeated (is_key q k) (Some (row_plus w v)) (Some w) (get m q)))

-- ---- room

has_room : (n : ℕ) (v : VoteSums) → AreBelow sum_limit v → (o : Option Row) → IfSome o CanGrow
    → HasRoom (unwrap_or o (zero_row n)) v
has_room n v h None grows = below_limits _ (omega arith)
    (λ column. let none = number_in-zero_row n column in let lt = h column in
    omega (arith, none, lt))
has_room n v h (Some r) grows =
    let few = grows.ballots in
    below_limits _ (omega (arith, few))
    (λ column. let row = grows.columns column in let lt = h column in omega (arith, row, lt))

-- ---- the sums so far

none_or : {X : Type 0} (o : Option X) → option_or o None ≡ o
none_or None = refl
none_or (Some x) = refl

-- what is at each key, once the first n of some sums are added
abbrev pub AreAdded : List Contest → Option (List ℕ) → Option (List ℕ) → List VoteSums → Rows → ℕ
    → Rows → Type 0
AreAdded contests unit batch votes before n rows = (q : RowKey)
    → get rows q ≡ row_with contests q (get before q) (sums_for unit batch q (take n votes))

module _ (contests : List Contest) (unit batch : Option (List ℕ)) (votes : List VoteSums)
    (sums : AreSums contests votes) where
  abbrev key_of : VoteSums → RowKey
  key_of v = key_for unit batch v

  abbrev SumsAdded : Rows → ℕ → Rows → Type 0
  SumsAdded before n rows = AreAdded contests unit batch votes before n rows

  module _ (i : ℕ) (v : VoteSums) (lt : i < length votes) (is : v ≡ get_or votes i v) where
    more : (q : RowKey) (b : Bool) → is_key q (key_of v) ≡ b
        → sums_for unit batch q (take (i + 1) votes)
        ≡ option_or (sums_for unit batch q (take i votes)) (cond b (Some v) None)
    more q b e =
        let p : VoteSums → Bool = λ w. is_key q (key_of w) in
        ap (find p) (take_more votes i v lt ∙ ap (λ w. take i votes ++ w ∷ []) (sym is))
        ∙ (find-append p (take i votes) (v ∷ [])
        ∙ ap (λ b. option_or (find p (take i votes)) (cond b (Some v) None)) e)

    -- one before has another contest
    other : (q : RowKey) (w : VoteSums) → is_key q (key_of v) ≡ true
        → Contains (take i votes) w × (is_key q (key_of w) ≡ true) → ⊥
    other q w e at =
        let j = at.0.0 in
        let few : j < i = let long = length-take-le i votes (omega (arith, lt)) in
        let less = at.0.1 in omega (arith, long, less) in
        let there : get_or votes j w ≡ w = sym (get_or-take i votes j w few) ∙ at.0.2 in
        let long = length-map votes (λ (u : VoteSums). u.contest) in
        let apart = apart_from_distinct ◌==◌ (map (λ u. u.contest) votes) j i 0 sums.once few
        (omega (arith, long, lt)) in
        let left : get_or (map (λ u. u.contest) votes) j 0
        ≡ w.contest = get_or-map (λ (u : VoteSums). u.contest) votes j w 0
        (omega (arith, few, lt)) ∙ ap (λ u. u.contest) there in
        let right : get_or (map (λ u. u.contest) votes) i 0
        ≡ v.contest = get_or-map (λ (u : VoteSums). u.contest) votes i v 0 lt
        ∙ ap (λ u. u.contest) (sym is) in
        let same : w.contest ≡ v.contest =
        ap (λ k. k.contest) (sym (is_key-same q (key_of w) at.1) ∙ is_key-same q (key_of v) e) in
        eqb-false _ _ apart (left ∙ (same ∙ sym right))

    none_before : (q : RowKey) → is_key q (key_of v) ≡ true → (o : Option VoteSums)
        → sums_for unit batch q (take i votes) ≡ o → o ≡ None
    none_before q e None is = refl
    none_before q e (Some w) is =
        absurd (other q w e (found (λ u. is_key q (key_of u)) (take i votes) w is))

    pub own : IsSums contests v
    own = sums.each v (i, lt, sym is)

    module _ (before rows : Rows) (so_far : SumsAdded before i rows) where
      untouched : get rows (key_of v) ≡ get before (key_of v)
      untouched = so_far (key_of v) ∙ ap (row_with contests (key_of v) (get before (key_of v)))
          (none_before (key_of v) (own_key (key_of v)) _ refl)

      pub sums_added : SumsAdded before (i + 1)
          (rows_plus (rows_opened contests rows (key_of v)) (key_of v) v)
      sums_added q =
          let k = key_of v in
          added_at contests rows k v q
          ∙ elim (is_key q k) as (λ b. is_key q k ≡ b
          → cond b (row_with contests k (get rows k) (Some v)) (get rows q)
          ≡ row_with contests q (get before q) (sums_for unit batch q (take (i + 1) votes))) [
            | true ↦ λ e.
                let now : sums_for unit batch q (take (i + 1) votes) ≡ Some v =
                more q true e ∙ ap (λ o. option_or o (Some v)) (none_before q e _ refl) in
                ap (λ o. row_with contests k o (Some v)) untouched
                ∙ (ap (λ k. row_with contests k (get before k) (Some v)) (sym (is_key-same q k e))
                ∙ ap (row_with contests q (get before q)) (sym now))
            | false ↦ λ e.
                let now : sums_for unit batch q (take (i + 1) votes)
                ≡ sums_for unit batch q (take i votes) = more q false e
                ∙ none_or (sums_for unit batch q (take i votes)) in
                so_far q ∙ ap (row_with contests q (get before q)) (sym now)
          ] refl

      module _ (made : Rows) (opened : made ≡ rows_opened contests rows (key_of v)) where
        here : get made (key_of v) ≡ Some
            (unwrap_or (get before (key_of v)) (zeros contests rows (key_of v)))
        here =
            ap (λ o. get o (key_of v)) opened
            ∙ (open_here contests rows (key_of v)
            ∙ ap (λ o. Some (unwrap_or o (zeros contests rows (key_of v)))) untouched)

        pub is_open : IsSome (get made (key_of v))
        is_open = subst IsSome (sym here) refl

        pub roomy : HaveRoom before → IfSome (get made (key_of v)) (λ r. HasRoom r v)
        roomy room = subst (λ o. IfSome o (λ r. HasRoom r v)) (sym here)
            (has_room (length (selections_at contests v.contest)) v own.below
            (get before (key_of v)) (room (key_of v)))

  -- ---- one step of a loop over them, at the key made for the next

  module _ (i : ℕ) (v : VoteSums) (lt : i < length votes) (is : v ≡ get_or votes i v) (k : RowKey)
      (made_key : k ≡ key_of v) (now : List Contest) (same : now ≡ contests) where
    pub step_place : k.contest < length now
    step_place = subst (λ k. k.contest < length now) (sym made_key)
        (subst (λ cs. v.contest < length cs) (sym same) (own i v lt is).place)

    pub step_long : length v.votes ≡ length (selections_at now k.contest)
    step_long = subst (λ k. length v.votes ≡ length (selections_at now k.contest)) (sym made_key)
        (subst (λ cs. length v.votes ≡ length (selections_at cs v.contest)) (sym same)
        (own i v lt is).votes)

    module _ (before rows made : Rows) (so_far : SumsAdded before i rows)
        (opened : made ≡ rows_opened now rows k) where
      own_opened : made ≡ rows_opened contests rows (key_of v)
      own_opened = opened ∙ (λ j. rows_opened (same j) rows (made_key j))

      pub step_open : IsSome (get made k)
      step_open = subst (λ k. IsSome (get made k)) (sym made_key)
          (is_open i v lt is before rows so_far made own_opened)

      pub step_room : HaveRoom before → IfSome (get made k) (λ r. HasRoom r v)
      step_room room = subst (λ k. IfSome (get made k) (λ r. HasRoom r v)) (sym made_key)
          (roomy i v lt is before rows so_far made own_opened room)

      pub step_added : (new : Rows) → new ≡ rows_plus made k v → SumsAdded before (i + 1) new
      step_added new plus = subst (SumsAdded before (i + 1))
          (sym (plus ∙ (λ j. rows_plus (own_opened j) (made_key j) v)))
          (sums_added i v lt is before rows so_far)

  pub none_added : (before : Rows) → SumsAdded before 0 before
  none_added before = λ q. refl

  pub all_added : (n : ℕ) (before rows : Rows) → length votes ≤ n → SumsAdded before n rows
      → (q : RowKey) → get rows q ≡ row_with contests q (get before q) (sums_for unit batch q votes)
  all_added n before rows le h q = h q ∙ ap
      (λ vs. row_with contests q (get before q) (sums_for unit batch q vs)) (take_all n votes le)
