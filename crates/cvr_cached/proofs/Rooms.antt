-- The sums of contents go to rows of the definition, and no column gets too large.
use Rattle.std.proofs.Common.{◌≡◌, ℕ, ◌+◌, ◌*◌, ◌^◌, ◌<◌, ◌≤◌, true, false, List, [], ◌∷◌, map}
use Rattle.std.proofs.Common.{length, ◌||◌, ◌==◌, le_trans, le_of_eq, mul_comm, mul-le-mul_right}
use Rattle.std.proofs.Common.{Contains, inl, inr, Option, Some, None, refl, sym, ap, ◌∙◌, subst}
use Rattle.std.proofs.Common.{arith}
use Rattle.std.proofs.lemmas.List.{length-map}
use Rattle.std.proofs.lemmas.Map.Steps.{length-le_from_distinct_below}
use Rattle.std.specs.List.{sum_by, list_any}
use Rattle.std.specs.Map.{values_of}
use Rattle.std.specs.Option.{option_map_or}
use Rattle.std.specs.FinSet.{contains}
use Rattle.std.proofs.lemmas.Bool.{eqb-true}
use Rattle.std.proofs.lemmas.List.Sums.{sum_by-cons}
use Rattle.cdf_parts.specs.Places.{Contest}
use Rattle.cdf_definition.specs.Frame.{Frame}
use Rattle.cvr_fact_types.specs.declared.name.RecordName.{RecordName}
use Rattle.cvr_fact_types.specs.declared.header.HeaderFact.{HeaderFact}
use Rattle.cvr_fact_types.specs.declared.snapshot.SnapshotFact.{SnapshotFact}
use Rattle.cvr_fact_types.specs.declared.sums.VoteSums.{VoteSums}
use Rattle.cvr_fact_types.specs.Facts.{Facts}
use Rattle.cvr_facts.specs.Sums.{sum_limit, AreBelow}
use Rattle.cvr_facts.proofs.Laws.{fact_total}
use Rattle.cvr_facts.proofs.Lemmas.{greatest_is, at_head, at_tail, none_listed, from_map}
use Rattle.cvr_facts.proofs.Lemmas.{from-filter_map}
use Rattle.cvr_tally.specs.declared.key.RowKey.{RowKey}
use Rattle.cvr_tally.specs.Keys.{is_key}
use Rattle.cvr_office.specs.declared.any_fact.AnyFact.{AnyFact}
use Rattle.cvr_office.specs.declared.any_fact.AnyFact.TheVariants as any
use Rattle.cvr_office.specs.Adding.{IsSums, AreSums, key_for, sums_for}
use Rattle.cvr_office.specs.CanHold.{CanHold}
use Rattle.cvr_office.specs.Place.{fact_of}
use Rattle.cvr_office.specs.Plain.{IsSpelled}
use Rattle.cvr_office.specs.Runs.{as_snapshot, snapshots}
use Rattle.cvr_office.proofs.Lemmas.{found, of_snapshot}
use Rattle.cvr_lists.proofs.Laws.{facts_are_sums}
use Rattle.cvr_cached.specs.declared.plan.Plan.{Plan}
use Rattle.cvr_cached.specs.Contents.{Entries, content_at, facts_at, header_in, current_in}
use Rattle.cvr_cached.specs.Contents.{pairs_of, pairs_of}
use Rattle.cvr_fact_types.specs.Columns.{Column, Ballots, worth}
use Rattle.cvr_tally.specs.Rows.{ballot_limit}
use Rattle.cvr_tally.proofs.Lemmas.{below_limits}
use Rattle.cvr_cached.specs.Cells.{shares, total, AreFit}
use Rattle.cvr_cached.specs.Held.{IsSummed}
use Rattle.cvr_cached.specs.Plans.{planned, all_moves, IsPlan, IsRoomy}
use Rattle.cvr_cached.proofs.Listed.{at_name, found_listed}
use Rattle.cvr_cached.proofs.Pairs.{pairs_are}
use Rattle.cvr_cached.proofs.RowLink.{sum_pairs, share_found}

-- ---- a spelled fact of a set that is kept

pub summed : (frame : Frame) (s : Facts) → CanHold frame s → (x : AnyFact)
    → contains s (fact_of x) ≡ true → IsSpelled frame.contests x → IsSummed frame.contests x
summed frame s can_hold x held spelled = grind (arith, facts_are_sums)

-- ---- the most that a content adds to a column

-- this is the most that the sums of a ballot add to it
abbrev pub IsMost : Column → ℕ → Type 0
IsMost column most = (sums : VoteSums) → AreBelow sum_limit sums → worth column sums ≤ most

pub most_votes : (column : Column) → IsMost column sum_limit
most_votes column sums below = let lt = below column in omega (arith, lt)

pub most_ballots : IsMost Ballots 1
most_ballots sums below = omega arith

any_below : (n : ℕ) (votes : List VoteSums) → ((v : VoteSums) → Contains votes v → v.contest < n)
    → (q : ℕ) → list_any (λ c. q == c) (map (λ (v : VoteSums). v.contest) votes) ≡ true → q < n
any_below n [] below q e = Prim.cc e
any_below n (v ∷ votes) below q e =
    elim (q == v.contest) as (λ b. (q == v.contest) ≡ b
    → (b || list_any (λ c. q == c) (map (λ (v : VoteSums). v.contest) votes)) ≡ true → q < n) [
      | true ↦ λ is here. let lt =
          below v (at_head v votes) in let same = eqb-true q v.contest is in omega (arith, lt, same)
      | false ↦ λ is later. any_below n votes (λ w at. below w (at_tail v w votes at)) q later
    ] refl e

-- no contest stands twice, so there are no more sums than contests
votes_few : (contests : List Contest) (votes : List VoteSums) → AreSums contests votes
    → length votes ≤ length contests
votes_few contests votes are =
    subst (λ n. n ≤ length contests) (length-map votes (λ (v : VoteSums). v.contest))
    (length-le_from_distinct_below (map (λ (v : VoteSums). v.contest) votes) (length contests)
    are.once (any_below (length contests) votes (λ v at. (are.each v at).place)))

module _ (contests : List Contest) (xs : List AnyFact)
    (told : (x : AnyFact) → Contains xs x → IsSummed contests x) where
  now_summed : (n : SnapshotFact) → current_in xs ≡ Some n → AreSums contests n.votes
  now_summed n is =
      let at =
      from-filter_map as_snapshot xs n (greatest_is fact_total (snapshots xs) n is).listed in
      subst (IsSummed contests) (of_snapshot at.0 n at.2) (told at.0 at.1)

  fit_from : (h : Option HeaderFact) (n : Option SnapshotFact) → header_in xs ≡ h
      → current_in xs ≡ n → AreFit contests (pairs_of xs)
  fit_from None n a b =
      subst (AreFit contests) (sym (pairs_are xs None n a b)) (λ p at. absurd (none_listed p at))
  fit_from (Some h) None a b = subst (AreFit contests) (sym (pairs_are xs (Some h) None a b))
      (λ p at. absurd (none_listed p at))
  fit_from (Some h) (Some n) a b =
      subst (AreFit contests) (sym (pairs_are xs (Some h) (Some n) a b)) (λ p at.
      let from = from_map (λ (v : VoteSums). (key_for h.unit h.batch v, v)) p n.votes at in
      subst (λ (p : RowKey × VoteSums). (p.0.contest ≡ p.1.contest) × IsSums contests p.1) from.2
      (refl, (now_summed n b).each from.0 from.1))

  pub fit : AreFit contests (pairs_of xs)
  fit = fit_from (header_in xs) (current_in xs) refl refl

  module _ (q : RowKey) (j : Column) (most : ℕ) (is_most : IsMost j most) where
    one_le : (h : HeaderFact) (n : SnapshotFact) → current_in xs ≡ Some n → (o : Option VoteSums)
        → sums_for h.unit h.batch q n.votes ≡ o → option_map_or (worth j) o 0 ≤ most
    one_le h n b None is = omega arith
    one_le h n b (Some v) is = is_most v
        ((now_summed n b).each v (found (λ v. is_key q (key_for h.unit h.batch v)) n.votes v
        is).0).below

    le_from : (h : Option HeaderFact) (n : Option SnapshotFact) → header_in xs ≡ h
        → current_in xs ≡ n → shares (pairs_of xs) q j ≤ most
    le_from None n a b =
        subst (λ ps. shares ps q j ≤ most) (sym (pairs_are xs None n a b)) (omega arith)
    le_from (Some h) None a b =
        subst (λ ps. shares ps q j ≤ most) (sym (pairs_are xs (Some h) None a b)) (omega arith)
    le_from (Some h) (Some n) a b =
        let is = ap (λ ps. shares ps q j) (pairs_are xs (Some h) (Some n) a b)
        ∙ (sum_pairs h.unit h.batch q j n.votes
        ∙ share_found h.unit h.batch q j n.votes (now_summed n b).once) in
        subst (λ k. k ≤ most) (sym is) (one_le h n b _ refl)

    pub shares_le : shares (pairs_of xs) q j ≤ most
    shares_le = le_from (header_in xs) (current_in xs) refl refl

  pairs_few : (h : Option HeaderFact) (n : Option SnapshotFact) → header_in xs ≡ h
      → current_in xs ≡ n → length (pairs_of xs) ≤ length contests
  pairs_few None n a b =
      subst (λ ps. length ps ≤ length contests) (sym (pairs_are xs None n a b)) (omega arith)
  pairs_few (Some h) None a b =
      subst (λ ps. length ps ≤ length contests) (sym (pairs_are xs (Some h) None a b)) (omega arith)
  pairs_few (Some h) (Some n) a b =
      let pair : VoteSums → RowKey × VoteSums = λ v. (key_for h.unit h.batch v, v) in
      subst (λ ps. length ps ≤ length contests) (sym (pairs_are xs (Some h) (Some n) a b))
      (subst (λ k. k ≤ length contests) (sym (length-map n.votes pair))
      (votes_few contests n.votes (now_summed n b)))

  -- a content has at most one of each contest
  pub few_pairs : length (pairs_of xs) ≤ length contests
  few_pairs = pairs_few (header_in xs) (current_in xs) refl refl

-- ---- added up

pub values_le : (f : List AnyFact → ℕ) (m : ℕ) (es : Entries)
    → ((e : RecordName × List AnyFact) → Contains es e → f e.1 ≤ m)
    → sum_by f (values_of es) ≤ length es * m
values_le f m [] h = omega arith
values_le f m (e ∷ es) h =
    let a = h e (at_head e es) in
    let b = values_le f m es (λ d at. h d (at_tail e d es at)) in
    let c = sum_by-cons f e.1 (values_of es) in
    omega (arith, a, b, c)

given_le : (f : RecordName × List AnyFact → ℕ) (m : ℕ) (es : Entries)
    → ((e : RecordName × List AnyFact) → Contains es e → f e ≤ m) → sum_by f es ≤ length es * m
given_le f m [] h = omega arith
given_le f m (e ∷ es) h =
    let a = h e (at_head e es) in
    let b = given_le f m es (λ d at. h d (at_tail e d es at)) in
    let c = sum_by-cons f e es in
    omega (arith, a, b, c)

pub full_le : (es : Entries) → ((e : RecordName × List AnyFact) → Contains es e → 0 < length e.1)
    → length es ≤ sum_by length (values_of es)
full_le [] h = omega arith
full_le (e ∷ es) h =
    let a = h e (at_head e es) in
    let b = full_le es (λ d at. h d (at_tail e d es at)) in
    let c = sum_by-cons length e.1 (values_of es) in
    omega (arith, a, b, c)

-- ---- a plan

module _ (f : RecordName → Option (List AnyFact)) where
  pub grows : (cs : Entries) → ((c : RecordName × List AnyFact) → Contains cs c
      → length (facts_at (f c.0)) < length c.1)
      → length cs + sum_by (λ c. length (facts_at (f c.0))) cs ≤ sum_by (λ c. length c.1) cs
  grows [] more = omega arith
  grows (c ∷ cs) more =
      let a = sum_by-cons (λ (c : RecordName × List AnyFact). length (facts_at (f c.0))) c cs in
      let b = sum_by-cons (λ (c : RecordName × List AnyFact). length c.1) c cs in
      let here = more c (at_head c cs) in
      let rest = grows cs (λ d at. more d (at_tail c d cs at)) in
      omega (arith, a, b, here, rest)

module _ (contests : List Contest) (es : Entries) (made : Plan) (g : RecordName → List AnyFact)
    (full : (e : RecordName × List AnyFact) → Contains es e → 0 < length e.1)
    (plan : IsPlan (content_at es) g made)
    (old : (e : RecordName × List AnyFact) → Contains es e → (x : AnyFact) → Contains e.1 x
    → IsSummed contests x) (new : (k : RecordName) (x : AnyFact) → Contains (g k) x
    → IsSummed contests x) where
  abbrev cs : Entries
  cs = planned (content_at es) made

  abbrev n : ℕ
  n = made.new_facts

  old_at : (k : RecordName) (o : Option (List AnyFact)) → at_name k es ≡ o → (x : AnyFact)
      → Contains (facts_at o) x → IsSummed contests x
  old_at k None is x at = absurd (none_listed x at)
  old_at k (Some facts) is x at = old (k, facts) (found_listed es k facts is) x at

  new_at : (c : RecordName × List AnyFact) → Contains cs c → (x : AnyFact) → Contains c.1 x
      → IsSummed contests x
  new_at c at x in_it = elim ((plan.changes c at).put.from x in_it) [
    | inl was ↦ old_at c.0 (at_name c.0 es) refl x was
    | inr came ↦ new c.0 x came
  ]

  pub roomy : sum_by length (values_of es) + n < 2 ^ 64 → IsRoomy contests es cs
  roomy few = record {
    names_rise = plan.names_rise;
    fit_old = λ q. fit contests (facts_at (at_name q es)) (old_at q (at_name q es) refl);
    fit_new = λ c at. fit contests c.1 (new_at c at);
    room = λ q. below_limits (sums q) (few_ballots q) (few_votes q);
  }
    where
      sums : RowKey → Column → ℕ
      sums q j = total es q j + sum_by (λ c. shares (pairs_of c.1) q j) cs

      many : length es + length cs < 2 ^ 64
      many =
          let each = full_le es full in
          let more = grows (λ k. at_name k es) cs (λ c at. (plan.changes c at).more) in
          let count = plan.count in
          omega (arith, each, more, count, few)

      sums_le : (q : RowKey) (j : Column) (most : ℕ) → IsMost j most
          → sums q j ≤ length es * most + length cs * most
      sums_le q j most is =
          let a = values_le (λ facts. shares (pairs_of facts) q j) most es
          (λ e at. shares_le contests e.1 (old e at) q j most is) in
          let b = given_le (λ c. shares (pairs_of c.1) q j) most cs
          (λ c at. shares_le contests c.1 (new_at c at) q j most is) in
          omega (arith, a, b)

      few_ballots : (q : RowKey) → sums q Ballots ≤ ballot_limit
      few_ballots q = let le = sums_le q Ballots 1 most_ballots in omega (arith, le, many)

      few_votes : (q : RowKey) (j : Column) → sums q j < 2 ^ 128
      few_votes q j = let le = sums_le q j sum_limit (most_votes j) in omega (arith, le, many)

  -- each new fact moves at most two sums of each contest
  pub moves_few : all_moves (λ k. at_name k es) cs ≤ 2 * length contests * n
  moves_few =
      let each = given_le (λ (c : RecordName × List AnyFact).
      length (pairs_of (facts_at (at_name c.0 es))) + length (pairs_of c.1))
      (2 * length contests) cs (λ c at.
      let old = few_pairs contests (facts_at (at_name c.0 es)) (old_at c.0 (at_name c.0 es) refl) in
      let new = few_pairs contests c.1 (new_at c at) in
      omega (arith, old, new)) in
      let more = grows (λ k. at_name k es) cs (λ c at. (plan.changes c at).more) in
      let few : length cs ≤ n = omega (arith, more, plan.count) in
      le_trans each (le_trans (mul-le-mul_right (2 * length contests) few)
      (le_of_eq (mul_comm n (2 * length contests))))
