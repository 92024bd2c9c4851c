-- A plan that is carried out changes rows as often as the facts before and after say.
use Rattle.std.proofs.Common.{◌≡◌, ℕ, ◌+◌, ◌<◌, Bool, true, false, not, cond, ◌&&◌, ◌||◌, List, []}
use Rattle.std.proofs.Common.{◌∷◌, length, map, Contains, inl, inr, Option, Some, None, Less, refl}
use Rattle.std.proofs.Common.{sym, ap, ◌∙◌, subst, arith}
use Rattle.std.specs.Prelude.{◌⊎◌, ◌↔◌}
use Rattle.std.specs.List.{sum_by, filter_map}
use Rattle.std.specs.List.Sorted.{IsStrictlySortedBy}
use Rattle.std.specs.FinSet.{contains, difference, items, len, contains-difference}
use Rattle.std.specs.Option.{option_map_or}
use Rattle.std.proofs.lemmas.Bool.{false≢true, false_from_ne_true}
use Rattle.std.proofs.lemmas.List.{length-map}
use Rattle.std.proofs.lemmas.List.Sums.{sum_by-cons}
use Rattle.std.proofs.lemmas.Map.Keys.{sorted_head, sorted_tail}
use Rattle.cdf_definition.specs.Frame.{Frame}
use Rattle.cdf_parts.specs.Places.{Contest}
use Rattle.cvr_fact_types.specs.declared.name.RecordName.{RecordName}
use Rattle.cvr_fact_types.specs.declared.header.HeaderFact.{HeaderFact}
use Rattle.cvr_fact_types.specs.declared.snapshot.SnapshotFact.{SnapshotFact}
use Rattle.cvr_fact_types.specs.declared.sums.VoteSums.{VoteSums}
use Rattle.cvr_fact_types.specs.Facts.{Fact, Facts, name_cmp, fact_total, fact_exact}
use Rattle.cvr_facts.proofs.Laws.{contains_iff}
use Rattle.cvr_facts.proofs.Lemmas.{none_listed, at_head, at_tail, head_or_tail, in_map, from_map}
use Rattle.cvr_facts.proofs.Lemmas.{Contains-filter_map, from-filter_map}
use Rattle.cvr_tally.specs.declared.key.RowKey.{RowKey}
use Rattle.cvr_office.specs.declared.any_fact.AnyFact.{AnyFact}
use Rattle.cvr_office.specs.Adding.{key_for}
use Rattle.cvr_office.specs.Names.{record_of}
use Rattle.cvr_office.specs.Place.{fact_of, any_cmp}
use Rattle.cvr_office.specs.Plain.{set_of, IsPlain, IsPut}
use Rattle.cvr_office.specs.Readers.{IsHeader, IsCurrent}
use Rattle.cvr_office.specs.Tallied.{sums_of_body}
use Rattle.cvr_office.proofs.Laws.{name_total, name_exact}
use Rattle.cvr_office.proofs.Lemmas.{keys_in_order-members, in_union, from_union, same_name}
use Rattle.cvr_office.proofs.Lemmas.{own_name, each_of}
use Rattle.cvr_cached.specs.declared.plan.Plan.{Plan}
use Rattle.cvr_cached.specs.Contents.{Entries, content_at, facts_at, fact_list, header_in}
use Rattle.cvr_cached.specs.Contents.{current_in, pairs_of}
use Rattle.cvr_cached.specs.Held.{Stored, facts_of, AreOwn, IsHeld, CanTake}
use Rattle.cvr_cached.specs.Moves.{contests_at, move_count}
use Rattle.cvr_cached.specs.Plans.{planned, has_content, is_name_of, content_with, all_moves, IsPlan}
use Rattle.cvr_cached.proofs.Listed.{at_name, len-set_of, less_other}
use Rattle.cvr_cached.proofs.Moving.{headed}
use Rattle.cvr_cached.proofs.Pairs.{pairs_are}
use Rattle.cvr_cached.proofs.Passing.{laid_none}
use Rattle.cvr_cached.proofs.Reading.{header_read, current_read}
use Rattle.cvr_lists.proofs.Lemmas.{AreThere, put_none}
use Rattle.cvr_cached.proofs.Taken.{own_runs, plain_after, rise_before}
use Rattle.cvr_cached.proofs.FreshFacts.{alike_in, alike_from}

-- ---- lists and their sets

-- of a group either one is new, or all are there
find_new : (old group : List AnyFact) →
    ((x : AnyFact) × Contains group x × (contains (set_of old) (fact_of x) ≡ false))
    ⊎ AreThere old group
find_new old [] = inr (λ x at. absurd (none_listed x at))
find_new old (x ∷ xs) =
    elim (contains (set_of old) (fact_of x)) as
    (λ b. contains (set_of old) (fact_of x) ≡ b
    → ((y : AnyFact) × Contains (x ∷ xs) y × (contains (set_of old) (fact_of y) ≡ false))
    ⊎ AreThere old (x ∷ xs)) [
      | true ↦ λ e. elim (find_new old xs) [
        | inl new ↦ inl (new.0, at_tail x new.0 xs new.1, new.2)
        | inr all ↦ inr (λ y at. elim (head_or_tail x y xs at) [
          | inl is ↦ subst (λ z. contains (set_of old) (fact_of z) ≡ true) is e
          | inr more ↦ all y more
        ])
      ]
      | false ↦ λ e. inl (x, at_head x xs, e)
    ] refl

-- what makes a list longer brings a new fact
brings_new : (old group new : List AnyFact) → IsStrictlySortedBy any_cmp old → IsPut old group new
    → length old < length new → (x : AnyFact) × Contains group x
    × (contains (set_of old) (fact_of x) ≡ false)
brings_new old group new rises put less = elim (find_new old group) [
  | inl fresh ↦ fresh
  | inr all ↦
      let same : set_of old ≡ set_of new = (put_none old group rises all).set ∙ sym put.set in
      absurd (omega (arith, less, len-set_of old rises, len-set_of new put.rises, ap len same))
]

new_alone : (a b : Bool) → (a && not b) ≡ true → (a ≡ true) × (b ≡ false)
new_alone true true e = absurd (false≢true e)
new_alone true false e = (refl, refl)
new_alone false b e = absurd (false≢true e)

-- ---- the sums of a content are as many as the contests of the record's current snapshot

module _ (frame : Frame) (d : List AnyFact) (es : Entries) (plain : IsPlain frame (fact_list d es))
    (own : AreOwn d es) (k : RecordName) where
  abbrev s : Facts
  s = set_of (fact_list d es)

  abbrev facts : List AnyFact
  facts = facts_at (at_name k es)

  abbrev many : Option (List ℕ) → ℕ
  many o = length (option_map_or (sums_of_body frame.contests) o [])

  heads : (h : Option HeaderFact) → h ≡ header_in facts → IsHeader s k h
  heads h is = header_read frame d es plain own k (at_name k es) refl h is

  nows : (n : Option SnapshotFact) → n ≡ current_in facts → IsCurrent frame.contests s k n
  nows n is = current_read frame d es plain own k (at_name k es) refl n is

  sums_of_parts : (h : Option HeaderFact) (n : Option SnapshotFact) → h ≡ header_in facts
      → n ≡ current_in facts → length (pairs_of facts) ≡ contests_at frame.contests s k
  sums_of_parts None None a b =
      ap length (pairs_are facts None None (sym a) (sym b)) ∙ ap many (nows None b).body
  sums_of_parts None (Some n) a b = absurd
      (headed frame s plain.can_hold k n.body (sym (nows (Some n) b).body) (sym (heads None a).body))
  sums_of_parts (Some h) None a b =
      ap length (pairs_are facts (Some h) None (sym a) (sym b)) ∙ ap many (nows None b).body
  sums_of_parts (Some h) (Some n) a b =
      let now = nows (Some n) b in
      let pair : VoteSums → RowKey × VoteSums = λ v. (key_for h.unit h.batch v, v) in
      ap length (pairs_are facts (Some h) (Some n) (sym a) (sym b))
      ∙ (length-map n.votes pair ∙ (ap length (now.typed n refl).spelled.votes
      ∙ ap many now.body))

  sums_are_contests : length (pairs_of facts) ≡ contests_at frame.contests s k
  sums_are_contests = sums_of_parts (header_in facts) (current_in facts) refl refl

-- ---- a plan

abbrev name_in : RecordName × List AnyFact → RecordName
name_in c = c.0

-- what is laid over a name that is planned
laid_own : (f : RecordName → Option (List AnyFact)) (cs : Entries)
    → IsStrictlySortedBy name_cmp (map name_in cs) → (c : RecordName × List AnyFact) → Contains cs c
    → content_with cs f c.0 ≡ Some c.1
laid_own f [] rises c at = absurd (none_listed c at)
laid_own f (x ∷ xs) rises c at = elim (head_or_tail x c xs at) [
  | inl is ↦ ap (λ b. cond b (Some x.1) (content_with xs f c.0)) (own_name x.0 c.0 (ap name_in is))
      ∙ ap (λ (p : RecordName × List AnyFact). Some p.1) is
  | inr more ↦
      let less = each_of (λ n. name_cmp x.0 n ≡ Less) (map name_in xs) c.0
      (sorted_head name_cmp x.0 (map name_in xs) rises) (in_map name_in c xs more) in
      ap (λ b. cond b (Some x.1) (content_with xs f c.0)) (less_other (name_cmp x.0 c.0) less)
      ∙ laid_own f xs (sorted_tail name_cmp x.0 (map name_in xs) rises) c more
]

named_listed : (cs : Entries) (q : RecordName) → has_content cs q ≡ true
    → Contains (map name_in cs) q
named_listed [] q e = absurd (false≢true e)
named_listed (c ∷ cs) q e = elim (is_name_of c.0 q) as
    (λ b. is_name_of c.0 q ≡ b → (b || has_content cs q) ≡ true → Contains (map name_in (c ∷ cs)) q) [
      | true ↦ λ is _. subst (Contains (c.0 ∷ map name_in cs)) (same_name c.0 q is)
          (at_head c.0 (map name_in cs))
      | false ↦ λ _ later. at_tail c.0 q (map name_in cs) (named_listed cs q later)
    ] refl e

sum_moves : (f : RecordName → Option (List AnyFact)) (w : RecordName → ℕ) (cs : Entries)
    → ((c : RecordName × List AnyFact) → Contains cs c
    → length (pairs_of (facts_at (f c.0))) + length (pairs_of c.1) ≡ w c.0)
    → all_moves f cs ≡ sum_by w (map name_in cs)
sum_moves f w [] is = refl
sum_moves f w (c ∷ cs) is =
    let one = sum_by-cons (λ (c : RecordName × List AnyFact). length (pairs_of (facts_at (f c.0)))
    + length (pairs_of c.1)) c cs in
    let two = sum_by-cons w c.0 (map name_in cs) in
    let here = is c (at_head c cs) in
    let rest = sum_moves f w cs (λ d at. is d (at_tail c d cs at)) in
    omega (arith, one, two, here, rest)

-- ---- the plan is carried out

module _ (s : Stored) (count : ℕ) (more : List AnyFact) (held : IsHeld s count)
    (allowed : CanTake s more) (s' : Stored) (put : IsPut (facts_of s) more (facts_of s'))
    (own : AreOwn s'.devices s'.records)
    (g : RecordName → List AnyFact) (group_is : (k : RecordName) (f : AnyFact)
    → Contains (g k) f ↔ (Contains more f × (record_of (fact_of f) ≡ Some k)))
    (made : Plan) (plan : IsPlan (content_at s.records) g made)
    (done : (k : RecordName) → content_at s'.records k
    ≡ content_with (planned (content_at s.records) made) (content_at s.records) k) where
  abbrev cs : Entries
  cs = planned (content_at s.records) made

  abbrev d : List AnyFact
  d = s.devices

  abbrev es : Entries
  es = s.records

  abbrev contests : List Contest
  contests = s.totals.contests

  abbrev before : Facts
  before = set_of (facts_of s)

  abbrev after : Facts
  after = set_of (facts_of s')

  -- a fact of a record stands exactly where it is in its content
  in_content : (k : RecordName) (f : Fact) → record_of f ≡ Some k → contains before f ≡ true
      → contains (set_of (facts_at (at_name k es))) f ≡ true
  in_content k f of is =
      let x = alike_from (fact_list d es) f is in
      subst (λ q. contains (set_of (facts_at (at_name k es))) q ≡ true) x.2
      (alike_in (facts_at (at_name k es)) x.0
      ((own_runs d es held.own k x.0).1 (x.1, ap record_of x.2 ∙ of)))

  from_content : (k : RecordName) (f : Fact) → contains (set_of (facts_at (at_name k es))) f ≡ true
      → contains before f ≡ true
  from_content k f is =
      let x = alike_from (facts_at (at_name k es)) f is in
      subst (λ q. contains before q ≡ true) x.2
      (alike_in (fact_list d es) x.0 ((own_runs d es held.own k x.0).0 x.1).0)

  -- what is planned gains a fact
  planned_gains : (c : RecordName × List AnyFact) → Contains cs c
      → Contains (filter_map record_of (items (difference after before))) c.0
  planned_gains c at =
      let change = plan.changes c at in
      let x = brings_new (facts_at (at_name c.0 es)) (g c.0) c.1 (rise_before s count held c.0)
      change.put change.more in
      let came = (group_is c.0 x.0).0 x.1 in
      let now : contains after (fact_of x.0)
      ≡ true = subst (λ u. contains u (fact_of x.0) ≡ true) (sym put.set)
      (in_union fact_total fact_exact before (set_of more) (fact_of x.0)
      (inr (alike_in more x.0 came.0))) in
      let then : contains before (fact_of x.0)
      ≡ false = false_from_ne_true (contains before (fact_of x.0))
      (λ e. false≢true (sym x.2 ∙ in_content c.0 (fact_of x.0) came.1 e)) in
      let new : contains (difference after before) (fact_of x.0)
      ≡ true = contains-difference fact_total after before (fact_of x.0)
      ∙ (λ i. now i && not (then i)) in
      Contains-filter_map record_of (items (difference after before)) (fact_of x.0) c.0
      ((contains_iff (difference after before) (fact_of x.0)).0 new) came.1

  -- what gains a fact is planned
  gaining_planned : (k : RecordName) → Contains
      (filter_map record_of (items (difference after before))) k → Contains (map name_in cs) k
  gaining_planned k at =
      let f = from-filter_map record_of (items (difference after before)) k at in
      let new = new_alone (contains after f.0) (contains before f.0)
      (sym (contains-difference fact_total after before f.0)
      ∙ (contains_iff (difference after before) f.0).1 f.1) in
      let came : contains (set_of more) f.0
      ≡ true = elim (from_union fact_total fact_exact before (set_of more) f.0
      (subst (λ u. contains u f.0 ≡ true) put.set new.0)) [
        | inl was ↦ absurd (false≢true (sym new.1 ∙ was))
        | inr is ↦ is
      ] in
      let x = alike_from more f.0 came in
      let grouped : contains (set_of (g k)) f.0
      ≡ true = subst (λ q. contains (set_of (g k)) q ≡ true) x.2
      (alike_in (g k) x.0 ((group_is k x.0).1 (x.1, ap record_of x.2 ∙ f.2))) in
      let there = subst (λ u. contains u f.0 ≡ true) (sym (plan.put k).set)
      (in_union fact_total fact_exact (set_of (facts_at (at_name k es))) (set_of (g k)) f.0
      (inr grouped)) in
      elim (has_content cs k) as (λ b. has_content cs k ≡ b → Contains (map name_in cs) k) [
        | true ↦ λ e. named_listed cs k e
        | false ↦ λ e. absurd (false≢true
            (sym new.1 ∙ from_content k f.0
            (subst (λ o. contains (set_of (facts_at o)) f.0 ≡ true)
            (laid_none (λ k. at_name k es) cs k e) there)))
      ] refl

  -- and each of its sums is of a contest
  moved_at : (c : RecordName × List AnyFact) → Contains cs c
      → length (pairs_of (facts_at (at_name c.0 es))) + length (pairs_of c.1)
      ≡ contests_at contests before c.0 + contests_at contests after c.0
  moved_at c at =
      let out = sums_are_contests allowed.frame d es allowed.before.plain held.own c.0
      ∙ ap (λ l. contests_at l before c.0) (sym allowed.before.contests_are) in
      let back = ap (λ o. length (pairs_of (facts_at o)))
      (sym (done c.0 ∙ laid_own (λ k. at_name k es) cs plan.names_rise c at))
      ∙ (sums_are_contests allowed.frame s'.devices s'.records (plain_after s more allowed s' put)
      own c.0 ∙ ap (λ l. contests_at l after c.0) (sym allowed.before.contests_are)) in
      λ i. out i + back i

  pub moved_is : all_moves (λ k. at_name k es) cs ≡ move_count contests before after
  moved_is =
      let w : RecordName → ℕ = λ r. contests_at contests before r + contests_at contests after r in
      sum_moves (λ k. at_name k es) w cs moved_at
      ∙ ap (sum_by w) (sym (keys_in_order-members name_total name_exact
      (filter_map record_of (items (difference after before))) (map name_in cs) plan.names_rise
      (λ k at. let c = from_map name_in k cs at in
      subst (Contains (filter_map record_of (items (difference after before)))) c.2
      (planned_gains c.0 c.1))
      gaining_planned))
