-- What is known before facts are taken in, and what an office keeps after it.
use Rattle.std.proofs.Common.{◌≡◌, ℕ, ◌+◌, ◌*◌, ◌^◌, ◌<◌, ◌≤◌, ◌==◌, true, false, cond, List, []}
use Rattle.std.proofs.Common.{◌∷◌, ◌++◌, length, map, Contains, inl, inr, Option, Some, None}
use Rattle.std.proofs.Common.{IfSome, refl, sym, ap, ◌∙◌, subst, arith, length-append}
use Rattle.std.specs.Prelude.{◌⊎◌, ◌↔◌}
use Rattle.std.specs.List.{sum_by, flat_map}
use Rattle.std.specs.List.Sorted.{IsStrictlySortedBy}
use Rattle.std.specs.Map.{keys_of, values_of}
use Rattle.std.specs.Option.{option_map_or}
use Rattle.std.specs.FinMap.{get}
use Rattle.std.specs.FinSet.{union, len}
use Rattle.std.specs.Ordering.{is_eq}
use Rattle.std.proofs.lemmas.Bool.{eqb-true}
use Rattle.std.proofs.lemmas.List.Elements.{Contains-append_left, Contains-append_right}
use Rattle.std.proofs.lemmas.List.Elements.{Contains-append_cases}
use Rattle.std.proofs.lemmas.List.Sums.{sum_by-cons}
use Rattle.cdf_parts.specs.Places.{Contest, selections_at}
use Rattle.cvr_fact_types.specs.declared.name.RecordName.{RecordName}
use Rattle.cvr_fact_types.specs.Facts.{Facts, name_cmp, fact_total, fact_exact}
use Rattle.cvr_facts.proofs.Lemmas.{in_map, in_set, in_flat, from_flat}
use Rattle.cvr_tally.specs.declared.key.RowKey.{RowKey}
use Rattle.cvr_tally.specs.declared.row.Row.{Row}
use Rattle.cvr_tally.specs.Rows.{row_closed, IsTotals}
use Rattle.cvr_office.specs.declared.any_fact.AnyFact.{AnyFact}
use Rattle.cvr_office.specs.Adding.{CurrentsAreSums}
use Rattle.cvr_office.specs.CanHold.{CanHold}
use Rattle.cvr_office.specs.Names.{record_of}
use Rattle.cvr_office.specs.Place.{fact_of, any_cmp}
use Rattle.cvr_office.specs.Plain.{set_of, IsPlain, IsPut}
use Rattle.cvr_office.specs.Readers.{growth}
use Rattle.cvr_office.specs.Runs.{is_of, run}
use Rattle.cvr_office.specs.Tallied.{rows}
use Rattle.cvr_office.proofs.Lemmas.{from_filter, in_filter, in_union, same_name, own_name}
use Rattle.cvr_office.proofs.Laws.{rows_law, ballots_law}
use Rattle.cvr_lists.proofs.Laws.{currents_are_sums, spelled_put}
use Rattle.cvr_lists.proofs.Lemmas.{own_record}
use Rattle.cvr_cached.specs.declared.plan.Plan.{Plan}
use Rattle.cvr_cached.specs.Contents.{Entries, content_at, facts_at, some_unless_empty, fact_list}
use Rattle.cvr_cached.specs.Cells.{total, IsTableOf}
use Rattle.cvr_cached.specs.Held.{Stored, facts_of, AreOwn, IsHeld, IsCached, CanTake, IsSummed}
use Rattle.cvr_cached.specs.Plans.{planned, IsPlan, all_moves, AreTallied, IsRoomy}
use Rattle.cvr_cached.specs.Taking.{AreSplit, IsPlanOf}
use Rattle.cvr_cached.proofs.Listed.{len-set_of, at_name, found_own, sorted_nil, own_each}
use Rattle.cvr_cached.proofs.Listed.{run_listed}
use Rattle.cvr_cached.proofs.RowLink.{rows_agree, agrees_rows}
use Rattle.cvr_cached.proofs.Rooms.{summed, roomy, moves_few}

-- ---- as many facts as contents have

flat_long : (es : Entries) → length (flat_map (λ (e : RecordName × List AnyFact). e.1) es)
    ≡ sum_by length (values_of es)
flat_long [] = refl
flat_long (e ∷ es) = length-append e.1 (flat_map (λ (e : RecordName × List AnyFact). e.1) es)
    ∙ (ap (λ n. length e.1 + n) (flat_long es) ∙ sym (sum_by-cons length e.1 (values_of es)))

pub listed_long : (d : List AnyFact) (es : Entries)
    → length (fact_list d es) ≡ length d + sum_by length (values_of es)
listed_long d es = length-append d (flat_map (λ (e : RecordName × List AnyFact). e.1) es)
    ∙ ap (λ n. length d + n) (flat_long es)

full_standing : (o : Option (List AnyFact))
    → ((facts : List AnyFact) → o ≡ Some facts → 0 < length facts)
    → some_unless_empty (facts_at o) ≡ o
full_standing None h = refl
full_standing (Some []) h = let lt = h [] refl in absurd (omega (arith, lt))
full_standing (Some (x ∷ xs)) h = refl

rising : (o : Option (List AnyFact)) → ((facts : List AnyFact) → o ≡ Some facts
    → IsStrictlySortedBy any_cmp facts) → IsStrictlySortedBy any_cmp (facts_at o)
rising None h = sorted_nil any_cmp
rising (Some facts) h = h facts refl

strict : (o : Option Row) → ((r : Row) → o ≡ Some r → 0 < r.ballots) → row_closed o ≡ o
strict None h = refl
strict (Some r) h =
    elim (r.ballots == 0) as (λ b. (r.ballots == 0) ≡ b → cond b None (Some r) ≡ Some r) [
      | true ↦ λ e. let lt =
          h r refl in let none = eqb-true r.ballots 0 e in absurd (omega (arith, lt, none))
      | false ↦ λ e. refl
    ] refl

-- ---- what came was put in, and it is a plain office's still

module _ (s : Stored) (more : List AnyFact) (allowed : CanTake s more) (s' : Stored)
    (put : IsPut (facts_of s) more (facts_of s')) where
  pub plain_after : IsPlain allowed.frame (facts_of s')
  plain_after = record {
    rises = put.rises;
    spelled = spelled_put allowed.frame.contests (facts_of s) more (facts_of s') put
        allowed.before.plain.spelled allowed.spelled;
    can_hold = subst (CanHold allowed.frame) (sym put.set) allowed.can_hold;
  }

  pub cached_after : s'.totals.contests ≡ s.totals.contests → IsCached allowed.frame s'
  cached_after same =
      record { plain = plain_after; contests_are = same ∙ allowed.before.contests_are }

-- ---- before

module _ (s : Stored) (count : ℕ) (held : IsHeld s count) where
  pub counted_before : count ≡ length s.devices + sum_by length (values_of s.records)
  counted_before = held.counted ∙ listed_long s.devices s.records

  pub full_before : (q : RecordName) → some_unless_empty (facts_at (content_at s.records q))
      ≡ content_at s.records q
  full_before q = full_standing (content_at s.records q) (held.own.full q)

  pub rise_before : (q : RecordName) → IsStrictlySortedBy any_cmp
      (facts_at (content_at s.records q))
  rise_before q = rising (content_at s.records q) (held.own.contents_rise q)

module _ (s : Stored) (count : ℕ) (more : List AnyFact) (held : IsHeld s count)
    (allowed : CanTake s more) where
  abbrev d : List AnyFact
  d = s.devices

  abbrev es : Entries
  es = s.records

  abbrev contests : List Contest
  contests = allowed.frame.contests

  abbrev before : Facts
  before = set_of (facts_of s)

  sums : CurrentsAreSums contests before
  sums = currents_are_sums allowed.frame before allowed.before.plain.can_hold

  rows_at : s.totals.rows ≡ rows contests before
  rows_at = held.rows_are ∙ ap (λ cs. rows cs before) allowed.before.contests_are

  -- no content is empty, and the totals are the sums over them
  pub tallied_before : AreTallied es s.totals.rows
  tallied_before = record {
    full = full_before s count held;
    agrees = record {
      cells = λ q j. agrees_rows allowed.frame d es allowed.before.plain held.own sums s.totals.rows
          rows_at q j;
      none_empty = λ q.
          let is = ap (λ m. get m q) rows_at ∙ rows_law contests before q in
          strict (get s.totals.rows q) (λ r e. (ballots_law contests before q r (sym is ∙ e)).1);
    };
  }

  summed_of : (x : AnyFact) → (Contains (facts_of s) x ⊎ Contains more x) → IsSummed contests x
  summed_of x (inl was) = summed allowed.frame _ allowed.can_hold x
      (in_union fact_total fact_exact before (set_of more) (fact_of x)
      (inl (in_set fact_total fact_exact (map fact_of (facts_of s)) (fact_of x)
      (in_map fact_of x (facts_of s) was)))) (allowed.before.plain.spelled x was)
  summed_of x (inr came) = summed allowed.frame _ allowed.can_hold x
      (in_union fact_total fact_exact before (set_of more) (fact_of x)
      (inr (in_set fact_total fact_exact (map fact_of more) (fact_of x)
      (in_map fact_of x more came)))) (allowed.spelled x came)

  full_each : (e : RecordName × List AnyFact) → Contains es e → 0 < length e.1
  full_each e at = held.own.full e.0 e.1 (found_own es held.own.names_rise e at)

  held_summed : (e : RecordName × List AnyFact) → Contains es e → (x : AnyFact) → Contains e.1 x
      → IsSummed contests x
  held_summed e at x in_it = summed_of x
      (inl (Contains-append_right d (flat_map (λ (e : RecordName × List AnyFact). e.1) es) x
      (in_flat (λ (e : RecordName × List AnyFact). e.1) e x es at in_it)))

  module _ (g : RecordName → List AnyFact)
      (among : (k : RecordName) (x : AnyFact) → Contains (g k) x → Contains more x) (made : Plan)
      (plan : IsPlan (content_at es) g made) where
    abbrev cs : Entries
    cs = planned (content_at es) made

    -- a plan of what comes to records has room
    pub room_before : sum_by length (values_of es) + made.new_facts < 2 ^ 64
        → IsRoomy s.totals.contests es cs
    room_before few = subst (λ l. IsRoomy l es cs) (sym allowed.before.contests_are)
        (roomy contests es made g full_each plan held_summed
        (λ k x at. summed_of x (inr (among k x at))) few)

    -- and moves few sums
    pub moves_before : all_moves (content_at es) cs ≤ 2 * length s.totals.contests * made.new_facts
    moves_before = subst (λ l. all_moves (content_at es) cs ≤ 2 * length l * made.new_facts)
        (sym allowed.before.contests_are)
        (moves_few contests es made g full_each plan held_summed
        (λ k x at. summed_of x (inr (among k x at))))

  -- ---- after

  module _ (s' : Stored) (put : IsPut (facts_of s) more (facts_of s')) where
    abbrev after : Facts
    after = set_of (facts_of s')

    plain : IsPlain allowed.frame (facts_of s')
    plain = plain_after s more allowed s' put

    long_rows : IsTotals s'.totals → s'.totals.contests ≡ contests → (q : RowKey)
        → IfSome (get s'.totals.rows q)
        (λ r. length r.votes ≡ length (selections_at contests q.contest))
    long_rows whole same q = long_at (get s'.totals.rows q)
        (λ r e. whole.votes q r e ∙ ap (λ cs. length (selections_at cs q.contest)) same)
      where
        long_at : {k : ℕ} (o : Option Row) → ((r : Row) → o ≡ Some r → length r.votes ≡ k)
            → IfSome o (λ r. length r.votes ≡ k)
        long_at None h = tt
        long_at (Some r) h = h r refl

    pub held_after : (count' : ℕ) → AreOwn s'.devices s'.records
        → IsTableOf (total s'.records) s'.totals.rows → IsTotals s'.totals
        → s'.totals.contests ≡ s.totals.contests
        → count' ≡ length s'.devices + sum_by length (values_of s'.records) → count' < 2 ^ 64
        → IsHeld s' count'
    held_after count' own agrees whole same counted fits =
        let is = same ∙ allowed.before.contests_are in
        record {
          own = own;
          rows_are = rows_agree allowed.frame s'.devices s'.records plain own
              (currents_are_sums allowed.frame after plain.can_hold) s'.totals.rows agrees
              (long_rows whole is) ∙ ap (λ cs. rows cs after) (sym is);
          counted = counted ∙ sym (listed_long s'.devices s'.records);
          fits = fits;
        }

    -- as many facts more as the set has
    pub growth_after : (count' new : ℕ)
        → count' ≡ length s'.devices + sum_by length (values_of s'.records) → count + new ≡ count'
        → new ≡ growth before (set_of more)
    growth_after count' new counted more_is =
        let old = held.counted ∙ sym (len-set_of (facts_of s) allowed.before.plain.rises) in
        let now = (counted ∙ sym (listed_long s'.devices s'.records))
        ∙ (sym (len-set_of (facts_of s') plain.rises) ∙ ap len put.set) in
        omega (arith, old, now, more_is)

-- ---- a plan that was made of what is kept is one of its value

pub plan_seen : {s t : Stored} {more devices : List AnyFact} {g : RecordName → List AnyFact}
    {made : Plan} → t ≡ s → AreSplit more devices g → CanTake s more
    → IsPlan (content_at t.records) g made → IsPlanOf s more devices made
plan_seen {g = g} {made = made} is apart allowed planned = record {
  allowed = allowed;
  group = g;
  apart = apart;
  planned = subst (λ (u : Stored). IsPlan (content_at u.records) g made) is planned;
}

-- ---- facts told apart by record

name_is : (o : Option RecordName) (n k : RecordName) → o ≡ Some n
    → is_eq (Rattle.std.specs.Option.option_cmp name_cmp o (Some k)) ≡ true → o ≡ Some k
name_is o n k is e = is ∙ ap Some (same_name n k
    (ap (λ o. is_eq (Rattle.std.specs.Option.option_cmp name_cmp o (Some k))) (sym is) ∙ e))

module _ (theirs more : List AnyFact) (devices : (f : AnyFact) → Contains theirs f
    → record_of (fact_of f) ≡ None) (of : (f : AnyFact) → Contains more f
    → (k : RecordName) × (record_of (fact_of f) ≡ Some k)) where
  apart_devices : (f : AnyFact) → Contains theirs f
      ↔ (Contains (theirs ++ more) f × (record_of (fact_of f) ≡ None))
  apart_devices f = (
    λ at. (Contains-append_left theirs more f at, devices f at),
    λ both. elim (Contains-append_cases theirs more f both.0) [
      | inl a ↦ a
      | inr b ↦ let is = of f b in let clash : Some is.0 ≡ None = sym is.1 ∙ both.1 in Prim.cc clash
    ],
  )

  apart_runs : (k : RecordName) (f : AnyFact)
      → Contains (run k more) f ↔ (Contains (theirs ++ more) f × (record_of (fact_of f) ≡ Some k))
  apart_runs k f = (
    λ at.
        let from = from_filter (is_of k) more f at in
        let is = of f from.0 in (
          Contains-append_right theirs more f from.0,
          name_is (record_of (fact_of f)) is.0 k is.1
              from.1,
        ),
    λ both. elim (Contains-append_cases theirs more f both.0) [
      | inl a ↦ let clash : None ≡ Some k = sym (devices f a) ∙ both.1 in Prim.cc clash
      | inr b ↦ in_filter (is_of k) more f b
          (ap (λ o. is_eq (Rattle.std.specs.Option.option_cmp name_cmp o (Some k))) both.1
          ∙ own_name k k refl)
    ],
  )

  pub told_apart : AreSplit (theirs ++ more) theirs (λ k. run k more)
  told_apart = record { devices_are = apart_devices; groups_are = apart_runs }

-- ---- what another office holds

module _ (theirs : List AnyFact) (ts : Entries) (own : AreOwn theirs ts) where
  own_devices : (f : AnyFact) → Contains theirs f
      ↔ (Contains (fact_list theirs ts) f × (record_of (fact_of f) ≡ None))
  own_devices f = (
    λ at. (
      Contains-append_left theirs (flat_map (λ (e : RecordName × List AnyFact). e.1) ts) f at,
      own.devices_are f at,
    ),
    λ both. elim (Contains-append_cases theirs
        (flat_map (λ (e : RecordName × List AnyFact). e.1) ts) f both.0) [
          | inl a ↦ a
          | inr b ↦
              let from = from_flat (λ (e : RecordName × List AnyFact). e.1) f ts b in
              let clash : Some from.0.0 ≡ None =
              sym (own_each theirs ts own from.0 from.1 f from.2) ∙ both.1 in Prim.cc clash
        ],
  )

  pub own_runs : (k : RecordName) (f : AnyFact)
      → Contains (facts_at (at_name k ts)) f
      ↔ (Contains (fact_list theirs ts) f × (record_of (fact_of f) ≡ Some k))
  own_runs k f = (
    λ at.
        let from = from_filter (is_of k) (fact_list theirs ts) f
        (subst (λ xs. Contains xs f) (sym (run_listed theirs ts own k)) at) in
        (from.0, own_record k f from.1),
    λ both. subst (λ xs. Contains xs f) (run_listed theirs ts own k)
        (in_filter (is_of k) (fact_list theirs ts) f both.0
        (ap (λ o. is_eq (Rattle.std.specs.Option.option_cmp name_cmp o (Some k))) both.1
        ∙ own_name k k refl)),
  )

  pub own_apart : AreSplit (fact_list theirs ts) theirs (λ k. facts_at (content_at ts k))
  own_apart = record { devices_are = own_devices; groups_are = own_runs }
