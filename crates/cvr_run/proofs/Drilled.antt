-- What the offices of a drill hold after events: what each event brings to them, which files reach
-- them, and where that is all that the other commands hold.
use Rattle.std.proofs.Common.{◌≡◌, ◌≢◌, ℕ, zero, suc, ◌==◌, ◌<◌, List, [], ◌∷◌, length, get_or}
use Rattle.std.proofs.Common.{Bool, true, false, cond, ◌||◌, ◌⊎◌, inl, inr, Option}
use Rattle.std.proofs.Common.{Some, None, Contains, refl, sym, ap, ◌∙◌, subst, arith}
use Rattle.std.specs.Prelude.{nat_le, replicate, is_some, if◌then◌else◌}
use Rattle.std.specs.List.{list_any}
use Rattle.std.specs.Ordering.{eq_by_cmp}
use Rattle.std.specs.Cmp.{eq_by_cmp_equiv}
use Rattle.std.specs.FinSet.{contains, union, insert, empty, items, contains-union, contains-empty}
use Rattle.std.specs.FinSet.{contains-insert, contains-items}
use Rattle.std.proofs.lemmas.Bool.{lt-leb, or_from, false≢true, leb-false}
use Rattle.std.proofs.lemmas.List.{get_or-replicate}
use Rattle.std.proofs.lemmas.Map.Views.{Contains-from_any, list_any-from_Contains}
use Rattle.serde_json.specs.Data.{Data}
use Rattle.cdf_types.specs.declared.fault.ReadFault.{ReadFault}
use Rattle.cdf_definition.specs.Frame.{Frame}
use Rattle.cdf_definition.specs.Acceptance.{first_refusal, value_in}
use Rattle.cdf_definition.proofs.Laws.{valid_file}
use Rattle.cvr_fact_types.specs.Facts.{Fact, Facts, fact_cmp, fact_total, fact_exact}
use Rattle.cvr_facts.specs.Reports.{facts}
use Rattle.cvr_facts.specs.Unions.{union_empty}
use Rattle.cvr_facts.proofs.Lemmas.{none_listed, head_or_tail, tie_itself, one_that_passes}
use Rattle.cvr_facts.proofs.Lemmas.{passes_by}
use Rattle.cvr_office.specs.Alike.{HasReached}
use Rattle.cvr_office.specs.declared.event.Cause.{Cause}
use Rattle.cvr_office.specs.declared.event.Cause.TheVariants.{NoOffice, NoFile}
use Rattle.cvr_office.specs.declared.event.Event.{Event}
use Rattle.cvr_office.specs.declared.event.Event.TheVariants.{Import, Exchange}
use Rattle.cvr_office.specs.CanHold.{starting_content}
use Rattle.cvr_office.specs.Reach.{Origin, Start, File, Origins, origin_cmp, History, origins_after}
use Rattle.cvr_office.specs.Reach.{origins_at, origin_facts, union_over, content}
use Rattle.cvr_office.proofs.Lemmas.{contains-union_over, over_insert, over_union, or_cases}
use Rattle.cvr_office.proofs.Lemmas.{or_left, or_right, at_eq, is_eq, origin_total, origin_exact}
use Rattle.cvr_office.proofs.Lemmas.{tie_is}
use Rattle.cvr_office.proofs.Laws.{content-none}
use Rattle.cvr_run.specs.Drill.{certain_due, exchange_due, event_due, brings, outcome_by}
use Rattle.cvr_run.specs.Drill.{new_offices, past_of}
use Rattle.cvr_run.specs.Laws.{HasAccepted}
use Rattle.cvr_run.specs.Outcome.{accepted_facts, content_of_files}
use Rattle.cvr_run.specs.Refusals.{no_due, file_due}
use Rattle.cvr_run.proofs.Members.{value_facts, AreFactsOf, same_by_values}
use Rattle.cvr_run.proofs.Members.{placed, from_place, held_of}

-- ---- one event

-- an import that isn't refused is of a file that is there, and accepted
there_of : (a b : Bool) (first : Option ReadFault)
    → (if a then certain_due NoOffice else (if b then certain_due NoFile else file_due first)).cause
    ≡ None → b ≡ false
there_of a b first is = grind arith

pub accepted_of : (a b : Bool) (first : Option ReadFault)
    → (if a then certain_due NoOffice else (if b then certain_due NoFile else file_due first)).cause
    ≡ None → first ≡ None
accepted_of a b first is = grind arith

not_eq : (k o : ℕ) → k ≢ o → (b : Bool) → (k == o) ≡ b → (k == o) ≡ false
not_eq k o apart true is = absurd (apart (at_eq k o is))
not_eq k o apart false is = is

accepted_way : (b : Bool) → (if b then no_due else exchange_due).cause ≡ None
accepted_way true = refl
accepted_way false = refl

-- a new office has its definition's devices
only_start : (s : Facts) (n o : ℕ) (q : Fact) → contains (get_or (replicate n s) o empty) q ≡ true
    → contains s q ≡ true
only_start s zero o q h = absurd (false≢true (sym (contains-empty fact_cmp q) ∙ h))
only_start s (suc n) zero q h = h
only_start s (suc n) (suc o) q h = only_start s n o q h

-- of two sets of origins one is chosen
of_both : (b : Bool) (s t : Origins) (x : Origin) → contains s x ≡ true → contains t x ≡ true
    → contains (cond b s t) x ≡ true
of_both true s t x h other = h
of_both false s t x h other = other

of_either : (b : Bool) (s t : Origins) (x : Origin) → contains (cond b s t) x ≡ true
    → (contains s x ≡ true) ⊎ (contains t x ≡ true)
of_either true s t x h = inl h
of_either false s t x h = inr h

one_file : (f g : ℕ) → File f ≡ File g → f ≡ g
one_file f g same = Prim.cc same

-- before any event no file has reached an office
no_file : (o f : ℕ) → contains (origins_at [] o) (File f) ≡ true → ⊥
no_file o f h =
    elim (or_cases (eq_by_cmp origin_cmp (File f) (Start o)) _
    (sym (contains-insert origin_total empty (Start o) (File f)) ∙ h)) [
      | inl ties ↦ let same : File f ≡ Start o =
          tie_is origin_total origin_exact (File f) (Start o) ties in absurd (Prim.cc same)
      | inr other ↦ absurd (false≢true (sym (contains-empty origin_cmp (File f)) ∙ other))
    ]

module _ (definition : Frame) (n : ℕ) (files : List (List ℕ)) where
  abbrev starts : List Facts
  starts = new_offices definition n

  -- what the office o holds after these events, the newest first
  abbrev pub held_at : List Event → ℕ → Facts
  held_at es o = content starts files (past_of definition n files es) o

  -- what an event brings to the office o, refused or not
  abbrev pub gained : Option Cause → Event → (ℕ → Facts) → ℕ → Facts
  gained None (Import p f) before o = cond (o == p) (facts (get_or files f [])) empty
  gained None (Exchange p k) before o = cond (o == k) (before p) empty
  gained (Some cause) e before o = empty

  module _ (past : History) where
    imported : (b : Bool) (f o : ℕ) → union_over (origin_facts starts files)
        (items (cond b (insert (origins_at past o) (File f)) (origins_at past o)))
        ≡ union (content starts files past o) (cond b (facts (get_or files f [])) empty)
    imported true f o = over_insert origin_total origin_exact (origin_facts starts files)
        (origins_at past o) (File f)
    imported false f o = sym (union_empty fact_total fact_exact (content starts files past o))

    exchanged : (b : Bool) (p o : ℕ) → union_over (origin_facts starts files)
        (items (cond b (union (origins_at past o) (origins_at past p)) (origins_at past o)))
        ≡ union (content starts files past o) (cond b (content starts files past p) empty)
    exchanged true p o = over_union origin_total origin_exact (origin_facts starts files)
        (origins_at past o) (origins_at past p)
    exchanged false p o = sym (union_empty fact_total fact_exact (content starts files past o))

    content_more : (e : Event) (cause : Option Cause) (k o : ℕ)
        → content starts files ((e, outcome_by cause k) ∷ past) o
        ≡ union (content starts files past o) (gained cause e (content starts files past) o)
    content_more (Import p f) None k o = imported (o == p) f o
    content_more (Exchange p q) None k o = exchanged (o == q) p o
    content_more (Import p f) (Some cause) k o =
        sym (union_empty fact_total fact_exact (content starts files past o))
    content_more (Exchange p q) (Some cause) k o =
        sym (union_empty fact_total fact_exact (content starts files past o))

  pub held_more : (e : Event) (es : List Event) (o : ℕ)
      → held_at (e ∷ es) o ≡ union (held_at es o)
      (gained (event_due definition n files e).cause e (held_at es) o)
  held_more e es o =
      let past = past_of definition n files es in
      content_more past e (event_due definition n files e).cause
      (brings files (content starts files past) e) o

  has_more : (e : Event) (es : List Event) (o : ℕ) (q : Fact)
      → contains (held_at (e ∷ es) o) q
      ≡ (contains (held_at es o) q || contains
      (gained (event_due definition n files e).cause e (held_at es) o) q)
  has_more e es o q = ap (λ s. contains s q) (held_more e es o)
      ∙ contains-union fact_total (held_at es o)
      (gained (event_due definition n files e).cause e (held_at es) o) q

  -- ---- an import, and an exchange

  pub import_due : (o f : ℕ) → o < n → f < length files
      → event_due definition n files (Import o f)
      ≡ file_due (first_refusal definition (get_or files f []))
  import_due o f lo lf =
      let office : nat_le n o ≡ false = lt-leb n o lo in
      let file : nat_le (length files) f ≡ false = lt-leb (length files) f lf in
      λ i. if office i then certain_due NoOffice
      else (if file i then certain_due NoFile
      else file_due (first_refusal definition (get_or files f [])))

  exchange_is : (p o : ℕ) → p < n → o < n
      → (event_due definition n files (Exchange p o)).cause ≡ None
  exchange_is p o lp lo =
      ap (λ b. (if b then certain_due NoOffice
      else (if p == o then no_due else exchange_due)).cause)
      (or_from (nat_le n p) (nat_le n o) (lt-leb n p lp) (lt-leb n o lo))
      ∙ accepted_way (p == o)

  -- one that imports a file holds its facts besides, where it is accepted
  gained_here : (first : Option ReadFault) (o f : ℕ) (before : ℕ → Facts)
      → gained (file_due first).cause (Import o f) before o
      ≡ (if is_some first then empty else facts (get_or files f []))
  gained_here None o f before = ap (λ b. cond b (facts (get_or files f [])) empty) (is_eq o o refl)
  gained_here (Some fault) o f before = refl

  pub taken_in : (o f : ℕ) (es : List Event) → o < n → f < length files
      → held_at (Import o f ∷ es) o ≡ union (held_at es o)
      (accepted_facts definition (get_or files f []))
  taken_in o f es lo lf =
      held_more (Import o f) es o
      ∙ (ap (λ d. union (held_at es o) (gained d.cause (Import o f) (held_at es) o))
      (import_due o f lo lf)
      ∙ ap (union (held_at es o)) (gained_here (first_refusal definition (get_or files f [])) o f
      (held_at es)))

  gained_elsewhere : (cause : Option Cause) (o f k : ℕ) (before : ℕ → Facts) → k ≢ o
      → gained cause (Import o f) before k ≡ empty
  gained_elsewhere None o f k before apart =
      ap (λ b. cond b (facts (get_or files f [])) empty) (not_eq k o apart (k == o) refl)
  gained_elsewhere (Some cause) o f k before apart = refl

  pub left_in : (o f k : ℕ) (es : List Event) → k ≢ o → held_at (Import o f ∷ es) k ≡ held_at es k
  left_in o f k es apart =
      held_more (Import o f) es k
      ∙ (ap (union (held_at es k)) (gained_elsewhere
      (event_due definition n files (Import o f)).cause o f k (held_at es) apart)
      ∙ union_empty fact_total fact_exact (held_at es k))

  -- the office that takes holds what both held
  pub taken : (p o : ℕ) (es : List Event) → p < n → o < n
      → held_at (Exchange p o ∷ es) o ≡ union (held_at es o) (held_at es p)
  taken p o es lp lo =
      held_more (Exchange p o) es o
      ∙ (ap (λ cause. union (held_at es o) (gained cause (Exchange p o) (held_at es) o))
      (exchange_is p o lp lo)
      ∙ ap (λ b. union (held_at es o) (cond b (held_at es p) empty)) (is_eq o o refl))

  -- and each other what it held
  pub left : (p o k : ℕ) (es : List Event) → p < n → o < n → k ≢ o
      → held_at (Exchange p o ∷ es) k ≡ held_at es k
  left p o k es lp lo apart =
      held_more (Exchange p o) es k
      ∙ (ap (λ cause. union (held_at es k) (gained cause (Exchange p o) (held_at es) k))
      (exchange_is p o lp lo)
      ∙ (ap (λ b. union (held_at es k) (cond b (held_at es p) empty))
      (not_eq k o apart (k == o) refl)
      ∙ union_empty fact_total fact_exact (held_at es k)))

  -- what it began with stays
  started : (es : List Event) (o : ℕ) (q : Fact) → o < n
      → contains (starting_content definition) q ≡ true → contains (held_at es o) q ≡ true
  started [] o q lt h = ap (λ s. contains s q)
      (content-none starts files o ∙ get_or-replicate n o (starting_content definition) empty lt)
      ∙ h
  started (e ∷ es) o q lt h = has_more e es o q ∙ or_left _ _ (started es o q lt h)

  -- ---- the files that have reached an office

  abbrev reached_at : List Event → ℕ → Origins
  reached_at es = origins_at (past_of definition n files es)

  abbrev HasCome : List Event → ℕ → ℕ → Type 0
  HasCome es o f = contains (reached_at es o) (File f) ≡ true

  -- one that has come stays
  kept : (e : Event) (cause : Option Cause) (k o f : ℕ) (before : ℕ → Origins)
      → contains (before o) (File f) ≡ true
      → contains (origins_after e (outcome_by cause k) before o) (File f) ≡ true
  kept (Import p g) None k o f before h =
      of_both (o == p) (insert (before o) (File g)) (before o) (File f)
      (contains-insert origin_total (before o) (File g) (File f)
      ∙ or_right (eq_by_cmp origin_cmp (File f) (File g)) _ h) h
  kept (Exchange p m) None k o f before h =
      of_both (o == m) (union (before o) (before p)) (before o) (File f)
      (contains-union origin_total (before o) (before p) (File f) ∙ or_left _ _ h) h
  kept (Import p g) (Some cause) k o f before h = h
  kept (Exchange p m) (Some cause) k o f before h = h

  stays : (e : Event) (es : List Event) (o f : ℕ) → HasCome es o f → HasCome (e ∷ es) o f
  stays e es o f h = kept e (event_due definition n files e).cause (brings files (held_at es) e) o f
      (reached_at es) h

  -- an accepted file comes to the office that imports it
  abbrev IsThere : ℕ → Type 0
  IsThere f = (f < length files) × (first_refusal definition (get_or files f []) ≡ None)

  comes : (o f : ℕ) (es : List Event) → o < n → IsThere f → HasCome (Import o f ∷ es) o f
  comes o f es lt there =
      let before = reached_at es in
      let none : (event_due definition n files (Import o f)).cause
      ≡ None = ap (λ d. d.cause) (import_due o f lt there.0)
      ∙ ap (λ first. (file_due first).cause) there.1 in
      ap (λ cause. contains (origins_after (Import o f)
      (outcome_by cause (brings files (held_at es) (Import o f))) before o) (File f)) none
      ∙ (ap (λ b. contains (cond b (insert (before o) (File f)) (before o)) (File f))
      (is_eq o o refl)
      ∙ (contains-insert origin_total (before o) (File f) (File f)
      ∙ or_left _ _ (tie_itself origin_total (File f) (File f) refl)))

  came : (es : List Event) (o f : ℕ) → o < n → IsThere f → Contains es (Import o f) → HasCome es o f
  came [] o f lt there at = absurd (none_listed (Import o f) at)
  came (e ∷ es) o f lt there at =
      elim (head_or_tail e (Import o f) es at) [
        | inl is ↦ subst (λ x. HasCome (x ∷ es) o f) (sym is) (comes o f es lt there)
        | inr more ↦ stays e es o f (came es o f lt there more)
      ]

  -- and from an office to that which takes in what it holds
  passed : (p o f : ℕ) (es : List Event) → p < n → o < n → HasCome es p f
      → HasCome (Exchange p o ∷ es) o f
  passed p o f es lp lo h =
      let before = reached_at es in
      ap (λ cause. contains (origins_after (Exchange p o)
      (outcome_by cause (brings files (held_at es) (Exchange p o))) before o) (File f))
      (exchange_is p o lp lo)
      ∙ (ap (λ b. contains (cond b (union (before o) (before p)) (before o)) (File f))
      (is_eq o o refl)
      ∙ (contains-union origin_total (before o) (before p) (File f)
      ∙ or_right (contains (before o) (File f)) _ h))

  -- each that has come is there, and accepted
  from_more : (e : Event) (cause : Option Cause) (k o f : ℕ) (before : ℕ → Origins)
      → (event_due definition n files e).cause ≡ cause
      → ((m : ℕ) → contains (before m) (File f) ≡ true → IsThere f)
      → contains (origins_after e (outcome_by cause k) before o) (File f) ≡ true → IsThere f
  from_more (Import p g) None k o f before is all h =
      elim (of_either (o == p) (insert (before o) (File g)) (before o) (File f) h) [
        | inl now ↦ elim (or_cases (eq_by_cmp origin_cmp (File f) (File g)) _
            (sym (contains-insert origin_total (before o) (File g) (File f)) ∙ now)) [
              | inl ties ↦ subst IsThere (sym
                  (one_file f g (tie_is origin_total origin_exact (File f) (File g) ties))) (
                    leb-false (length files) g (there_of (nat_le n p) (nat_le (length files) g)
                        (first_refusal definition (get_or files g [])) is),
                    accepted_of (nat_le n p) (nat_le (length files) g)
                        (first_refusal definition (get_or files g [])) is,
                  )
              | inr earlier ↦ all o earlier
            ]
        | inr earlier ↦ all o earlier
      ]
  from_more (Exchange p m) None k o f before is all h =
      elim (of_either (o == m) (union (before o) (before p)) (before o) (File f) h) [
        | inl now ↦ elim (or_cases (contains (before o) (File f)) _
            (sym (contains-union origin_total (before o) (before p) (File f)) ∙ now)) [
              | inl own ↦ all o own
              | inr taken ↦ all p taken
            ]
        | inr earlier ↦ all o earlier
      ]
  from_more (Import p g) (Some cause) k o f before is all h = all o h
  from_more (Exchange p m) (Some cause) k o f before is all h = all o h

  pub is_there : (es : List Event) (o f : ℕ) → HasCome es o f → IsThere f
  is_there [] o f h = absurd (no_file o f h)
  is_there (e ∷ es) o f h =
      from_more e (event_due definition n files e).cause (brings files (held_at es) e) o f
      (reached_at es) refl (λ m. is_there es m f) h

  -- ---- what an office holds is of the values that have reached it

  of_origin : (es : List Event) (o : ℕ) (q : Fact) (x : Origin)
      → contains (reached_at es o) x ≡ true → contains (origin_facts starts files x) q ≡ true
      → (contains (starting_content definition) q ≡ true)
      ⊎ ((v : Data) × HasReached files (past_of definition n files es) o v
      × (contains (value_facts v) q ≡ true))
  of_origin es o q (Start k) had h = inl (only_start (starting_content definition) n k q h)
  of_origin es o q (File f) had h = inr (value_in (get_or files f []), (f, had, refl), h)

  pub reached_of : (es : List Event) (o : ℕ) → o < n
      → AreFactsOf definition (HasReached files (past_of definition n files es) o) (held_at es o)
  reached_of es o lt q =
      let has = λ (x : Origin). contains (origin_facts starts files x) q in
      let all = reached_at es o in
      let is : contains (held_at es o) q ≡ list_any has (items all) =
      contains-union_over (origin_facts starts files) (items all) q in (
        λ h. let one = one_that_passes has (items all) (sym is ∙ h) in
            of_origin es o q one.0 (contains-items all one.0
            ∙ list_any-from_Contains (eq_by_cmp_equiv origin_total) one.0 (items all) one.1)
            one.2,
        λ from. elim from [
          | inl at_first ↦ started es o q lt at_first
          | inr more ↦
              let file = more.1 in
              let listed = Contains-from_any (tie_is origin_total origin_exact) (File file.0)
              (items all) (sym (contains-items all (File file.0)) ∙ file.1) in
              is ∙ passes_by has (items all) (File file.0) listed
              (ap (λ (v : Data). contains (value_facts v) q) file.2 ∙ more.2)
        ],
      )

  -- those of the files that are there are all
  only_accepted : (es : List Event) (o : ℕ) (v : Data)
      → HasReached files (past_of definition n files es) o v → HasAccepted definition files v
  only_accepted es o v has =
      let there = is_there es o has.0 has.1 in
      from_place definition files v (
        has.0,
        there.0,
        (valid_file definition (get_or files has.0 [])).0 there.1,
        has.2,
      )

  all_held : (es : List Event) (o : ℕ) → o < n
      → ((v : Data) → HasAccepted definition files v
      → HasReached files (past_of definition n files es) o v)
      → held_at es o ≡ content_of_files definition files
  all_held es o lt all =
      same_by_values definition (HasReached files (past_of definition n files es) o)
      (HasAccepted definition files) (held_at es o) (content_of_files definition files)
      (reached_of es o lt) (held_of definition files) (λ v. (only_accepted es o v, all v))

  -- ---- imports of each value

  -- an accepted file of this value is imported into the office o
  abbrev pub TakesIn : List Event → ℕ → Data → Type 0
  TakesIn es o v = (f : ℕ) × IsThere f × Contains es (Import o f)
      × (value_in (get_or files f []) ≡ v)

  came_by : (es : List Event) (o : ℕ) (v : Data) → o < n → TakesIn es o v
      → HasReached files (past_of definition n files es) o v
  came_by es o v lt takes = (takes.0, came es o takes.0 lt takes.1 takes.2, takes.3)

  pub all_here : (es : List Event) (o : ℕ) → o < n
      → ((v : Data) → HasAccepted definition files v → TakesIn es o v)
      → held_at es o ≡ content_of_files definition files
  all_here es o lt each = all_held es o lt (λ v has. came_by es o v lt (each v has))

  -- where each place is
  pub each_here : (es : List Event) (o : ℕ) → o < n
      → ((f : ℕ) → f < length files → Contains es (Import o f))
      → held_at es o ≡ content_of_files definition files
  each_here es o lt each = all_here es o lt (λ v has.
      let at = placed definition files v has in
      (at.0, (at.1, (valid_file definition (get_or files at.0 [])).1 at.2), each at.0 at.1, at.3))

  -- ---- both ways

  module _ (p o : ℕ) (lp : p < n) (lo : o < n) (es : List Event)
      (each : (v : Data) → HasAccepted definition files v → TakesIn es p v ⊎ TakesIn es o v) where
    all_there : (v : Data) → HasAccepted definition files v
        → HasReached files (past_of definition n files (Exchange p o ∷ es)) o v
    all_there v has =
        elim (each v has) [
          | inl with_p ↦ let had =
              came_by es p v lp with_p in (had.0, passed p o had.0 es lp lo had.1, had.2)
          | inr with_o ↦ let had =
              came_by es o v lo with_o in (had.0, stays (Exchange p o) es o had.0 had.1, had.2)
        ]

    pub first_of_both : held_at (Exchange o p ∷ Exchange p o ∷ es) p
        ≡ content_of_files definition files
    first_of_both = all_held (Exchange o p ∷ Exchange p o ∷ es) p lp
        (λ v has. let had = all_there v has in
        (had.0, passed o p had.0 (Exchange p o ∷ es) lo lp had.1, had.2))

    pub second_of_both : held_at (Exchange o p ∷ Exchange p o ∷ es) o
        ≡ content_of_files definition files
    second_of_both = all_held (Exchange o p ∷ Exchange p o ∷ es) o lo
        (λ v has. let had = all_there v has in
        (had.0, stays (Exchange o p) (Exchange p o ∷ es) o had.0 had.1, had.2))
