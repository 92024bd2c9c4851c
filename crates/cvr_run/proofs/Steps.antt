-- The events of a drill, and what play answers for them.
use Rattle.std.proofs.Common.{◌≡◌, ◌≢◌, ℕ, zero, suc, ◌==◌, ◌<◌, ◌-◌, ◌||◌, ◌⊎◌, inl, inr, List, []}
use Rattle.std.proofs.Common.{◌∷◌, length, map, get_or, reverse, Bool, true, false, Option, Some}
use Rattle.std.proofs.Common.{None, refl, sym, ap, ◌∙◌, subst, arith, true≢false}
use Rattle.std.specs.Prelude.{nat_le, replicate, is_some, if◌then◌else◌}
use Rattle.std.specs.List.{AllByRecursion, zip, list_any}
use Rattle.std.proofs.lemmas.Bool.{cases_lt, lt-leb, le-leb, or_parts}
use Rattle.std.proofs.lemmas.List.{length-map, length-replicate, length-reverse, get_or-replicate}
use Rattle.std.proofs.lemmas.List.{get_or-map, get_or-reverse, ext_get_or}
use Rattle.std.proofs.lemmas.List.Elements.{All-from_recursion, All-get_or}
use Rattle.std.proofs.lemmas.List.FromFn.{length-map-range_with_len, get_or-map-range_with_len}
use Rattle.std.proofs.lemmas.List.Sorted.{IsPermutation-reverse, list_any-IsPermutation}
use Rattle.std.specs.FinSet.{empty}
use Rattle.std.specs.Option.{option_map_or}
use Rattle.cdf_types.specs.declared.fault.ReadFault.{ReadFault}
use Rattle.cdf_types.specs.declared.fault.ReadFault.TheVariants as read
use Rattle.cdf_definition.specs.Frame.{Frame, IsSame}
use Rattle.cdf_definition.specs.Acceptance.{first_refusal}
use Rattle.cvr_fact_types.specs.Facts.{Facts}
use Rattle.cvr_office.specs.declared.event.Event.{Event}
use Rattle.cvr_office.specs.declared.event.Event.TheVariants.{Import, Exchange}
use Rattle.cvr_office.specs.declared.event.Outcome.{Outcome}
use Rattle.cvr_office.specs.declared.event.Outcome.TheVariants.{Accepted, Refused}
use Rattle.cvr_office.specs.declared.event.Cause.{Cause}
use Rattle.cvr_office.specs.declared.event.Cause.TheVariants.{Read, Join, NoOffice, NoFile}
use Rattle.cvr_office.specs.declared.fault.JoinFault.TheVariants as join
use Rattle.cvr_office.specs.Readers.{growth}
use Rattle.cvr_office.specs.Reach.{History, history, content}
use Rattle.cvr_office.specs.Outcomes.{no_frame, due_outcome, IsImportOutcome, IsExchangeOutcome}
use Rattle.cvr_office.specs.Outcomes.{IsOutcome, AreOutcomes}
use Rattle.cvr_office.proofs.Lemmas.{at_eq, is_eq, map-reverse, growth-itself}
use Rattle.cvr_words.specs.declared.request.Step.{Step}
use Rattle.cvr_run.specs.Drill.{events_of, certain_due, exchange_due, event_due, step_due}
use Rattle.cvr_run.specs.Drill.{step_dues, drill_refused, brings, outcome_by, new_offices, past_of}
use Rattle.cvr_run.specs.Drill.{drill_contents}
use Rattle.cvr_run.specs.Refusals.{Due, no_due, file_due, IsDue, AreDue, cause_in, is_refusal}
use Rattle.cvr_run.specs.Refusals.{is_want, wants_memory}

-- ---- one outcome

pub file_told : (first : Option ReadFault) (n : ℕ)
    → IsDue (file_due first) (cause_in (due_outcome first n))
file_told first n = grind arith

pub due_by : (first : Option ReadFault) (n : ℕ)
    → due_outcome first n ≡ outcome_by (file_due first).cause n
due_by None n = refl
due_by (Some fault) n = refl

-- what is known of an outcome: it is due, and it is the one that is due unless memory ran out
pub record IsTold (d : Due) (n : ℕ) (r : Outcome) : Type 0 where
  pub is_due : IsDue d (cause_in r)
  pub exact : is_want r ≡ false → r ≡ outcome_by d.cause n

told_certain : (cause : Cause) (n : ℕ) (r : Outcome) → wants_memory cause ≡ false
    → r ≡ Refused cause → IsTold (certain_due cause) n r
told_certain cause n r not is = subst (IsTold (certain_due cause) n) (sym is) (record {
  is_due = ap (λ want. if want then None else Some cause) not;
  exact = λ working. refl;
})

pub told_import : (first : Option ReadFault) (n : ℕ) (r : Outcome)
    → (r ≡ due_outcome first n) ⊎ (r ≡ Refused (Read read.Memory)) → IsTold (file_due first) n r
told_import first n r (inl is) = subst (IsTold (file_due first) n) (sym is)
    (record { is_due = file_told first n; exact = λ working. due_by first n })
told_import first n r (inr is) = subst (IsTold (file_due first) n) (sym is)
    (record { is_due = refl; exact = λ working. absurd (true≢false working) })

told_exchange : (n : ℕ) (r : Outcome) → (r ≡ Accepted n) ⊎ (r ≡ Refused (Join join.Memory))
    → IsTold exchange_due n r
told_exchange n r (inl is) =
    subst (IsTold exchange_due n) (sym is) (record { is_due = refl; exact = λ working. refl })
told_exchange n r (inr is) = subst (IsTold exchange_due n) (sym is)
    (record { is_due = refl; exact = λ working. absurd (true≢false working) })

told_none : (n : ℕ) (r : Outcome) → r ≡ Accepted n → IsTold no_due n r
told_none n r is =
    subst (IsTold no_due n) (sym is) (record { is_due = refl; exact = λ working. refl })

module _ (definition : Frame) (n : ℕ) (files : List (List ℕ)) where
  abbrev pub frames : List Frame
  frames = replicate n definition

  abbrev starts : List Facts
  starts = new_offices definition n

  frames_count : length frames ≡ n
  frames_count = length-replicate n definition

  pub frame_at : (o : ℕ) → o < n → get_or frames o no_frame ≡ definition
  frame_at o lt = get_or-replicate n o definition no_frame lt

  pub alike : (p o : ℕ) → p < n → o < n → IsSame (get_or frames o no_frame)
      (get_or frames p no_frame)
  alike p o lp lo = subst (λ f. IsSame f (get_or frames p no_frame)) (sym (frame_at o lo))
      (subst (IsSame definition) (sym (frame_at p lp))
      (record { elections = refl; units = refl; parties = refl }))

  import_told : (held : ℕ → Facts) (o f : ℕ) (r : Outcome) → IsImportOutcome frames files held o f r
      → IsTold (event_due definition n files (Import o f)) (brings files held (Import o f)) r
  import_told held o f r out =
      let number = brings files held (Import o f) in
      let file = file_due (first_refusal definition (get_or files f [])) in
      elim (cases_lt o n) [
        | inr above ↦ subst (λ b. IsTold
            (if b then certain_due NoOffice
            else (if nat_le (length files) f then certain_due NoFile else file)) number r)
            (sym (le-leb n o above))
            (told_certain NoOffice number r refl
            (out.no_office (omega (arith, above, frames_count))))
        | inl lo ↦
            let there : o < length frames = omega (arith, lo, frames_count) in
            subst (λ b. IsTold (if b then certain_due NoOffice
            else (if nat_le (length files) f then certain_due NoFile else file)) number r)
            (sym (lt-leb n o lo))
            (elim (cases_lt f (length files)) [
              | inr none ↦ subst (λ b. IsTold (if b then certain_due NoFile else file) number r)
                  (sym (le-leb (length files) f none))
                  (told_certain NoFile number r refl (out.no_file there none))
              | inl lf ↦ subst (λ b. IsTold (if b then certain_due NoFile else file) number r)
                  (sym (lt-leb (length files) f lf))
                  (told_import (first_refusal definition (get_or files f [])) number r
                  (subst (λ d. (r ≡ due_outcome (first_refusal d (get_or files f [])) number)
                  ⊎ (r ≡ Refused (Read read.Memory))) (frame_at o lo) (out.there there lf)))
            ])
      ]

  exchange_told : (held : ℕ → Facts) (p o : ℕ) (r : Outcome) → IsExchangeOutcome frames held p o r
      → IsTold (event_due definition n files (Exchange p o)) (brings files held (Exchange p o)) r
  exchange_told held p o r out =
      let number = brings files held (Exchange p o) in
      let inside = if p == o then no_due else exchange_due in
      elim (cases_lt p n) [
        | inr above ↦ subst (λ b. IsTold (if b || nat_le n o then certain_due NoOffice else inside)
            number r) (sym (le-leb n p above))
            (told_certain NoOffice number r refl (out.no_from (omega (arith, above, frames_count))))
        | inl lp ↦
            subst (λ b. IsTold (if b || nat_le n o then certain_due NoOffice else inside) number r)
            (sym (lt-leb n p lp))
            (elim (cases_lt o n) [
              | inr above ↦ subst (λ b.
                  IsTold (if b then certain_due NoOffice else inside) number r)
                  (sym (le-leb n o above))
                  (told_certain NoOffice number r refl
                  (out.no_to (omega (arith, above, frames_count))))
              | inl lo ↦ subst (λ b. IsTold (if b then certain_due NoOffice else inside) number r)
                  (sym (lt-leb n o lo)) (inside_told held p o r lp lo out (p == o) refl)
            ])
      ]
    where
      inside_told : (held : ℕ → Facts) (p o : ℕ) (r : Outcome) → p < n → o < n
          → IsExchangeOutcome frames held p o r → (b : Bool) → (p == o) ≡ b
          → IsTold (if p == o then no_due else exchange_due) (growth (held o) (held p)) r
      inside_told held p o r lp lo out true e =
          let same : p ≡ o = at_eq p o e in
          subst (λ b. IsTold (if b then no_due else exchange_due) (growth (held o) (held p)) r)
          (sym e)
          (told_none (growth (held o) (held p)) r
          (out.itself (omega (arith, lp, frames_count)) same
          ∙ ap Accepted (sym (ap (λ q. growth (held o) (held q)) same
          ∙ growth-itself (held o)))))
      inside_told held p o r lp lo out false e =
          let apart : p ≢ o = λ same. true≢false (sym (is_eq p o same) ∙ e) in
          subst (λ b. IsTold (if b then no_due else exchange_due) (growth (held o) (held p)) r)
          (sym e)
          (told_exchange (growth (held o) (held p)) r
          (out.same (omega (arith, lp, frames_count)) (omega (arith, lo, frames_count)) apart
          (alike p o lp lo)))

  event_told : (held : ℕ → Facts) (e : Event) (r : Outcome) → IsOutcome frames files held e r
      → IsTold (event_due definition n files e) (brings files held e) r
  event_told held (Import o f) r out = import_told held o f r out
  event_told held (Exchange p o) r out = exchange_told held p o r out

  -- ---- all outcomes, the newest first

  abbrev DueIn : Event × Outcome → Type 0
  DueIn p = IsDue (event_due definition n files p.0) (cause_in p.1)

  all_due : (past : History) → AreOutcomes starts frames files past → AllByRecursion DueIn past
  all_due [] out = tt
  all_due (e ∷ past) out = (
    (event_told (content starts files past) e.0 e.1 out.0).is_due,
    all_due
        past out.1,
  )

  exact_past : (past : History) → AreOutcomes starts frames files past
      → list_any (λ p. is_want p.1) past ≡ false
      → past ≡ past_of definition n files (map (λ p. p.0) past)
  exact_past [] out working = refl
  exact_past (e ∷ past) out working =
      let parts = or_parts (is_want e.1) (list_any (λ p. is_want p.1) past) working in
      let earlier = exact_past past out.1 parts.1 in
      let now : e.1 ≡ outcome_by (event_due definition n files e.0).cause
      (brings files (content starts files past) e.0) =
      (event_told (content starts files past) e.0 e.1 out.0).exact parts.0 in
      ap (λ r. (e.0, r) ∷ past) now
      ∙ ap (λ before. (
        e.0,
        outcome_by (event_due definition n files e.0).cause
            (brings files (content starts files before) e.0),
      ) ∷ before) earlier

-- ---- from a history to its events and outcomes

zip_length : {X Y : Type 0} (xs : List X) (ys : List Y) → length xs ≡ length ys
    → length (zip xs ys) ≡ length ys
zip_length [] [] h = refl
zip_length [] (y ∷ ys) h = absurd (omega arith)
zip_length (x ∷ xs) [] h = absurd (omega arith)
zip_length (x ∷ xs) (y ∷ ys) h = ap suc (zip_length xs ys (omega arith))

zip_at : {X Y : Type 0} (xs : List X) (ys : List Y) (k : ℕ) (x : X) (y : Y) → length xs ≡ length ys
    → get_or (zip xs ys) k (x, y) ≡ (get_or xs k x, get_or ys k y)
zip_at [] [] k x y h = refl
zip_at [] (b ∷ ys) k x y h = absurd (omega arith)
zip_at (a ∷ xs) [] k x y h = absurd (omega arith)
zip_at (a ∷ xs) (b ∷ ys) zero x y h = refl
zip_at (a ∷ xs) (b ∷ ys) (suc k) x y h = zip_at xs ys k x y (omega arith)

zip_firsts : {X Y : Type 0} (xs : List X) (ys : List Y) → length xs ≡ length ys
    → map (λ p. p.0) (zip xs ys) ≡ xs
zip_firsts [] [] h = refl
zip_firsts [] (y ∷ ys) h = absurd (omega arith)
zip_firsts (x ∷ xs) [] h = absurd (omega arith)
zip_firsts (x ∷ xs) (y ∷ ys) h = ap (λ zs. x ∷ zs) (zip_firsts xs ys (omega arith))

zip_any : {X Y : Type 0} (test : Y → Bool) (xs : List X) (ys : List Y) → length xs ≡ length ys
    → list_any (λ p. test p.1) (zip xs ys) ≡ list_any test ys
zip_any test [] [] h = refl
zip_any test [] (y ∷ ys) h = absurd (omega arith)
zip_any test (x ∷ xs) [] h = absurd (omega arith)
zip_any test (x ∷ xs) (y ∷ ys) h = ap (λ b. test y || b) (zip_any test xs ys (omega arith))

firsts_in : (es : List Event) (rs : List Outcome) → length es ≡ length rs
    → map (λ p. p.0) (history es rs) ≡ reverse es
firsts_in es rs same =
    map-reverse (λ (p : Event × Outcome). p.0) (zip es rs) ∙ ap reverse (zip_firsts es rs same)

wants_in : (es : List Event) (rs : List Outcome) → length es ≡ length rs
    → list_any is_want rs ≡ false → list_any (λ p. is_want p.1) (history es rs) ≡ false
wants_in es rs same working =
    sym (list_any-IsPermutation (λ (p : Event × Outcome). is_want p.1) (zip es rs)
    (reverse (zip es rs)) (IsPermutation-reverse (zip es rs)))
    ∙ (zip_any is_want es rs same ∙ working)

one_as_due : (d : Due) (cause : Option Cause) → IsDue d cause
    → option_map_or wants_memory cause false ≡ false → is_some cause ≡ is_some d.cause
one_as_due d None is working = sym (ap is_some is)
one_as_due d (Some cause) is working =
    sym (ap is_some (ap (λ want. if want then d.want else d.cause) (sym working) ∙ is))

pub refused_as_due : (dues : List Due) (rs : List Outcome) → length dues ≡ length rs
    → ((k : ℕ) → k < length rs → IsDue (get_or dues k no_due) (cause_in (get_or rs k (Accepted 0))))
    → list_any is_want rs ≡ false → list_any is_refusal rs ≡ list_any (λ d. is_some d.cause) dues
refused_as_due [] [] same each working = refl
refused_as_due [] (r ∷ rs) same each working = absurd (omega arith)
refused_as_due (d ∷ dues) [] same each working = absurd (omega arith)
refused_as_due (d ∷ dues) (r ∷ rs) same each working =
    let parts = or_parts (is_want r) (list_any is_want rs) working in
    let here = one_as_due d (cause_in r) (each 0 (omega arith)) parts.0 in
    let rest =
    refused_as_due dues rs (omega arith) (λ k lt. each (suc k) (omega (arith, lt))) parts.1 in
    λ i. here i || rest i

dues_of_events : (definition : Frame) (n : ℕ) (files : List (List ℕ)) (steps : List Step)
    → map (event_due definition n files) (events_of n steps) ≡ step_dues definition n files steps
dues_of_events definition n files [] = refl
dues_of_events definition n files (step ∷ steps) =
    ap (λ ds. step_due definition n files step ∷ ds) (dues_of_events definition n files steps)

-- the events had these outcomes
module _ (definition : Frame) (n : ℕ) (files : List (List ℕ)) (es : List Event) (rs : List Outcome)
    (count : length rs ≡ length es)
    (out : AreOutcomes (new_offices definition n) (replicate n definition) files
    (history es rs)) where
  abbrev zs : List (Event × Outcome)
  zs = zip es rs

  at_event : (k : ℕ) → k < length rs → IsDue
      (event_due definition n files (get_or es k (Exchange 0 0)))
      (cause_in (get_or rs k (Accepted 0)))
  at_event k lt =
      let many : length zs ≡ length rs = zip_length es rs (sym count) in
      let j = length zs - 1 - k in
      let back : j < length zs = omega (arith, many, lt) in
      let d : Event × Outcome = (Exchange 0 0, Accepted 0) in
      let is : get_or (reverse zs) j d ≡ (get_or es k (Exchange 0 0), get_or rs k (Accepted 0)) =
      get_or-reverse zs j d back ∙ (ap (λ i. get_or zs i d) (omega (arith, many, lt))
      ∙ zip_at es rs k (Exchange 0 0) (Accepted 0) (sym count)) in
      subst (DueIn definition n files) is
      (All-get_or (DueIn definition n files) (reverse zs) j d
      (omega (arith, back, length-reverse zs))
      (All-from_recursion (DueIn definition n files) (reverse zs)
      (all_due definition n files (history es rs) out)))

  pub events_due : AreDue (map (event_due definition n files) es) rs
  events_due = record {
    count = length-map es (event_due definition n files) ∙ sym count;
    each = λ k lt. subst (λ d. IsDue d (cause_in (get_or rs k (Accepted 0))))
        (sym (get_or-map (event_due definition n files) es k (Exchange 0 0) no_due
        (omega (arith, lt, count)))) (at_event k lt);
  }

  -- ---- where none lacked memory

  module _ (working : list_any is_want rs ≡ false) where
    pub events_refused : list_any is_refusal rs
        ≡ list_any (λ d. is_some d.cause) (map (event_due definition n files) es)
    events_refused = refused_as_due (map (event_due definition n files) es) rs events_due.count
        events_due.each working

    pub past_is : history es rs ≡ past_of definition n files (reverse es)
    past_is =
        exact_past definition n files (history es rs) out (wants_in es rs (sym count) working)
        ∙ ap (past_of definition n files) (firsts_in es rs (sym count))

-- the steps of a drill had these outcomes
module _ (definition : Frame) (n : ℕ) (files : List (List ℕ)) (steps : List Step)
    (rs : List Outcome)
    (count : length rs ≡ length (events_of n steps))
    (out : AreOutcomes (new_offices definition n) (replicate n definition) files
    (history (events_of n steps) rs)) where
  abbrev all : List Event
  all = events_of n steps

  pub steps_due : AreDue (step_dues definition n files steps) rs
  steps_due = subst (λ ds. AreDue ds rs) (dues_of_events definition n files steps)
      (events_due definition n files all rs count out)

  -- ---- where none lacked memory

  module _ (working : list_any is_want rs ≡ false) where
    pub drill_refused_is : list_any is_refusal rs ≡ drill_refused definition n files steps
    drill_refused_is = events_refused definition n files all rs count out working
        ∙ ap (list_any (λ d. is_some d.cause)) (dues_of_events definition n files steps)

    pub drilled_is : (held : List Facts) → length held ≡ n
        → ((o : ℕ) → o < n → get_or held o empty
        ≡ content (new_offices definition n) files (history all rs) o)
        → held ≡ drill_contents definition n files steps
    drilled_is held many each =
        let held_at =
        content (new_offices definition n) files (past_of definition n files (reverse all)) in
        ext_get_or empty held (drill_contents definition n files steps)
        (many ∙ sym (length-map-range_with_len held_at 0 n))
        (λ k lt.
        each k (omega (arith, lt, many))
        ∙ (ap (λ past. content (new_offices definition n) files past k)
        (past_is definition n files all rs count out working)
        ∙ sym (get_or-map-range_with_len held_at 0 n k k empty (omega (arith, lt, many))
        (omega arith))))
