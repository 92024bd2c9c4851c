-- The outcomes that are due to the events of a drill are such as may be answered for them.
use Rattle.std.proofs.Common.{◌≡◌, ℕ, ◌==◌, ◌<◌, ◌||◌, inl, List, [], ◌∷◌, length, get_or, Bool}
use Rattle.std.proofs.Common.{true, false, refl, sym, ap, ◌∙◌, arith}
use Rattle.std.specs.Prelude.{nat_le, replicate, if◌then◌else◌}
use Rattle.std.proofs.lemmas.Bool.{lt-leb, le-leb, or_from, or_right}
use Rattle.std.proofs.lemmas.List.{length-replicate}
use Rattle.cdf_definition.specs.Frame.{Frame}
use Rattle.cdf_definition.specs.Acceptance.{first_refusal}
use Rattle.cvr_fact_types.specs.Facts.{Facts}
use Rattle.cvr_office.specs.declared.event.Cause.TheVariants.{NoOffice, NoFile}
use Rattle.cvr_office.specs.declared.event.Event.{Event}
use Rattle.cvr_office.specs.declared.event.Event.TheVariants.{Import, Exchange}
use Rattle.cvr_office.specs.declared.event.Outcome.{Outcome}
use Rattle.cvr_office.specs.declared.event.Outcome.TheVariants.{Accepted}
use Rattle.cvr_office.specs.Readers.{growth}
use Rattle.cvr_office.specs.Reach.{content}
use Rattle.cvr_office.specs.Outcomes.{due_outcome, IsImportOutcome, IsExchangeOutcome}
use Rattle.cvr_office.specs.Outcomes.{IsOutcome}
use Rattle.cvr_office.proofs.Lemmas.{growth-itself}
use Rattle.cvr_run.specs.Drill.{certain_due, exchange_due, event_due, brings, outcome_by}
use Rattle.cvr_run.specs.Drill.{new_offices, past_of}
use Rattle.cvr_run.specs.Laws.{DueLaw}
use Rattle.cvr_run.specs.Refusals.{no_due, file_due}
use Rattle.cvr_run.proofs.Steps.{due_by, frame_at, alike}

module _ (definition : Frame) (n : ℕ) (files : List (List ℕ)) where
  abbrev frames : List Frame
  frames = replicate n definition

  frames_count : length frames ≡ n
  frames_count = length-replicate n definition

  abbrev due_of : (ℕ → Facts) → Event → Outcome
  due_of held e = outcome_by (event_due definition n files e).cause (brings files held e)

  inside : (b : Bool) (k : ℕ) → outcome_by (if b then no_due else exchange_due).cause k ≡ Accepted k
  inside true k = refl
  inside false k = refl

  exchanged : (held : ℕ → Facts) (p o : ℕ) → p < n → o < n
      → due_of held (Exchange p o) ≡ Accepted (growth (held o) (held p))
  exchanged held p o lp lo =
      ap (λ b. outcome_by (if b then certain_due NoOffice
      else (if p == o then no_due else exchange_due)).cause (growth (held o) (held p)))
      (or_from (nat_le n p) (nat_le n o) (lt-leb n p lp) (lt-leb n o lo))
      ∙ inside (p == o) (growth (held o) (held p))

  due_import : (held : ℕ → Facts) (o f : ℕ)
      → IsImportOutcome frames files held o f (due_of held (Import o f))
  due_import held o f =
      let k = brings files held (Import o f) in
      let first = first_refusal definition (get_or files f []) in
      record {
        no_office = λ above. ap (λ b. outcome_by
            (if b then certain_due NoOffice
            else (if nat_le (length files) f then certain_due NoFile else file_due first)).cause k)
            (le-leb n o (omega (arith, above, frames_count)));
        no_file = λ there none.
            let lo : nat_le n o ≡ false = lt-leb n o (omega (arith, there, frames_count)) in
            let nf : nat_le (length files) f ≡ true = le-leb (length files) f none in
            λ i. outcome_by (if lo i then certain_due NoOffice
            else (if nf i then certain_due NoFile else file_due first)).cause k;
        there = λ there has.
            let below : o < n = omega (arith, there, frames_count) in
            let lo : nat_le n o ≡ false = lt-leb n o below in
            let lf : nat_le (length files) f ≡ false = lt-leb (length files) f has in
            inl ((λ i. outcome_by (if lo i then certain_due NoOffice
            else (if lf i then certain_due NoFile else file_due first)).cause k)
            ∙ (sym (due_by first k) ∙ ap (λ d. due_outcome (first_refusal d (get_or files f [])) k)
            (sym (frame_at definition n files o below))));
      }

  due_exchange : (held : ℕ → Facts) (p o : ℕ)
      → IsExchangeOutcome frames held p o (due_of held (Exchange p o))
  due_exchange held p o =
      let k = growth (held o) (held p) in
      let here = if p == o then no_due else exchange_due in
      record {
        no_from = λ above. ap (λ b. outcome_by
            (if b || nat_le n o then certain_due NoOffice else here).cause k)
            (le-leb n p (omega (arith, above, frames_count)));
        no_to = λ above. ap (λ b. outcome_by (if b then certain_due NoOffice else here).cause k)
            (or_right (nat_le n p) (nat_le n o) (le-leb n o (omega (arith, above, frames_count))));
        itself = λ there same.
            let lp : p < n = omega (arith, there, frames_count) in
            exchanged held p o lp (omega (arith, lp, same))
            ∙ ap Accepted (ap (λ q. growth (held o) (held q)) same ∙ growth-itself (held o));
        other = λ from to apart not_same.
            absurd (not_same (alike definition n files p o (omega (arith, from, frames_count))
            (omega (arith, to, frames_count))));
        same = λ from to apart is_same.
            inl (exchanged held p o (omega (arith, from, frames_count))
            (omega (arith, to, frames_count)));
      }

  due_event : (held : ℕ → Facts) (e : Event) → IsOutcome frames files held e (due_of held e)
  due_event held (Import o f) = due_import held o f
  due_event held (Exchange p o) = due_exchange held p o

pub due_outcomes : DueLaw
due_outcomes definition n files [] = tt
due_outcomes definition n files (e ∷ es) = (
  due_event definition n files (content (new_offices definition n) files
      (past_of definition n files es)) e,
  due_outcomes definition n files es,
)
