-- A drill over what is held of its files is one over the files.
use Rattle.std.proofs.Common.{◌≡◌, ℕ, zero, suc, ◌==◌, List, [], ◌∷◌, map, get_or, reverse, cond}
use Rattle.std.proofs.Common.{Option, Some, None, inl, inr, refl, sym, ap, ◌∙◌, arith}
use Rattle.std.specs.Prelude.{nat_le, if◌then◌else◌}
use Rattle.std.specs.List.{range_with_len}
use Rattle.std.specs.FinSet.{union, empty}
use Rattle.std.proofs.lemmas.List.{length-map, take_all}
use Rattle.cdf_definition.specs.Frame.{Frame}
use Rattle.cdf_definition.specs.Acceptance.{value_refusal, first_refusal}
use Rattle.cvr_fact_types.specs.Facts.{Facts}
use Rattle.cvr_facts.specs.Reports.{facts}
use Rattle.cvr_office.specs.declared.event.Cause.{Cause}
use Rattle.cvr_office.specs.declared.event.Cause.TheVariants.{NoOffice, NoFile}
use Rattle.cvr_office.specs.declared.event.Event.{Event}
use Rattle.cvr_office.specs.declared.event.Event.TheVariants.{Import, Exchange}
use Rattle.cvr_office.proofs.Laws.{content-none}
use Rattle.cvr_words.specs.declared.request.Step.{Step}
use Rattle.cvr_run.specs.Drill.{event_of, events_of, certain_due, event_due, step_dues, new_offices}
use Rattle.cvr_run.specs.Drill.{drill_contents}
use Rattle.cvr_run.specs.File.{held_bytes}
use Rattle.cvr_run.specs.HeldBytes.{held_part}
use Rattle.cvr_run.specs.Refusals.{file_due}
use Rattle.cvr_run.proofs.Drilled.{held_at, gained, held_more, accepted_of}
use Rattle.cvr_run.proofs.HeldFiles.{short_or_long, too_long, same_refusal}

-- ---- a file at a place

part_at : (files : List (List ℕ)) (f : ℕ)
    → get_or (map held_part files) f [] ≡ held_part (get_or files f [])
part_at [] f = sym (take_all held_bytes [] (omega arith))
part_at (file ∷ files) zero = refl
part_at (file ∷ files) (suc f) = part_at files f

accepted_same : (definition : Frame) (file : List ℕ) → first_refusal definition file ≡ None
    → facts (held_part file) ≡ facts file
accepted_same definition file none =
    elim (short_or_long file) [
      | inl whole ↦ ap facts whole
      | inr both ↦ let long =
          sym (too_long (value_refusal definition) file both.0) ∙ none in absurd (cc)
    ]

module _ (definition : Frame) (n : ℕ) (files : List (List ℕ)) where
  abbrev others : List (List ℕ)
  others = map held_part files

  abbrev starts : List Facts
  starts = new_offices definition n

  same_first : (f : ℕ) → first_refusal definition (get_or others f [])
      ≡ first_refusal definition (get_or files f [])
  same_first f =
      ap (first_refusal definition) (part_at files f) ∙ same_refusal definition (get_or files f [])

  facts_same : (f : ℕ) → first_refusal definition (get_or files f []) ≡ None
      → facts (get_or others f []) ≡ facts (get_or files f [])
  facts_same f none = ap facts (part_at files f) ∙ accepted_same definition (get_or files f []) none

  same_event_due : (e : Event) → event_due definition n others e ≡ event_due definition n files e
  same_event_due (Import o f) =
      λ i. if nat_le n o then certain_due NoOffice
      else (if nat_le (length-map files held_part i) f then certain_due NoFile
      else file_due (same_first f i))
  same_event_due (Exchange p o) = refl

  pub same_step_dues : (steps : List Step)
      → step_dues definition n others steps ≡ step_dues definition n files steps
  same_step_dues [] = refl
  same_step_dues (step ∷ steps) =
      λ i. same_event_due (event_of n step.act) i ∷ same_step_dues steps i

  -- ---- what the offices hold

  gained_same : (before after : ℕ → Facts) → ((o : ℕ) → before o ≡ after o)
      → (e : Event) (cause : Option Cause) (o : ℕ) → (event_due definition n files e).cause ≡ cause
      → gained definition n others cause e before o ≡ gained definition n files cause e after o
  gained_same before after same (Import p f) None o is =
      ap (λ s. cond (o == p) s empty) (facts_same f (accepted_of _ _ _ is))
  gained_same before after same (Exchange p k) None o is = ap (λ s. cond (o == k) s empty) (same p)
  gained_same before after same (Import p f) (Some cause) o is = refl
  gained_same before after same (Exchange p k) (Some cause) o is = refl

  same_office : (es : List Event) (o : ℕ)
      → held_at definition n others es o ≡ held_at definition n files es o
  same_office [] o = content-none starts others o ∙ sym (content-none starts files o)
  same_office (e ∷ es) o =
      held_more definition n others e es o
      ∙ ((λ i. union (same_office es o i)
      (gained definition n others (same_event_due e i).cause e (held_at definition n others es)
      o))
      ∙ (ap (union (held_at definition n files es o))
      (gained_same (held_at definition n others es) (held_at definition n files es)
      (same_office es) e (event_due definition n files e).cause o refl)
      ∙ sym (held_more definition n files e es o)))

  pub same_drilled : (steps : List Step)
      → drill_contents definition n others steps ≡ drill_contents definition n files steps
  same_drilled steps = let es = reverse (events_of n steps) in
      ap (λ (held : ℕ → Facts). map held (range_with_len 0 n)) (λ i o. same_office es o i)
