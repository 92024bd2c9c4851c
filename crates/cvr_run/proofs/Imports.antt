-- The imports of files into one office: what they leave is what is held of the files.
use Rattle.std.proofs.Common.{◌≡◌, ℕ, zero, suc, ◌<◌, ◌≤◌, List, [], ◌∷◌, length, get_or, Contains}
use Rattle.std.proofs.Common.{inl, inr, refl, sym, ap, ◌∙◌, subst, arith}
use Rattle.std.proofs.lemmas.Bool.{cases_lt}
use Rattle.cdf_definition.specs.Frame.{Frame}
use Rattle.cdf_definition.specs.Acceptance.{first_refusal}
use Rattle.cvr_facts.proofs.Lemmas.{at_head, at_tail}
use Rattle.cvr_office.specs.declared.event.Event.{Event}
use Rattle.cvr_office.specs.declared.event.Event.TheVariants.{Import}
use Rattle.cvr_office.specs.CanHold.{starting_content}
use Rattle.cvr_office.specs.Reach.{content}
use Rattle.cvr_run.specs.Drill.{event_due, brings, outcome_by, past_of}
use Rattle.cvr_run.specs.Laws.{imports}
use Rattle.cvr_run.specs.Outcome.{content_of_files}
use Rattle.cvr_run.proofs.Drilled.{import_due, each_here}
use Rattle.cvr_run.proofs.Steps.{due_by}

-- the imports of the first n files, the newest first
abbrev down_from : ℕ → List Event
down_from zero = []
down_from (suc n) = Import 0 n ∷ down_from n

listed_below : (n f : ℕ) → f < n → Contains (down_from n) (Import 0 f)
listed_below zero f lt = absurd (omega arith)
listed_below (suc n) f lt =
    elim (cases_lt f n) [
      | inl before ↦ at_tail (Import 0 n) (Import 0 f) (down_from n) (listed_below n f before)
      | inr now ↦ let same : n ≡ f = omega (arith, lt, now) in
          subst (λ k. Contains (Import 0 n ∷ down_from n) (Import 0 k)) same
          (at_head (Import 0 n) (down_from n))
    ]

module _ (definition : Frame) (files : List (List ℕ)) where
  imports_are : (n : ℕ) → n ≤ length files
      → imports definition files n ≡ past_of definition 1 files (down_from n)
  imports_are zero le = refl
  imports_are (suc n) le =
      let past = imports definition files n in
      let held_then = content (starting_content definition ∷ []) files past in
      let first = first_refusal definition (get_or files n []) in
      ap (λ r. (Import 0 n, r) ∷ past)
      (due_by first (brings files held_then (Import 0 n))
      ∙ ap (λ d. outcome_by d.cause (brings files held_then (Import 0 n)))
      (sym (import_due definition 1 files 0 n (omega arith) (omega arith))))
      ∙ ap (λ before. (
        Import 0 n,
        outcome_by (event_due definition 1 files (Import 0 n)).cause
            (brings files (content (starting_content definition ∷ []) files before) (Import 0 n)),
      )
      ∷ before) (imports_are n (omega arith))

  pub content_is_held : content (starting_content definition ∷ []) files
      (imports definition files (length files)) 0 ≡ content_of_files definition files
  content_is_held =
      ap (λ past. content (starting_content definition ∷ []) files past 0)
      (imports_are (length files) (omega arith))
      ∙ each_here definition 1 files (down_from (length files)) 0 (omega arith)
      (listed_below (length files))
