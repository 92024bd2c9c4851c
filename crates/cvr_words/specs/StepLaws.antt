-- What the steps that texts ask for do, of all of them together. (This project's own.)
use Rattle.std.specs.Prelude.{◌≡◌, ℕ, List, [], ◌∷◌, Some, None, length, map, slice_index_or}
use Rattle.std.specs.List.{flat_map, range_with_len}
use Rattle.cvr_words.specs.Step.{StepForm, Text, import_form, exchange_form, import_in, exchange_in}
use Rattle.cvr_words.specs.Step.{step_form}
use Rattle.cvr_words.specs.Steps.{bad_place, paths_of, steps_of}
use Rattle.cvr_words.specs.declared.request.Act.{Act}
use Rattle.cvr_words.specs.declared.request.Act.TheVariants.{Import, Exchange}

-- what a step does, with the path that stands at its place
abbrev pub form_at : List Text → Act → StepForm
form_at paths (Import office place) = import_form office (slice_index_or paths place [])
form_at paths (Exchange from to) = exchange_form from to

-- the place of an import
abbrev pub import_place : Act → List ℕ
import_place (Import office place) = place ∷ []
import_place (Exchange from to) = []

-- where each text has a form, the texts of the steps are these, in order
abbrev pub StepTextsLaw : Type 0
StepTextsLaw = (texts : List Text) → bad_place texts ≡ None
    → map (λ step. step.text) (steps_of 0 texts) ≡ texts

-- and each step does what the form of its text says
abbrev pub StepFormsLaw : Type 0
StepFormsLaw =
    (texts : List Text) → bad_place texts ≡ None
    → map (λ step. Some (form_at (paths_of texts) step.act)) (steps_of 0 texts)
    ≡ map step_form texts

-- the places of the imports are 0, 1, 2 and so on, in order: one for each path
abbrev pub StepPlacesLaw : Type 0
StepPlacesLaw = (texts : List Text) → flat_map (λ step. import_place step.act) (steps_of 0 texts)
    ≡ range_with_len 0 (length (paths_of texts))

-- no text has both forms
abbrev pub OneFormLaw : Type 0
OneFormLaw = (text : Text) (form : StepForm) → import_in text ≡ Some form → exchange_in text ≡ None
