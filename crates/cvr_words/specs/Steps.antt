-- What a list of steps asks for. (This project's own.)
use Rattle.std.specs.Prelude.{◌≡◌, ℕ, ⊤, List, [], ◌∷◌, ◌++◌, ◌+◌, Option, Some, None, length}
use Rattle.std.specs.Prelude.{slice_index_or, suc, option_map}
use Rattle.cvr_words.specs.Step.{StepForm, Text, import_form, exchange_form, path_in, step_form}
use Rattle.cvr_words.specs.declared.fault.LoggedFault.{LoggedFault}
use Rattle.cvr_words.specs.declared.fault.LoggedFault.TheVariants as fault
use Rattle.cvr_words.specs.declared.request.Act.{Act}
use Rattle.cvr_words.specs.declared.request.Act.TheVariants.{Import, Exchange}
use Rattle.cvr_words.specs.declared.request.Step.{Step}
use Rattle.cvr_words.specs.declared.step.Form.{Form}
use Rattle.cvr_words.specs.declared.step.Form.TheVariants as form

-- the form that the code found, as a form of the definition
abbrev pub form_of : Form → StepForm
form_of (form.Import office path) = import_form office path.now
form_of (form.Exchange from to) = exchange_form from to

-- what a form does, the next path standing at a place
abbrev pub act_at : ℕ → StepForm → Act
act_at place (import_form office path) = Import office place
act_at place (exchange_form from to) = Exchange from to

-- the step of a text with this form; none for a text without one; the path of an import
abbrev pub step_at : ℕ → Text → StepForm → Step
step_at place text f = record { text = text; act = act_at place f }

abbrev pub bad_from : Option StepForm → Option ℕ → Option ℕ
bad_from None later = Some 0
bad_from (Some f) later = option_map (λ n. suc n) later

-- the place of the first text that has no form
unfoldable pub bad_place : List Text → Option ℕ
bad_place [] = None
bad_place (text ∷ texts) = bad_from (step_form text) (bad_place texts)

abbrev pub import_path : Option StepForm → List Text
import_path (Some f) = path_in f
import_path None = []

-- the paths of the imports, in order
unfoldable pub paths_of : List Text → List Text
paths_of [] = []
paths_of (text ∷ texts) = import_path (step_form text) ++ paths_of texts

abbrev pub drill_step : Option StepForm → ℕ → Text → List Step
drill_step (Some f) place text = step_at place text f ∷ []
drill_step None place text = []

-- The steps that texts ask for: of each text that has a form, the text and what it does. The
-- imports take the places from this one on.
unfoldable pub steps_of : ℕ → List Text → List Step
steps_of place [] = []
steps_of place (text ∷ texts) =
    drill_step (step_form text) place text
    ++ steps_of (place + length (import_path (step_form text))) texts

-- the fault names the first text with no form, or memory was refused
abbrev pub IsBadStep : List Text → LoggedFault → Type 0
IsBadStep texts (fault.BadStep place step) = (bad_place texts ≡ Some place)
    × (step ≡ slice_index_or texts place [])
IsBadStep texts fault.Memory = ⊤
IsBadStep texts _ = ⊥
