-- What a path and a fault that were found stand for. (This project's own.)
use Rattle.std.specs.Prelude.{◌≡◌, List, map, reverse, Option, Some}
use Rattle.cdf_form.specs.declared.found.Step.{Step as Stored}
use Rattle.cdf_form.specs.declared.found.Step.TheVariants.{Member, Item}
use Rattle.cdf_form.specs.declared.found.Path.{Path}
use Rattle.cdf_form.specs.declared.found.Found.{Found}
use Rattle.cdf_form.specs.declared.found.Stop.{Stop}
use Rattle.cdf_form.specs.declared.found.Stop.TheVariants as stop
use Rattle.cdf_form.specs.Form.{Step, at_member, at_item, Fault}

-- the step that was found, as a step of a path
abbrev pub step_of : Stored → Step
step_of (Member name) = at_member name.now
step_of (Item i) = at_item i

-- the steps from a value, the outermost first
abbrev pub path_of : Path → List Step
path_of p = reverse (map step_of p.steps.items)

-- the fault that was found: its rule, and its path from the value
abbrev pub fault_of : Found → Fault
fault_of f = record { path = path_of f.path; rule = f.rule }

-- the walk stopped at this fault; where it stopped out of memory, this states nothing
abbrev pub StopsAt : Stop → Option Fault → Type 0
StopsAt (stop.Fault f) o = o ≡ Some (fault_of f.value)
StopsAt (stop.Memory m) o = Unit {0}
