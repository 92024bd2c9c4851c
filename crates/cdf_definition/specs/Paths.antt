-- Paths of texts and objects in a report, in lists. (Paths: RFC 6901.)
use Rattle.std.specs.Prelude.{ℕ, ◌+◌, List, [], ◌∷◌, ◌++◌, map, Bool, if◌then◌else◌}
use Rattle.serde_json.specs.Data.{Data}
use Rattle.cdf_form.specs.Form.{Step, at_member, at_item}
use Rattle.cdf_parts.specs.Parts.{array_at}

-- the steps from a value, outermost first
abbrev pub Path : Type 0
Path = List Step

-- those of a part, from the value that the step starts at
abbrev pub below : Step → List Path → List Path
below s ps = map (λ p. s ∷ p) ps

-- none where the test holds, and else the value itself
abbrev pub itself_unless : Bool → List Path
itself_unless b = if b then [] else [] ∷ []

-- those of the items from place i on
abbrev pub below_each : (Data → List Path) → List Data → ℕ → List Path
below_each f [] i = []
below_each f (d ∷ ds) i = below (at_item i) (f d) ++ below_each f ds (i + 1)

-- those of the items of the array under a name
abbrev pub each : (Data → List Path) → List ℕ → Data → List Path
each f name d = below (at_member name) (below_each f (array_at name d) 0)
