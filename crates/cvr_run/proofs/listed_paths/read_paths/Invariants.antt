use Rattle.std.proofs.Common.{◌≡◌, ◌++◌, length}
use denote.Text.{Utf8}
use denote.Shadow.{shadow}
use Rattle.cvr_run.specs.ListedPaths.{parts_at}
use Rattle.cvr_run.proofs.listed_paths.read_paths.Given as goal

-- what is left is text; the paths so far, and those of what is left, are those of the whole
abbrev pub invariant-ends : goal.invariant-ends
invariant-ends l =
    shadow (Utf8 l.rest) × (l.paths ++ parts_at l.end l.rest ≡ parts_at l.end l.text)

abbrev pub decreases-ends : goal.decreases-ends
decreases-ends l = length l.rest
