use Rattle.std.proofs.Common.{◌≡◌, length}
use denote.Text.{Utf8}
use denote.Shadow.{shadow}
use Rattle.cvr_run.specs.ListedPaths.{parts_at}
use Rattle.cvr_run.specs.Explained.{first_code}
use Rattle.cvr_run.proofs.explaining.code_in.Given as goal

-- what is left is text, and names the same code first as the whole
abbrev pub invariant-parts : goal.invariant-parts
invariant-parts l = shadow (Utf8 l.rest)
    × (first_code (parts_at 32 l.rest) ≡ first_code (parts_at 32 l.word))

abbrev pub decreases-parts : goal.decreases-parts
decreases-parts l = length l.rest
