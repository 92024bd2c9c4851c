use Rattle.std.proofs.Common.{◌≡◌, ℕ, List, length, map}
use Rattle.cvr_call.specs.Given.{files_in, found_at}
use Rattle.cvr_call.specs.Held.{first_of, held_at}
use Rattle.cvr_call.proofs.files.by_path.Given as goal

-- the first file with a path is held, or else the first of those that are left
abbrev pub invariant-files : goal.invariant-files
invariant-files l = (path : List ℕ)
    → first_of (held_at l.held path) (found_at (files_in (map (λ piece. piece.now) l.rest)) path)
    ≡ found_at (files_in (map (λ piece. piece.now) l.pieces)) path

abbrev pub decreases-files : goal.decreases-files
decreases-files l = length l.rest
