use Rattle.std.proofs.Common.{◌≡◌, length, map, string_bytes}
use Rattle.cvr_run.specs.Explained.{first_code, parts_of}
use Rattle.cvr_run.proofs.explaining.first_code.Given as goal

-- what is left names the same code first as all
abbrev pub invariant-words : goal.invariant-words
invariant-words l = first_code (parts_of (map string_bytes l.rest))
    ≡ first_code (parts_of (map string_bytes l.asked))

abbrev pub decreases-words : goal.decreases-words
decreases-words l = length l.rest
