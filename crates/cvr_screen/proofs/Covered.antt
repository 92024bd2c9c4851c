-- The line about files has no more characters than what it is overwritten with.
use Rattle.std.proofs.Common.{arith, length-append}
use Rattle.std.proofs.lemmas.Fmt.{length-decimal-le}
use Rattle.std.specs.Prelude.{ℕ, ◌≤◌, ◌<◌, ◌^◌, codes, decimal, length, ◌++◌}
use Rattle.cvr_screen.specs.Line.{blanks_text, line_text}

pub covered : (files : ℕ) → files < 2 ^ 64 → length (line_text files) ≤ length blanks_text
covered files small =
    let digits = length-decimal-le 20 files (omega arith) (omega arith) small in
    let behind = length-append (decimal files) (codes " files") in
    let whole = length-append (codes "read ") (decimal files ++ codes " files") in
    omega (arith, digits, behind, whole)
