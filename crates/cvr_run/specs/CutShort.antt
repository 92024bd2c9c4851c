-- Worked examples: what the log of a run that ran out of memory may be. (This project's
-- own.)
use Rattle.std.specs.Prelude.{List, [], ◌∷◌, ℕ, codes, false, Some, None}
use Rattle.cdf_types.specs.declared.fault.ReadFault.TheVariants.{TooLong, NotJson}
use Rattle.cvr_run.specs.Refusals.{Due, file_due}
use Rattle.cvr_run.specs.Logged.{IsCutShort}

-- three files: the first is no JSON text, the second is accepted, the third is too long
abbrev pub three_texts : List (List ℕ)
three_texts = codes "a" ∷ codes "b" ∷ codes "c" ∷ []

abbrev pub three_dues : List Due
three_dues = file_due (Some NotJson) ∷ file_due None ∷ file_due (Some TooLong) ∷ []

-- the log of a run over them may be this text where the output works
abbrev pub MayLog : List ℕ → Type 0
MayLog text =
    IsCutShort (record { texts = three_texts; dues = three_dues }) None false text

-- by `memory` before any file, or after all, and not after the first
abbrev pub NoneOrAll : Type 0
NoneOrAll = MayLog (codes "memory\n") × MayLog (codes "a: E2\nc: E1\nmemory\n")
    × (¬ MayLog (codes "a: E2\nmemory\n"))

-- where memory ran out for the second, the third is logged and nothing else
abbrev pub AfterLacking : Type 0
AfterLacking =
    MayLog (codes "a: E2\nb: E6\nc: E1\n")
    × (¬ MayLog (codes "a: E2\nb: E6\nmemory\n"))
    × (¬ MayLog (codes "a: E2\nb: E6\nc: E1\nmemory\n"))
