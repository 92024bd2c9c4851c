use Rattle.std.proofs.Common.{◌≡◌, ◌≤◌, ℕ, List, length, Option, Some, refl, arith}
use Rattle.std.specs.Str.{IsUtf8, is_utf8}
use Rattle.std.proofs.lemmas.Bool.{false_from_ne_true, le-leb}
use Rattle.std.proofs.lemmas.Str.{IsUtf8-from_is_utf8}
use Rattle.serde_json.specs.Data.{Data}
use Rattle.cdf_types.specs.declared.fault.ReadFault.{ReadFault}
use Rattle.cdf_types.specs.declared.fault.ReadFault.TheVariants.{NotJson}
use Rattle.cdf_form.specs.Reading.{max_file, of_file}
use Rattle.cdf_form.proofs.read.file_text.Goals as goal

-- what is no text has no value
no_text : (bytes : List ℕ) → length bytes ≤ max_file → (IsUtf8 bytes → ⊥)
    → (refusal : Data → Option ReadFault) → of_file refusal bytes ≡ Some NotJson
no_text bytes short never refusal = rw (
  le-leb (length bytes) max_file short,
  false_from_ne_true
      (is_utf8 bytes) (λ is. never (IsUtf8-from_is_utf8 bytes is)),
) refl

pub returns-in-Err-clause-err : goal.returns-in-Err-clause-err
returns-in-Err-clause-err c = no_text c.args.bytes.now (omega arith) (grind arith)
