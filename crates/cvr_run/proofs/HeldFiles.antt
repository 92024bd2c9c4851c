-- What is held of one file: it is the file, or both are too long.
use Rattle.std.proofs.Common.{◌≡◌, ℕ, ◌<◌, List, length, true, Option, Some, ◌⊎◌, inl, inr, sym, ap}
use Rattle.std.proofs.Common.{◌∙◌, arith}
use Rattle.std.specs.Prelude.{is_some, if◌then◌else◌}
use Rattle.std.proofs.lemmas.Bool.{cases_lt, lt-leb}
use Rattle.std.proofs.lemmas.List.{take_all, length-take-le}
use Rattle.serde_json.specs.Data.{Data}
use Rattle.cdf_types.specs.declared.fault.ReadFault.{ReadFault}
use Rattle.cdf_types.specs.declared.fault.ReadFault.TheVariants.{TooLong}
use Rattle.cdf_form.specs.Reading.{max_file, value_of}
use Rattle.cdf_definition.specs.Frame.{Frame}
use Rattle.cdf_definition.specs.Acceptance.{own_refusal, value_refusal}
use Rattle.cdf_form.specs.Reading.{of_value, of_file}
use Rattle.cdf_definition.specs.Acceptance.{first_refusal}
use Rattle.cvr_run.specs.Accepted.{is_unsound, is_refused}
use Rattle.cvr_run.specs.File.{held_bytes}
use Rattle.cvr_run.specs.HeldBytes.{held_part}

-- it is held whole, or is too long, and so is then what is held of it
pub short_or_long : (file : List ℕ) → (held_part file ≡ file)
    ⊎ ((max_file < length file) × (max_file < length (held_part file)))
short_or_long file =
    elim (cases_lt max_file (length file)) [
      | inl long ↦ inr (
        long,
        (let is : length (held_part file)
            ≡ held_bytes = length-take-le held_bytes file (omega arith) in omega arith),
      )
      | inr short ↦ inl (take_all held_bytes file (omega arith))
    ]

-- what is the same of all files that are too long is the same of what is held
pub same_for : {T : Type 0} (f : List ℕ → T) (long : T)
    → ((file : List ℕ) → max_file < length file → f file ≡ long) → (file : List ℕ)
    → f (held_part file) ≡ f file
same_for f long is file =
    elim (short_or_long file) [
      | inl whole ↦ ap f whole
      | inr both ↦ is (held_part file) both.1 ∙ sym (is file both.0)
    ]

pub too_long : (refusal : Data → Option ReadFault) (file : List ℕ) → max_file < length file
    → of_file refusal file ≡ Some TooLong
too_long refusal file long = ap (λ short. if short then of_value refusal (value_of file)
    else Some TooLong) (lt-leb (length file) max_file long)

pub unsound_long : (def : List ℕ) → max_file < length def → is_unsound def ≡ true
unsound_long def long = ap is_some (too_long own_refusal def long)

pub refused_long : (definition : Frame) (file : List ℕ) → max_file < length file
    → is_refused definition file ≡ true
refused_long definition file long = ap is_some (too_long (value_refusal definition) file long)

pub same_refusal : (definition : Frame) (file : List ℕ)
    → first_refusal definition (held_part file) ≡ first_refusal definition file
same_refusal definition =
    same_for (first_refusal definition) (Some TooLong) (too_long (value_refusal definition))
