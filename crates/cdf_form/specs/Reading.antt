-- The value that a file holds, its faults of numbers and form, and the answer that reports one.
-- (JSON: RFC 8259. Order of causes: this project's own.)
use Rattle.std.specs.Prelude.{◌≡◌, ℕ, List, ◌++◌, length, if◌then◌else◌, nat_le, Option, Some, None}
use Rattle.std.specs.Str.{is_utf8}
use Rattle.serde_json.specs.Data.{Data}
use Rattle.serde_json.specs.Read.{read}
use Rattle.cdf_types.specs.declared.fault.ReadFault.{ReadFault}
use Rattle.cdf_types.specs.declared.fault.ReadFault.TheVariants.{TooLong, NotJson, Schema, Memory}
use Rattle.cdf_form.specs.declared.table.Group.TheVariants as group
use Rattle.cdf_form.specs.declared.table.Leaf.TheVariants as leaf
use Rattle.cdf_form.specs.declared.table.Key.TheVariants as key
use Rattle.cdf_form.specs.declared.table.Kind.TheVariants.{One}
use Rattle.cdf_form.specs.Form.{Fault, faults, float_faults}
use Rattle.cdf_form.specs.Path.{path_text}

-- the most bytes that a file may have
abbrev pub max_file : ℕ
max_file = 67_108_864

-- The value of a file's bytes: what serde_json reads where they are UTF-8, and else none. The
-- members of each object stand by rising name.
abbrev pub value_of : List ℕ → Option Data
value_of bytes = if is_utf8 bytes then read bytes else None

-- the faults of a whole document: of its numbers, then of its form
abbrev pub document_faults : Data → List Fault
document_faults d = float_faults d ++ faults d (One (leaf.Object group.Reports)) key.Free

-- the answer that reports a fault of form
abbrev pub refusal_of : Fault → ReadFault
refusal_of f = Schema (path_text f.path) f.rule

-- The answer is that memory ran out. It says nothing about the file.
abbrev pub IsMemory : ReadFault → Type 0
IsMemory e = e ≡ Memory

-- of a file's value, if it has one
abbrev pub of_value : (Data → Option ReadFault) → Option Data → Option ReadFault
of_value refusal None = Some NotJson
of_value refusal (Some d) = refusal d

-- of a file, by what refuses its value
abbrev pub of_file : (Data → Option ReadFault) → List ℕ → Option ReadFault
of_file refusal bytes =
    if nat_le (length bytes) max_file then of_value refusal (value_of bytes) else Some TooLong
