-- Laws between data and its compact text (RFC 8259), which has no white space and its members by
-- rising name.
use Rattle.std.specs.Prelude.{◌≡◌, ◌≤◌, ◌↔◌, ℕ, List, Some, false}
use Rattle.serde_json.specs.Data.{Data, depth}
use Rattle.serde_json.specs.Read.{read, max_depth}
use Rattle.serde_json.specs.Written.{has_float, compact_text}
use Rattle.cdf_parts.specs.Proper.{IsWell, IsProper}

-- What is read is well.
abbrev pub ReadIsWellLaw : Type 0
ReadIsWellLaw = (text : List ℕ) (d : Data) → read text ≡ Some d → IsWell d

-- What is read nests at most 127 deep.
abbrev pub ReadIsShallowLaw : Type 0
ReadIsShallowLaw = (text : List ℕ) (d : Data) → read text ≡ Some d → depth d ≤ max_depth

-- The compact text of proper data reads as that data.
abbrev pub ReadsBackLaw : Type 0
ReadsBackLaw = (d : Data) → IsProper max_depth d → read (compact_text d) ≡ Some d

-- Data that was read and has no float is read again from its compact text.
abbrev pub ReadAgainLaw : Type 0
ReadAgainLaw =
    (text : List ℕ) (d : Data) → read text ≡ Some d → has_float d ≡ false
    → read (compact_text d) ≡ Some d

-- Proper data has one compact text, and a compact text stands for one proper value.
abbrev pub OneTextLaw : Type 0
OneTextLaw =
    (d e : Data) → IsProper max_depth d → IsProper max_depth e
    → (compact_text d ≡ compact_text e) ↔ (d ≡ e)

-- Data that was read and has no float is proper.
abbrev pub ReadIsProperLaw : Type 0
ReadIsProperLaw = (text : List ℕ) (d : Data) → read text ≡ Some d → has_float d ≡ false
    → IsProper max_depth d
