-- A definition and its own file, and definitions that are the same but for devices. (This project's
-- own.)
use Rattle.std.specs.Prelude.{◌≡◌, ℕ, List}
use Rattle.std.specs.List.{Contains}
use Rattle.serde_json.specs.Data.{Data}
use Rattle.cdf_parts.specs.Parts.{array_at}
use Rattle.cdf_definition.specs.Acceptance.{IsReport}
use Rattle.cdf_definition.specs.Agreement.{Agrees}
use Rattle.cdf_definition.specs.Frame.{Frame, frame_of, entries_at}
use Rattle.cdf_check.specs.Laws.{IsListOf}
use Rattle.cdf_definition.specs.Named.{IdText, id_and_text}
use Rattle.cdf_check.specs.Same.{AreEqualButDevices}

-- a report agrees with the definition that is made from it
abbrev pub OwnAgreesLaw : Type 0
OwnAgreesLaw = (d : Data) → IsReport d → Agrees (frame_of d) d

-- definitions that are equal but for their devices agree with the same reports
abbrev pub SameAgreesLaw : Type 0
SameAgreesLaw = (f g : Frame) → AreEqualButDevices f g → (d : Data) → Agrees g d → Agrees f d

-- each entry of a definition's list is the id and the text of an object of its array
abbrev pub EntryLaw : Type 0
EntryLaw = (name : List ℕ) (d : Data) → IsListOf (entries_at name d) name d → (e : IdText)
    → Contains (entries_at name d) e
    → (x : Data) × Contains (array_at name d) x × (id_and_text x ≡ e)
