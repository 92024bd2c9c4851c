-- A report that can serve as a definition, by its faults. (This project's own.)
use Rattle.std.specs.Prelude.{◌≡◌, ℕ, List, []}
use Rattle.serde_json.specs.Data.{Data}
use Rattle.cdf_form.specs.Reading.{document_faults}
use Rattle.cdf_definition.specs.References.{missing_paths}
use Rattle.cdf_definition.specs.Frame.{Frame, frame_of}
use Rattle.cdf_definition.specs.Acceptance.{Holds}

-- no fault of numbers, of form or of references
abbrev pub IsSound : Data → Type 0
IsSound d = (document_faults d ≡ []) × (missing_paths d ≡ [])

-- the value of some file
abbrev pub WasRead : Data → Type 0
WasRead d = (bytes : List ℕ) × Holds bytes d

-- what is kept of some sound report
abbrev pub IsFrame : Frame → Type 0
IsFrame f = ∥ ((d : Data) × WasRead d × IsSound d × (f ≡ frame_of d)) ∥₁
