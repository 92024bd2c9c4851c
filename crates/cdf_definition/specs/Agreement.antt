-- The objects of a report that are not the definition's. (This project's own.)
use Rattle.std.specs.Prelude.{◌≡◌, ℕ, List, ◌++◌, Bool, false, Some, option_map, unwrap_or, codes}
use Rattle.std.specs.Prelude.{bytes_eq}
use Rattle.std.specs.List.{Contains}
use Rattle.serde_json.specs.Data.{Data}
use Rattle.serde_json.specs.Written.{compact_text}
use Rattle.cdf_parts.specs.Parts.{array_at, id_of}
use Rattle.cdf_definition.specs.Paths.{Path, itself_unless, each}
use Rattle.cdf_definition.specs.Named.{IdText, text_of}
use Rattle.cdf_definition.specs.Frame.{Frame}

-- whether an object has the text that stands beside its id
abbrev pub agrees : List IdText → Data → Bool
agrees entries d =
    unwrap_or (option_map (bytes_eq (compact_text d)) (text_of entries (id_of d))) false

-- the path of an object itself, where it has another text
abbrev pub differing_paths : List IdText → Data → List Path
differing_paths entries d = itself_unless (agrees entries d)

-- the paths of the objects that are not the definition's, in the order of Election, GpUnit, Party,
-- by place
abbrev pub disagreements : Frame → Data → List Path
disagreements frame d = each (differing_paths frame.elections) (codes "Election") d
    ++ (each (differing_paths frame.units) (codes "GpUnit") d
    ++ each (differing_paths frame.parties) (codes "Party") d)

-- ---- the same with no paths and no order

-- each object in the array under a name has the text that stands beside its id
abbrev pub AreListed : List IdText → List ℕ → Data → Type 0
AreListed entries name d = (e : Data) → Contains (array_at name d) e
    → text_of entries (id_of e) ≡ Some (compact_text e)

-- each Election, GpUnit and Party of a report is the definition's: the same as no disagreements,
-- with no paths and no order
pub record Agrees (frame : Frame) (d : Data) : Type 0 where
  pub elections : AreListed frame.elections (codes "Election") d
  pub units : AreListed frame.units (codes "GpUnit") d
  pub parties : AreListed frame.parties (codes "Party") d
