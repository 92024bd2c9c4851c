-- When two definitions are the same, by the sets of their texts, and what they then share. (This
-- project's own.)
use Rattle.std.specs.Prelude.{◌≡◌, ◌↔◌, ℕ, List}
use Rattle.std.specs.List.{Contains}
use Rattle.cdf_definition.specs.Named.{IdText, texts_of}
use Rattle.cdf_definition.specs.Frame.{Frame, IsSame}
use Rattle.cdf_definition.specs.Sound.{IsFrame}

-- the two lists have the same texts, in any order
abbrev pub HaveSameTexts : List IdText → List IdText → Type 0
HaveSameTexts es fs = (text : List ℕ) → Contains (texts_of es) text ↔ Contains (texts_of fs) text

-- they agree in the texts of Election, GpUnits and Parties
pub record AgreeInTexts (f g : Frame) : Type 0 where
  pub elections : HaveSameTexts f.elections g.elections
  pub units : HaveSameTexts f.units g.units
  pub parties : HaveSameTexts f.parties g.parties

-- one definition: they agree in the texts of ReportingDevices as well
pub record IsOne (f g : Frame) : Type 0 where
  pub texts : AgreeInTexts f g
  pub devices : HaveSameTexts f.devices g.devices

-- all but the devices is equal: ids, texts, and contests with their selections
pub record AreEqualButDevices (f g : Frame) : Type 0 where
  pub elections : f.elections ≡ g.elections
  pub units : f.units ≡ g.units
  pub parties : f.parties ≡ g.parties
  pub contests : f.contests ≡ g.contests

-- ---- laws

-- two definitions are the same exactly where they agree in these sets of texts
abbrev pub SameTextsLaw : Type 0
SameTextsLaw = (f g : Frame) → IsFrame f → IsFrame g → IsSame f g ↔ AgreeInTexts f g

-- the same definitions are equal but for their devices
abbrev pub SameDefinitionsLaw : Type 0
SameDefinitionsLaw = (f g : Frame) → IsFrame f → IsFrame g → IsSame f g → AreEqualButDevices f g

-- and with the same texts of devices they are equal
abbrev pub OneDefinitionLaw : Type 0
OneDefinitionLaw = (f g : Frame) → IsFrame f → IsFrame g → IsOne f g → f ≡ g
