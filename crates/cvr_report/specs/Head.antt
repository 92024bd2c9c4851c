-- A heading, or why there is none. (This project's own.)
use Rattle.std.specs.Prelude.{◌≡◌, ℕ, List, Bool, true, false, bytes_eq}
use Rattle.std.specs.List.{list_any}
use Rattle.std.specs.Str.{IsUtf8}
use Rattle.cdf_form.specs.Form.{is_moment}
use Rattle.cdf_definition.specs.Frame.{Frame}
use Rattle.cdf_definition.specs.Named.{ids_of}
use Rattle.cvr_report.specs.declared.heading.HeadFault.{HeadFault}
use Rattle.cvr_report.specs.declared.heading.HeadFault.TheVariants.{NotMoment, NoDevice, Memory}

-- the date of a volume and the id of the device that makes it
pub record Head : Type 0 where
  pub date : List ℕ
  pub device : List ℕ

-- what every heading keeps: its date is a moment, in UTF-8
pub record IsHeading (h : Head) : Type 0 where
  pub moment : is_moment h.date ≡ true
  pub text : IsUtf8 h.date

-- whether the definition has a device of this id
abbrev pub is_device_of : Frame → List ℕ → Bool
is_device_of frame device = list_any (bytes_eq device) (ids_of frame.devices)

-- which fault applies: the date is no moment; else the definition has no such device; else memory
-- ran out
abbrev pub IsHeadFault : Frame → List ℕ → List ℕ → HeadFault → Type 0
IsHeadFault frame date device NotMoment = is_moment date ≡ false
IsHeadFault frame date device NoDevice = (is_moment date ≡ true)
    × (is_device_of frame device ≡ false)
IsHeadFault frame date device Memory = (is_moment date ≡ true) × (is_device_of frame device ≡ true)

-- the heading of a moment and a device of the definition
pub record IsHead (frame : Frame) (date device : List ℕ) (h : Head) : Type 0 where
  pub date_is : h.date ≡ date
  pub device_is : h.device ≡ device
  pub moment : is_moment date ≡ true
  pub listed : is_device_of frame device ≡ true
