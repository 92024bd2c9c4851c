-- Offices that write the same volumes: those that are the same, and those of one definition that
-- the same files have reached, which are alike in all else, too. (This project's own.)
use Rattle.std.specs.Prelude.{◌≡◌, ℕ, List, Some}
use Rattle.std.specs.List.{slice_get}
use Rattle.cdf_definition.specs.Frame.{Frame, IsSame}
use Rattle.cvr_fact_types.specs.Facts.{Facts}
use Rattle.cvr_office.specs.Reach.{History}
use Rattle.cvr_office.specs.Alike.{AreNewOfOne, ArePlayed, HaveSameFiles, AreAlike}
use Rattle.cvr_report.specs.Head.{Head}
use Rattle.cvr_report.specs.Page.{volumes}
use Rattle.cvr_report.specs.Volume.{volume}

-- equally many volumes, and the same text of each under one heading
pub record WriteAlike (f g : Frame) (s t : Facts) : Type 0 where
  pub count : volumes s ≡ volumes t
  pub texts : (head : Head) (i : ℕ) → volume f head s i ≡ volume g head t i

-- the same definition and the same facts write alike
abbrev pub SameVolumesLaw : Type 0
SameVolumesLaw = (f g : Frame) (s t : Facts) → IsSame f g → s ≡ t → WriteAlike f g s t

-- new offices of one definition, after any events: two that the same files have reached hold the
-- same, answer alike and write alike
abbrev pub SameWritingLaw : {Office : Type 0} → (Office → Facts) → (Office → Frame) → Type 0
SameWritingLaw {Office} held defined = (before after : List Office) (files : List (List ℕ))
    (past : History) (o p : ℕ) (one other : Office)
    → AreNewOfOne held defined before → ArePlayed held defined before after files past
    → HaveSameFiles files past o p
    → slice_get after o ≡ Some one → slice_get after p ≡ Some other
    → AreAlike held defined one other × WriteAlike (defined one) (defined other) (held one)
    (held other)
