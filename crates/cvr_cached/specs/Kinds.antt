-- Offices of two kinds that play the same events. (This project's own.)
use Rattle.std.specs.Prelude.{◌≡◌, ◌<◌, ℕ, List, length, map, slice_index_or}
use Rattle.std.specs.FinSet.{empty}
use Rattle.cdf_definition.specs.Frame.{Frame}
use Rattle.cvr_fact_types.specs.Facts.{Facts}
use Rattle.cvr_office.specs.Alike.{ArePlayed}
use Rattle.cvr_office.specs.Reach.{History}

-- offices of one kind and of another held the same at first, and played the same events with the
-- same outcomes: then they hold the same
abbrev pub KindsLaw : {One Other : Type 0} → (One → Facts) → (One → Frame) → (Other → Facts)
    → (Other → Frame) → Type 0
KindsLaw {One} {Other} held defined other_held other_defined = (before after : List One)
    (others_before others_after : List Other) (files : List (List ℕ)) (past : History)
    → map held before ≡ map other_held others_before
    → ArePlayed held defined before after files past
    → ArePlayed other_held other_defined others_before others_after files past
    → (o : ℕ) → o < length before → slice_index_or (map held after) o empty
    ≡ slice_index_or (map other_held others_after) o empty
