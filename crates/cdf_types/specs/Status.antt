-- The statuses of a record and of its parts (NIST SP 1500-103, enumerations CVRStatus,
-- ContestStatus, ContestSelectionStatus and PositionStatus).
use Rattle.std.specs.Prelude.{ℕ, List, codes}
use Rattle.cdf_types.specs.declared.status.CvrStatus.{CvrStatus}
use Rattle.cdf_types.specs.declared.status.CvrStatus.TheVariants as cvr_status
use Rattle.cdf_types.specs.declared.status.ContestStatus.{ContestStatus}
use Rattle.cdf_types.specs.declared.status.ContestStatus.TheVariants as contest_status
use Rattle.cdf_types.specs.declared.status.SelectionStatus.{SelectionStatus}
use Rattle.cdf_types.specs.declared.status.SelectionStatus.TheVariants as selection_status
use Rattle.cdf_types.specs.declared.status.PositionStatus.{PositionStatus}
use Rattle.cdf_types.specs.declared.status.PositionStatus.TheVariants as position_status

-- the text of each CVRStatus
abbrev pub cvr_status_text : CvrStatus → List ℕ
cvr_status_text cvr_status.NeedsAdjudication = codes "needs-adjudication"
cvr_status_text cvr_status.Other = codes "other"

-- the text of each ContestStatus
abbrev pub contest_status_text : ContestStatus → List ℕ
contest_status_text contest_status.InvalidatedRules = codes "invalidated-rules"
contest_status_text contest_status.NotIndicated = codes "not-indicated"
contest_status_text contest_status.Other = codes "other"
contest_status_text contest_status.Overvoted = codes "overvoted"
contest_status_text contest_status.Undervoted = codes "undervoted"

-- the text of each ContestSelectionStatus
abbrev pub selection_status_text : SelectionStatus → List ℕ
selection_status_text selection_status.GeneratedRules = codes "generated-rules"
selection_status_text selection_status.InvalidatedRules = codes "invalidated-rules"
selection_status_text selection_status.NeedsAdjudication = codes "needs-adjudication"
selection_status_text selection_status.Other = codes "other"

-- the text of each PositionStatus
abbrev pub position_status_text : PositionStatus → List ℕ
position_status_text position_status.Adjudicated = codes "adjudicated"
position_status_text position_status.GeneratedRules = codes "generated-rules"
position_status_text position_status.InvalidatedRules = codes "invalidated-rules"
position_status_text position_status.Other = codes "other"
