-- What a position says of a mark and of its votes (NIST SP 1500-103, enumerations IndicationStatus
-- and AllocationStatus).
use Rattle.std.specs.Prelude.{ℕ, List, codes}
use Rattle.cdf_types.specs.declared.mark.Indication.{Indication}
use Rattle.cdf_types.specs.declared.mark.Indication.TheVariants as indication
use Rattle.cdf_types.specs.declared.mark.Allocation.{Allocation}
use Rattle.cdf_types.specs.declared.mark.Allocation.TheVariants as allocation

-- the text of each IndicationStatus
abbrev pub indication_text : Indication → List ℕ
indication_text indication.No = codes "no"
indication_text indication.Unknown = codes "unknown"
indication_text indication.Yes = codes "yes"

-- the text of each AllocationStatus
abbrev pub allocation_text : Allocation → List ℕ
allocation_text allocation.No = codes "no"
allocation_text allocation.Unknown = codes "unknown"
allocation_text allocation.Yes = codes "yes"
