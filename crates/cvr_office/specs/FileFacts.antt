-- What holds of the facts of an accepted file. (This project's own.)
use Rattle.std.specs.Prelude.{◌≡◌, ℕ, List, true, codes}
use Rattle.std.specs.FinSet.{contains}
use Rattle.cdf_parts.specs.Parts.{ids_at}
use Rattle.cdf_definition.specs.Sound.{IsFrame}
use Rattle.cdf_definition.specs.Frame.{Frame, scope_in}
use Rattle.cdf_definition.specs.Acceptance.{Valid, value_in}
use Rattle.cvr_fact_types.specs.Facts.{Fact}
use Rattle.cvr_facts.specs.Reports.{facts}
use Rattle.cvr_facts.specs.Stands.{Stands, IsOfRecord}

-- the bodies of an accepted file's facts would stand in a written report, by the definition and the
-- report's devices alone
abbrev pub FactsStandLaw : Type 0
FactsStandLaw = (frame : Frame) (bytes : List ℕ) (f : Fact) → IsFrame frame → Valid frame bytes
    → contains (facts bytes) f ≡ true
    → Stands (scope_in frame (ids_at (codes "ReportingDevice") (value_in bytes))) f

-- each record of which an accepted file has a fact is whole
abbrev pub RecordsWholeLaw : Type 0
RecordsWholeLaw = (frame : Frame) (bytes : List ℕ) (f : Fact) → Valid frame bytes
    → contains (facts bytes) f ≡ true → IsOfRecord (facts bytes) f
