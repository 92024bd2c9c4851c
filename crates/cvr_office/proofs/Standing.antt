-- The bodies of a valid file's facts stand.
use Rattle.std.proofs.Common.{ℕ, List, codes, refl}
use Rattle.cdf_parts.specs.Parts.{ids_at}
use Rattle.cdf_typed.specs.Typed.{header_of}
use Rattle.cdf_definition.specs.Frame.{Frame, scope_in}
use Rattle.cdf_definition.specs.References.{Scope}
use Rattle.cdf_definition.specs.Sound.{IsFrame}
use Rattle.cdf_definition.specs.Acceptance.{Valid, value_in}
use Rattle.cdf_definition.proofs.Laws.{references}
use Rattle.cdf_check.proofs.Laws.{contests_agree, devices_stand, headers_stand, snapshots_stand}
use Rattle.cvr_fact_types.specs.Facts.{Fact}
use Rattle.cvr_facts.specs.Stands.{Stands}
use Rattle.cvr_office.specs.FileFacts.{FactsStandLaw}
use Rattle.cvr_facts.specs.Sources.{Source, of_device, of_header, of_snapshot}
use Rattle.cvr_facts.proofs.Laws.{fact_source}

abbrev scope_of_file : Frame → List ℕ → Scope
scope_of_file frame bytes = scope_in frame (ids_at (codes "ReportingDevice") (value_in bytes))

source_stands : (frame : Frame) (bytes : List ℕ) (f : Fact) → IsFrame frame → Valid frame bytes
    → Source (value_in bytes) f → Stands (scope_of_file frame bytes) f
source_stands frame bytes _ is valid (of_device e a) =
    let h = devices_stand frame bytes e valid a in
    (e, (refl, h.1), h.0)
source_stands frame bytes _ is valid (of_header c a) =
    let h = headers_stand references contests_agree frame bytes c is valid a in
    (header_of c, (refl, h.1), h.0)
source_stands frame bytes _ is valid (of_snapshot c s a b) =
    let h = snapshots_stand references contests_agree frame bytes c s is valid a b in
    (s, (refl, h.1), h.0)

pub facts_stand : FactsStandLaw
facts_stand frame bytes f is valid held =
    source_stands frame bytes f is valid (fact_source bytes f held)
