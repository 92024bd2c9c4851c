-- A sound report is valid beside what is kept of it, and its entries are those of its objects.
use Rattle.std.proofs.Common.{◌≡◌, ℕ, List, Contains, codes}
use Rattle.serde_json.specs.Data.{Data}
use Rattle.cdf_parts.specs.Parts.{array_at}
use Rattle.cdf_definition.specs.Named.{IdText, id_and_text}
use Rattle.cdf_definition.specs.Frame.{frame_of, entries_at}
use Rattle.cdf_definition.specs.Agreement.{Agrees}
use Rattle.cdf_definition.specs.Acceptance.{Holds, IsReport, Valid}
use Rattle.cdf_check.specs.Laws.{IsListOf}
use Rattle.cdf_check.proofs.Laws.{lists}
use Rattle.cdf_check.proofs.Lemmas.{listed_itself}
use Rattle.cvr_facts.proofs.Lemmas.{from_map}

pub own_agrees : (d : Data) → IsReport d → Agrees (frame_of d) d
own_agrees d r =
    let l = lists d r in
    record {
      elections = listed_itself (codes "Election") d l.0;
      units = listed_itself (codes "GpUnit") d l.1;
      parties = listed_itself (codes "Party") d l.2;
    }

-- the file of a definition is valid beside it
pub own_valid : (bytes : List ℕ) (d : Data) → Holds bytes d → IsReport d → Valid (frame_of d) bytes
own_valid bytes d held r = (d, held, r, own_agrees d r)

-- an entry is of an object under the name
pub entry_source : (name : List ℕ) (d : Data) → IsListOf (entries_at name d) name d → (e : IdText)
    → Contains (entries_at name d) e
    → (x : Data) × Contains (array_at name d) x × (id_and_text x ≡ e)
entry_source name d l e a = from_map id_and_text e (array_at name d) ((l.members e).0 a)
