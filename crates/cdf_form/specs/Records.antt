-- The faults of cast vote records by themselves, and what they are of the report that has them.
-- (This project's profile of NIST SP 1500-103.)
use Rattle.std.specs.Prelude.{◌≡◌, ◌≤◌, ℕ, List, [], false, Some, bytes_eq, codes}
use Rattle.serde_json.specs.Data.{Data, array, object, Items, no_items, Members}
use Rattle.serde_json.specs.Find.{get_member}
use Rattle.serde_json.specs.Events.{items_len}
use Rattle.cdf_form.specs.declared.table.Class.TheVariants as class_of
use Rattle.cdf_form.specs.declared.table.Group.TheVariants as group
use Rattle.cdf_form.specs.declared.table.Leaf.TheVariants as leaf
use Rattle.cdf_form.specs.declared.table.Key.TheVariants as key
use Rattle.cdf_form.specs.declared.table.Kind.TheVariants.{One}
use Rattle.cdf_form.specs.Tables.{any}
use Rattle.cdf_form.specs.Form.{Fault, at_member, deeper_fault, first, class_in, faults}
use Rattle.cdf_form.specs.Form.{items_faults}

-- the faults of the form of a cast vote record by itself
abbrev pub cvr_faults : Data → List Fault
cvr_faults d = faults d (One (leaf.Object group.Cvrs)) key.Free

-- those of the records of an array, in order
abbrev pub cvrs_faults : Items → List Fault
cvrs_faults ds = items_faults ds (leaf.Object group.Cvrs) key.Free 0 []

-- records stand first in a report's table: the first fault of the records, if they have one, is the
-- report's first fault of form
abbrev pub RecordsFirstLaw : Type 0
RecordsFirstLaw = (ms : Members) (ds : Items) (f : Fault)
    → class_in group.Reports (object ms) ≡ Some class_of.CastVoteRecordReport
    → get_member (codes "CVR") ms ≡ Some (array ds) → items_len ds ≤ any
    → first (cvrs_faults ds) ≡ Some f
    → first (faults (object ms) (One (leaf.Object group.Reports)) key.Free)
    ≡ Some (deeper_fault (at_member (codes "CVR")) f)

-- where the records have no fault, a report has the same faults of form as with an empty array in
-- their place
abbrev pub RecordsApartLaw : Type 0
RecordsApartLaw = (ms left : Members) (ds : Items)
    → ((name : List ℕ) → bytes_eq name (codes "CVR") ≡ false
    → get_member name ms ≡ get_member name left)
    → get_member (codes "CVR") ms ≡ Some (array ds)
    → get_member (codes "CVR") left ≡ Some (array no_items) → items_len ds ≤ any
    → cvrs_faults ds ≡ []
    → faults (object ms) (One (leaf.Object group.Reports)) key.Free
    ≡ faults (object left) (One (leaf.Object group.Reports)) key.Free
