-- What the form of a report says of its arrays.
use Rattle.std.proofs.Common.{◌≡◌, ◌≤◌, List, [], ◌∷◌, length, Contains, Some, codes, refl, sym}
use Rattle.std.proofs.Common.{subst, arith}
use Rattle.serde_json.specs.Data.{Data}
use Rattle.cdf_form.specs.declared.table.Class.TheVariants as class
use Rattle.cdf_form.specs.declared.table.Group.{Group}
use Rattle.cdf_form.specs.declared.table.Group.TheVariants as group
use Rattle.cdf_form.specs.declared.table.Leaf.TheVariants as leaf
use Rattle.cdf_form.specs.declared.table.Key.TheVariants as key
use Rattle.cdf_form.specs.declared.table.Kind.TheVariants.{One}
use Rattle.cdf_form.specs.Tables.{Entry, table, classes_of, required_member}
use Rattle.cdf_form.specs.HasForm.{HasForm}
use Rattle.cdf_form.specs.Form.{key_text}
use Rattle.cdf_parts.specs.Parts.{array_at, id_of, the_election}
use Rattle.cdf_form.specs.ByEntry.{AllClasses, find_entry, HasEntry}
use Rattle.cdf_form.proofs.Laws.{entry_named, items_are_some, items_are_few, must_text_in}
use Rattle.cdf_definition.specs.Acceptance.{IsReport}
use Rattle.cdf_definition.specs.Laws.{OneElectionLaw}
use Rattle.cdf_definition.specs.Depths.{election_entry, id_entry}
use Rattle.cdf_definition.proofs.Empty.{at_head}

-- an entry of reports
pub report_entry : (r : Entry) (d : Data)
    → find_entry r.name (table class.CastVoteRecordReport) ≡ Some r → IsReport d
    → HasEntry r.required r.name r.kind d
report_entry r d is h = entry_named group.Reports r d (is, tt) h.form

-- where each class of a group has an id, an object of the group has one
pub has_id : (g : Group) (d : Data) → AllClasses
    (λ c. find_entry (codes "@id") (table c) ≡ Some id_entry) (classes_of g)
    → HasForm (One (leaf.Object g)) d → key_text key.Id d ≡ Some (id_of d)
has_id g d each f = must_text_in (entry_named g id_entry d each f) tt

-- ---- the election

one_of : (ds : List Data) → 1 ≤ length ds → length ds ≤ 1 → (e : Data) × (ds ≡ e ∷ [])
one_of [] lo hi = absurd (omega arith)
one_of (d ∷ []) lo hi = (d, refl)
one_of (d ∷ e ∷ ds) lo hi = absurd (omega arith)

pub one_election : OneElectionLaw
one_election d h =
    let entry = report_entry election_entry d refl h in
    one_of (array_at (codes "Election") d) (items_are_some entry) (items_are_few entry)

pub election_is : (d e : Data) → array_at (codes "Election") d ≡ e ∷ [] → the_election d ≡ e
election_is d e is = rw is refl

pub election_listed : (d e : Data) → array_at (codes "Election") d ≡ e ∷ []
    → Contains (array_at (codes "Election") d) e
election_listed d e is = subst (λ xs. Contains xs e) (sym is) (at_head e [])
