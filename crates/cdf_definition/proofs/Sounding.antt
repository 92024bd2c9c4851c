-- A value has no fault exactly where it is a report.
use Rattle.std.proofs.Common.{refl}
use Rattle.serde_json.specs.Data.{Data}
use Rattle.cdf_form.specs.declared.table.Group.TheVariants as group
use Rattle.cdf_form.specs.declared.table.Leaf.TheVariants as leaf
use Rattle.cdf_form.specs.declared.table.Key.TheVariants as key
use Rattle.cdf_form.specs.declared.table.Kind.TheVariants.{One}
use Rattle.cdf_form.proofs.Lemmas.{left_nil, right_nil}
use Rattle.cdf_form.proofs.Laws.{fits_of, no_faults, whole_of, no_float_faults}
use Rattle.cdf_definition.specs.Sound.{IsSound}
use Rattle.cdf_definition.specs.Acceptance.{IsReport}
use Rattle.cdf_definition.specs.Laws.{SoundLaw}
use Rattle.cdf_definition.proofs.Resolving.{references}

report_of : (d : Data) → IsSound d → IsReport d
report_of d s = record {
  whole = whole_of d (left_nil _ _ s.0);
  form = fits_of d (One (leaf.Object group.Reports)) key.Free refl (right_nil _ _ s.0);
  references = (references d).0 s.1;
}

sound_of : (d : Data) → IsReport d → IsSound d
sound_of d r = (
  rw (no_float_faults d r.whole, no_faults r.form) refl,
  (references d).1
      r.references,
)

pub sound : SoundLaw
sound d = (report_of d, sound_of d)
