use Rattle.std.proofs.Common.{refl, ◌≡◌, sym, ap, ◌∙◌}
use Rattle.std.specs.Prelude.{codes}
use Rattle.std.specs.Fmt.{digits}
use Rattle.std.specs.FinSet.{from_list}
use Rattle.jiff.proofs.OnLiterals.{jiff_on_literals}
use Rattle.cvr_fact_types.specs.Facts.{fact_cmp}
use Rattle.cvr_office.proofs.Lemmas.{conflicts-given}
use Rattle.cvr_report.specs.Page.{volumes}
use Rattle.cvr_run.specs.Currents.{volumes_of}
use Rattle.cvr_run.specs.Examples.{with_devices, several_bodies, at_eight}
use Rattle.cvr_run.proofs.GivenMerges.{fault_with}
use Rattle.cvr_run.proofs.Last.{volumes_of-conflicts}
use Rattle.cvr_run.proofs.examples.merges.Goals as goal

pub returns : goal.returns
unfolding jiff_on_literals digits
returns c =
    let twelve : volumes (from_list {R = fact_cmp} several_bodies)
    ≡ 12 = sym (volumes_of-conflicts (from_list several_bodies))
    ∙ (ap volumes_of (conflicts-given several_bodies) ∙ refl) in
    record {
      date = (
        ap (fault_with with_devices (codes "2024-11-06") (codes "s1") 12) twelve
            ∙ refl,
        refl,
      );
      date_first = (
        ap (fault_with with_devices (codes "2024-11-06") (codes "s2") 13) twelve
            ∙ refl,
        refl,
      );
      device = (ap (fault_with with_devices at_eight (codes "s2") 12) twelve ∙ refl, refl);
      device_before_number = (
        ap (fault_with with_devices at_eight (codes "s2") 13) twelve
            ∙ refl,
        refl,
      );
      number = (ap (fault_with with_devices at_eight (codes "s1") 14) twelve ∙ refl, refl);
      none = (ap (fault_with with_devices at_eight (codes "s1") 12) twelve ∙ refl, refl);
    }
