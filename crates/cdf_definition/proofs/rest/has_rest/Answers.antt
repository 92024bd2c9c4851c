use Rattle.std.proofs.Common.{◌≡◌, false, Some, codes, sym, subst}
use Rattle.serde_json.specs.Written.{has_float}
use Rattle.cdf_node.specs.View.{view}
use Rattle.cdf_form.specs.declared.table.Class.TheVariants as class
use Rattle.cdf_form.specs.declared.table.Group.TheVariants as group
use Rattle.cdf_form.specs.Form.{class_in}
use Rattle.cdf_form.specs.Tables.{table}
use Rattle.cdf_definition.specs.Lists.{HasEntries}
use Rattle.cdf_definition.specs.Resolves.{AllName}
use Rattle.cdf_definition.proofs.rest.has_rest.Goals as goal

pub returns-in_ok-generated_by : goal.returns-in_ok-generated_by
returns-in_ok-generated_by c =
    let d = view c.args.value.now in
    let whole : has_float d ≡ false = cc (c.has_fraction.ensures, c.if-has_fraction.false) in
    let is : class_in group.Reports d ≡ Some class.CastVoteRecordReport =
    cc (c.class_in.ensures, c.in-Some-CastVoteRecordReport.is) in
    let entries : HasEntries (table class.CastVoteRecordReport) d =
    subst (λ rs. HasEntries rs d) c.class_members-entries.ensures
    (c.in_ok-has_entries.ensures.0 c.if-branch.true) in (
      (λ t. record {
        whole = whole;
        class_is = is;
        entries = entries;
        devices = subst (λ ids. AllName ids (codes "ReportGeneratingDeviceIds") d) c.requires
            (c.in_ok-generated_by.ensures.0 t);
      }),
      λ h. c.in_ok-generated_by.ensures.1 (subst
          (λ ids. AllName ids (codes "ReportGeneratingDeviceIds") d) (sym c.requires) h.devices),
    )
