use Rattle.std.proofs.Common.{◌≡◌, Some, refl, rules}
use Rattle.serde_json.specs.Find.{get}
use Rattle.cdf_node.specs.View.{view}
use Rattle.cdf_form.specs.declared.table.Key.TheVariants as key
use Rattle.cdf_form.proofs.Laws.{fits_of}
use Rattle.cdf_definition.proofs.Accepting.{none_right}
use Rattle.cdf_definition.proofs.Entries.{entry_there, entry_wrong}
use Rattle.cdf_definition.proofs.rest.has_entry.Goals as goal

pub returns-in-Ok : goal.returns-in-Ok
returns-in-Ok c =
    let d = view c.args.value.now in
    let r = c.args.entry.now in
    let e = view c.in-Some.member.now in
    let there : get r.name.now d ≡ Some e = search rules in
    let right = none_right _ c.in-Ok.ensures.none in (
      (λ t. entry_there r.required r.name.now r.kind d e there
          (fits_of e r.kind key.Free c.requires right)),
      λ h. refl,
    )

pub returns : goal.returns
returns c =
    let d = view c.args.value.now in
    let r = c.args.entry.now in
    let e = view c.in-Some.member.now in
    let there : get r.name.now d ≡ Some e = search rules in
    let wrong = rw c.in-Err-Fault.field-0-is at c.in-Err-Fault.ensures.fault in (
      (λ t. absurd (cc)),
      λ h. absurd (entry_wrong r.required r.name.now r.kind d e _ there wrong h),
    )
