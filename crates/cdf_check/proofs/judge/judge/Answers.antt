-- The answer for a file without records, with a `fault` of numbers or form, or accepted with the
-- `_names` and `records` seen. Any other is refused without such a fault, so by `reference_fault`.
use Rattle.std.proofs.Common.{true≢false, sym, ◌∙◌, arith}
use Rattle.cdf_node.specs.View.{view}
use Rattle.cdf_form.proofs.Laws.{whole_document}
use Rattle.cdf_check.proofs.Judging.{judged_whole, judged_form, judged_accepted, no_records}
use Rattle.cdf_check.proofs.Judging.{emptied_left, refused_for_names}
use Rattle.cdf_check.proofs.judge.judge.Goals as goal

pub judge_whole-requires : goal.judge_whole-requires
judge_whole-requires g c = no_records (view c.args.left.now) (grind arith)

pub returns-then-not-has_records : goal.returns-then-not-has_records
returns-then-not-has_records g c =
    judged_whole c.args.text.now c.requires (grind arith) c.judge_whole.ensures

pub is_accepted-requires : goal.is_accepted-requires
is_accepted-requires g c = emptied_left c.args.text.now c.requires (grind arith)

pub reference_fault-requires-clause-forms : goal.reference_fault-requires-clause-forms
reference_fault-requires-clause-forms g c =
    (refused_for_names c.args.text.now c.requires (grind arith) c.made_of_a_report.ensures
    (λ a. true≢false (sym (c.in_ok-is_accepted.ensures.1 a) ∙ c.if-not-branch.true))
    (sym c.in_ok-fault.ensures ∙ c.in-None.is)).0

pub reference_fault-requires-clause-refused : goal.reference_fault-requires-clause-refused
reference_fault-requires-clause-refused g c =
    (refused_for_names c.args.text.now c.requires (grind arith) c.made_of_a_report.ensures
    (λ a. true≢false (sym (c.in_ok-is_accepted.ensures.1 a) ∙ c.if-not-branch.true))
    (sym c.in_ok-fault.ensures ∙ c.in-None.is)).1

pub returns-in-Some : goal.returns-in-Some
returns-in-Some g c =
    judged_form c.args.text.now c.requires (grind arith) c.in-Some.fault
    (sym c.in_ok-fault.ensures ∙ c.in-Some.is)

pub devices_in-requires : goal.devices_in-requires
devices_in-requires g c =
    let settles = rw c.in-Right.is at (c.in_ok-is_accepted.ensures.0 c.if-not-branch.false) in
    whole_document (view c.args.left.now) settles.sound.0

pub returns : goal.returns
returns g c =
    judged_accepted c.args.text.now c.requires (grind arith) c.made_of_a_report.ensures
    c.in_ok-devices_in-in-Right.field-0 c.in-Right._names c.in-Right.records c.in-Right.is
    (c.in_ok-is_accepted.ensures.0 c.if-not-branch.false) c.in_ok-devices_in-in-Right.ensures
