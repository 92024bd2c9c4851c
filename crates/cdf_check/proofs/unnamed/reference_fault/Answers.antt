use Rattle.std.proofs.Common.{◌∙◌}
use Rattle.std.proofs.lemmas.Result.{IfOk-weaker}
use Rattle.cdf_node.specs.View.{view}
use Rattle.cdf_check.specs.Apart.{with_records}
use Rattle.cdf_check.proofs.Judging.{unnamed_first, rest_first}
use Rattle.cdf_check.proofs.unnamed.reference_fault.Goals as goal

pub returns-in-Some : goal.returns-in-Some
returns-in-Some c =
    let h = rw (c.in-Ok-Some.field-0-is, c.in-Some.is) at c.in-Ok-Some.ensures in
    IfOk-weaker c.fault_at.result _ _ (unnamed_first c.args.definition.now c.args.text.now
    (view c.args.left.now) c.requires.forms c.in-Some.path c.in_ok-scope.ensures h)
    c.fault_at.ensures

pub value_fault-requires : goal.value_fault-requires
value_fault-requires c none =
    let forms = c.requires.forms in
    let h = rw (c.in-Ok-Some.field-0-is, c.in-None.is) at c.in-Ok-Some.ensures in
    let all = with_records forms.records forms.members in
    c.requires.refused all forms.whole (rest_first c.args.definition.now c.args.text.now
    (view c.args.left.now) forms c.in_ok-scope.ensures h all forms.whole ∙ none)

pub returns-in-Ok-Some : goal.returns-in-Ok-Some
returns-in-Ok-Some c =
    let h = rw (c.in-Ok-Some.field-0-is, c.in-None.is) at c.in-Ok-Some.ensures in
    let rest = rest_first c.args.definition.now c.args.text.now (view c.args.left.now)
    c.requires.forms c.in_ok-scope.ensures h in
    IfOk-weaker c.value_fault.result _ _ (λ e is d value. rest d value ∙ is) c.value_fault.ensures
