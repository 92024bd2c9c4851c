use Rattle.std.proofs.Common.{Some, ap, sym, subst, ◌∙◌}
use Rattle.std.specs.FinMap.{get}
use Rattle.std.specs.Option.{IfSome}
use Rattle.cvr_office.specs.Plain.{set_of}
use Rattle.cvr_office.specs.Tallied.{total_limit, IsBelow}
use Rattle.cvr_office.proofs.Laws.{rows_law}
use Rattle.cvr_plain.proofs.tallying.row_in.Goals as goal

pub returns-in-Some-clause-row : goal.returns-in-Some-clause-row
returns-in-Some-clause-row c =
    let key = c.args.key.now in
    let rows = c.in_ok-totals.ensures.rows in
    ap Some c.in_ok-copy-in-Some.ensures
    ∙ (c.in-Some.ensures ∙ (ap (λ m. get m key) rows
    ∙ rows_law c.args.definition.now.contests (set_of c.args.facts.now) key))

pub returns-in-Some-clause-below : goal.returns-in-Some-clause-below
returns-in-Some-clause-below c =
    subst (λ found. IfSome found (IsBelow total_limit))
    (sym (ap Some c.in_ok-copy-in-Some.ensures ∙ c.in-Some.ensures))
    (c.in_ok-totals.ensures.below c.args.key.now)

pub returns-clause-row : goal.returns-clause-row
returns-clause-row c =
    let key = c.args.key.now in
    let rows = c.in_ok-totals.ensures.rows in
    c.in-None.ensures ∙ (ap (λ m. get m key) rows
    ∙ rows_law c.args.definition.now.contests (set_of c.args.facts.now) key)
