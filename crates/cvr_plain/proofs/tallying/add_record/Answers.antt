-- A record with a `header` and a current `snapshot` changes the rows as its sums under that unit
-- and batch do; without one of the two there are no such sums, and no row changes.
use Rattle.std.proofs.Common.{◌∙◌, refl, sym, ap, subst}
use Rattle.std.specs.FinMap.{get}
use Rattle.std.proofs.lemmas.Result.{on_ok_weaker}
use Rattle.cvr_tally.specs.declared.key.RowKey.{RowKey}
use Rattle.cvr_office.specs.declared.any_fact.AnyFact.TheVariants as any
use Rattle.cvr_office.specs.Plain.{set_of}
use Rattle.cvr_office.specs.Adding.{AreSums, sums_for, row_with}
use Rattle.cvr_lists.proofs.Laws.{added_is, added_sums-no_header, added_sums-no_current}
use Rattle.cvr_plain.proofs.tallying.add_record.Goals as goal

pub header_in-requires-clause-spelled : goal.header_in-requires-clause-spelled
header_in-requires-clause-spelled c = λ h at. c.requires.spelled (any.Header h) at

pub add_sums-requires-clause-sums : goal.add_sums-requires-clause-sums
add_sums-requires-clause-sums c =
    let contests = c.args.totals.now.contests in
    let current = c.in-Some-current_in.ensures contests c.requires.spelled in
    let snapshot = c.in-Some-current_in.snapshot.now in
    let votes = (current.typed snapshot refl).spelled.votes in
    subst (AreSums contests) (sym (c.as_slice.ensures ∙ votes))
    (c.requires.sums c.args.name.now snapshot.body (sym current.body))

pub returns-in_default-clause-rows : goal.returns-in_default-clause-rows
returns-in_default-clause-rows c =
    let contests = c.args.totals.now.contests in
    λ q. ap (row_with contests q (get c.args.totals.now.rows q))
    (sym (added_sums-no_header contests (set_of c.args.facts.now) q c.args.name.now
    (sym c.in_default.ensures.body)))

pub returns-in_default-current_in-clause-rows : goal.returns-in_default-current_in-clause-rows
returns-in_default-current_in-clause-rows c =
    let contests = c.args.totals.now.contests in
    let current = c.in_default-current_in.ensures contests c.requires.spelled in
    λ q. ap (row_with contests q (get c.args.totals.now.rows q))
    (sym (added_sums-no_current contests (set_of c.args.facts.now) q c.args.name.now
    (sym current.body)))

pub returns-clause-rows : goal.returns-clause-rows
returns-clause-rows c =
    let contests = c.args.totals.now.contests in
    let s = set_of c.args.facts.now in
    let name = c.args.name.now in
    let header = c.in-Some.header.now in
    let snapshot = c.in-Some-current_in.snapshot.now in
    let current = c.in-Some-current_in.ensures contests c.requires.spelled in
    let votes = c.as_slice.ensures ∙ (current.typed snapshot refl).spelled.votes in
    let spelled = (c.in-Some.ensures.typed header refl).spelled in
    let same = λ (q : RowKey). ((λ i. sums_for (spelled.unit i) (spelled.batch i) q (votes i))
    ∙ sym (added_is contests s q name header.body snapshot.body (sym c.in-Some.ensures.body)
    (sym current.body))) in
    on_ok_weaker c.add_sums.result (λ rows q. rows q
    ∙ ap (row_with contests q (get c.args.totals.now.rows q)) (same q)) c.add_sums.ensures.rows
