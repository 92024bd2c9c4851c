-- Unless memory runs out, each row that the content's `sums` have under its `key` is there
-- afterwards. Rows that were there stay, no cell changes, and no other row is touched.
use Rattle.std.proofs.Common.{◌∙◌, ◌<◌, length, Contains, ap, sym, subst}
use Rattle.std.proofs.lemmas.List.Elements.{Contains-get_or}
use Rattle.cvr_fact_types.specs.declared.sums.VoteSums.{VoteSums}
use Rattle.cvr_tally.specs.declared.key.RowKey.{RowKey}
use Rattle.cvr_office.specs.Adding.{key_for}
use Rattle.cvr_cached.specs.Contents.{pairs_of, current_sums}
use Rattle.cvr_cached.proofs.Opening.{here_more, kept_more, cells_more, others_more, closed_more}
use Rattle.cvr_cached.proofs.Pairs.{pair_at}
use Rattle.cvr_cached.proofs.keyed.KeyedContent.open_rows.Goals as goal

pub open_row-requires : goal.open_row-requires
open_row-requires c =
    let at = pair_at c.args.self.now c.loop-sums.key c.loop-sums.invariant.key
    (c.votes-sums-items.ensures ∙ ap current_sums c.self.view_is)
    c.loop-sums-test.true c.sums-item.is in
    let ps = pairs_of c.args.self.now in
    let v = c.sums-item.result in
    let pair : RowKey × VoteSums = (key_for c.loop-sums.key.unit c.loop-sums.key.batch v, v) in
    let one = c.requires pair (subst (Contains ps) at.there
    (Contains-get_or ps c.loop-sums.sums-index pair at.within)) in
    subst (λ cs. v.contest < length cs) (sym c.loop-sums.invariant.contests) one.1.place

pub loop-sums-preserved : goal.loop-sums-preserved
loop-sums-preserved c =
    let at = pair_at c.args.self.now c.loop-sums.key c.loop-sums.invariant.key
    (c.votes-sums-items.ensures ∙ ap current_sums c.self.view_is)
    c.loop-sums-test.true c.sums-item.is in
    let cs = c.loop-sums.totals.contests in
    let m = c.loop-sums.totals.rows in
    let n = c.open_row.new.self.rows in
    let o = c.args.totals.now.rows in
    let step = c.in_default.ensures.ok in
    let inv = c.loop-sums.invariant in
    record {
      key = inv.key;
      here = here_more cs at m n o step inv.here;
      stay = kept_more cs at m n o step inv.stay;
      cells = cells_more cs at m n o step inv.cells;
      others = others_more cs at m n o step inv.others;
      closed = closed_more cs at m n o step inv.closed;
      moves = c.open_row.ensures.moves ∙ inv.moves;
      contests = c.open_row.ensures.contests ∙ inv.contests;
    }
