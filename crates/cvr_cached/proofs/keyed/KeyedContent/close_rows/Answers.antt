use Rattle.std.proofs.Common.{◌∙◌, ap, take}
use Rattle.std.specs.List.{list_any}
use Rattle.std.specs.FinMap.{get}
use Rattle.cvr_tally.specs.Keys.{is_key}
use Rattle.cvr_tally.specs.declared.key.RowKey.{RowKey}
use Rattle.cvr_fact_types.specs.declared.sums.VoteSums.{VoteSums}
use Rattle.cvr_office.specs.Adding.{key_for}
use Rattle.cvr_cached.specs.Contents.{pairs_of, current_sums}
use Rattle.cvr_cached.proofs.Closing.{closed_more, get-closed}
use Rattle.cvr_cached.proofs.Opening.{any_more}
use Rattle.cvr_cached.proofs.Pairs.{pair_at}
use Rattle.cvr_cached.proofs.keyed.KeyedContent.close_rows.Goals as goal

pub loop-sums-preserved : goal.loop-sums-preserved
loop-sums-preserved c =
    let at = pair_at c.args.self.now c.loop-sums.key c.loop-sums.invariant.key
    (c.votes-sums-items.ensures ∙ ap current_sums c.self.view_is)
    c.loop-sums-test.true c.sums-item.is in
    let ps = pairs_of c.args.self.now in
    let i = c.loop-sums.sums-index in
    let v = c.sums-item.result in
    let k = key_for c.loop-sums.key.unit c.loop-sums.key.batch v in
    let m = c.loop-sums.totals.rows in
    let inv = c.loop-sums.invariant in
    record {
      key = inv.key;
      rows = λ q. closed_more (list_any (λ (p : RowKey × VoteSums). is_key q p.0) (take i ps))
          (is_key q k) _ (get c.args.totals.now.rows q) (get m q) _
          (any_more (λ (p : RowKey × VoteSums). is_key q p.0) ps i (k, v) at.within at.there)
          (inv.rows q)
          (ap (λ m. get m q) c.close_empty.ensures.rows ∙ get-closed m k q);
      moves = c.close_empty.ensures.moves ∙ inv.moves;
      contests = c.close_empty.ensures.contests ∙ inv.contests;
    }
