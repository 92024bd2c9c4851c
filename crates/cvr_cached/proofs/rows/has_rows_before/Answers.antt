use Rattle.std.proofs.Common.{◌-◌, sym, arith}
use Rattle.std.proofs.lemmas.Bool.{OnTrue_at, OnTrue_from}
use Rattle.cvr_cached.proofs.SameRows.{touches_none}
use Rattle.cvr_cached.proofs.rows.has_rows_before.Goals as goal

pub returns : goal.returns
returns c = OnTrue_from c.has_rows_of.result _ (λ same q.
    touches_none c.args.contents.now c.args.place (c.args.place - 1) c.index-contents-place.result
    c.index-contents-place-2.result (omega (arith, c.if-place-eq0.false)) c.requires
    (sym c.index-contents-place.is) (sym c.index-contents-place-2.is)
    (OnTrue_at same c.has_rows_of.ensures) q)
