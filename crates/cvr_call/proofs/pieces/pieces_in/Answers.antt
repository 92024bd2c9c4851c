-- With each `piece` cut off, those so far and what is behind them (`more`) are the only way to cut
-- the input: where an end doesn't fit, or bytes are left over, there is none.
use Rattle.std.proofs.Common.{◌≡◌, ◌∙◌, ◌++◌, ◌+◌, ℕ, List, [], ◌∷◌, drop, get_or, length}
use Rattle.std.proofs.Common.{ap, subst, sym, true≢false}
use Rattle.std.proofs.lemmas.Bool.{eqb-true, eq-eqb}
use Rattle.std.proofs.lemmas.List.{map-append, nil_from_length}
use denote.Bor.{Bor}
use Rattle.cvr_call.proofs.Cutting.{AreCutSoFar, cut_all, cut_last, cut_next, cut_no_others}
use Rattle.cvr_call.proofs.Cutting.{cut_one_more, uncut_piece, uncut_rest}
use Rattle.cvr_call.proofs.Giving.{shown}
use Rattle.cvr_call.proofs.pieces.pieces_in.Goals as goal

pub returns-in_default-clause-none : goal.returns-in_default-clause-none
returns-in_default-clause-none c fault =
    let l = c.loop-end in
    let was = cut_next _ c.args.ends.now (shown l.pieces.items) _ _ l.end-index l.invariant
    c.loop-end-test.true in
    uncut_piece _ _ _ _ _ _ _ was c.in_default.ensures.none

pub loop-end-preserved : goal.loop-end-preserved
loop-end-preserved c =
    let l = c.loop-end in
    let ends = c.args.ends.now in
    let pieces = shown l.pieces.items in
    let piece = c.in-Some.piece in
    let was = cut_next _ ends pieces _ _ l.end-index l.invariant c.loop-end-test.true in
    let pushed : shown c.push.new.self.items ≡ pieces ++ piece.now ∷ [] =
    ap shown c.in_ok-push.ensures.items
    ∙ map-append (λ (p : Bor (List ℕ)). p.now) l.pieces.items (piece ∷ []) in
    subst (λ all. AreCutSoFar c.args.input.now ends all (get_or ends l.end-index 0)
    c.in-Some.more.now (drop (l.end-index + 1) ends)) (sym pushed)
    (cut_one_more _ _ _ _ _ _ _ _ _ was c.in-Some.ensures.cut c.in-Some.ensures.ended)

pub returns-then-is_empty-clause-cut : goal.returns-then-is_empty-clause-cut
returns-then-is_empty-clause-cut c =
    let l = c.loop-end in
    let was = cut_last _ c.args.ends.now (shown l.pieces.items) _ l.rest.now l.end-index l.invariant
    c.loop-end-test.false in
    cut_all _ _ _ _ _ was
    (nil_from_length l.rest.now (eqb-true _ 0 (sym c.is_empty.ensures ∙ c.if-is_empty.true)))

pub returns-then-is_empty-clause-only : goal.returns-then-is_empty-clause-only
returns-then-is_empty-clause-only c =
    let l = c.loop-end in
    let was = cut_last _ c.args.ends.now (shown l.pieces.items) _ l.rest.now l.end-index l.invariant
    c.loop-end-test.false in
    cut_no_others _ _ _ _ _ was

pub returns-clause-none : goal.returns-clause-none
returns-clause-none c fault =
    let l = c.loop-end in
    let was = cut_last _ c.args.ends.now (shown l.pieces.items) _ l.rest.now l.end-index l.invariant
    c.loop-end-test.false in
    uncut_rest _ _ _ _ _ was (λ none. true≢false
    (sym (c.is_empty.ensures ∙ eq-eqb _ 0 (ap length none)) ∙ c.if-is_empty.false))
