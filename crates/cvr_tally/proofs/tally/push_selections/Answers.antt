use Rattle.std.proofs.Common.{◌≡◌, ◌++◌, ◌∷◌, sym, ◌∙◌, ap, append-nil, string_bytes}
use Rattle.std.specs.Iterator.Adapters.{zip_first, zip_second}
use Rattle.std.specs.List.{flat_map, zip}
use Rattle.std.specs.Slice.Iter.{iter_rest}
use Rattle.std.proofs.lemmas.Slice.Zip.{either_empty_from_Zip, Zip-more}
use Rattle.cvr_tally.specs.Text.{selection}
use Rattle.cvr_tally.proofs.Beside.{zip_empty, zip_more}
use Rattle.cvr_tally.proofs.Pushes.{more_pushed}
use Rattle.cvr_tally.proofs.tally.push_selections.Goals as goal

pub returns : goal.returns
returns c =
    let none = zip_empty _ _ (either_empty_from_Zip c.loop-id.id-iterator c.next.new.self
    c.next.result c.in-None.is c.next.ensures.steps) in
    sym (append-nil _) ∙ (ap (λ pairs. string_bytes c.loop-id.text ++ flat_map selection pairs)
    (sym none) ∙ c.loop-id.invariant)

pub loop-id-preserved : goal.loop-id-preserved
loop-id-preserved c =
    let here = c.loop-id.id-iterator in
    let rest = c.next.new.self in
    let pair = Zip-more here rest c.next.result _ c.in-Some.is c.next.ensures.steps in
    let more : zip (iter_rest (zip_first here)) (iter_rest (zip_second here))
    ≡ (c.in-Some.id.now, c.in-Some.count.now)
    ∷ zip (iter_rest (zip_first rest)) (iter_rest (zip_second rest)) =
    zip_more _ _ _ _ _ _ pair.0 pair.1 in
    more_pushed _ _ _ _ _ c.in_ok-push_selection.ensures
    (ap (λ pairs. string_bytes c.loop-id.text ++ flat_map selection pairs) (sym more)
    ∙ c.loop-id.invariant)
