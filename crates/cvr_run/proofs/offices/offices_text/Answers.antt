use Rattle.std.proofs.Common.{◌<◌, ◌≤◌, ◌+◌, ◌++◌, ◌∙◌, length, map, drop, string_bytes, sym, ap}
use Rattle.std.proofs.Common.{append_assoc, append-nil, arith}
use Rattle.std.specs.List.{flat_map, range_with_len}
use Rattle.std.proofs.lemmas.List.{length-map}
use Rattle.cvr_run.specs.Drill.{office_line}
use Rattle.cvr_run.proofs.SameOffices.{line_more, lines_end}
use Rattle.cvr_run.proofs.offices.offices_text.Goals as goal

pub loop-place-preserved : goal.loop-place-preserved
loop-place-preserved g c =
    let held = g.O.Office.held in
    let all = map held c.args.offices.now in
    let k = c.loop-place.place in
    let lt : k < length all =
    omega (arith, c.loop-place-test.true, length-map c.args.offices.now held) in
    let so_far = string_bytes c.loop-place.text in
    let rest = flat_map (office_line all) (drop (k + 1) (range_with_len 0 (length all))) in
    ap (λ t. t ++ rest) c.in_ok-push_office.ensures
    ∙ (append_assoc so_far (office_line all k) rest
    ∙ (ap (λ l. so_far ++ l) (sym (line_more all (length all) k lt)) ∙ c.loop-place.invariant))

pub returns : goal.returns
returns g c =
    let held = g.O.Office.held in
    let all = map held c.args.offices.now in
    let k = c.loop-place.place in
    let le : length all ≤ k =
    omega (arith, c.loop-place-test.false, length-map c.args.offices.now held) in
    let so_far = string_bytes c.loop-place.text in
    sym (append-nil so_far) ∙ (ap (λ l. so_far ++ l) (sym (lines_end all (length all) k le))
    ∙ c.loop-place.invariant)
