-- No office passed before `other` holds the same as the one at `place`, so the first that does has
-- the least place; as all are of one definition, any two can be compared.
use Rattle.std.proofs.Common.{◌≡◌, ◌<◌, ◌∙◌, true, false, length, get_or, map, drop, sym, ap, arith}
use Rattle.std.specs.FinSet.{empty}
use Rattle.std.specs.List.{position_or_len}
use Rattle.std.proofs.lemmas.List.{length-map, get_or-map}
use Rattle.cvr_office.specs.Outcomes.{no_frame}
use Rattle.cvr_run.specs.Drill.{are_same}
use Rattle.cvr_run.proofs.SameOffices.{same_itself, first_here, first_later}
use Rattle.cvr_run.proofs.offices.same_place.Goals as goal

pub holds_same-requires : goal.holds_same-requires
holds_same-requires g c =
    let offices = c.args.offices.now in
    let defined = g.O.Office.defined in
    let k = c.loop-other.other in
    let there : c.args.place < length offices = c.requires.there in
    let here : k < length offices = omega (arith, c.loop-other-test.true, there) in
    let many = length-map offices defined in
    ap defined c.index-offices-place.is
    ∙ (sym (get_or-map defined offices c.args.place c.index-offices-place.result no_frame there)
    ∙ (c.requires.of_one c.args.place k (omega (arith, there, many)) (omega (arith, here, many))
    ∙ (get_or-map defined offices k c.index-offices-other.result no_frame here
    ∙ sym (ap defined c.index-offices-other.is))))

pub returns-then-holds_same-clause-least : goal.returns-then-holds_same-clause-least
returns-then-holds_same-clause-least g c =
    let offices = c.args.offices.now in
    let held = g.O.Office.held in
    let all = map held offices in
    let k = c.loop-other.other in
    let there : c.args.place < length offices = c.requires.there in
    let below : k < length offices = omega (arith, c.loop-other-test.true, there) in
    let here : k < length all = omega (arith, below, length-map offices held) in
    let mine : held c.index-offices-place.result
    ≡ get_or all c.args.place empty = ap held c.index-offices-place.is
    ∙ sym (get_or-map held offices c.args.place c.index-offices-place.result empty there) in
    let its : held c.index-offices-other.result
    ≡ get_or all k empty = ap held c.index-offices-other.is
    ∙ sym (get_or-map held offices k c.index-offices-other.result empty below) in
    let is : are_same (get_or all c.args.place empty) (get_or all k empty)
    ≡ true = (λ i. are_same (sym mine i) (sym its i))
    ∙ (sym c.holds_same.ensures ∙ c.if-holds_same.true) in
    omega (
      arith,
      c.loop-other.invariant,
      first_here (are_same (get_or all c.args.place empty)) all
          k empty here is,
    )

pub loop-other-preserved : goal.loop-other-preserved
loop-other-preserved g c =
    let offices = c.args.offices.now in
    let held = g.O.Office.held in
    let all = map held offices in
    let k = c.loop-other.other in
    let there : c.args.place < length offices = c.requires.there in
    let below : k < length offices = omega (arith, c.loop-other-test.true, there) in
    let here : k < length all = omega (arith, below, length-map offices held) in
    let mine : held c.index-offices-place.result
    ≡ get_or all c.args.place empty = ap held c.index-offices-place.is
    ∙ sym (get_or-map held offices c.args.place c.index-offices-place.result empty there) in
    let its : held c.index-offices-other.result
    ≡ get_or all k empty = ap held c.index-offices-other.is
    ∙ sym (get_or-map held offices k c.index-offices-other.result empty below) in
    let not : are_same (get_or all c.args.place empty) (get_or all k empty)
    ≡ false = (λ i. are_same (sym mine i) (sym its i))
    ∙ (sym c.holds_same.ensures ∙ c.if-holds_same.false) in
    omega (
      arith,
      c.loop-other.invariant,
      first_later (are_same (get_or all c.args.place empty)) all
          k empty here not,
    )

pub returns-clause-least : goal.returns-clause-least
returns-clause-least g c =
    let offices = c.args.offices.now in
    let held = g.O.Office.held in
    let all = map held offices in
    let k = c.loop-other.other in
    let there : c.args.place < length offices = c.requires.there in
    let here : c.args.place < length all = omega (arith, there, length-map offices held) in
    let end : k ≡ c.args.place =
    omega (arith, c.loop-other-test.false, c.loop-other.auto.other-end) in
    let test = are_same (get_or all c.args.place empty) in
    let none : position_or_len test (drop k all)
    ≡ 0 = ap (λ n. position_or_len test (drop n all)) end
    ∙ first_here test all c.args.place empty here (same_itself (get_or all c.args.place empty))
    in
    omega (arith, c.loop-other.invariant, none, end)
