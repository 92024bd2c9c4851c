use Rattle.std.proofs.Common.{◌≡◌, length, get_or, ap, sym, ◌∙◌, ◌∷◌, [], rules, arith}
use Rattle.cdf_definition.proofs.OneElection.{is_frame, one_text, only_text}
use Rattle.cdf_definition.proofs.definition.Definition.election.Goals as goal

pub bounds-bodies-0 : goal.bounds-bodies-0
bounds-bodies-0 c =
    let one = one_text _ (is_frame _ _ c.self.invariant) in
    let len : length c.bodies.result.now ≡ 1 = ap length c.bodies.ensures ∙ one in
    omega (arith, len)

pub returns : goal.returns
returns c =
    let one = one_text _ (is_frame _ _ c.self.invariant) in
    let texts = c.bodies.result.now in
    let own : c.index-bodies-0.result ≡ get_or texts 0 c.index-bodies-0.result = search rules in
    rw (← c.self.view_is) (sym c.bodies.ensures
    ∙ only_text texts c.index-bodies-0.result (ap length c.bodies.ensures ∙ one)
    ∙ ap (λ t. t ∷ []) (sym own))
