use Rattle.std.proofs.Common.{◌≡◌, ◌∷◌, [], ◌++◌, rules, arith}
use Rattle.std.proofs.lemmas.Grind.{common_steps}
use Rattle.cdf_definition.proofs.Gathered.{pairs_more}
use Rattle.cdf_definition.proofs.named.Named.of_map.Goals as goal

pub loop-id-preserved : goal.loop-id-preserved
loop-id-preserved c =
    let id = c.in-Some.id in
    let text = c.in-Some.body in
    let ids : c.push.new.self.items ≡ c.loop-id.ids.items ++ id ∷ [] = c.in_ok-push.ensures.items in
    let texts : c.push-in-loop-id.new.self.items ≡ c.loop-id.bodies.items ++ text ∷ [] =
    c.in_ok-push-2.ensures.items in
    let step : c.loop-id.id-iterator ≡ (id, text) ∷ c.next.new.self = search rules in
    record {
      same = grind (arith, common_steps, ids, texts, c.loop-id.invariant.same);
      rest = rw (ids, texts) (pairs_more c.loop-id.ids.items c.loop-id.bodies.items id text
          c.loop-id.id-iterator c.next.new.self _ c.loop-id.invariant.same c.loop-id.invariant.rest
          step);
    }
