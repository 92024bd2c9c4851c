use Rattle.std.proofs.Common.{◌≡◌, [], get_or, Some, None, sym, ap, ◌∙◌, arith, rules}
use Rattle.cdf_parts.specs.Places.{place_in}
use Rattle.cdf_definition.proofs.Gathered.{text_there, no_text}
use Rattle.cdf_definition.proofs.named.Named.text_of.Goals as goal

pub index-requires : goal.index-requires
index-requires c =
    let n = c.self.inside in
    let is : place_in n.ids c.args.id.now ≡ Some c.in-Some.place = search rules in
    let h = text_there n.ids n.bodies.items c.args.id.now c.in-Some.place [] c.self.invariant is in
    omega (arith, h.0)

pub returns-in-Some : goal.returns-in-Some
returns-in-Some c =
    let n = c.self.inside in
    let is : place_in n.ids c.args.id.now ≡ Some c.in-Some.place = search rules in
    let d = c.index.result.now in
    let h = text_there n.ids n.bodies.items c.args.id.now c.in-Some.place d c.self.invariant is in
    let own : d ≡ get_or n.bodies.items c.in-Some.place d = search rules in
    rw (← c.self.view_is) (sym (h.1 ∙ ap Some (sym own)))

pub returns-in-None : goal.returns-in-None
returns-in-None c =
    let n = c.self.inside in
    let is : place_in n.ids c.args.id.now ≡ None = search rules in
    rw (← c.self.view_is) (sym (no_text n.ids n.bodies.items c.args.id.now is))
