-- Split between the two offices, the slice has each in one half (`front`, `back`), whichever stands
-- first: the one at `to` then holds what the exchange gives it, and no other changes.
use Rattle.std.proofs.Common.{◌<◌, ◌∙◌, ap, length, map, arith}
use Rattle.cvr_office.proofs.Slots.{set-left, set-right, get_or-left, get_or-right, map-set_joined}
use Rattle.cvr_office.proofs.Slots.{map-set_alike}
use Rattle.cvr_office.proofs.playing.join_apart.Goals as goal

pub returns-then-from-to-clause-contents : goal.returns-then-from-to-clause-contents
returns-then-from-to-clause-contents g c =
    let s = c.split_at_mut-front in
    let all = c.args.offices.now in
    let lt : c.args.from < length s.result.0.now = omega arith in
    ap (map g.O.Office.held) (set-right all s.result.0.now s.result.1.now c.args.to
    c.join_into.new.office s.ensures.value s.ensures.front_len)
    ∙ map-set_joined g.O.Office.held all c.args.from c.args.to _ c.index-back-0.result _
    c.index-front-from.result c.join_into.new.office c.join_into.result c.requires.from
    c.requires.to
    (get_or-right all s.result.0.now s.result.1.now c.args.to c.index-back-0.result s.ensures.value
    s.ensures.front_len)
    (get_or-left all s.result.0.now s.result.1.now c.args.from c.index-front-from.result
    s.ensures.value lt)
    c.join_into.ensures.content

pub returns-else-from-to-clause-contents : goal.returns-else-from-to-clause-contents
returns-else-from-to-clause-contents g c =
    let s = c.split_at_mut-front-else-from-to in
    let all = c.args.offices.now in
    let lt : c.args.to < length s.result.0.now = omega arith in
    ap (map g.O.Office.held) (set-left all s.result.0.now s.result.1.now c.args.to
    c.join_into-else-from-to.new.office s.ensures.value lt)
    ∙ map-set_joined g.O.Office.held all c.args.from c.args.to _ c.index-front-to.result _
    c.index-back-0-else-from-to.result c.join_into-else-from-to.new.office
    c.join_into-else-from-to.result c.requires.from c.requires.to
    (get_or-left all s.result.0.now s.result.1.now c.args.to c.index-front-to.result s.ensures.value
    lt)
    (get_or-right all s.result.0.now s.result.1.now c.args.from c.index-back-0-else-from-to.result
    s.ensures.value s.ensures.front_len)
    c.join_into-else-from-to.ensures.content

pub returns-else-from-to-clause-definitions : goal.returns-else-from-to-clause-definitions
returns-else-from-to-clause-definitions g c =
    let s = c.split_at_mut-front-else-from-to in
    let all = c.args.offices.now in
    let lt : c.args.to < length s.result.0.now = omega arith in
    ap (map g.O.Office.defined) (set-left all s.result.0.now s.result.1.now c.args.to
    c.join_into-else-from-to.new.office s.ensures.value lt)
    ∙ map-set_alike g.O.Office.defined all c.args.to _ c.index-front-to.result
    c.join_into-else-from-to.new.office
    (get_or-left all s.result.0.now s.result.1.now c.args.to c.index-front-to.result s.ensures.value
    lt)
    c.join_into-else-from-to.ensures.definition
