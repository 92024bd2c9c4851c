use Rattle.std.proofs.Common.{◌≡◌, ◌<◌, length, get_or, sym, ◌∙◌, arith, rules}
use Rattle.std.specs.List.{zip}
use Rattle.cdf_parts.proofs.ContestLists.{length-zip, selections_at-zip}
use Rattle.cdf_parts.proofs.contests.Contests.selections.Goals as goal

pub index-requires : goal.index-requires
index-requires c =
    let n = c.self.inside in
    let len = length-zip n.ids n.selections.items c.self.invariant in
    let h : c.args.place < length (zip n.ids n.selections.items) = rw c.self.view_is c.requires in
    omega arith

pub returns : goal.returns
returns c =
    let n = c.self.inside in
    let len = length-zip n.ids n.selections.items c.self.invariant in
    let h : c.args.place < length (zip n.ids n.selections.items) = rw c.self.view_is c.requires in
    let is : c.index.result.now ≡ get_or n.selections.items c.args.place c.index.result.now =
    search rules in
    is ∙ rw (← c.self.view_is) (sym (selections_at-zip n.ids n.selections.items c.args.place
    c.index.result.now c.self.invariant (omega arith)))
