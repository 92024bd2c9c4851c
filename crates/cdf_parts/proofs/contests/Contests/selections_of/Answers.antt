-- The `place` of a contest among the ids is one among the lists of selections too, as both lists
-- are of one length; a contest that isn't among the ids has no selections.
use Rattle.std.proofs.Common.{◌≡◌, ◌<◌, ℕ, List, length, get_or, Some, None, sym, ap, ◌∙◌, arith}
use Rattle.std.proofs.Common.{rules}
use Rattle.cdf_parts.specs.Places.{place_in, selections_of}
use Rattle.std.specs.List.{zip}
use Rattle.cdf_parts.proofs.ContestLists.{contest_ids-zip, place_below, selections_at-zip}
use Rattle.cdf_parts.proofs.contests.Contests.selections_of.Goals as goal

found : (xs : List (List ℕ)) (ys : List (List (List ℕ))) (s : List ℕ) (p : ℕ) (d : List (List ℕ))
    → length xs ≡ length ys → place_in xs s ≡ Some p → d ≡ get_or ys p d
    → Some d ≡ selections_of (zip xs ys) s
found xs ys s p d e is at =
    let h = place_below xs s 0 p is in
    let lt : p < length ys = omega arith in
    rw (contest_ids-zip xs ys e, is) (ap Some (at ∙ sym (selections_at-zip xs ys p d e lt)))

none : (xs : List (List ℕ)) (ys : List (List (List ℕ))) (s : List ℕ) → length xs ≡ length ys
    → place_in xs s ≡ None → None ≡ selections_of (zip xs ys) s
none xs ys s e is = rw (contest_ids-zip xs ys e, is)

pub index-requires : goal.index-requires
index-requires c =
    let n = c.self.inside in
    let is : place_in n.ids c.args.contest.now ≡ Some c.in-Some.place = search rules in
    let h = place_below n.ids c.args.contest.now 0 c.in-Some.place is in
    let e : length n.ids ≡ length n.selections.items = c.self.invariant in
    omega arith

pub returns-in-Some : goal.returns-in-Some
returns-in-Some c =
    let n = c.self.inside in
    let is : place_in n.ids c.args.contest.now ≡ Some c.in-Some.place = search rules in
    let at : c.index.result.now ≡ get_or n.selections.items c.in-Some.place c.index.result.now =
    search rules in
    rw (← c.self.view_is) (found n.ids n.selections.items c.args.contest.now c.in-Some.place
    c.index.result.now c.self.invariant is at)

pub returns-in-None : goal.returns-in-None
returns-in-None c =
    let n = c.self.inside in
    let is : place_in n.ids c.args.contest.now ≡ None = search rules in
    rw (← c.self.view_is) (none n.ids n.selections.items c.args.contest.now c.self.invariant is)
