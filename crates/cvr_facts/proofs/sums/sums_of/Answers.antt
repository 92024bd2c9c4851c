use Rattle.std.proofs.Common.{◌≡◌, ◌<◌, ◌++◌, List, [], ℕ, length, take, drop, sym, ap, subst, ◌∙◌}
use Rattle.std.proofs.Common.{Option, None, Some, option_map, unwrap_or, arith, rules}
use Rattle.std.specs.Option.{IfSome, option_and}
use Rattle.std.proofs.lemmas.List.{take_all, take-append-le, length-map}
use Rattle.cdf_parts.specs.Places.{Texts, selections_at}
use Rattle.cvr_facts.proofs.Counting.{number_with, no_votes, votes_by_place}
use Rattle.cvr_facts.proofs.Columns.{all_seen, seen_below, place-lt, positions-lt, added-lt}
use Rattle.cvr_facts.proofs.Columns.{one_more}
use Rattle.cvr_facts.proofs.sums.sums_of.Goals as goal

-- the ids at the place of the contest that is named, if one is
ids_named : {I : Type 0} (ids : Option I) (own : I) (texts : I → Texts) (at : ℕ → Texts)
    (named : Option ℕ) → ids ≡ option_and named (Some own) → texts own ≡ at (unwrap_or named 0)
    → option_map texts ids ≡ option_map at named
ids_named ids own texts at None is same = ap (option_map texts) is
ids_named ids own texts at (Some place) is same = ap (option_map texts) is ∙ ap Some same

pub loop-selection-init : goal.loop-selection-init
loop-selection-init g c =
    let contests = c.args.contests.now in
    let at = c.unwrap_or-contest.ensures ∙ c.contest-named.ensures.place in
    let first = c.first_sums-sums.ensures contests at in
    let long : length c.in_ok-votes.votes.items
    ≡ length (selections_at contests c.unwrap_or-contest.result) = search rules in
    let votes = no_votes (λ x y. y ≡ x) (λ y e. e) c.in_ok-votes.votes.items
    c.in_ok-votes.ensures.items
    ∙ ap (λ n. votes_by_place n []) (long ∙ ap (λ p. length (selections_at contests p)) at) in
    λ i. record (first i) { votes = votes i }

pub votes_of-added-requires : goal.votes_of-added-requires
votes_of-added-requires g c =
    let at = number_with _ _ _ _ c.loop-selection-test.true c.selection-item.is _
    (c.selections-selection-items.ensures c.args.contests.now) in
    positions-lt _ _ c.requires _ _ at _ (c.positions.ensures _)

pub add_selection-requires-clause-place : goal.add_selection-requires-clause-place
add_selection-requires-clause-place g c =
    let at = number_with _ _ _ _ c.loop-selection-test.true c.selection-item.is _
    (c.selections-selection-items.ensures c.args.contests.now) in
    let names = c.selection.ensures
    ∙ ap (λ o. (g.V.Selection.AsSelectionVote.selection_vote o c.selection-item.result).selection)
    (ids_named c.and-ids.result c.selections-own.result (λ i. i.now)
    (selections_at c.args.contests.now) c.contest-named.result c.and-ids.ensures
    (c.selections-own.ensures ∙ ap (selections_at c.args.contests.now) c.unwrap_or-contest.ensures)
    ∙ c.contest-named.ensures.ids) in
    subst (λ xs. IfSome c.selection.result (λ p. p < length xs)) (sym c.as_mut_slice.ensures.value)
    (place-lt _ _ c.requires _ _ at _ c.loop-selection.invariant _ names)

pub add_selection-requires-clause-room : goal.add_selection-requires-clause-room
add_selection-requires-clause-room g c =
    seen_below _ _ c.requires c.loop-selection.selection-index _
    ((λ i. record c.loop-selection.sums { votes = c.as_mut_slice.ensures.value i })
    ∙ c.loop-selection.invariant)

pub add_selection-requires-clause-few : goal.add_selection-requires-clause-few
add_selection-requires-clause-few g c =
    let at = number_with _ _ _ _ c.loop-selection-test.true c.selection-item.is _
    (c.selections-selection-items.ensures c.args.contests.now) in
    added-lt _ _ c.requires _ _ at _ (c.positions.ensures _) _ c.votes_of-added.ensures.counted
    c.votes_of-added.ensures.pending

-- what was written through a slice
written : (n : ℕ) (xs rest : List ℕ) → n ≡ length xs → take n (xs ++ rest) ≡ xs
written n xs rest long = take-append-le n xs rest (omega (arith, long))
    ∙ take_all n xs (omega (arith, long))

pub loop-selection-preserved : goal.loop-selection-preserved
loop-selection-preserved g c =
    let at = number_with _ _ _ _ c.loop-selection-test.true c.selection-item.is _
    (c.selections-selection-items.ensures c.args.contests.now) in
    let names = c.selection.ensures
    ∙ ap (λ o. (g.V.Selection.AsSelectionVote.selection_vote o c.selection-item.result).selection)
    (ids_named c.and-ids.result c.selections-own.result (λ i. i.now)
    (selections_at c.args.contests.now) c.contest-named.result c.and-ids.ensures
    (c.selections-own.ensures ∙ ap (selections_at c.args.contests.now) c.unwrap_or-contest.ensures)
    ∙ c.contest-named.ensures.ids) in
    let same = (λ i. record c.loop-selection.sums { votes = c.as_mut_slice.ensures.value i })
    ∙ c.loop-selection.invariant in
    let long : c.loop-selection.votes.len ≡ length c.add_selection.new.votes = omega arith in
    (λ i. record (c.add_selection.ensures.sums i) {
      votes = (written c.loop-selection.votes.len c.add_selection.new.votes
          (drop (length c.add_selection.new.votes) c.loop-selection.votes.items) long
          ∙ c.add_selection.ensures.votes) i;
    })
    ∙ one_more _ _ c.requires _ _ at _ (c.positions.ensures _) _ c.votes_of-added.ensures.counted
    c.votes_of-added.ensures.pending _ same _ names

pub returns : goal.returns
returns g c =
    let contests = c.args.contests.now in
    let ids = g.V.AsContestVote.selection_ids contests c.args.vote.now in
    let stated = g.V.Selection.AsSelectionVote.selection_vote ids in
    let all = c.selections-selection-items.ensures contests in
    (λ i. record c.loop-selection.sums { votes = c.new.ensures i })
    ∙ (c.loop-selection.invariant
    ∙ all_seen _ _ c.requires c.loop-selection.selection-index
    (omega (
      arith,
      c.loop-selection-test.false,
      length-map c.selections-selection-items.result.now stated,
      ap length all,
    )))
