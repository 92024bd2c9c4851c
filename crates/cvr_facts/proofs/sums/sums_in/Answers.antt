use Rattle.std.proofs.Common.{◌≡◌, map, sym, ap, ◌∙◌, rules}
use Rattle.std.proofs.lemmas.List.{take_all}
use Rattle.std.proofs.lemmas.List.Sorted.{IsNonDecreasingBy-from_sort_by_key}
use Rattle.cvr_facts.specs.Sums.{sums_of}
use Rattle.cvr_facts.proofs.ByPlace.{sorted_sums}
use Rattle.cvr_facts.proofs.Counting.{told_less, told_is}
use Rattle.cvr_facts.proofs.sums.sums_in.Goals as goal

pub sums_of-requires : goal.sums_of-requires
sums_of-requires g c =
    let stated = g.V.AsContestVote.contest_vote c.args.contests.now in
    c.requires.each _ (
      c.loop-vote.vote-index,
      told_less stated _ _ _ c.loop-vote-test.true
          c.vote-item.is,
      sym (told_is stated _ _ _ c.loop-vote-test.true c.vote-item.is),
    )

pub returns : goal.returns
returns g c =
    let all = map (g.V.AsContestVote.contest_vote c.args.contests.now) in
    let sums : c.loop-vote.sums.items ≡ map (sums_of c.args.contests.now) (all c.args.votes.now) =
    c.loop-vote.invariant ∙ ap (λ vs. map (sums_of c.args.contests.now) (all vs))
    (take_all _ _ c.loop-vote-test.false) in
    let up = IsNonDecreasingBy-from_sort_by_key (λ s. s.contest) _
    c.sort_unstable_by_key.ensures.sorted (λ a r q k. search rules) in
    c.new.ensures ∙ sorted_sums _ _ c.requires _ _ sums c.sort_unstable_by_key.ensures.permutation
    up
