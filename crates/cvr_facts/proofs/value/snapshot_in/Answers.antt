use Rattle.std.proofs.Common.{◌≡◌, List, map, codes, sym, ap, subst, ◌∙◌}
use Rattle.std.proofs.lemmas.Simd.{map-map}
use Rattle.serde_json.specs.Data.{Data}
use Rattle.cdf_node.specs.View.{view}
use Rattle.cdf_node.specs.declared.node.Node.{Node}
use Rattle.cdf_parts.specs.Parts.{array_at}
use Rattle.cdf_parts.specs.Places.{Contest}
use Rattle.cdf_typed.specs.Typed.{contest_vote_of, snapshot_of}
use Rattle.cvr_facts.specs.Sums.{sums_in, AreInRange}
use Rattle.cvr_facts.proofs.Bounds.{AreInRange-from_snapshot}
use Rattle.cvr_facts.proofs.value.snapshot_in.Goals as goal

stated : (contests : List Contest) (d : Data) (vs : List Node)
    → map view vs ≡ array_at (codes "CVRContest") d
    → map (λ v. contest_vote_of contests (view v)) vs ≡ (snapshot_of contests d).contests
stated contests d vs is =
    sym (map-map (contest_vote_of contests) view vs) ∙ ap (map (contest_vote_of contests)) is

pub sums_in-requires : goal.sums_in-requires
sums_in-requires c =
    let contests = c.args.contests.now in
    let d = view c.args.snapshot.now in
    subst (AreInRange contests) (sym (stated contests d _ c.items_at.ensures))
    (AreInRange-from_snapshot contests (snapshot_of contests d) c.requires.range)

pub returns : goal.returns
returns c =
    let contests = c.args.contests.now in
    let votes = c.in_ok-sums_in.ensures
    ∙ ap (sums_in contests) (stated contests (view c.args.snapshot.now) _ c.items_at.ensures) in
    let id = c.in_ok-own_text.ensures ∙ c.text_at.ensures in
    λ i. record {
      key = c.in_ok-copy.ensures i;
      id = id i;
      kind = c.kind_of.ensures i;
      moment = c.moment_of.ensures i;
      votes = votes i;
      body = c.in_ok-compact.ensures i;
    }
