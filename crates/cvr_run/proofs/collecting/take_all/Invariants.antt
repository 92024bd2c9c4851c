use Rattle.std.proofs.Common.{◌≡◌, ℕ, List, [], take}
use Rattle.cdf_definition.specs.Frame.{Frame}
use Rattle.cvr_run.specs.Given.{AreHad}
use Rattle.cvr_run.proofs.collecting.take_all.Given as goal

-- the files so far, and what was made of them
abbrev pub invariant-loop-place : goal.invariant-loop-place
invariant-loop-place g l =
    let so_far = take l.place l.paths in
    record {
      had : (files : List (List ℕ))
          × AreHad l.from (g.O.Open.state l.initial.opener) (g.O.Open.state l.opener) so_far files
          × ((definition : Frame) → g.T.Take.took l.initial.taker definition [] [] []
          → g.T.Take.took l.taker definition so_far files l.outcomes.items);
      quiet : l.log ≡ l.initial.log;
    }
