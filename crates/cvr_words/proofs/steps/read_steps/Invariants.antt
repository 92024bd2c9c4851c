use Rattle.std.proofs.Common.{map, take}
use Rattle.cvr_words.proofs.StepLists.{AreRead}
use Rattle.cvr_words.proofs.steps.read_steps.Given as goal

abbrev pub invariant-loop-place : goal.invariant-loop-place
invariant-loop-place l = AreRead (take l.place (map (λ t. t.now) l.texts)) l.steps l.paths
