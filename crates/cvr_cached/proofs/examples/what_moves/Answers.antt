use Rattle.std.proofs.Common.{[], ◌++◌, ◌∙◌, refl}
use Rattle.serde_json.proofs.OnLiterals.{serde_json_on_literals}
use Rattle.jiff.proofs.OnLiterals.{jiff_on_literals}
use Rattle.cvr_cached.specs.Examples.{contests, held_facts, coming}
use Rattle.cvr_cached.proofs.GivenMoves.{move_count-given}
use Rattle.cvr_cached.proofs.examples.what_moves.Goals as goal

pub returns : goal.returns
unfolding serde_json_on_literals jiff_on_literals
returns c = record {
  come = move_count-given contests held_facts (coming ++ held_facts) ∙ refl;
  anew = move_count-given contests [] (coming ++ held_facts) ∙ refl;
  again = move_count-given contests (coming ++ held_facts) (coming ++ coming ++ held_facts) ∙ refl;
}
