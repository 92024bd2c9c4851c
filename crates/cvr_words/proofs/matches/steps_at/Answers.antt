use Rattle.std.proofs.Common.{◌≡◌, ◌∙◌, IfErr, IfOk, List, None, codes, refl, subst}
use Rattle.clap.specs.Words.{Text, found_of}
use Rattle.clap.proofs.WalkLemmas.{raw_values-rows}
use Rattle.cvr_words.specs.Steps.{IsBadStep, bad_place, paths_of, steps_of}
use Rattle.cvr_words.proofs.Matched.{words_or}
use Rattle.cvr_words.proofs.matches.steps_at.Goals as goal

pub returns : goal.returns
returns c =
    let value = c.get_strs.ensures ∙ raw_values-rows (found_of c.args.matches.now) (codes "STEP") in
    let same = words_or c.get_strs.result c.unwrap_or.result _ _ c.unwrap_or.ensures refl value in
    let read = c.read_steps in
    record {
      formed = subst (λ (w : List Text). IfOk read.result (λ r. bad_place w ≡ None)) same
          read.ensures.formed;
      steps = subst (λ (w : List Text). IfOk read.result (λ r. r.steps ≡ steps_of 0 w)) same
          read.ensures.steps;
      paths = subst (λ (w : List Text). IfOk read.result (λ r. r.paths ≡ paths_of w)) same
          read.ensures.paths;
      err = subst (λ (w : List Text). IfErr read.result (λ f. IsBadStep w f)) same read.ensures.err;
    }
