use Rattle.std.proofs.Common.{◌≡◌, ◌∙◌, IfOk, List, refl, subst}
use Rattle.clap.specs.Words.{Text, found_of}
use Rattle.clap.proofs.WalkLemmas.{raw_values-rows}
use Rattle.cvr_words.proofs.Matched.{words_or}
use Rattle.cvr_words.proofs.matches.words_at.Goals as goal

pub returns : goal.returns
returns c =
    let value = c.get_strs.ensures ∙ raw_values-rows (found_of c.args.matches.now) c.args.id.now in
    let same = words_or c.get_strs.result c.unwrap_or.result _ _ c.unwrap_or.ensures refl value in
    subst (λ (w : List Text). IfOk c.copies.result (λ all. all ≡ w)) same c.copies.ensures
