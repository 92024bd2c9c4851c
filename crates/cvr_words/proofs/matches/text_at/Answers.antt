use Rattle.std.proofs.Common.{◌∙◌}
use Rattle.clap.specs.Words.{found_of}
use Rattle.clap.proofs.WalkLemmas.{first_value-rows}
use Rattle.cvr_words.proofs.Matched.{word_read, word_there}
use Rattle.cvr_words.proofs.matches.text_at.Goals as goal

pub returns : goal.returns
returns c =
    let same = c.get_str.ensures ∙ first_value-rows (found_of c.args.matches.now) c.args.id.now in
    word_read c.get_str.result c.in-Some.text _ c.in-Some.is same

pub unreachable-requires : goal.unreachable-requires
unreachable-requires c =
    let same = c.get_str.ensures ∙ first_value-rows (found_of c.args.matches.now) c.args.id.now in
    word_there c.get_str.result _ c.requires.0 same c.requires.1 c.in-None.is
