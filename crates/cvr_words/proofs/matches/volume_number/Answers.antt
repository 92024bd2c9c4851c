use Rattle.std.proofs.Common.{◌∙◌, arith, codes}
use Rattle.std.specs.Str.Parse.{ExplainsUnsignedError, HasUnsignedDigitsIfOk, ParsesUnsigned}
use Rattle.clap.specs.Lexer.{without_minus}
use Rattle.clap.specs.Words.{found_of, rows_of}
use Rattle.clap.proofs.WalkLemmas.{one_text-rows}
use Rattle.cvr_words.proofs.Matched.{number_read, number_there}
use Rattle.cvr_words.proofs.matches.volume_number.Goals as goal

pub returns : goal.returns
returns c =
    let read = c.get_one.ensures.value (without_minus c.requires.0)
    (one_text-rows (found_of c.args.matches.now) (codes "VOLUME") ∙ c.requires.1) in
    number_read _ (λ bs r. ParsesUnsigned 32 10 bs r × ExplainsUnsignedError 10 bs r
    × HasUnsignedDigitsIfOk bs r) (codes "VOLUME") 1 4294967295
    (rows_of (found_of c.args.matches.now)) c.requires.0 c.get_one.result c.requires.1 read
    (λ u x g. g.0) (omega arith) c.requires.2 _ c.in-Some.is

pub unreachable-requires : goal.unreachable-requires
unreachable-requires c =
    let read = c.get_one.ensures.value (without_minus c.requires.0)
    (one_text-rows (found_of c.args.matches.now) (codes "VOLUME") ∙ c.requires.1) in
    number_there _ (λ bs r. ParsesUnsigned 32 10 bs r × ExplainsUnsignedError 10 bs r
    × HasUnsignedDigitsIfOk bs r) 1 4294967295
    c.requires.0 c.get_one.result read (λ u x g. g.0) (omega arith) c.requires.2 c.in-None.is
