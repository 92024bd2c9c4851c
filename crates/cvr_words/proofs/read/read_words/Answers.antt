use Rattle.std.proofs.Common.{map, string_bytes, subst, sym}
use Rattle.cvr_words.specs.Fault.{IsFault}
use Rattle.cvr_words.specs.Line.{with_program}
use Rattle.cvr_words.proofs.Refused.{word_fault_is}
use Rattle.cvr_words.proofs.read.read_words.Goals as goal

pub returns-in-Err-clause-fault : goal.returns-in-Err-clause-fault
returns-in-Err-clause-fault c =
    let words = with_program (map string_bytes c.args.words.now) in
    subst (IsFault words) (sym c.into_word_fault.ensures)
    (word_fault_is words c.in-Err.fault c.in-Err.ensures.fault)
