use Rattle.std.proofs.Common.{map, string_bytes}
use Rattle.cvr_words.specs.Line.{with_program}
use Rattle.cvr_words.proofs.Laws.{no_line_fault_but_memory}
use Rattle.cvr_run.proofs.listed_request.request_of.Goals as goal

pub returns-else-is_memory-clause-none : goal.returns-else-is_memory-clause-none
returns-else-is_memory-clause-none c = λ request asks.
    absurd (c.is_memory.ensures.no c.if-is_memory.false
    (no_line_fault_but_memory (with_program (map string_bytes c.args.words.now)) request
    c.in-Err.fault asks c.in-Err.ensures.fault))
