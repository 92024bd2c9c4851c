use Rattle.std.proofs.Common.{◌≡◌, map, string_bytes, take}
use Rattle.cvr_words.specs.Line.{with_program}
use Rattle.cvr_words.proofs.read.named_words.Given as goal

abbrev pub invariant-loop-word : goal.invariant-loop-word
invariant-loop-word l =
    map (λ t. t.now) l.all.items ≡ with_program (map string_bytes (take l.word-index l.words))
