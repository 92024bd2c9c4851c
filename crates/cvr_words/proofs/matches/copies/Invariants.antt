use Rattle.std.proofs.Common.{◌≡◌, map, take}
use Rattle.cvr_words.proofs.matches.copies.Given as goal

abbrev pub invariant-loop-text : goal.invariant-loop-text
invariant-loop-text l = l.all ≡ map (λ s. s.now) (take l.text-index l.texts)
