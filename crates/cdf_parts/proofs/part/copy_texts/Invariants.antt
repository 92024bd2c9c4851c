use Rattle.std.proofs.Common.{◌≡◌, take}
use Rattle.cdf_parts.specs.Ids.{bytes_of}
use Rattle.cdf_parts.proofs.part.copy_texts.Given as goal

abbrev pub invariant-loop-text : goal.invariant-loop-text
invariant-loop-text l = bytes_of l.copies.items ≡ bytes_of (take l.text-index l.texts)
