use Rattle.std.proofs.Common.{◌≡◌, ◌<◌, ℕ, List, IsUtf8, get_or, map, string_bytes, take}
use denote.Bor.{Bor}
use Rattle.cvr_call.proofs.words.words_in.Given as goal

-- the words of the pieces so far, which are texts
abbrev pub invariant-loop-piece : goal.invariant-loop-piece
invariant-loop-piece l = record {
  words : map string_bytes l.words.items ≡ map (λ piece. piece.now) (take l.piece-index l.pieces);
  texts : (k : ℕ) (d : Bor (List ℕ)) → k < l.piece-index → IsUtf8 (get_or l.pieces k d).now;
}
