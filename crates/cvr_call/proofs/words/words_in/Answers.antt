use Rattle.std.proofs.Common.{◌≡◌, ◌<◌, ◌∙◌, ◌++◌, ◌+◌, ℕ, List, [], ◌∷◌, Global, IsUtf8, String}
use Rattle.std.proofs.Common.{ap, below_more, get_or, length, map, string_bytes, subst, sym, take}
use Rattle.std.proofs.lemmas.List.{get_or_default, map-append, take_more}
use Rattle.cvr_call.proofs.Giving.{shown}
use denote.Bor.{Bor}
use Rattle.cvr_call.proofs.words.words_in.Goals as goal

-- one piece more
more_words : (words : List (String Global)) (word : String Global) (pieces : List (Bor (List ℕ)))
    (n : ℕ) (d : Bor (List ℕ)) → n < length pieces → string_bytes word ≡ (get_or pieces n d).now
    → map string_bytes words ≡ shown (take n pieces)
    → map string_bytes (words ++ word ∷ []) ≡ shown (take (n + 1) pieces)
more_words words word pieces n d lt is was =
    map-append string_bytes words (word ∷ [])
    ∙ (ap (λ ws. ws ++ string_bytes word ∷ []) was
    ∙ (ap (λ w. shown (take n pieces) ++ w ∷ []) is
    ∙ (sym (map-append (λ (piece : Bor (List ℕ)). piece.now) (take n pieces)
    (get_or pieces n d ∷ []))
    ∙ ap shown (sym (take_more pieces n d lt)))))

more_texts : (pieces : List (Bor (List ℕ))) (n : ℕ) (e : Bor (List ℕ)) → n < length pieces
    → IsUtf8 (get_or pieces n e).now
    → ((k : ℕ) (d : Bor (List ℕ)) → k < n → IsUtf8 (get_or pieces k d).now)
    → (k : ℕ) (d : Bor (List ℕ)) → k < n + 1 → IsUtf8 (get_or pieces k d).now
more_texts pieces n e lt here was k d =
    below_more (λ k. IsUtf8 (get_or pieces k d).now) n (λ j. was j d)
    (subst (λ piece. IsUtf8 piece.now) (get_or_default pieces n e d lt) here) k

pub loop-piece-preserved : goal.loop-piece-preserved
loop-piece-preserved c =
    let n = c.loop-piece.piece-index in
    let pieces = c.args.pieces.now in
    let lt = c.loop-piece-test.true in
    let text = c.in-Ok.ensures.cases in
    record {
      words = ap (map string_bytes) c.in_ok-push.ensures.items
          ∙ more_words c.loop-piece.words.items c.in_ok-to_string.field-0 pieces n _ lt
          (c.in_ok-to_string.ensures.ok ∙ text.0) c.loop-piece.invariant.words;
      texts = more_texts pieces n _ lt text.1 c.loop-piece.invariant.texts;
    }
