-- Cutting an input into pieces.
use Rattle.std.proofs.Common.{◌≡◌, ◌≢◌, ◌∙◌, ◌+◌, ◌++◌, ℕ, List, [], ◌∷◌, length, take, drop}
use Rattle.std.proofs.Common.{◌<◌, ◌≤◌, get_or, arith, refl, ap, sym, subst, append_assoc}
use Rattle.std.proofs.Common.{append-nil}
use Rattle.std.proofs.lemmas.List.{append_cancel_left, drop_all, drop_more}
use Rattle.std.proofs.Math.Seq.{take-append_seam}
use Rattle.std.specs.List.{concat}
use Rattle.cvr_call.specs.Pieces.{AreCut, ends_from}

-- what is cut behind a first piece
pub record IsBehind (piece : List ℕ) (place : ℕ) (rest ends : List ℕ)
    (pieces : List (List ℕ)) : Type 0 where
  pub more : List (List ℕ)
  pub split : pieces ≡ piece ∷ more
  pub cut : AreCut place rest ends more

same_front : (a b c d : List ℕ) → a ++ b ≡ c ++ d → length a ≡ length c → a ≡ c
same_front a b c d joined same =
    sym (take-append_seam a b)
    ∙ (ap (take (length a)) joined
    ∙ (ap (λ (n : ℕ). take n (c ++ d)) same
    ∙ take-append_seam c d))

-- bytes are cut in one way only: their first piece is the one that ends there
cut_first : (place end : ℕ) (piece rest bytes ends : List ℕ) (pieces : List (List ℕ))
    → piece ++ rest ≡ bytes → place + length piece ≡ end → AreCut place bytes (end ∷ ends) pieces
    → IsBehind piece end rest ends pieces
cut_first place end piece rest bytes ends [] joined ended cut = absurd (cc (cut.ended))
cut_first place end piece rest bytes ends (p ∷ ps) joined ended cut =
    let here : place + length p ≡ end = cc (cut.ended) in
    let later : ends_from (place + length p) ps ≡ ends = cc (cut.ended) in
    let long : length p ≡ length piece = omega (arith, here, ended) in
    let whole : p ++ concat ps ≡ piece ++ rest = cut.joined ∙ sym joined in
    let same : p ≡ piece = same_front p (concat ps) piece rest whole long in
    record {
      more = ps;
      split = ap (λ q. q ∷ ps) same;
      cut = record {
        joined = append_cancel_left piece (concat ps) rest
            (subst (λ q. q ++ concat ps ≡ piece ++ rest) same whole);
        ended = subst (λ (n : ℕ). ends_from n ps ≡ ends) here later;
      };
    }

-- and these are cut, with that piece before them
cut_both : (place end : ℕ) (piece rest bytes ends : List ℕ) (more : List (List ℕ))
    → piece ++ rest ≡ bytes → place + length piece ≡ end → AreCut end rest ends more
    → AreCut place bytes (end ∷ ends) (piece ∷ more)
cut_both place end piece rest bytes ends more joined ended cut =
    record {
      joined = ap (λ q. piece ++ q) cut.joined ∙ joined;
      ended = ap (λ (n : ℕ). n ∷ ends_from n more) ended ∙ ap (λ q. end ∷ q) cut.ended;
    }

-- ---- in a loop

-- some pieces, and those that are cut from the rest, are the pieces of the whole
pub record AreCutSoFar (bytes ends : List ℕ) (pieces : List (List ℕ)) (place : ℕ)
    (rest more_ends : List ℕ) : Type 0 where
  pub cut : (more : List (List ℕ)) → AreCut place rest more_ends more
      → AreCut 0 bytes ends (pieces ++ more)
  pub only : (others : List (List ℕ)) → AreCut 0 bytes ends others
      → (more : List (List ℕ)) × (others ≡ pieces ++ more) × AreCut place rest more_ends more

pub cut_none : (bytes ends : List ℕ) → AreCutSoFar bytes ends [] 0 bytes ends
cut_none bytes ends = record {
  cut = λ more cut. cut;
  only = λ others cut. (others, refl, cut);
}

pub cut_one_more : (bytes ends : List ℕ) (pieces : List (List ℕ)) (place end : ℕ)
    (piece rest more more_ends : List ℕ)
    → AreCutSoFar bytes ends pieces place rest (end ∷ more_ends)
    → piece ++ more ≡ rest → place + length piece ≡ end
    → AreCutSoFar bytes ends (pieces ++ piece ∷ []) end more more_ends
cut_one_more bytes ends pieces place end piece rest more more_ends was joined ended = record {
  cut = λ others cut.
      subst (AreCut 0 bytes ends) (sym (append_assoc pieces (piece ∷ []) others))
      (was.cut (piece ∷ others)
      (cut_both place end piece more rest more_ends others joined ended cut));
  only = λ others cut.
      let behind = was.only others cut in
      let first = cut_first place end piece more rest more_ends behind.0 joined ended behind.2 in (
        first.more,
        behind.1 ∙ (ap (λ q. pieces ++ q) first.split
            ∙ sym (append_assoc pieces (piece ∷ []) first.more)),
        first.cut,
      );
}

-- where an end is left, and where none is
pub cut_next : (bytes ends : List ℕ) (pieces : List (List ℕ)) (place : ℕ) (rest : List ℕ) (n : ℕ)
    → AreCutSoFar bytes ends pieces place rest (drop n ends) → n < length ends
    → AreCutSoFar bytes ends pieces place rest (get_or ends n 0 ∷ drop (n + 1) ends)
cut_next bytes ends pieces place rest n was lt =
    subst (AreCutSoFar bytes ends pieces place rest) (drop_more ends n 0 lt) was

pub cut_last : (bytes ends : List ℕ) (pieces : List (List ℕ)) (place : ℕ) (rest : List ℕ) (n : ℕ)
    → AreCutSoFar bytes ends pieces place rest (drop n ends) → length ends ≤ n
    → AreCutSoFar bytes ends pieces place rest []
cut_last bytes ends pieces place rest n was le =
    subst (AreCutSoFar bytes ends pieces place rest) (drop_all n ends le) was

-- ---- at its end

nothing_left : (place : ℕ) (rest : List ℕ) (more : List (List ℕ)) → AreCut place rest [] more
    → (more ≡ []) × (rest ≡ [])
nothing_left place rest [] cut = (refl, sym cut.joined)
nothing_left place rest (p ∷ ps) cut = absurd (cc (cut.ended))

pub cut_all : (bytes ends : List ℕ) (pieces : List (List ℕ)) (place : ℕ) (rest : List ℕ)
    → AreCutSoFar bytes ends pieces place rest [] → rest ≡ [] → AreCut 0 bytes ends pieces
cut_all bytes ends pieces place rest was none =
    subst (AreCut 0 bytes ends) (append-nil pieces)
    (was.cut [] (record { joined = sym none; ended = refl }))

pub cut_no_others : (bytes ends : List ℕ) (pieces : List (List ℕ)) (place : ℕ) (rest : List ℕ)
    → AreCutSoFar bytes ends pieces place rest [] → (others : List (List ℕ))
    → AreCut 0 bytes ends others → others ≡ pieces
cut_no_others bytes ends pieces place rest was others cut =
    let behind = was.only others cut in
    behind.1
    ∙ (ap (λ q. pieces ++ q) (nothing_left place rest behind.0 behind.2).0 ∙ append-nil pieces)

pub uncut_rest : (bytes ends : List ℕ) (pieces : List (List ℕ)) (place : ℕ) (rest : List ℕ)
    → AreCutSoFar bytes ends pieces place rest [] → rest ≢ [] → (others : List (List ℕ))
    → ¬ AreCut 0 bytes ends others
uncut_rest bytes ends pieces place rest was some others cut =
    let behind = was.only others cut in some (nothing_left place rest behind.0 behind.2).1

no_first : (place end : ℕ) (rest more_ends : List ℕ) (more : List (List ℕ))
    → ((piece behind : List ℕ) → piece ++ behind ≡ rest → place + length piece ≢ end)
    → ¬ AreCut place rest (end ∷ more_ends) more
no_first place end rest more_ends [] none cut = cc (cut.ended)
no_first place end rest more_ends (p ∷ ps) none cut = none p (concat ps) cut.joined (cc (cut.ended))

pub uncut_piece : (bytes ends : List ℕ) (pieces : List (List ℕ)) (place end : ℕ)
    (rest more_ends : List ℕ) → AreCutSoFar bytes ends pieces place rest (end ∷ more_ends)
    → ((piece behind : List ℕ) → piece ++ behind ≡ rest → place + length piece ≢ end)
    → (others : List (List ℕ)) → ¬ AreCut 0 bytes ends others
uncut_piece bytes ends pieces place end rest more_ends was none others cut =
    let behind = was.only others cut in no_first place end rest more_ends behind.0 none behind.2
