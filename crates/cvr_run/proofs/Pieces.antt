-- A line that a log takes piece by piece.
use Rattle.std.proofs.Common.{◌≡◌, ℕ, ◌+◌, ◌<◌, List, [], ◌∷◌, ◌++◌, length, drop, Bool, true}
use Rattle.std.proofs.Common.{false, Result, Ok, Err, OnOk, OnErr, Bor, slice_index_or, sym, ap}
use Rattle.std.proofs.Common.{◌∙◌, append_assoc}
use Rattle.std.specs.List.{flat_map}
use Rattle.std.specs.Result.{is_err}
use Rattle.std.proofs.lemmas.List.{at_drop_more}
use Rattle.cdf_types.specs.Device.{Taken, Appends, taken_with, AppendsPrefix}
use Rattle.cdf_types.proofs.Lemmas.{appended_twice}

-- the bytes of pieces
abbrev pub bytes_of : List (Bor (List ℕ)) → List ℕ
bytes_of pieces = flat_map (λ p. p.now) pieces

pub next_piece : (pieces : List (Bor (List ℕ))) (i : ℕ) (d : Bor (List ℕ)) (front : List ℕ)
    → i < length pieces → bytes_of pieces ≡ front ++ bytes_of (drop i pieces)
    → bytes_of pieces ≡ (front ++ (slice_index_or pieces i d).now) ++ bytes_of (drop (i + 1) pieces)
next_piece pieces i d front within e =
    e ∙ ap (λ r. front ++ r) (at_drop_more bytes_of pieces i d within)
    ∙ sym (append_assoc front (slice_index_or pieces i d).now _)

pub front_of_piece : (before mid after : Taken) (front piece rest line : List ℕ)
    → line ≡ (front ++ piece) ++ rest → Appends before mid front → AppendsPrefix mid after piece
    → AppendsPrefix before after line
front_of_piece before mid after front piece rest line e taken (some, more, cut, is_logged) = (
  front ++ some,
  more ++ rest,
  e ∙ ap (λ p. (front ++ p) ++ rest) cut ∙ ap (λ q. q ++ rest) (sym (append_assoc front some more))
      ∙ append_assoc (front ++ some) more rest,
  is_logged ∙ ap (λ t. taken_with t some) taken ∙ appended_twice before.bytes front some,
)

pub where_err : {T E : Type 0} (P : Type 0) (r : Result T E) → is_err r ≡ true → OnErr r P → P
where_err P (Ok x) e p = absurd (cc)
where_err P (Err x) e p = p

pub where_ok : {T E : Type 0} (P : Type 0) (r : Result T E) → is_err r ≡ false → OnOk r P → P
where_ok P (Ok x) e p = p
where_ok P (Err x) e p = absurd (cc)

pub piece_taken : (before mid after : Taken) (front piece : List ℕ) → Appends before mid front
    → Appends mid after piece → Appends before after (front ++ piece)
piece_taken before mid after front piece taken is_logged =
    is_logged ∙ ap (λ t. taken_with t piece) taken ∙ appended_twice before.bytes front piece

pub failed_works : (failed : Bool) (P : Type 0) → failed ≡ true → failed ≡ false → P
failed_works failed P e works = absurd (cc)

pub end_of_rule : (path rule : List ℕ) → (path ++ (32 ∷ rule)) ++ 10 ∷ []
    ≡ path ++ (32 ∷ (rule ++ 10 ∷ []))
end_of_rule path rule = append_assoc path (32 ∷ rule) (10 ∷ [])
