-- The words and the files that pieces give.
use Rattle.std.proofs.Common.{◌≡◌, ◌≢◌, ◌∙◌, ◌%◌, ◌<◌, ◌≤◌, ◌++◌, ℕ, List, [], ◌∷◌, All}
use Rattle.std.proofs.Common.{IsUtf8, ap, arith, drop, length, map, refl, subst, sym}
use Rattle.std.proofs.Common.{take}
use Rattle.std.proofs.lemmas.List.{drop-map, get_or-map, length-append, length-map, map-append}
use Rattle.std.proofs.lemmas.List.{take-append-drop, take-map}
use Rattle.std.proofs.Math.Seq.{drop-append_seam, length-take-le, take-append_seam}
use denote.Bor.{Bor}
use Rattle.std.specs.List.{IsSplitAt}
use Rattle.cvr_call.specs.Given.{AreGiven, File, Given, IsInput, file_pieces, files_in}
use Rattle.cvr_call.specs.Pieces.{AreCut}

-- ---- files

pub files_back : (files : List File) → files_in (file_pieces files) ≡ files
files_back [] = refl
files_back (file ∷ files) = ap (λ fs. file ∷ fs) (files_back files)

even_files : (files : List File) → length (file_pieces files) % 2 ≡ 0
even_files [] = refl
even_files (file ∷ files) = omega (arith, even_files files)

pub pieces_back : (pieces : List (List ℕ)) → length pieces % 2 ≡ 0
    → file_pieces (files_in pieces) ≡ pieces
pieces_back [] even = refl
pieces_back (one ∷ []) even = absurd (omega (arith, even))
pieces_back (path ∷ bytes ∷ pieces) even =
    ap (λ ps. path ∷ bytes ∷ ps) (pieces_back pieces (omega (arith, even)))

-- ---- pieces that give words and files

pub given_words : (pieces : List (List ℕ)) (count : ℕ) (given : Given)
    → AreGiven pieces count given → given.words ≡ take count pieces
given_words pieces count given is =
    sym (take-append_seam given.words (file_pieces given.files))
    ∙ (ap (λ (n : ℕ). take n (given.words ++ file_pieces given.files)) is.counted
    ∙ ap (take count) (sym is.split))

given_rest : (pieces : List (List ℕ)) (count : ℕ) (given : Given)
    → AreGiven pieces count given → file_pieces given.files ≡ drop count pieces
given_rest pieces count given is =
    sym (drop-append_seam given.words (file_pieces given.files))
    ∙ (ap (λ (n : ℕ). drop n (given.words ++ file_pieces given.files)) is.counted
    ∙ ap (drop count) (sym is.split))

pub given_files : (pieces : List (List ℕ)) (count : ℕ) (given : Given)
    → AreGiven pieces count given → files_in (drop count pieces) ≡ given.files
given_files pieces count given is =
    ap files_in (sym (given_rest pieces count given is)) ∙ files_back given.files

pub given_even : (pieces : List (List ℕ)) (count : ℕ) (given : Given)
    → AreGiven pieces count given → length (drop count pieces) % 2 ≡ 0
given_even pieces count given is =
    ap (λ (ps : List (List ℕ)). length ps % 2) (sym (given_rest pieces count given is))
    ∙ even_files given.files

pub given_count : (pieces : List (List ℕ)) (count : ℕ) (given : Given)
    → AreGiven pieces count given → count ≤ length pieces
given_count pieces count given is =
    omega (
      arith,
      is.counted,
      ap length is.split,
      length-append given.words (file_pieces given.files),
    )

-- ---- texts behind references

abbrev pub shown : List (Bor (List ℕ)) → List (List ℕ)
shown pieces = map (λ piece. piece.now) pieces

pub texts_shown : (pieces : List (Bor (List ℕ))) → All (λ piece. IsUtf8 piece.now) pieces
    → All IsUtf8 (shown pieces)
texts_shown pieces all k d lt =
    let n : k < length pieces =
    omega (arith, lt, length-map pieces (λ (p : Bor (List ℕ)). p.now)) in
    let none : Bor (List ℕ) = record { ref_ptr = (0, 0); now = [] } in
    subst IsUtf8 (sym (get_or-map (λ (p : Bor (List ℕ)). p.now) pieces k none d n)) (all k none n)

pub texts_hidden : (pieces : List (Bor (List ℕ))) → All IsUtf8 (shown pieces)
    → All (λ piece. IsUtf8 piece.now) pieces
texts_hidden pieces all k d n =
    let lt : k < length (shown pieces) =
    omega (arith, n, length-map pieces (λ (p : Bor (List ℕ)). p.now)) in
    subst IsUtf8 (get_or-map (λ (p : Bor (List ℕ)). p.now) pieces k d [] n) (all k [] lt)

-- ---- pieces that are cut in two

-- of these the first ones are words, and the others are of files
pub record AreSplit (pieces : List (Bor (List ℕ))) (count : ℕ)
    (words files : List (Bor (List ℕ))) : Type 0 where
  pub enough : count ≤ length pieces
  pub front : words ≡ take count pieces
  pub back : files ≡ drop count pieces

pub are_split : (pieces all words files : List (Bor (List ℕ))) (count : ℕ) → all ≡ pieces
    → IsSplitAt all count words files → AreSplit pieces count words files
are_split pieces all words files count same is = record {
  enough = subst (λ (ps : List (Bor (List ℕ))). count ≤ length ps) same is.0;
  front = is.1 ∙ ap (take count) same;
  back = is.2 ∙ ap (drop count) same;
}

-- an odd number of pieces is no files
pub odd_gives_none : (pieces : List (Bor (List ℕ))) (count : ℕ) (words files : List (Bor (List ℕ)))
    (given : Given) → AreSplit pieces count words files → length files % 2 ≢ 0
    → ¬ AreGiven (shown pieces) count given
odd_gives_none pieces count words files given split odd is =
    odd (ap (λ (fs : List (Bor (List ℕ))). length fs % 2) split.back
    ∙ (ap (λ (n : ℕ). n % 2) (sym (length-map (drop count pieces) (λ (p : Bor (List ℕ)). p.now)))
    ∙ (ap (λ (ps : List (List ℕ)). length ps % 2)
    (sym (drop-map (λ (p : Bor (List ℕ)). p.now) count pieces))
    ∙ given_even (shown pieces) count given is)))

-- nor are other bytes than text words
pub bytes_give_none : (pieces : List (Bor (List ℕ))) (count : ℕ)
    (words files : List (Bor (List ℕ))) (given : Given) → AreSplit pieces count words files
    → ¬ All (λ piece. IsUtf8 piece.now) words → ¬ AreGiven (shown pieces) count given
bytes_give_none pieces count words files given split bytes is =
    bytes (texts_hidden words (subst (All IsUtf8)
    (given_words (shown pieces) count given is
    ∙ (take-map (λ (p : Bor (List ℕ)). p.now) count pieces ∙ ap shown (sym split.front)))
    is.texts))

-- what is given, where they are texts and files
pub split_gives : (pieces : List (Bor (List ℕ))) (count : ℕ) (words files : List (Bor (List ℕ)))
    → AreSplit pieces count words files → length files % 2 ≡ 0
    → All (λ piece. IsUtf8 piece.now) words
    → AreGiven (shown pieces) count
    (record { words = shown words; files = files_in (shown files) })
split_gives pieces count words files split even texts = record {
  split = sym (ap (λ ps. shown words ++ ps)
      (pieces_back (shown files) (ap (λ (n : ℕ). n % 2) (length-map files _) ∙ even))
      ∙ (ap (λ ws. shown ws ++ shown files) split.front
      ∙ (ap (λ fs. shown (take count pieces) ++ shown fs) split.back
      ∙ (sym (map-append (λ (p : Bor (List ℕ)). p.now) (take count pieces) (drop count pieces))
      ∙ ap shown (take-append-drop count pieces)))));
  counted = length-map words _ ∙ (ap length split.front ∙ length-take-le count pieces split.enough);
  texts = texts_shown words texts;
}

-- and nothing else
pub split_words : (pieces : List (Bor (List ℕ))) (count : ℕ) (words files : List (Bor (List ℕ)))
    (given : Given) → AreSplit pieces count words files → AreGiven (shown pieces) count given
    → shown words ≡ given.words
split_words pieces count words files given split is =
    ap shown split.front
    ∙ (sym (take-map (λ (p : Bor (List ℕ)). p.now) count pieces)
    ∙ sym (given_words (shown pieces) count given is))

pub split_files : (pieces : List (Bor (List ℕ))) (count : ℕ) (words files : List (Bor (List ℕ)))
    (given : Given) → AreSplit pieces count words files → AreGiven (shown pieces) count given
    → files_in (shown files) ≡ given.files
split_files pieces count words files given split is =
    ap (λ fs. files_in (shown fs)) split.back
    ∙ (ap files_in (sym (drop-map (λ (p : Bor (List ℕ)). p.now) count pieces))
    ∙ given_files (shown pieces) count given is)

-- ---- an input

-- what it gives, its only pieces give
pub input_gives : (input ends : List ℕ) (pieces : List (Bor (List ℕ))) (count : ℕ) (given : Given)
    → ((others : List (List ℕ)) → AreCut 0 input ends others → others ≡ shown pieces)
    → IsInput input ends count given → AreGiven (shown pieces) count given
input_gives input ends pieces count given only is =
    subst (λ ps. AreGiven ps count given) (only is.pieces is.cut) is.gives
