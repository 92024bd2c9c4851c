-- The paths of a list.
use Rattle.std.proofs.Common.{◌≡◌, ◌≢◌, ◌∙◌, ◌++◌, ◌+◌, ◌<◌, ◌==◌, ℕ, Bool, true, false, cond, not}
use Rattle.std.proofs.Common.{List, [], ◌∷◌, length, arith, refl, ap, sym, take, drop, suc, inl}
use Rattle.std.proofs.Common.{inr, append_assoc}
use Rattle.std.proofs.lemmas.Bool.{eqb-true, eqb-false, eq-eqb, ne_eqb}
use Rattle.std.specs.Prelude.{◌⊎◌}
use Rattle.std.specs.List.{AllByRecursion, after_first, before_first, position_or_len}
use Rattle.cvr_run.specs.ListedPaths.{NoEndLaw, ReadBackLaw, ThreePaths, WholeListLaw, before_paths}
use Rattle.cvr_run.specs.ListedPaths.{ended_paths, parts_at}

-- ---- reading from the front

-- the place of the first end
abbrev at : ℕ → List ℕ → ℕ
at end text = position_or_len (λ b. b == end) text

cut_later : (b : Bool) (byte : ℕ) (text : List ℕ) (n : ℕ) (f : List ℕ → List (List ℕ))
    → cond (not b) (1 + n) 0 < suc (length text)
    → (n < length text → f text ≡ take n text ∷ f (drop (n + 1) text))
    → cond b ([] ∷ f text) (before_paths byte (f text))
    ≡ take (cond (not b) (1 + n) 0) (byte ∷ text)
    ∷ f (drop (cond (not b) (1 + n) 0 + 1) (byte ∷ text))
cut_later true byte text n f lt more = refl
cut_later false byte text n f lt more =
    let one : 1 + n ≡ suc n = omega arith in
    let two : 1 + n + 1 ≡ suc (n + 1) = omega arith in
    ap (before_paths byte) (more (omega (arith, lt)))
    ∙ sym (ap (λ (k : ℕ). take k (byte ∷ text) ∷ f (drop (1 + n + 1) (byte ∷ text))) one
    ∙ ap (λ (k : ℕ). (byte ∷ take n text) ∷ f (drop k (byte ∷ text))) two)

-- at the first end a path is cut off
pub cut_first : (end : ℕ) (text : List ℕ) → at end text < length text
    → parts_at end text ≡ before_first (λ b. b == end) text
    ∷ parts_at end (after_first (λ b. b == end) text)
unfolding parts_at
cut_first end [] lt = absurd (omega (arith, lt))
cut_first end (byte ∷ text) lt =
    cut_later (byte == end) byte text (at end text) (parts_at end) lt (cut_first end text)

last_byte : (b : Bool) (byte n m : ℕ) → cond (not b) (1 + n) 0 ≡ suc m
    → cond b ([] ∷ []) (before_paths byte []) ≡ (byte ∷ []) ∷ []
last_byte true byte n m all = absurd (omega (arith, all))
last_byte false byte n m all = refl

last_later : (b : Bool) (byte : ℕ) (text : List ℕ) (n : ℕ) (paths : List (List ℕ))
    → cond (not b) (1 + n) 0 ≡ suc (length text)
    → (n ≡ length text → paths ≡ text ∷ [])
    → cond b ([] ∷ paths) (before_paths byte paths) ≡ (byte ∷ text) ∷ []
last_later true byte text n paths all more = absurd (omega (arith, all))
last_later false byte text n paths all more = ap (before_paths byte) (more (omega (arith, all)))

last_one : (end byte : ℕ) (text : List ℕ) → at end (byte ∷ text) ≡ suc (length text)
    → parts_at end (byte ∷ text) ≡ (byte ∷ text) ∷ []
unfolding parts_at
last_one end byte [] all = last_byte (byte == end) byte (at end []) 0 all
last_one end byte (next ∷ text) all = last_later (byte == end) byte (next ∷ text)
    (at end (next ∷ text)) (parts_at end (next ∷ text)) all (last_one end next text)

-- where no end is left, what is left is a path
pub last_path : (end : ℕ) (text : List ℕ) → text ≢ [] → at end text ≡ length text
    → parts_at end text ≡ text ∷ []
last_path end [] some all = absurd (some refl)
last_path end (byte ∷ text) some all = last_one end byte text all

-- where nothing is left, there is none
pub no_path : (end : ℕ) (text : List ℕ) (empty : Bool) → not empty ≡ false
    → empty ≡ (length text == 0) → parts_at end text ≡ []
unfolding parts_at
no_path end [] empty is all = refl
no_path end (byte ∷ text) true is all =
    absurd (let none = eqb-true (length (byte ∷ text)) 0 (sym all) in omega (arith, none))
no_path end (byte ∷ text) false is all = cc

-- ---- laws

whole_later : (b : Bool) (end byte : ℕ) (text : List ℕ) (paths : List (List ℕ))
    → (b ≡ true → byte ≡ end)
    → (ended_paths end paths ≡ text) ⊎ (ended_paths end paths ≡ text ++ end ∷ [])
    → (ended_paths end (cond b ([] ∷ paths) (before_paths byte paths)) ≡ byte ∷ text)
    ⊎ (ended_paths end (cond b ([] ∷ paths) (before_paths byte paths))
    ≡ byte ∷ text ++ end ∷ [])
whole_later true end byte text paths is (inl whole) = inl (let same = is refl in cc)
whole_later true end byte text paths is (inr whole) = inr (let same = is refl in cc)
whole_later false end byte [] [] is whole = inr refl
whole_later false end byte (next ∷ text) [] is (inl whole) = cc
whole_later false end byte (next ∷ text) [] is (inr whole) = cc
whole_later false end byte text (path ∷ paths) is (inl whole) = inl (ap (λ t. byte ∷ t) whole)
whole_later false end byte text (path ∷ paths) is (inr whole) = inr (ap (λ t. byte ∷ t) whole)

pub whole_list : WholeListLaw
unfolding parts_at
whole_list end [] = inl refl
whole_list end (byte ∷ text) = whole_later (byte == end) end byte text (parts_at end text)
    (eqb-true byte end) (whole_list end text)

no_end_later : (b : Bool) (end byte : ℕ) (paths : List (List ℕ)) → (b ≡ false → byte ≢ end)
    → AllByRecursion (λ path. AllByRecursion (λ x. x ≢ end) path) paths
    → AllByRecursion (λ path. AllByRecursion (λ x. x ≢ end) path)
    (cond b ([] ∷ paths) (before_paths byte paths))
no_end_later true end byte paths is all = (tt, all)
no_end_later false end byte [] is all = ((is refl, tt), tt)
no_end_later false end byte (path ∷ paths) is all = ((is refl, all.0), all.1)

pub no_end : NoEndLaw
unfolding parts_at
no_end end [] = tt
no_end end (byte ∷ text) = no_end_later (byte == end) end byte (parts_at end text)
    (eqb-false byte end) (no_end end text)

read_first : (end : ℕ) (path more : List ℕ) → AllByRecursion (λ x. x ≢ end) path
    → parts_at end (path ++ end ∷ more) ≡ path ∷ parts_at end more
unfolding parts_at
read_first end [] more all = ap (λ (b : Bool).
    cond b ([] ∷ parts_at end more) (before_paths end (parts_at end more)))
    (eq-eqb end end refl)
read_first end (byte ∷ path) more all =
    ap (λ (b : Bool). cond b ([] ∷ parts_at end (path ++ end ∷ more))
    (before_paths byte (parts_at end (path ++ end ∷ more)))) (ne_eqb byte end all.0)
    ∙ ap (before_paths byte) (read_first end path more all.1)

pub read_back : ReadBackLaw
unfolding parts_at
read_back end [] all = refl
read_back end (path ∷ paths) all =
    ap (parts_at end) (append_assoc path (end ∷ []) (ended_paths end paths))
    ∙ (read_first end path (ended_paths end paths) all.0
    ∙ ap (λ ps. path ∷ ps) (read_back end paths all.1))

pub three_paths : ThreePaths
unfolding parts_at
three_paths = refl
