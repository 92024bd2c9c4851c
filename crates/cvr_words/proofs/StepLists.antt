-- One more step at the end of a list of steps.
use Rattle.std.proofs.Common.{◌≡◌, ◌∙◌, ◌++◌, ◌+◌, ◌<◌, ℕ, List, [], ◌∷◌, Option, Some, None}
use Rattle.std.proofs.Common.{length, map, option_map, arith, refl, ap, sym, take, drop, get_or}
use Rattle.std.proofs.Common.{suc, add-zero, zero-add, Bor, subst, append-nil, append_assoc}
use Rattle.std.proofs.lemmas.List.{drop_more, get_or-map, get_or_default, length-append, length-map}
use Rattle.std.proofs.lemmas.List.{length-take-le, take-append-drop, take_more}
use Rattle.cvr_words.specs.Step.{StepForm, Text, path_in, step_form}
use Rattle.cvr_words.specs.Steps.{bad_from, bad_place, import_path, paths_of, step_at, drill_step}
use Rattle.cvr_words.specs.Steps.{steps_of}
use Rattle.cvr_words.specs.declared.request.Step.{Step}

pub none_later : (o : Option StepForm) (later : Option ℕ) → bad_from o later ≡ None → later ≡ None
none_later o later h = grind arith

bad_later : (o : Option StepForm) (a b : Option ℕ) (n : ℕ) → bad_from o a ≡ None → b ≡ Some n
    → bad_from o b ≡ Some (suc n)
bad_later None a b n h e = cc
bad_later (Some f) a b n h e = ap (option_map (λ n. suc n)) e

fine_later : (o : Option StepForm) (a b : Option ℕ) → bad_from o a ≡ None → b ≡ None
    → bad_from o b ≡ None
fine_later None a b h e = cc
fine_later (Some f) a b h e = ap (option_map (λ n. suc n)) e

bad_at : (xs ys : List Text) (t : Text) → bad_place xs ≡ None → step_form t ≡ None
    → bad_place (xs ++ t ∷ ys) ≡ Some (length xs)
unfolding bad_place
bad_at [] ys t h e = ap (λ o. bad_from o (bad_place ys)) e
bad_at (x ∷ xs) ys t h e = bad_later (step_form x) (bad_place xs) (bad_place (xs ++ t ∷ ys))
    (length xs) h (bad_at xs ys t (none_later (step_form x) (bad_place xs) h) e)

bad_push : (xs : List Text) (t : Text) (f : StepForm) → bad_place xs ≡ None → step_form t ≡ Some f
    → bad_place (xs ++ t ∷ []) ≡ None
unfolding bad_place
bad_push [] t f h e = ap (λ o. bad_from o (bad_place [])) e
bad_push (x ∷ xs) t f h e = fine_later (step_form x) (bad_place xs) (bad_place (xs ++ t ∷ [])) h
    (bad_push xs t f (none_later (step_form x) (bad_place xs) h) e)

paths_push : (xs : List Text) (t : Text)
    → paths_of (xs ++ t ∷ []) ≡ paths_of xs ++ import_path (step_form t)
unfolding paths_of
paths_push [] t = append-nil (import_path (step_form t))
paths_push (x ∷ xs) t =
    ap (λ l. import_path (step_form x) ++ l) (paths_push xs t)
    ∙ sym (append_assoc (import_path (step_form x)) (paths_of xs) (import_path (step_form t)))

place_more : (k : ℕ) (a b : List Text) → k + length a + length b ≡ k + length (a ++ b)
place_more k a b = let sum = length-append a b in omega (arith, sum)

steps_push : (k : ℕ) (xs : List Text) (t : Text)
    → steps_of k (xs ++ t ∷ []) ≡ steps_of k xs
    ++ drill_step (step_form t) (k + length (paths_of xs)) t
unfolding steps_of paths_of
steps_push k [] t = append-nil (drill_step (step_form t) k t)
    ∙ ap (λ (j : ℕ). drill_step (step_form t) j t) (sym (add-zero k))
steps_push k (x ∷ xs) t =
    let next : ℕ = k + length (import_path (step_form x)) in
    ap (λ l. drill_step (step_form x) k x ++ l)
    (steps_push next xs t ∙ ap (λ (j : ℕ). steps_of next xs ++ drill_step (step_form t) j t)
    (place_more k (import_path (step_form x)) (paths_of xs)))
    ∙ sym (append_assoc (drill_step (step_form x) k x) (steps_of next xs) _)

whole_at : (ts : List Text) (i : ℕ) (d : Text) → i < length ts
    → ts ≡ take i ts ++ get_or ts i d ∷ drop (i + 1) ts
whole_at ts i d h = sym (take-append-drop i ts) ∙ ap (λ l. take i ts ++ l) (drop_more ts i d h)

read_at : (ts : List (Bor Text)) (i : ℕ) (d : Bor Text) → i < length ts
    → get_or (map (λ b. b.now) ts) i d.now ≡ (get_or ts i d).now
read_at ts i d h = get_or-map (λ (b : Bor Text). b.now) ts i d d.now h

-- the first text with no form, after texts that have one
pub bad_here : (ts : List (Bor Text)) (i : ℕ) (d : Bor Text) → i < length ts
    → bad_place (take i (map (λ b. b.now) ts)) ≡ None
    → step_form (get_or ts i d).now ≡ None → bad_place (map (λ b. b.now) ts) ≡ Some i
bad_here ts i d h fine e =
    let low : i < length (map (λ (b : Bor Text). b.now) ts) =
    subst (λ (n : ℕ). i < n) (sym (length-map ts (λ (b : Bor Text). b.now))) h in
    let at = bad_at (take i (map (λ b. b.now) ts)) (drop (i + 1) (map (λ b. b.now) ts))
    (get_or (map (λ b. b.now) ts) i d.now) fine
    (ap step_form (read_at ts i d h) ∙ e) in
    ap bad_place (whole_at (map (λ b. b.now) ts) i d.now low)
    ∙ (at ∙ ap (λ (n : ℕ). Some n) (length-take-le i (map (λ b. b.now) ts)
    (omega (arith, low))))

-- and what it is
pub step_here : (ts : List (Bor Text)) (i : ℕ) (d : Bor Text) → i < length ts
    → (get_or ts i d).now ≡ get_or (map (λ b. b.now) ts) i []
step_here ts i d h =
    let low : i < length (map (λ (b : Bor Text). b.now) ts) =
    subst (λ (n : ℕ). i < n) (sym (length-map ts (λ (b : Bor Text). b.now))) h in
    sym (read_at ts i d h) ∙ get_or_default (map (λ b. b.now) ts) i d.now [] low

-- the texts read so far have forms, and give these steps and paths
abbrev pub AreRead : List Text → List Step → List Text → Type 0
AreRead texts steps paths = (bad_place texts ≡ None) × (steps ≡ steps_of 0 texts)
    × (paths ≡ paths_of texts)

pub nothing_read : AreRead [] [] []
unfolding bad_place steps_of paths_of
nothing_read = (refl, refl, refl)

-- and so with one more
pub one_more : (ts : List (Bor Text)) (i : ℕ) (d : Bor Text) (f : StepForm)
    (steps steps2 : List Step) (paths paths2 : List Text) → i < length ts
    → step_form (get_or ts i d).now ≡ Some f → AreRead (take i (map (λ b. b.now) ts)) steps paths
    → steps2 ≡ steps ++ step_at (length paths) (get_or ts i d).now f ∷ []
    → paths2 ≡ paths ++ path_in f
    → AreRead (take (i + 1) (map (λ b. b.now) ts)) steps2 paths2
one_more ts i d f steps steps2 paths paths2 h e kept s2 p2 =
    let all : List Text = map (λ b. b.now) ts in
    let t : Text = (get_or ts i d).now in
    let low : i < length all =
    subst (λ (n : ℕ). i < n) (sym (length-map ts (λ (b : Bor Text). b.now))) h in
    let more : take (i + 1) all ≡ take i all ++ t ∷ [] =
    take_more all i d.now low ∙ ap (λ (x : Text). take i all ++ x ∷ []) (read_at ts i d h) in
    let place : length paths ≡ 0 + length (paths_of (take i all)) =
    ap (λ (l : List Text). length l) kept.2 ∙ sym (zero-add _) in (
      ap bad_place more ∙ bad_push (take i all) t f kept.0 e,
      s2 ∙ (ap (λ (l : List Step). l ++ step_at (length paths) t f ∷ []) kept.1
          ∙ (ap (λ (j : ℕ). steps_of 0 (take i all) ++ step_at j t f ∷ []) place
          ∙ (ap (λ (o : Option StepForm). steps_of 0 (take i all)
          ++ drill_step o (0 + length (paths_of (take i all))) t) (sym e)
          ∙ (sym (steps_push 0 (take i all) t) ∙ sym (ap (steps_of 0) more))))),
      p2 ∙ (ap (λ (l : List Text). l ++ path_in f) kept.2
          ∙ (ap (λ (o : Option StepForm). paths_of (take i all) ++ import_path o) (sym e)
          ∙ (sym (paths_push (take i all) t) ∙ sym (ap paths_of more)))),
    )
