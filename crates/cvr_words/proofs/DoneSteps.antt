-- The steps of texts do what the texts say.
use Rattle.std.proofs.Common.{◌≡◌, ◌∙◌, ◌++◌, ◌+◌, ℕ, List, [], ◌∷◌, Option, Some, None, length}
use Rattle.std.proofs.Common.{map, refl, ap, ap₂, sym, add-zero, append_assoc}
use Rattle.std.specs.List.{flat_map, range_with_len}
use Rattle.std.proofs.Math.Seq.{get_or-append_seam}
use Rattle.std.proofs.lemmas.List.{length-append}
use Rattle.cvr_words.specs.Step.{StepForm, Text, import_form, exchange_form, step_form}
use Rattle.cvr_words.specs.Steps.{bad_from, bad_place, import_path, paths_of, drill_step, steps_of}
use Rattle.cvr_words.specs.StepLaws.{form_at, import_place}
use Rattle.cvr_words.specs.declared.request.Step.{Step}
use Rattle.cvr_words.proofs.StepLists.{none_later}

-- ---- texts

with_text : (o : Option StepForm) (later : Option ℕ) (k : ℕ) (t : Text) (ts : List Text)
    (steps : List Step)
    → bad_from o later ≡ None → map (λ step. step.text) steps ≡ ts
    → map (λ step. step.text) (drill_step o k t ++ steps) ≡ t ∷ ts
with_text None later k t ts steps fine e = cc
with_text (Some f) later k t ts steps fine e = ap (λ (l : List Text). t ∷ l) e

texts_from : (k : ℕ) (texts : List Text) → bad_place texts ≡ None
    → map (λ step. step.text) (steps_of k texts) ≡ texts
unfolding bad_place steps_of
texts_from k [] fine = refl
texts_from k (t ∷ ts) fine =
    let next : ℕ = k + length (import_path (step_form t)) in
    with_text (step_form t) (bad_place ts) k t ts (steps_of next ts) fine
    (texts_from next ts (none_later (step_form t) (bad_place ts) fine))

pub step_texts : (texts : List Text) → bad_place texts ≡ None
    → map (λ step. step.text) (steps_of 0 texts) ≡ texts
step_texts texts fine = texts_from 0 texts fine

-- ---- forms

abbrev forms_at : List Text → List Step → List (Option StepForm)
forms_at paths steps = map (λ step. Some (form_at paths step.act)) steps

with_form : (o : Option StepForm) (later : Option ℕ) (front rest : List Text) (t : Text)
    (steps : List Step) (forms : List (Option StepForm))
    → bad_from o later ≡ None → forms_at (front ++ (import_path o ++ rest)) steps ≡ forms
    → forms_at (front ++ (import_path o ++ rest)) (drill_step o (length front) t ++ steps)
    ≡ o ∷ forms
with_form None later front rest t steps forms fine e = cc
with_form (Some (import_form office path)) later front rest t steps forms fine e =
    ap₂ (λ (p : Text) (l : List (Option StepForm)). Some (import_form office p) ∷ l)
    (get_or-append_seam front path rest []) e
with_form (Some (exchange_form from to)) later front rest t steps forms fine e =
    ap (λ (l : List (Option StepForm)). Some (exchange_form from to) ∷ l) e

-- the paths before those of the texts stand in front
forms_from : (front texts : List Text) → bad_place texts ≡ None
    → forms_at (front ++ paths_of texts) (steps_of (length front) texts) ≡ map step_form texts
unfolding bad_place steps_of paths_of
forms_from front [] fine = refl
forms_from front (t ∷ ts) fine =
    let o : Option StepForm = step_form t in
    let later = forms_from (front ++ import_path o) ts (none_later o (bad_place ts) fine) in
    let same = ap₂ (λ (l : List Text) (n : ℕ). forms_at l (steps_of n ts))
    (sym (append_assoc front (import_path o) (paths_of ts)))
    (sym (length-append front (import_path o))) in
    with_form o (bad_place ts) front (paths_of ts) t
    (steps_of (length front + length (import_path o)) ts) (map step_form ts) fine (same ∙ later)

pub step_forms : (texts : List Text) → bad_place texts ≡ None
    → forms_at (paths_of texts) (steps_of 0 texts) ≡ map step_form texts
step_forms texts fine = forms_from [] texts fine

-- ---- places

abbrev places_in : List Step → List ℕ
places_in steps = flat_map (λ step. import_place step.act) steps

with_place : (o : Option StepForm) (k : ℕ) (t : Text) (steps : List Step) (rest : List Text)
    → places_in steps ≡ range_with_len (k + length (import_path o)) (length rest)
    → places_in (drill_step o k t ++ steps) ≡ range_with_len k (length (import_path o ++ rest))
with_place None k t steps rest e = e ∙ ap (λ (n : ℕ). range_with_len n (length rest)) (add-zero k)
with_place (Some (import_form office path)) k t steps rest e = ap (λ (l : List ℕ). k ∷ l) e
with_place (Some (exchange_form from to)) k t steps rest e =
    e ∙ ap (λ (n : ℕ). range_with_len n (length rest)) (add-zero k)

places_from : (k : ℕ) (texts : List Text)
    → places_in (steps_of k texts) ≡ range_with_len k (length (paths_of texts))
unfolding steps_of paths_of
places_from k [] = refl
places_from k (t ∷ ts) =
    let next : ℕ = k + length (import_path (step_form t)) in
    with_place (step_form t) k t (steps_of next ts) (paths_of ts) (places_from next ts)

pub step_places : (texts : List Text) → places_in (steps_of 0 texts)
    ≡ range_with_len 0 (length (paths_of texts))
step_places texts = places_from 0 texts
