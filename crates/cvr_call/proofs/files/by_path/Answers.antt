use Rattle.std.proofs.Common.{◌≡◌, ◌<◌, ◌≤◌, ◌-◌, ◌∙◌, ℕ, List, [], ◌∷◌, ap, arith, bytes_eq, cond}
use Rattle.std.proofs.Common.{drop, get_or, length, map, refl, sym, take}
use Rattle.std.proofs.lemmas.List.{take_all}
use denote.Bor.{Bor}
use Rattle.cvr_run.specs.Opening.{At, Absent, Has}
use Rattle.cvr_call.specs.Given.{files_in, found_at}
use Rattle.cvr_call.specs.Held.{first_of, held_at}
use Rattle.cvr_call.proofs.Holding.{first_absent, first_more}
use Rattle.cvr_call.proofs.files.by_path.Goals as goal

-- fewer than two pieces have no file
no_file : (pieces : List (Bor (List ℕ))) (path : List ℕ) → length pieces < 2
    → found_at (files_in (map (λ piece. piece.now) pieces)) path ≡ Absent
no_file [] path few = refl
no_file (one ∷ []) path few = refl
no_file (one ∷ two ∷ pieces) path few = absurd (omega (arith, few))

abbrev none : Bor (List ℕ)
none = record { ref_ptr = (0, 0); now = [] }

-- a file is noted, and the others are left
step : (old new : At) (pieces : List (Bor (List ℕ))) (path : List ℕ) (found : At)
    → 2 ≤ length pieces
    → new ≡ first_of old (cond (bytes_eq (get_or pieces 0 none).now path)
    (Has (get_or pieces 1 none).now) Absent)
    → first_of old (found_at (files_in (map (λ piece. piece.now) pieces)) path) ≡ found
    → first_of new (found_at (files_in (map (λ piece. piece.now)
    (take (length pieces - 2) (drop 2 pieces)))) path) ≡ found
step old new [] path found many noted is = absurd (omega (arith, many))
step old new (one ∷ []) path found many noted is = absurd (omega (arith, many))
step old new (one ∷ two ∷ pieces) path found many noted is =
    let all : take (length (one ∷ two ∷ pieces) - 2) pieces ≡ pieces =
    take_all _ pieces (omega arith) in
    rw (noted, all)
    (first_more old (found_at (files_in (map (λ piece. piece.now) pieces)) path)
    (bytes_eq one.now path) two.now ∙ is)

pub files-preserved : goal.files-preserved
files-preserved c path = step (held_at c.files.held path) (held_at c.note_file.new.held path)
    c.files.rest.now path _ c.in-len2-up.len_at_least (c.in_ok-note_file.ensures path)
    (c.files.invariant path)

pub returns : goal.returns
returns c path =
    let none = no_file c.files.rest.now path c.in_default.len_below in
    sym (first_absent (held_at c.files.held path))
    ∙ (ap (first_of (held_at c.files.held path)) (sym none) ∙ c.files.invariant path)
