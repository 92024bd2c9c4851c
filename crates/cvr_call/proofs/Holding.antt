-- Files by their paths: one more of them, and what a look-up finds.
use Rattle.std.proofs.Common.{◌≡◌, ◌∙◌, ℕ, List, Bool, true, false, Option, None, Some, MatchOption}
use Rattle.std.proofs.Common.{ap, bytes_eq, cond, refl, sym}
use Rattle.std.specs.Prelude.{is_some}
use Rattle.std.specs.Ordering.{nat_cmp}
use Rattle.std.specs.Cmp.Lexicographic.{slice_cmp}
use Rattle.std.specs.BTreeMap.{UpdatesBy, get_by}
use Rattle.std.proofs.lemmas.Map.Text.{btree_map_updates_str}
use Rattle.std.proofs.lemmas.Slice.Eq.{bytes_eq-Decides}
use denote.Bor.{Bor}
use Rattle.cvr_run.specs.Opening.{At, Absent, Has, Unknown}
use Rattle.cvr_call.specs.Held.{Held, at_of, first_of, held_at}

pub first_absent : (at : At) → first_of at Absent ≡ at
first_absent Unknown = refl
first_absent Absent = refl
first_absent (Has bytes) = refl

-- a file that is noted stands before those that aren't yet
pub first_more : (at rest : At) (here : Bool) (bytes : List ℕ)
    → first_of (first_of at (cond here (Has bytes) Absent)) rest
    ≡ first_of at (cond here (Has bytes) rest)
first_more Unknown rest here bytes = refl
first_more Absent rest true bytes = refl
first_more Absent rest false bytes = refl
first_more (Has first) rest here bytes = refl

abbrev pub at_path : Held → List ℕ → Option (Bor (List ℕ))
at_path held path = get_by (λ key. slice_cmp nat_cmp path key.now) held

none_of : (o : Option (Bor (List ℕ))) → is_some o ≡ false → o ≡ None
none_of None is = refl
none_of (Some bytes) is = cc

put_at : (here : Bool) (old : Option (Bor (List ℕ))) (bytes : Bor (List ℕ))
    → (here ≡ true → old ≡ None)
    → at_of (cond here (Some bytes) old)
    ≡ first_of (at_of old) (cond here (Has bytes.now) Absent)
put_at true old bytes lacks = rw (lacks refl) refl
put_at false old bytes lacks = sym (first_absent (at_of old))

-- after bytes were put at a path that was lacking
pub noted : (held new : Held) (path : List ℕ) (bytes : Bor (List ℕ))
    → is_some (at_path held path) ≡ false
    → UpdatesBy (λ x y. slice_cmp nat_cmp x.now y.now) (λ key. slice_cmp nat_cmp path key.now)
    held new (Some bytes)
    → (q : List ℕ) → held_at new q
    ≡ first_of (held_at held q) (cond (bytes_eq path q) (Has bytes.now) Absent)
noted held new path bytes lacks updates q =
    ap at_of (btree_map_updates_str path held new (Some bytes) updates q)
    ∙ put_at (bytes_eq path q) (at_path held q) bytes
    (λ same. rw (← (bytes_eq-Decides path q).0 same) (none_of _ lacks))

-- what a look-up finds
pub handed_over : (found : Option (Bor (List ℕ))) (at : At) → at_of found ≡ at
    → MatchOption found (at ≡ Absent) (λ bytes. at ≡ Has bytes.now)
handed_over None at is = sym is
handed_over (Some bytes) at is = sym is
