-- Files by their paths. (This project's own.)
use Rattle.std.specs.Prelude.{◌≡◌, ℕ, List, Option, None, Some, map}
use Rattle.std.specs.Ordering.{nat_cmp}
use Rattle.std.specs.BTreeMap.{BTreeMap, get_by}
use Rattle.std.specs.Cmp.Lexicographic.{slice_cmp}
use denote.Bor.{Bor}
use Rattle.cvr_run.specs.Opening.{At, Absent, Has}
use Rattle.cvr_call.specs.Given.{files_in, found_at}

-- bytes by path
abbrev pub Held : Type 0
Held = BTreeMap (Bor (List ℕ)) (Bor (List ℕ))

-- what is known of a path for which these bytes stand, or none
abbrev pub at_of : Option (Bor (List ℕ)) → At
at_of None = Absent
at_of (Some bytes) = Has bytes.now

abbrev pub held_at : Held → List ℕ → At
held_at held path = at_of (get_by (λ key. slice_cmp nat_cmp path key.now) held)

-- the first of two, where it is there
abbrev pub first_of : At → At → At
first_of Absent at = at
first_of first at = first

-- at each path stands the first file with that path
abbrev pub HasFirsts : Held → List (Bor (List ℕ)) → Type 0
HasFirsts held pieces = (path : List ℕ)
    → held_at held path ≡ found_at (files_in (map (λ piece. piece.now) pieces)) path
