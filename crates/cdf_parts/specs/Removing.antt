-- An object's members without one of them. (This project's own.)
use Rattle.std.specs.Prelude.{ℕ, List}
use Rattle.std.specs.Ordering.{nat_cmp, match_ordering}
use Rattle.std.specs.Cmp.Lexicographic.{slice_cmp}
use Rattle.serde_json.specs.Data.{Members, no_members, member}

-- the members but for the one of that name
abbrev pub without : List ℕ → Members → Members
without k no_members = no_members
without k (member l e ms) =
    match_ordering (slice_cmp nat_cmp k l) (member l e (without k ms)) ms
    (member l e (without k ms))
