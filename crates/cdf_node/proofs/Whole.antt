-- Numbers that aren't whole, in what is read.
use Rattle.std.proofs.Common.{◌≡◌, List, [], ◌∷◌, ◌++◌, Bool, false, Less, Equal, Greater, nat_cmp}
use Rattle.std.proofs.Common.{Ordering, ℕ, arith}
use Rattle.std.specs.Cmp.Lexicographic.{slice_cmp}
use Rattle.std.specs.Ordering.{match_ordering}
use Rattle.serde_json.specs.Data.{Data, array, object, Members}
use Rattle.serde_json.specs.Data.{no_members, member, put}
use Rattle.serde_json.specs.View.{items_of}
use Rattle.serde_json.specs.Written.{has_float, items_have_float, members_have_float}
use Rattle.cdf_node.specs.Whole.{IsNoted}

pub items_float : (ds : List Data) (d : Data) → items_have_float (items_of ds) ≡ false
    → has_float d ≡ false → items_have_float (items_of (ds ++ d ∷ [])) ≡ false
items_float [] d none whole = grind arith
items_float (e ∷ ds) d none whole =
    let rest = items_float ds d (grind arith) whole in grind arith

put_float : (o : Ordering) (k l : List ℕ) (d e : Data) (ms rest : Members)
    → has_float d ≡ false → has_float e ≡ false → members_have_float ms ≡ false
    → members_have_float rest ≡ false
    → members_have_float (match_ordering o (member k d (member l e ms)) (member l d ms)
    (member l e rest)) ≡ false
put_float Less k l d e ms rest one other all more = grind arith
put_float Equal k l d e ms rest one other all more = grind arith
put_float Greater k l d e ms rest one other all more = grind arith

pub members_float : (k : List ℕ) (d : Data) (ms : Members) → members_have_float ms ≡ false
    → has_float d ≡ false → members_have_float (put k d ms) ≡ false
members_float k d no_members none whole = grind arith
members_float k d (member l e ms) none whole =
    let more = members_float k d ms (grind arith) whole in
    put_float (slice_cmp nat_cmp k l) k l d e ms (put k d ms) whole (grind arith) (grind arith) more

-- ---- what is noted, an item or a member more

pub items_noted : (ds : List Data) (d : Data) {before now after : Bool}
    → IsNoted before now (array (items_of ds)) → IsNoted now after d
    → IsNoted before after (array (items_of (ds ++ d ∷ [])))
items_noted ds d all one none =
    let is = one none in
    let others = all is.0 in
    (others.0, items_float ds d others.1 is.1)

pub members_noted : (k : List ℕ) (d : Data) (ms : Members) {before now after : Bool}
    → IsNoted before now (object ms) → IsNoted now after d
    → IsNoted before after (object (put k d ms))
members_noted k d ms all one none =
    let is = one none in
    let others = all is.0 in
    (others.0, members_float k d ms others.1 is.1)
