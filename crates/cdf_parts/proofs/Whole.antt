-- The parts of a value with no float.
use Rattle.std.proofs.Common.{◌≡◌, ℕ, zero, suc, ◌<◌, List, [], ◌∷◌, length, get_or, map}
use Rattle.std.proofs.Common.{false, Option, Some, None, option_map, Ordering, Less}
use Rattle.std.proofs.Common.{Equal, Greater, refl, ap, ◌∙◌, subst, arith}
use Rattle.std.proofs.lemmas.Bool.{or_from, or_parts}
use Rattle.std.specs.Ordering.{nat_cmp, match_ordering}
use Rattle.std.specs.Cmp.Lexicographic.{slice_cmp}
use Rattle.serde_json.specs.Data.{Data, Items}
use Rattle.serde_json.specs.Data.{no_items, item, Members, no_members, member}
use Rattle.serde_json.specs.Find.{get, get_member, get_item, as_array}
use Rattle.cdf_node.specs.View.{view}
use Rattle.cdf_node.specs.declared.node.Node.{Node}
use Rattle.serde_json.specs.Written.{has_float, items_have_float, members_have_float}
use Rattle.std.specs.Prelude.{option_and_then, unwrap_or}
use Rattle.std.specs.List.{list_any}
use Rattle.cdf_node.specs.Items.{list_of}
use Rattle.cdf_parts.specs.Parts.{array_at}

part_at : (o : Ordering) (d e : Data) (rest : Option Data) → (rest ≡ Some e → has_float e ≡ false)
    → has_float d ≡ false → match_ordering o rest (Some d) rest ≡ Some e → has_float e ≡ false
part_at Less d e rest later here is = later is
part_at Equal d e rest later here is =
    let same : d ≡ e = cc in subst (λ x. has_float x ≡ false) same here
part_at Greater d e rest later here is = later is

pub whole_member : (ms : Members) (n : List ℕ) (e : Data) → members_have_float ms ≡ false
    → get_member n ms ≡ Some e → has_float e ≡ false
whole_member no_members n e h is = cc
whole_member (member l d ms) n e h is = part_at (slice_cmp nat_cmp n l) d e (get_member n ms)
    (whole_member ms n e (or_parts (has_float d) (members_have_float ms) h).1)
    (or_parts (has_float d) (members_have_float ms) h).0 is

pub whole_item : (ds : Items) (i : ℕ) (e : Data) → items_have_float ds ≡ false
    → get_item i ds ≡ Some e → has_float e ≡ false
whole_item no_items i e h is = cc
whole_item (item d ds) zero e h is = let same : d ≡ e = cc in
    subst (λ x. has_float x ≡ false) same (or_parts (has_float d) (items_have_float ds) h).0
whole_item (item d ds) (suc i) e h is =
    whole_item ds i e (or_parts (has_float d) (items_have_float ds) h).1 is

pub whole_get : (d : Data) (n : List ℕ) (e : Data) → has_float d ≡ false → get n d ≡ Some e
    → has_float e ≡ false
whole_get d n e h is = grind (arith, whole_member)

whole_list : (ds : Items) → items_have_float ds ≡ false → list_any has_float (list_of ds) ≡ false
whole_list no_items e = refl
whole_list (item d ds) e = or_from (has_float d) (list_any has_float (list_of ds))
    (or_parts (has_float d) (items_have_float ds) e).0
    (whole_list ds (or_parts (has_float d) (items_have_float ds) e).1)

whole_as_array : (e : Data) → has_float e ≡ false
    → list_any has_float (unwrap_or (option_map list_of (as_array e)) []) ≡ false
whole_as_array e h = grind (arith, whole_list)

whole_found : (o : Option Data) → ((e : Data) → o ≡ Some e → has_float e ≡ false)
    → list_any has_float (unwrap_or (option_map list_of (option_and_then as_array o)) []) ≡ false
whole_found None h = refl
whole_found (Some e) h = whole_as_array e (h e refl)

pub whole_array : (d : Data) (name : List ℕ) → has_float d ≡ false
    → list_any has_float (array_at name d) ≡ false
whole_array d name h = whole_found (get name d) (λ e is. whole_get d name e h is)

-- an item of a list of values with no float
pub whole_value : (vs : List Node) (i : ℕ) (v : Node) → i < length vs
    → list_any has_float (map view vs) ≡ false → has_float (view (get_or vs i v)) ≡ false
whole_value [] i v lt h = absurd (omega arith)
whole_value (w ∷ vs) zero v lt h =
    (or_parts (has_float (view w)) (list_any has_float (map view vs)) h).0
whole_value (w ∷ vs) (suc i) v lt h = whole_value vs i v (omega arith)
    (or_parts (has_float (view w)) (list_any has_float (map view vs)) h).1

pub whole_there : (vs : List Node) (i : ℕ) (v : Node) → i < length vs → v ≡ get_or vs i v
    → list_any has_float (map view vs) ≡ false → has_float (view v) ≡ false
whole_there vs i v lt is h = ap (λ w. has_float (view w)) is ∙ whole_value vs i v lt h
