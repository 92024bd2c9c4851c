-- Names rise in the parts of a value in which they rise.
use Rattle.std.proofs.Common.{◌≡◌, ℕ, ◌<◌, zero, suc, List, [], ◌∷◌, length, get_or, Option, Some}
use Rattle.std.proofs.Common.{unwrap_or, Ordering, Less, Equal, Greater, Bool, true, false}
use Rattle.std.proofs.Common.{nat_cmp, subst, sym, arith}
use Rattle.std.specs.Prelude.{IfSome}
use Rattle.std.specs.Bool.{OnTrue}
use Rattle.std.specs.Ordering.{match_ordering}
use Rattle.std.specs.Cmp.Lexicographic.{slice_cmp}
use Rattle.serde_json.specs.Data.{Data, null, boolean, number, string, array, object, Items, Members}
use Rattle.serde_json.specs.Data.{no_members, member}
use Rattle.serde_json.specs.Find.{get, get_member, as_array, as_object}
use Rattle.cdf_node.specs.declared.node.Node.{Node}
use Rattle.cdf_node.specs.View.{view, items_view}
use Rattle.cdf_node.specs.Order.{Rises, IsSorted, ItemsAreSorted, MembersAreSorted}
use Rattle.cdf_node.proofs.Lemmas.{rises_sorted}

chosen : (o : Ordering) (d : Data) (found : Option Data) → IsSorted d → IfSome found IsSorted
    → IfSome (match_ordering o found (Some d) found) IsSorted
chosen Less d found one rest = rest
chosen Equal d found one rest = one
chosen Greater d found one rest = rest

found_sorted : (q : List ℕ) (ms : Members) → MembersAreSorted ms → IfSome (get_member q ms) IsSorted
found_sorted q no_members h = tt
found_sorted q (member k d ms) h =
    chosen (slice_cmp nat_cmp q k) d (get_member q ms) h.0 (found_sorted q ms h.2)

got_sorted : (q : List ℕ) (d : Data) → IsSorted d → IfSome (get q d) IsSorted
got_sorted q null h = tt
got_sorted q (boolean b) h = tt
got_sorted q (number n) h = tt
got_sorted q (string s) h = tt
got_sorted q (array ds) h = tt
got_sorted q (object ms) h = found_sorted q ms h

-- a part of it
pub part_is_sorted : (b : Bool) (d : Data) (q : List ℕ) (e : Data) → get q d ≡ Some e
    → OnTrue b (IsSorted d) → OnTrue b (IsSorted e)
part_is_sorted true d q e is h = subst (λ o. IfSome o IsSorted) is (got_sorted q d h)
part_is_sorted false d q e is h = tt

got_items : (d : Data) → IsSorted d → IfSome (as_array d) ItemsAreSorted
got_items null h = tt
got_items (boolean b) h = tt
got_items (number n) h = tt
got_items (string s) h = tt
got_items (array ds) h = h
got_items (object ms) h = tt

-- its items
pub items_are_sorted : (b : Bool) (d : Data) (ds : Items) → as_array d ≡ Some ds
    → OnTrue b (IsSorted d) → OnTrue b (ItemsAreSorted ds)
items_are_sorted true d ds is h = subst (λ o. IfSome o ItemsAreSorted) is (got_items d h)
items_are_sorted false d ds is h = tt

at_place : (vs : List Node) (i : ℕ) (v : Node) → i < length vs → ItemsAreSorted (items_view vs)
    → IsSorted (view (get_or vs i v))
at_place [] i v lt h = absurd (omega arith)
at_place (x ∷ vs) zero v lt h = h.0
at_place (x ∷ vs) (suc i) v lt h = at_place vs i v (omega arith) h.1

-- one of its items
pub item_is_sorted : (b : Bool) (vs : List Node) (i : ℕ) (v : Node) → i < length vs
    → OnTrue b (ItemsAreSorted (items_view vs)) → OnTrue b (IsSorted (view (get_or vs i v)))
item_is_sorted true vs i v lt h = at_place vs i v lt h
item_is_sorted false vs i v lt h = tt

got_members : (d : Data) → IsSorted d → Rises (unwrap_or (as_object d) no_members)
got_members null h = tt
got_members (boolean b) h = tt
got_members (number n) h = tt
got_members (string s) h = tt
got_members (array ds) h = tt
got_members (object ms) h = rises_sorted ms h

-- the names of its members
pub names_rise : (b : Bool) (d : Data) (ms : Members) → ms ≡ unwrap_or (as_object d) no_members
    → OnTrue b (IsSorted d) → OnTrue b (Rises ms)
names_rise true d ms is h = subst Rises (sym is) (got_members d h)
names_rise false d ms is h = tt
