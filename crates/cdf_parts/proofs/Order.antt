-- Names in byte order.
use Rattle.std.proofs.Common.{◌≡◌, ℕ, List, Ordering, Less, Equal, Greater, nat_cmp, is_eq, refl}
use Rattle.std.proofs.Common.{sym, ap, ◌∙◌}
use Rattle.std.proofs.lemmas.Cmp.{nat_list_cmp_total, tied_itself}
use Rattle.std.proofs.lemmas.Map.Text.{is_eq-slice_cmp}
use Rattle.std.proofs.lemmas.Slice.Eq.{bytes_eq-Decides}
use Rattle.std.specs.Cmp.Lexicographic.{slice_cmp}
use Rattle.std.specs.Ordering.{match_ordering, ordering_reverse}
use Rattle.serde_json.specs.Data.{Data, Members, no_members, member, put}
use Rattle.cdf_parts.specs.Proper.{Before, Below, IsWell, MembersAreWell}
use Rattle.cdf_node.proofs.Lemmas.{Below-trans, Below-put}

pub Before-trans : (a b c : List ℕ) → Before a b → Before b c → Before a c
Before-trans a b c p q = nat_list_cmp_total.trans a b c p q

pub after_is : (a b : List ℕ) → Before a b → slice_cmp nat_cmp b a ≡ Greater
after_is a b p = nat_list_cmp_total.antisymm b a ∙ ap ordering_reverse p

pub greater_is : (a b : List ℕ) → slice_cmp nat_cmp a b ≡ Greater → Before b a
greater_is a b p = nat_list_cmp_total.antisymm b a ∙ ap ordering_reverse p

pub equal_is : (a b : List ℕ) → slice_cmp nat_cmp a b ≡ Equal → a ≡ b
equal_is a b e = (bytes_eq-Decides a b).0 (sym (is_eq-slice_cmp a b) ∙ ap is_eq e)

pub same_name : (k : List ℕ) → slice_cmp nat_cmp k k ≡ Equal
same_name k = tied_itself nat_list_cmp_total k

put_well_at : (o : Ordering) (k l : List ℕ) (d e : Data) (ms : Members) → slice_cmp nat_cmp k l ≡ o
    → IsWell d → IsWell e → Below l ms → MembersAreWell ms → MembersAreWell (put k d ms)
    → MembersAreWell (match_ordering o (member k d (member l e ms)) (member l d ms)
    (member l e (put k d ms)))
put_well_at Less k l d e ms is well old above rest later =
    (well, (is, Below-trans k l ms is above), (old, above, rest))
put_well_at Equal k l d e ms is well old above rest later = (well, above, rest)
put_well_at Greater k l d e ms is well old above rest later =
    (old, Below-put l k d ms (greater_is k l is) above, later)

-- well members are well with well data put in
pub put_well : (k : List ℕ) (d : Data) (ms : Members) → IsWell d → MembersAreWell ms
    → MembersAreWell (put k d ms)
put_well k d no_members well h = (well, tt, tt)
put_well k d (member l e ms) well h =
    put_well_at (slice_cmp nat_cmp k l) k l d e ms refl well h.0 h.1 h.2 (put_well k d ms well h.2)
