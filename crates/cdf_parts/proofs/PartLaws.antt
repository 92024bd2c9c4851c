-- Members, items and parts of a value.
use Rattle.std.proofs.Common.{◌≡◌, ◌≤◌, ◌<◌, ℕ, zero, suc, List, [], length, slice_index_or}
use Rattle.std.proofs.Common.{Contains}
use Rattle.std.proofs.Common.{false, Option, Some, None, option_map, option_and_then, unwrap_or}
use Rattle.std.proofs.Common.{Ordering, Less, Equal, Greater, nat_cmp, refl, subst, arith}
use Rattle.std.proofs.lemmas.Option.{same_Some}
use Rattle.std.specs.Cmp.Lexicographic.{slice_cmp}
use Rattle.std.specs.Ordering.{match_ordering}
use Rattle.serde_json.specs.Data.{Data, null, boolean, number, string, array, object}
use Rattle.serde_json.specs.Data.{Items, no_items, item, Members, no_members, member}
use Rattle.serde_json.specs.Data.{depth, items_depth, members_depth}
use Rattle.serde_json.specs.Find.{get, at, get_member, get_item, as_array}
use Rattle.serde_json.specs.Read.{read, max_depth}
use Rattle.serde_json.specs.Written.{has_float}
use Rattle.serde_json.specs.Written.{compact_text}
use Rattle.cdf_parts.specs.Proper.{IsWell, ItemsAreWell, MembersAreWell, IsProper}
use Rattle.cdf_node.specs.Items.{list_of}
use Rattle.cdf_parts.specs.Parts.{array_at}
use Rattle.cdf_parts.specs.PartOf.{IsPart, itself, of_member, of_item}
use Rattle.cdf_parts.proofs.ReadsBack.{read-proper}
use Rattle.cdf_parts.proofs.WasRead.{proper_read}
use Rattle.cdf_parts.proofs.Whole.{whole_member, whole_item}

-- ---- members

-- what holds of the member here and of the one found later holds of the one found
pub found_at : (P : Data → Type 0) (o : Ordering) (d e : Data) (rest : Option Data)
    → P d → (rest ≡ Some e → P e) → match_ordering o rest (Some d) rest ≡ Some e → P e
found_at P Less d e rest here later is = later is
found_at P Equal d e rest here later is = subst P (same_Some d e is) here
found_at P Greater d e rest here later is = later is

pub well_member : (k : List ℕ) (ms : Members) (e : Data) → MembersAreWell ms
    → get_member k ms ≡ Some e → IsWell e
well_member k no_members e h is = absurd (cc)
well_member k (member l d ms) e h is =
    found_at IsWell (slice_cmp nat_cmp k l) d e (get_member k ms) h.0 (well_member k ms e h.2) is

pub depth_member : (k : List ℕ) (ms : Members) (e : Data) (n : ℕ)
    → members_depth ms ≤ n → get_member k ms ≡ Some e → depth e ≤ n
depth_member k no_members e n h is = absurd (cc)
depth_member k (member l d ms) e n h is =
    found_at (λ x. depth x ≤ n) (slice_cmp nat_cmp k l) d e (get_member k ms)
    (omega arith)
    (depth_member k ms e n (omega arith))
    is

pub member_proper : (n : ℕ) (k : List ℕ) (d e : Data) → get k d ≡ Some e → IsProper (suc n) d
    → IsProper n e
member_proper n k null e is h = absurd (cc)
member_proper n k (boolean b) e is h = absurd (cc)
member_proper n k (number x) e is h = absurd (cc)
member_proper n k (string s) e is h = absurd (cc)
member_proper n k (array ds) e is h = absurd (cc)
member_proper n k (object ms) e is h = record {
  well = well_member k ms e h.well is;
  whole = whole_member ms k e h.whole is;
  shallow =
      let above : suc (members_depth ms) ≤ suc n = h.shallow in
      depth_member k ms e n (omega (arith, above)) is;
}

-- ---- items

pub well_item : (i : ℕ) (ds : Items) (e : Data) → ItemsAreWell ds → get_item i ds ≡ Some e
    → IsWell e
well_item i no_items e h is = absurd (cc)
well_item zero (item d ds) e h is = subst IsWell (same_Some d e is) h.0
well_item (suc i) (item d ds) e h is = well_item i ds e h.1 is

pub depth_item : (i : ℕ) (ds : Items) (e : Data) (n : ℕ) → items_depth ds ≤ n
    → get_item i ds ≡ Some e → depth e ≤ n
depth_item i no_items e n h is = absurd (cc)
depth_item zero (item d ds) e n h is = subst (λ x. depth x ≤ n) (same_Some d e is) (omega arith)
depth_item (suc i) (item d ds) e n h is = depth_item i ds e n (omega arith) is

pub item_proper : (n i : ℕ) (d e : Data) → at i d ≡ Some e → IsProper (suc n) d → IsProper n e
item_proper n i null e is h = absurd (cc)
item_proper n i (boolean b) e is h = absurd (cc)
item_proper n i (number x) e is h = absurd (cc)
item_proper n i (string s) e is h = absurd (cc)
item_proper n i (object ms) e is h = absurd (cc)
item_proper n i (array ds) e is h = record {
  well = well_item i ds e h.well is;
  whole = whole_item ds i e h.whole is;
  shallow =
      let above : suc (items_depth ds) ≤ suc n = h.shallow in
      depth_item i ds e n (omega (arith, above)) is;
}

-- ---- parts

pub proper_deeper : (m n : ℕ) (d : Data) → m ≤ n → IsProper m d → IsProper n d
proper_deeper m n d h p = record {
  well = p.well;
  whole = p.whole;
  shallow =
      let q : depth d ≤ m = p.shallow in
      omega (arith, h, q);
}

pub part_proper : (n : ℕ) (e d : Data) → IsPart e d → IsProper n d → IsProper n e
part_proper n e d itself h = h
part_proper n e c (of_member k d f is p) h =
    part_proper n e f p (member_proper n k d f is (proper_deeper n (suc n) d (omega arith) h))
part_proper n e c (of_item i d f is p) h =
    part_proper n e f p (item_proper n i d f is (proper_deeper n (suc n) d (omega arith) h))

pub part_of_part : (a b c : Data) → IsPart a b → IsPart b c → IsPart a c
part_of_part a b c p itself = p
part_of_part a b c p (of_member k d f is q) = of_member k d f is (part_of_part a b f p q)
part_of_part a b c p (of_item i d f is q) = of_item i d f is (part_of_part a b f p q)

pub part_reads_back : (text : List ℕ) (d e : Data)
    → read text ≡ Some d → has_float d ≡ false → IsPart e d → read (compact_text e) ≡ Some e
part_reads_back text d e is whole p =
    read-proper e (part_proper max_depth e d p (proper_read text d is whole))

-- ---- lists under a name

pub item_in_list : (ds : Items) (i : ℕ) (e : Data)
    → i < length (list_of ds) → slice_index_or (list_of ds) i e ≡ e → get_item i ds ≡ Some e
item_in_list no_items i e h is = absurd (omega arith)
item_in_list (item d ds) zero e h is = (λ j. Some (is j))
item_in_list (item d ds) (suc i) e h is = item_in_list ds i e (omega arith) is

listed_in : (o : Option Data) (d e : Data) → ((f : Data) → o ≡ Some f → IsPart f d)
    → Contains (unwrap_or (option_map list_of (option_and_then as_array o)) []) e → IsPart e d
listed_in None d e h a = absurd (omega (arith, a.1))
listed_in (Some null) d e h a = absurd (omega (arith, a.1))
listed_in (Some (boolean b)) d e h a = absurd (omega (arith, a.1))
listed_in (Some (number x)) d e h a = absurd (omega (arith, a.1))
listed_in (Some (string s)) d e h a = absurd (omega (arith, a.1))
listed_in (Some (object ms)) d e h a = absurd (omega (arith, a.1))
listed_in (Some (array ds)) d e h a =
    part_of_part e (array ds) d (of_item a.0 (array ds) e (item_in_list ds a.0 e a.1 a.2) itself)
    (h (array ds) refl)

pub listed_part : (name : List ℕ) (d e : Data) → Contains (array_at name d) e → IsPart e d
listed_part name d e a = listed_in (get name d) d e (λ f is. of_member name d f is itself) a

pub listed_reads_back : (text outer inner : List ℕ) (d c s : Data)
    → read text ≡ Some d → has_float d ≡ false → Contains (array_at outer d) c
    → Contains (array_at inner c) s
    → read (compact_text s) ≡ Some s
listed_reads_back text outer inner d c s is whole a b =
    part_reads_back text d s is whole (part_of_part s c d (listed_part inner c s b)
    (listed_part outer d c a))
