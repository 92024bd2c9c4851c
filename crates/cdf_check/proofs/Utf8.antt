-- The compact texts of the parts of a file's value are UTF-8.
use Rattle.std.proofs.Common.{◌≡◌, ◌<◌, ℕ, zero, suc, pos, negsuc, List, [], ◌∷◌, ◌++◌, Contains}
use Rattle.std.proofs.Common.{Bool, true, false, Option, Some, None, option_and_then, unwrap_or}
use Rattle.std.proofs.Common.{IsUtf8, codes}
use Rattle.std.proofs.Common.{Ordering, Less, Equal, Greater, nat_cmp, refl, ap, subst, arith}
use Rattle.std.proofs.lemmas.Bool.{or_parts}
use Rattle.std.proofs.lemmas.Fmt.{IsAscii-decimal, IsAscii-signed}
use Rattle.std.proofs.lemmas.Str.{IsUtf8-append, IsUtf8-nil, IsUtf8-from_ascii}
use Rattle.std.proofs.lemmas.Option.{same_Some}
use Rattle.std.specs.Cmp.Lexicographic.{slice_cmp}
use Rattle.std.specs.Ordering.{match_ordering}
use Rattle.json.specs.Print.{quoted}
use Rattle.json.proofs.Printed.Utf8.{IsUtf8-are_ascii, IsUtf8-quoted, IsUtf8-boolean}
use Rattle.serde_json.specs.Data.{Num, unsigned, negative, float}
use Rattle.serde_json.specs.Data.{Data, null, boolean, number, string, array, object, Items}
use Rattle.serde_json.specs.Data.{no_items, item, Members, no_members, member}
use Rattle.serde_json.specs.Find.{get, at, get_member, get_item, as_str, is_float}
use Rattle.serde_json.specs.Written.{number_text, comma_if, compact_text, items_text, members_text}
use Rattle.serde_json.specs.Written.{has_float, items_have_float, members_have_float}
use Rattle.cdf_parts.specs.Parts.{array_at}
use Rattle.cdf_parts.specs.PartOf.{IsPart, itself, of_member, of_item}
use Rattle.cdf_parts.specs.Proper.{NumFits, IsWell, ItemsAreWell, MembersAreWell, IsProper}
use Rattle.cdf_form.specs.Reading.{value_of}
use Rattle.cdf_parts.specs.Removing.{without}
use Rattle.cdf_parts.proofs.Lemmas.{found_at}
use Rattle.cdf_parts.proofs.Laws.{part_proper, part_of_part, listed_part, without_proper}
use Rattle.cdf_parts.proofs.Laws.{proper_read}
use Rattle.cdf_typed.specs.Typed.{header_of}
use Rattle.cdf_definition.specs.Acceptance.{value_in}
use Rattle.cdf_check.specs.Utf8.{HasUtf8, ItemsHaveUtf8, MembersHaveUtf8, PartUtf8Law, TextUtf8Law}
use Rattle.cdf_check.specs.Utf8.{DeviceIsUtf8, HeaderIsUtf8, SnapshotIsUtf8, BodiesUtf8Law}
use Rattle.cdf_check.proofs.Contents.{of_ascii}
use Rattle.cdf_definition.proofs.Laws.{was_read}
use Rattle.cdf_check.proofs.Spelling.{file_utf8}

-- ---- parts

member_utf8 : (k : List ℕ) (ms : Members) (e : Data) → MembersHaveUtf8 ms → get_member k ms ≡ Some e
    → HasUtf8 e
member_utf8 k no_members e h is = absurd (cc)
member_utf8 k (member l d ms) e h is =
    found_at HasUtf8 (slice_cmp nat_cmp k l) d e (get_member k ms) h.1 (member_utf8 k ms e h.2) is

item_utf8 : (i : ℕ) (ds : Items) (e : Data) → ItemsHaveUtf8 ds → get_item i ds ≡ Some e → HasUtf8 e
item_utf8 i no_items e h is = absurd (cc)
item_utf8 zero (item d ds) e h is = subst HasUtf8 (same_Some d e is) h.0
item_utf8 (suc i) (item d ds) e h is = item_utf8 i ds e h.1 is

get_utf8 : (k : List ℕ) (d e : Data) → HasUtf8 d → get k d ≡ Some e → HasUtf8 e
get_utf8 k d e h is = grind (arith, member_utf8)

at_utf8 : (i : ℕ) (d e : Data) → HasUtf8 d → at i d ≡ Some e → HasUtf8 e
at_utf8 i d e h is = grind (arith, item_utf8)

pub part_utf8 : (e d : Data) → IsPart e d → HasUtf8 d → HasUtf8 e
part_utf8 e d itself h = h
part_utf8 e d (of_member k c f is p) h = part_utf8 e f p (get_utf8 k d f h is)
part_utf8 e d (of_item i c f is p) h = part_utf8 e f p (at_utf8 i d f h is)

str_utf8 : (o : Option Data) → ((e : Data) → o ≡ Some e → HasUtf8 e)
    → IsUtf8 (unwrap_or (option_and_then as_str o) [])
str_utf8 None h = IsUtf8-nil
str_utf8 (Some null) h = IsUtf8-nil
str_utf8 (Some (boolean b)) h = IsUtf8-nil
str_utf8 (Some (number n)) h = IsUtf8-nil
str_utf8 (Some (string s)) h = h (string s) refl
str_utf8 (Some (array ds)) h = IsUtf8-nil
str_utf8 (Some (object ms)) h = IsUtf8-nil

pub text_utf8 : TextUtf8Law
text_utf8 name d h = str_utf8 (get name d) (λ e is. get_utf8 name d e h is)

without_at : (o : Ordering) (l : List ℕ) (e : Data) (ms rest : Members) → IsUtf8 l → HasUtf8 e
    → MembersHaveUtf8 ms → MembersHaveUtf8 rest
    → MembersHaveUtf8 (match_ordering o (member l e rest) ms (member l e rest))
without_at Less l e ms rest hl he hm hr = (hl, he, hr)
without_at Equal l e ms rest hl he hm hr = hm
without_at Greater l e ms rest hl he hm hr = (hl, he, hr)

without_utf8 : (k : List ℕ) (ms : Members) → MembersHaveUtf8 ms → MembersHaveUtf8 (without k ms)
without_utf8 k no_members h = tt
without_utf8 k (member l e ms) h =
    without_at (slice_cmp nat_cmp k l) l e ms (without k ms) h.0 h.1 h.2 (without_utf8 k ms h.2)

-- ---- texts

ascii_then : (c : ℕ) (xs : List ℕ) → c < 128 → IsUtf8 xs → IsUtf8 (c ∷ xs)
ascii_then c xs h u = IsUtf8-append (c ∷ []) xs (of_ascii c h) u

comma_utf8 : (b : Bool) (xs : List ℕ) → IsUtf8 xs → IsUtf8 (comma_if b ++ xs)
comma_utf8 true xs u = ascii_then 44 xs (omega arith) u
comma_utf8 false xs u = u

number_utf8 : (n : Num) → NumFits n → is_float n ≡ false → IsUtf8 (number_text n)
number_utf8 (unsigned n) h f = IsUtf8-from_ascii _ (IsAscii-decimal n h)
number_utf8 (negative (pos n)) h f = absurd h
number_utf8 (negative (negsuc n)) h f =
    IsUtf8-from_ascii _ (IsAscii-signed (negsuc n) (omega arith))
number_utf8 (float x) h f = absurd (cc)

mutual
  compact_utf8 : (d : Data) → IsWell d → has_float d ≡ false → HasUtf8 d → IsUtf8 (compact_text d)
  compact_utf8 null w f h = IsUtf8-are_ascii (compact_text null) refl
  compact_utf8 (boolean b) w f h = IsUtf8-boolean b
  compact_utf8 (number n) w f h = number_utf8 n w f
  compact_utf8 (string s) w f h = IsUtf8-quoted s h
  compact_utf8 (array ds) w f h =
      ascii_then 91 (items_text false ds) (omega arith) (items_utf8 false ds w f h)
  compact_utf8 (object ms) w f h =
      ascii_then 123 (members_text false ms) (omega arith) (members_utf8 false ms w f h)

  items_utf8 : (later : Bool) (ds : Items) → ItemsAreWell ds → items_have_float ds ≡ false
      → ItemsHaveUtf8 ds
      → IsUtf8 (items_text later ds)
  items_utf8 later no_items w f h = of_ascii 93 (omega arith)
  items_utf8 later (item d ds) w f h =
      let p = or_parts (has_float d) (items_have_float ds) f in
      comma_utf8 later (compact_text d ++ items_text true ds)
      (IsUtf8-append (compact_text d) (items_text true ds) (compact_utf8 d w.0 p.0 h.0)
      (items_utf8 true ds w.1 p.1 h.1))

  members_utf8 : (later : Bool) (ms : Members) → MembersAreWell ms → members_have_float ms ≡ false
      → MembersHaveUtf8 ms
      → IsUtf8 (members_text later ms)
  members_utf8 later no_members w f h = of_ascii 125 (omega arith)
  members_utf8 later (member k d ms) w f h =
      let p = or_parts (has_float d) (members_have_float ms) f in
      comma_utf8 later (quoted k ++ 58 ∷ (compact_text d ++ members_text true ms))
      (IsUtf8-append (quoted k) (58 ∷ (compact_text d ++ members_text true ms))
      (IsUtf8-quoted k h.0)
      (ascii_then 58 (compact_text d ++ members_text true ms) (omega arith)
      (IsUtf8-append (compact_text d) (members_text true ms) (compact_utf8 d w.0 p.0 h.1)
      (members_utf8 true ms w.2 p.1 h.2))))

pub proper_utf8 : (n : ℕ) (d : Data) → IsProper n d → HasUtf8 d → IsUtf8 (compact_text d)
proper_utf8 n d p h = compact_utf8 d p.well p.whole h

pub written_part_utf8 : PartUtf8Law
written_part_utf8 bytes d e is whole part =
    proper_utf8 127 e (part_proper 127 e d part (proper_read bytes d (was_read bytes d is) whole))
    (part_utf8 e d part (file_utf8 bytes d is))

-- an object without its snapshots, or null
header_utf8 : (n : ℕ) (d : Data) → IsProper n d → HasUtf8 d → IsUtf8 (compact_text (header_of d))
header_utf8 n null p h = compact_utf8 null tt refl tt
header_utf8 n (boolean b) p h = compact_utf8 null tt refl tt
header_utf8 n (number x) p h = compact_utf8 null tt refl tt
header_utf8 n (string s) p h = compact_utf8 null tt refl tt
header_utf8 n (array ds) p h = compact_utf8 null tt refl tt
header_utf8 n (object ms) p h =
    proper_utf8 n (header_of (object ms))
    (without_proper n (codes "CurrentSnapshotId") (without (codes "CVRSnapshot") ms)
    (without_proper n (codes "CVRSnapshot") ms p))
    (without_utf8 (codes "CurrentSnapshotId") (without (codes "CVRSnapshot") ms)
    (without_utf8 (codes "CVRSnapshot") ms h))

-- ---- accepted files

-- a value that was read, with no float, and one of its parts
module _ (bytes : List ℕ) (d : Data) (is : value_of bytes ≡ Some d) (whole : has_float d ≡ false)
    (e : Data) (part : IsPart e d) where
  its_utf8 : HasUtf8 e
  its_utf8 = part_utf8 e d part (file_utf8 bytes d is)

  device_utf8 : DeviceIsUtf8 e
  device_utf8 = record {
    id = text_utf8 (codes "@id") e its_utf8;
    body = written_part_utf8 bytes d e is whole part;
  }

  snapshot_utf8 : SnapshotIsUtf8 e
  snapshot_utf8 = record {
    id = text_utf8 (codes "@id") e its_utf8;
    body = written_part_utf8 bytes d e is whole part;
  }

  cvr_utf8 : HeaderIsUtf8 e
  cvr_utf8 = record {
    device = text_utf8 (codes "CreatingDeviceId") e its_utf8;
    unique = text_utf8 (codes "UniqueId") e its_utf8;
    body = header_utf8 127 e (part_proper 127 e d part
        (proper_read bytes d (was_read bytes d is) whole)) its_utf8;
  }

pub bodies_utf8 : BodiesUtf8Law
bodies_utf8 frame bytes v = record {
  devices = λ d a. device_utf8 bytes v.0 v.1.1 v.2.whole d
      (listed_part (codes "ReportingDevice") v.0 d
      (subst (λ x. Contains (array_at (codes "ReportingDevice") x) d) value_is a));
  headers = λ c a. cvr_utf8 bytes v.0 v.1.1 v.2.whole c (cvr_part c a);
  snapshots = λ c s a b.
      snapshot_utf8 bytes v.0 v.1.1 v.2.whole s
      (part_of_part s c v.0 (listed_part (codes "CVRSnapshot") c s b) (cvr_part c a));
}
  where
    value_is : value_in bytes ≡ v.0
    value_is = ap (λ o. unwrap_or o null) v.1.1

    cvr_part : (c : Data) → Contains (array_at (codes "CVR") (value_in bytes)) c → IsPart c v.0
    cvr_part c a = listed_part (codes "CVR") v.0 c
        (subst (λ x. Contains (array_at (codes "CVR") x) c) value_is a)
