-- A part's text is no longer than the whole's.
use Rattle.std.proofs.Common.{◌≡◌, ◌≤◌, ◌<◌, ◌+◌, ◌++◌, ℕ, zero, suc, List, ◌∷◌, length, Bool, true}
use Rattle.std.proofs.Common.{Some, nat_cmp}
use Rattle.std.proofs.Common.{subst, arith, length-append}
use Rattle.std.proofs.lemmas.Option.{same_Some}
use Rattle.std.specs.Cmp.Lexicographic.{slice_cmp}
use Rattle.json.specs.Print.{quoted}
use Rattle.serde_json.specs.Data.{Data, array}
use Rattle.serde_json.specs.Data.{Items, no_items, item, Members, no_members, member}
use Rattle.serde_json.specs.Find.{get, at, get_member, get_item}
use Rattle.serde_json.specs.Written.{compact_text, items_text, members_text, comma_if}
use Rattle.serde_json.specs.Events.{items_len}
use Rattle.cdf_parts.specs.PartOf.{IsPart, itself, of_member, of_item}
use Rattle.cdf_parts.proofs.PartLaws.{found_at}

later_short : (ds : Items) → items_len ds < length (items_text true ds)
later_short no_items = omega arith
later_short (item d ds) =
    let p : items_len ds < length (items_text true ds) = later_short ds in
    omega (arith, p, length-append (compact_text d) (items_text true ds))

-- an array has no more items than its text has bytes
pub items_short : (ds : Items) → items_len ds ≤ length (compact_text (array ds))
items_short no_items = omega arith
items_short (item d ds) =
    let p : items_len ds < length (items_text true ds) = later_short ds in
    omega (arith, p, length-append (compact_text d) (items_text true ds))

item_parts : (b : Bool) (d : Data) (ds : Items)
    → length (compact_text d) + length (items_text true ds) ≤ length (items_text b (item d ds))
item_parts b d ds =
    omega (
      arith,
      length-append (comma_if b) (compact_text d ++ items_text true ds),
      length-append (compact_text d) (items_text true ds),
    )

pub item_short : (b : Bool) (i : ℕ) (ds : Items) (e : Data)
    → get_item i ds ≡ Some e → length (compact_text e) ≤ length (items_text b ds)
item_short b i no_items e is = absurd (cc)
item_short b zero (item d ds) e is =
    subst (λ x. length (compact_text x) ≤ length (items_text b (item d ds))) (same_Some d e is)
    (omega (arith, item_parts b d ds))
item_short b (suc i) (item d ds) e is =
    let p : length (compact_text e) ≤ length (items_text true ds) = item_short true i ds e is in
    omega (arith, p, item_parts b d ds)

member_parts : (b : Bool) (k : List ℕ) (d : Data) (ms : Members)
    → length (compact_text d) + length (members_text true ms)
    ≤ length (members_text b (member k d ms))
member_parts b k d ms =
    omega (
      arith,
      length-append (comma_if b) (quoted k ++ 58 ∷ (compact_text d ++ members_text true ms)),
      length-append (quoted k) (58 ∷ (compact_text d ++ members_text true ms)),
      length-append (compact_text d) (members_text true ms),
    )

pub member_short : (b : Bool) (k : List ℕ) (ms : Members) (e : Data)
    → get_member k ms ≡ Some e → length (compact_text e) ≤ length (members_text b ms)
member_short b k no_members e is = absurd (cc)
member_short b k (member l d ms) e is =
    let p = member_parts b l d ms in
    found_at (λ x. length (compact_text x) ≤ length (members_text b (member l d ms)))
    (slice_cmp nat_cmp k l) d e (get_member k ms)
    (omega (arith, p))
    (λ r.
    let q : length (compact_text e) ≤ length (members_text true ms) = member_short true k ms e r in
    omega (arith, p, q))
    is

member_within : (k : List ℕ) (d e : Data)
    → get k d ≡ Some e → length (compact_text e) ≤ length (compact_text d)
member_within k d e is = grind (arith, length, compact_text, members_text, member_short)

item_within : (i : ℕ) (d e : Data) → at i d ≡ Some e
    → length (compact_text e) ≤ length (compact_text d)
item_within i d e is = grind (arith, length, compact_text, items_text, item_short)

pub part_short : (e d : Data) → IsPart e d → length (compact_text e) ≤ length (compact_text d)
part_short e d itself = omega arith
part_short e c (of_member k d f is p) =
    let q : length (compact_text e) ≤ length (compact_text f) = part_short e f p in
    let r : length (compact_text f) ≤ length (compact_text d) = member_within k d f is in
    omega (arith, q, r)
part_short e c (of_item i d f is p) =
    let q : length (compact_text e) ≤ length (compact_text f) = part_short e f p in
    let r : length (compact_text f) ≤ length (compact_text d) = item_within i d f is in
    omega (arith, q, r)
