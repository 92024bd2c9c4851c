-- A record of a volume: the header's object with two members more. (NIST SP 1500-103, class CVR.)
use Rattle.std.specs.Prelude.{◌≡◌, ℕ, List, [], ◌∷◌, ◌++◌, codes, drop, ◌||◌, Bool, true, false}
use Rattle.std.specs.Prelude.{None, IsSome}
use Rattle.std.specs.Ordering.{nat_cmp, match_ordering}
use Rattle.std.specs.Cmp.Lexicographic.{slice_cmp}
use Rattle.json.specs.Print.{quoted}
use Rattle.serde_json.specs.Data.{Data, object, array, string, Items, no_items, item, Members}
use Rattle.serde_json.specs.Data.{no_members, member, put}
use Rattle.serde_json.specs.Find.{get_member}
use Rattle.serde_json.specs.Written.{compact_text, comma_if, members_text}
use Rattle.cdf_parts.specs.Proper.{MembersAreWell}

abbrev pub snapshots_name : List ℕ
snapshots_name = codes "CVRSnapshot"

abbrev pub current_name : List ℕ
current_name = codes "CurrentSnapshotId"

abbrev pub record_members : Members → Items → List ℕ → Members
record_members header snapshots current =
    put snapshots_name (array snapshots) (put current_name (string current) header)

-- the object of a record in a volume: that of its header, with the members CVRSnapshot and
-- CurrentSnapshotId put in
abbrev pub cvr_object : Members → Items → List ℕ → Data
cvr_object header snapshots current = object (record_members header snapshots current)

-- the members of a header body's object: a class, and neither of the two that a record adds
abbrev pub HasHeaderMembers : Members → Type 0
HasHeaderMembers ms = (get_member snapshots_name ms ≡ None) × (get_member current_name ms ≡ None)
    × IsSome (get_member (codes "@type") ms)

-- ---- the members before a name, and those from it on

abbrev pub front : List ℕ → Members → Members
front k no_members = no_members
front k (member l e ms) =
    match_ordering (slice_cmp nat_cmp k l) no_members no_members (member l e (front k ms))

abbrev pub back : List ℕ → Members → Members
back k no_members = no_members
back k (member l e ms) =
    match_ordering (slice_cmp nat_cmp k l) (member l e ms) (member l e ms) (back k ms)

abbrev pub some : Members → Bool
some no_members = false
some (member k d ms) = true

-- the text of members, with no bracket
abbrev pub inner : Bool → Members → List ℕ
inner later no_members = []
inner later (member k d ms) = comma_if later ++ (quoted k ++ 58 ∷ (compact_text d ++ inner true ms))

-- the compact texts of the items
abbrev pub item_texts : Items → List (List ℕ)
item_texts no_items = []
item_texts (item d ds) = compact_text d ∷ item_texts ds

-- `at` is where the members from a name on begin, in the text of an object whose members go on at
-- `from`
abbrev pub IsCut : List ℕ → ℕ → List ℕ → ℕ → Type 0
IsCut text from name at = (later : Bool) (ms : Members) → MembersAreWell ms
    → drop from text ≡ members_text later ms
    → drop at text ≡ members_text (later || some (front name ms)) (back name ms)

-- the texts, with a comma before each but the first
abbrev pub comma_list : Bool → List (List ℕ) → List ℕ
comma_list later [] = []
comma_list later (t ∷ ts) = comma_if later ++ (t ++ comma_list true ts)
