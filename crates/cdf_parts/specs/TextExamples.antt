-- Examples of the laws of text: a report with one CVR that has one snapshot.
use Rattle.std.specs.Prelude.{◌≡◌, ◌≢◌, ℕ, negsuc, List, true, Some, option_map, codes, Contains}
use Rattle.serde_json.specs.Data.{unsigned, negative, Data, number, string, array, object}
use Rattle.serde_json.specs.Data.{no_items, item, Members, no_members, member, put}
use Rattle.serde_json.specs.Read.{read, max_depth}
use Rattle.serde_json.specs.Written.{has_float, compact_text}
use Rattle.cdf_parts.specs.Proper.{IsWell, IsProper}
use Rattle.cdf_parts.specs.Removing.{without}
use Rattle.cdf_parts.specs.Parts.{array_at}
use Rattle.cdf_parts.specs.PartOf.{IsPart}

-- `{"@id":"s","Count":-2}`
abbrev pub snapshot : Data
snapshot =
    object (
    member (codes "@id") (string (codes "s"))
    (member (codes "Count") (number (negative (negsuc 1))) no_members))

-- `"CVRSnapshot":[..],"UniqueId":"a\"b"`
abbrev pub cvr_members : Members
cvr_members =
    member (codes "CVRSnapshot") (array (item snapshot no_items))
    (member (codes "UniqueId") (string (codes "a\"b")) no_members)

-- `{"CVR":[{..}]}`
abbrev pub report : Data
report = object (member (codes "CVR") (array (item (object cvr_members) no_items)) no_members)

-- the report's compact text
abbrev pub report_text : List ℕ
report_text =
    codes "{\"CVR\":[{\"CVRSnapshot\":[{\"@id\":\"s\",\"Count\":-2}],\"UniqueId\":\"a\\\"b\"}]}"

-- the report as another writer may spell it: with spaces, other escapes, and members in another
-- order
abbrev pub other_text : List ℕ
other_text = codes "{ \"CVR\" : [{\"UniqueId\":\"a\\u0022b\",\"CVRSnapshot\":[{\"Count\":-2,\"\\u0040id\":\"s\"}]}] }"

-- an object whose names stand out of order, as `read` gives none
abbrev pub unordered : Data
unordered =
    object (member (codes "b") (number (unsigned 1))
    (member (codes "a") (number (unsigned 2)) no_members))

-- The report has the compact text, and is read from it.
abbrev pub ReportExample : Type 0
ReportExample =
    IsProper max_depth report × (compact_text report ≡ report_text)
    × (read report_text ≡ Some report)

-- It is read from the other text too.
abbrev pub SpellingExample : Type 0
SpellingExample = read other_text ≡ Some report

-- The snapshot is an item of an item of the report, and is read from its own text.
abbrev pub PartExample : Type 0
PartExample =
    Contains (array_at (codes "CVR") report) (object cvr_members)
    × Contains (array_at (codes "CVRSnapshot") (object cvr_members)) snapshot
    × IsPart snapshot report
    × (read (codes "{\"@id\":\"s\",\"Count\":-2}") ≡ Some snapshot)

-- The snapshots are taken out of the CVR and put in again.
abbrev pub RemovingExample : Type 0
RemovingExample =
    (without (codes "CVRSnapshot") cvr_members
    ≡ member (codes "UniqueId") (string (codes "a\"b")) no_members)
    × (put (codes "CVRSnapshot") (array (item snapshot no_items))
    (without (codes "CVRSnapshot") cvr_members)
    ≡ cvr_members)

-- Names out of order are not well, and their text reads as other data: the laws need their premise.
abbrev pub UnorderedExample : Type 0
UnorderedExample = (IsWell unordered → ⊥) × (read (compact_text unordered) ≢ Some unordered)

-- Of two members of one name the last is read.
abbrev pub RepeatedExample : Type 0
RepeatedExample =
    read (codes "{\"a\":1,\"a\":2}") ≡ Some
    (object (member (codes "a") (number (unsigned 2)) no_members))

-- A fraction, `-0` and 2 to the power 64 are read as floats.
abbrev pub FloatExample : Type 0
FloatExample =
    (option_map has_float (read (codes "[1.5]")) ≡ Some true)
    × (option_map has_float (read (codes "[-0]")) ≡ Some true)
    × (option_map has_float (read (codes "[18446744073709551616]")) ≡ Some true)
