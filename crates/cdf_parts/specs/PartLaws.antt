-- Laws of the parts of a value. (This project's own.)
use Rattle.std.specs.Prelude.{◌≡◌, ◌≤◌, ℕ, suc, List, length, All, Contains, Some, false}
use Rattle.serde_json.specs.Data.{Data, array, Items}
use Rattle.serde_json.specs.Events.{items_len}
use Rattle.serde_json.specs.Find.{get, at}
use Rattle.serde_json.specs.Read.{read}
use Rattle.serde_json.specs.View.{items_of}
use Rattle.serde_json.specs.Written.{has_float, compact_text}
use Rattle.cdf_parts.specs.Proper.{IsProper}
use Rattle.cdf_node.specs.Items.{list_of}
use Rattle.cdf_parts.specs.Parts.{array_at}
use Rattle.cdf_parts.specs.PartOf.{IsPart}

-- A member of a proper value is proper, one level less deep.
abbrev pub MemberIsProperLaw : Type 0
MemberIsProperLaw = (n : ℕ) (k : List ℕ) (d e : Data) → get k d ≡ Some e → IsProper (suc n) d
    → IsProper n e

-- An item of a proper value is proper, one level less deep.
abbrev pub ItemIsProperLaw : Type 0
ItemIsProperLaw = (n i : ℕ) (d e : Data) → at i d ≡ Some e → IsProper (suc n) d → IsProper n e

-- An array of proper values is proper, one level deeper.
abbrev pub ArrayIsProperLaw : Type 0
ArrayIsProperLaw = (n : ℕ) (ds : List Data) → All (IsProper n) ds
    → IsProper (suc n) (array (items_of ds))

-- An array's items, as a list, are those that it was made of.
abbrev pub ArrayListLaw : Type 0
ArrayListLaw = (ds : List Data) → list_of (items_of ds) ≡ ds

-- A part of a proper value is proper.
abbrev pub PartIsProperLaw : Type 0
PartIsProperLaw = (n : ℕ) (e d : Data) → IsPart e d → IsProper n d → IsProper n e

-- What is proper is so where it may nest deeper.
abbrev pub DeeperIsProperLaw : Type 0
DeeperIsProperLaw = (m n : ℕ) (d : Data) → m ≤ n → IsProper m d → IsProper n d

-- A part of a part is a part.
abbrev pub PartOfPartLaw : Type 0
PartOfPartLaw = (a b c : Data) → IsPart a b → IsPart b c → IsPart a c

-- An item of the array under a name is a part.
abbrev pub ListedIsPartLaw : Type 0
ListedIsPartLaw = (name : List ℕ) (d e : Data) → Contains (array_at name d) e → IsPart e d

-- A part's compact text is no longer than the whole's.
abbrev pub PartIsShorterLaw : Type 0
PartIsShorterLaw = (e d : Data) → IsPart e d → length (compact_text e) ≤ length (compact_text d)

-- An array has no more items than its compact text has bytes.
abbrev pub ItemsAreShorterLaw : Type 0
ItemsAreShorterLaw = (ds : Items) → items_len ds ≤ length (compact_text (array ds))

-- Each part of what was read with no float is read again from its own compact text.
abbrev pub PartReadsBackLaw : Type 0
PartReadsBackLaw =
    (text : List ℕ) (d e : Data)
    → read text ≡ Some d → has_float d ≡ false → IsPart e d → read (compact_text e) ≡ Some e

-- Each item of an array in each item of an array, such as each snapshot of each CVR of a report, is
-- read again from its own compact text.
abbrev pub ListedReadsBackLaw : Type 0
ListedReadsBackLaw =
    (text outer inner : List ℕ) (d c s : Data)
    → read text ≡ Some d → has_float d ≡ false → Contains (array_at outer d) c
    → Contains (array_at inner c) s
    → read (compact_text s) ≡ Some s
