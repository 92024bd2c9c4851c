-- Laws of an object's members: one taken out, and one put in. (This project's own.)
use Rattle.std.specs.Prelude.{◌≡◌, ◌≢◌, ℕ, suc, List, Some, None, false}
use Rattle.serde_json.specs.Data.{Data, object, Members, put}
use Rattle.serde_json.specs.Find.{get_member}
use Rattle.serde_json.specs.Written.{members_have_float}
use Rattle.cdf_parts.specs.Proper.{MembersAreWell, IsProper}
use Rattle.cdf_parts.specs.Removing.{without}

-- A member that was taken out is not there.
abbrev pub GoneLaw : Type 0
GoneLaw = (k : List ℕ) (ms : Members) → MembersAreWell ms → get_member k (without k ms) ≡ None

-- The other members stay where one is taken out.
abbrev pub OthersStayLaw : Type 0
OthersStayLaw = (q k : List ℕ) (ms : Members) → q ≢ k
    → get_member q (without k ms) ≡ get_member q ms

-- Taking out a member that is not there changes nothing.
abbrev pub AbsentLaw : Type 0
AbsentLaw = (k : List ℕ) (ms : Members) → get_member k ms ≡ None → without k ms ≡ ms

-- A member that was put in is there.
abbrev pub FoundLaw : Type 0
FoundLaw = (k : List ℕ) (d : Data) (ms : Members) → get_member k (put k d ms) ≡ Some d

-- The other members stay where one is put in.
abbrev pub OthersStandLaw : Type 0
OthersStandLaw = (q k : List ℕ) (d : Data) (ms : Members) → q ≢ k
    → get_member q (put k d ms) ≡ get_member q ms

-- A member put in where it was absent and taken out again leaves the members as they were.
abbrev pub TakenOutLaw : Type 0
TakenOutLaw = (k : List ℕ) (d : Data) (ms : Members) → get_member k ms ≡ None
    → without k (put k d ms) ≡ ms

-- A member taken out and put in again leaves the members as they were.
abbrev pub PutBackLaw : Type 0
PutBackLaw =
    (k : List ℕ) (d : Data) (ms : Members)
    → MembersAreWell ms → get_member k ms ≡ Some d → put k d (without k ms) ≡ ms

-- A proper object is proper without a member.
abbrev pub WithoutIsProperLaw : Type 0
WithoutIsProperLaw =
    (n : ℕ) (k : List ℕ) (ms : Members) → IsProper n (object ms)
    → IsProper n (object (without k ms))

-- Members that are well, or hold no float, stay so without one of them.
abbrev pub WithoutIsWellLaw : Type 0
WithoutIsWellLaw = (k : List ℕ) (ms : Members) → MembersAreWell ms → MembersAreWell (without k ms)

abbrev pub WithoutIsWholeLaw : Type 0
WithoutIsWholeLaw = (k : List ℕ) (ms : Members) → members_have_float ms ≡ false
    → members_have_float (without k ms) ≡ false

-- A proper object is proper with proper data put in, one level less deep.
abbrev pub PutIsProperLaw : Type 0
PutIsProperLaw =
    (n : ℕ) (k : List ℕ) (d : Data) (ms : Members)
    → IsProper n d → IsProper (suc n) (object ms) → IsProper (suc n) (object (put k d ms))
