-- Facts in parts that have no record in common, and the sums of rows. (This project's own.)
use Rattle.std.specs.Prelude.{◌≡◌, ◌≢◌, ◌+◌, ℕ, List, [], ◌∷◌, ◌++◌, map, length, slice_get, Option}
use Rattle.std.specs.Prelude.{Some, None}
use Rattle.std.specs.List.{Contains, flat_map}
use Rattle.std.specs.List.Sorted.{IsPermutation, IsStrictlySortedBy}
use Rattle.std.specs.FinSet.{union}
use Rattle.cdf_parts.specs.Places.{Contest}
use Rattle.cvr_fact_types.specs.declared.name.RecordName.{RecordName}
use Rattle.cvr_fact_types.specs.Facts.{Facts, name_cmp}
use Rattle.cvr_facts.specs.Choosing.{header, current}
use Rattle.cvr_tally.specs.declared.key.RowKey.{RowKey}
use Rattle.cvr_tally.specs.declared.row.Row.{Row}
use Rattle.cvr_tally.specs.Rows.{number_in, row_by}
use Rattle.cvr_office.specs.Names.{records}
use Rattle.cvr_office.specs.Reach.{union_over}
use Rattle.cvr_office.specs.Tallied.{row}

-- ---- parts

-- no record is in both; a device may be
abbrev pub ShareNoRecord : Facts → Facts → Type 0
ShareNoRecord s t = (r : RecordName) → Contains (records s) r → ¬ Contains (records t) r

-- no record is in two of them
abbrev pub AreAllApart : List Facts → Type 0
AreAllApart parts = (i j : ℕ) (s t : Facts) → slice_get parts i ≡ Some s
    → slice_get parts j ≡ Some t → i ≢ j → ShareNoRecord s t

-- all of them together
abbrev pub whole : List Facts → Facts
whole parts = union_over (λ s. s) parts

-- ---- sums of rows

-- column by column
abbrev pub row_sum : Row → Row → Row
row_sum a b = row_by (length a.votes) (λ column. number_in column a + number_in column b)

-- a row that is absent adds nothing
abbrev pub option_sum : Option Row → Option Row → Option Row
option_sum None b = b
option_sum (Some a) None = Some a
option_sum (Some a) (Some b) = Some (row_sum a b)

-- the sum of any number of them
abbrev pub sum_of_rows : List (Option Row) → Option Row
sum_of_rows [] = None
sum_of_rows (r ∷ rs) = option_sum r (sum_of_rows rs)

-- ---- laws of two parts

-- each row of both is the sum of theirs
abbrev pub RowsOfPartsLaw : Type 0
RowsOfPartsLaw = (contests : List Contest) (s t : Facts) → ShareNoRecord s t → (q : RowKey)
    → row contests (union s t) q ≡ option_sum (row contests s q) (row contests t q)

-- a record keeps the current snapshot of its part, whether the other part comes after or before
abbrev pub CurrentsOfPartsLaw : Type 0
CurrentsOfPartsLaw = (s t : Facts) → ShareNoRecord s t → (r : RecordName) → Contains (records s) r
    → (current (union s t) r ≡ current s r) × (current (union t s) r ≡ current s r)

-- and the header
abbrev pub HeadersOfPartsLaw : Type 0
HeadersOfPartsLaw = (s t : Facts) → ShareNoRecord s t → (r : RecordName) → Contains (records s) r
    → (header (union s t) r ≡ header s r) × (header (union t s) r ≡ header s r)

-- the records of both are those of the one and those of the other, in some order
abbrev pub RecordsOfPartsLaw : Type 0
RecordsOfPartsLaw = (s t : Facts) → ShareNoRecord s t
    → IsPermutation (records s ++ records t) (records (union s t))

-- records rise by name, each above the one before it
abbrev pub RecordsRiseLaw : Type 0
RecordsRiseLaw = (s : Facts) → IsStrictlySortedBy name_cmp (records s)

-- ---- the same of any number of parts

-- each row of all is the sum of theirs
abbrev pub RowsOfManyLaw : Type 0
RowsOfManyLaw = (contests : List Contest) (parts : List Facts) → AreAllApart parts → (q : RowKey)
    → row contests (whole parts) q ≡ sum_of_rows (map (λ s. row contests s q) parts)

-- a record keeps the current snapshot of its part
abbrev pub CurrentsOfManyLaw : Type 0
CurrentsOfManyLaw = (parts : List Facts) (s : Facts) (r : RecordName) → AreAllApart parts
    → Contains parts s → Contains (records s) r → current (whole parts) r ≡ current s r

-- and the header
abbrev pub HeadersOfManyLaw : Type 0
HeadersOfManyLaw = (parts : List Facts) (s : Facts) (r : RecordName) → AreAllApart parts
    → Contains parts s → Contains (records s) r → header (whole parts) r ≡ header s r

-- the records of all are those of each, in some order
abbrev pub RecordsOfManyLaw : Type 0
RecordsOfManyLaw = (parts : List Facts) → AreAllApart parts
    → IsPermutation (flat_map records parts) (records (whole parts))
