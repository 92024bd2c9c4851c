-- What a tally needs of a record that is added to it, and what it makes of each row. (This
-- project's own.)
use Rattle.std.specs.Prelude.{◌≡◌, ◌==◌, ◌<◌, ℕ, List, map, length, find, if◌then◌else◌, Option}
use Rattle.std.specs.Prelude.{Some, None, unwrap_or}
use Rattle.std.specs.List.{Contains, IsDistinct}
use Rattle.std.specs.Option.{IfSome}
use Rattle.std.specs.FinMap as map_of
use Rattle.cdf_parts.specs.Places.{Contest, selections_at}
use Rattle.cvr_fact_types.specs.declared.name.RecordName.{RecordName}
use Rattle.cvr_fact_types.specs.declared.sums.VoteSums.{VoteSums}
use Rattle.cvr_fact_types.specs.Facts.{Facts}
use Rattle.cvr_facts.specs.Choosing.{header, current}
use Rattle.cvr_facts.specs.Sums.{sum_limit, AreBelow}
use Rattle.cvr_tally.specs.declared.key.RowKey.{RowKey}
use Rattle.cvr_tally.specs.declared.row.Row.{Row}
use Rattle.cvr_tally.specs.Keys.{is_key}
use Rattle.cvr_tally.specs.Rows.{Rows, zero_row, row_plus, ballot_limit}
use Rattle.cvr_office.specs.Tallied.{is_headed, sums_of_body, sums_at, total_limit, IsBelow}

-- ---- sums

-- of a contest of the definition, with a number for each of its selections
pub record IsSums (contests : List Contest) (v : VoteSums) : Type 0 where
  pub place : v.contest < length contests
  pub votes : length v.votes ≡ length (selections_at contests v.contest)
  pub below : AreBelow sum_limit v

-- of one snapshot: no contest stands twice
pub record AreSums (contests : List Contest) (votes : List VoteSums) : Type 0 where
  pub once : IsDistinct ◌==◌ (map (λ v. v.contest) votes)
  pub each : (v : VoteSums) → Contains votes v → IsSums contests v

-- so are the sums of each current snapshot
abbrev pub CurrentsAreSums : List Contest → Facts → Type 0
CurrentsAreSums contests s = (key : RecordName) (body : List ℕ) → current s key ≡ Some body
    → AreSums contests (sums_of_body contests body)

-- ---- what is added to a row

-- the key of the row that sums go to, under a header of this unit and batch
abbrev pub key_for : Option (List ℕ) → Option (List ℕ) → VoteSums → RowKey
key_for unit batch v = record { contest = v.contest; unit = unit; batch = batch }

-- the sums among these that go to a row, under such a header
abbrev pub sums_for : Option (List ℕ) → Option (List ℕ) → RowKey → List VoteSums → Option VoteSums
sums_for unit batch q votes = find (λ v. is_key q (key_for unit batch v)) votes

-- the sums that a record adds to a row
abbrev pub added_sums : List Contest → Facts → RowKey → RecordName → Option VoteSums
added_sums contests s q r =
    if is_headed q (header s r) then sums_at contests s q.contest r else None

-- what is at a key, once these sums are added
abbrev pub row_with : List Contest → RowKey → Option Row → Option VoteSums → Option Row
row_with contests q before None = before
row_with contests q before (Some v) =
    Some (row_plus (unwrap_or before (zero_row (length (selections_at contests q.contest)))) v)

-- ---- room

-- a row has room for one more ballot; each row of a map has
pub record CanGrow (r : Row) : Type 0 where
  pub ballots : r.ballots < ballot_limit
  pub columns : IsBelow total_limit r

abbrev pub HaveRoom : Rows → Type 0
HaveRoom rows = (q : RowKey) → IfSome (map_of.get rows q) CanGrow
