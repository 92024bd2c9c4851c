-- The text of a tally can be read in one way. (This project's own.)
use Rattle.std.specs.Prelude.{◌≡◌, ℕ, List, [], map, Option, slice_index_or}
use Rattle.std.specs.List.{Contains, zip}
use Rattle.std.specs.FinMap.{entries}
use Rattle.cdf_parts.specs.Places.{Contest, contest_ids, selections_at}
use Rattle.cvr_fact_types.specs.Columns.{columns}
use Rattle.cvr_tally.specs.declared.key.RowKey.{RowKey}
use Rattle.cvr_tally.specs.declared.row.Row.{Row}
use Rattle.cvr_tally.specs.Rows.{Rows, number_in}
use Rattle.cvr_tally.specs.Text.{tally_text}
use Rattle.cvr_office.specs.Tallied.{total_limit, IsBelow}

-- what a line of the tally says: the contest's id, the unit and the batch, the numbers in the
-- columns, and the id and the votes of each selection
pub record Said : Type 0 where
  pub contest : List ℕ
  pub unit : Option (List ℕ)
  pub batch : Option (List ℕ)
  pub numbers : List ℕ
  pub votes : List (List ℕ × ℕ)

abbrev pub said : List Contest → RowKey × Row → Said
said contests e = record {
  contest = slice_index_or (contest_ids contests) e.0.contest [];
  unit = e.0.unit;
  batch = e.0.batch;
  numbers = map (λ column. number_in column e.1) columns;
  votes = zip (selections_at contests e.0.contest) e.1.votes;
}

-- no number reaches the limit that those of a tally stay below
abbrev pub AreBelow : Rows → Type 0
AreBelow rows = (e : RowKey × Row) → Contains (entries rows) e → IsBelow total_limit e.1

-- two tallies with one text say the same, line by line
abbrev pub OneReadingLaw : Type 0
OneReadingLaw = (contests others : List Contest) (rows again : Rows) → AreBelow rows
    → AreBelow again → tally_text contests rows ≡ tally_text others again
    → map (said contests) (entries rows) ≡ map (said others) (entries again)
