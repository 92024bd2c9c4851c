-- The printed lines of a tally. (This project's own.)
use Rattle.std.specs.Prelude.{ℕ, List, [], ◌∷◌, ◌++◌, codes, decimal, Option, Some, None}
use Rattle.std.specs.Prelude.{slice_index_or}
use Rattle.std.specs.List.{flat_map, zip}
use Rattle.std.specs.FinMap.{entries}
use Rattle.json.specs.Print.{quoted}
use Rattle.cdf_parts.specs.Places.{Contest, contest_ids, selections_at}
use Rattle.cvr_fact_types.specs.Columns.{columns}
use Rattle.cvr_tally.specs.declared.key.RowKey.{RowKey}
use Rattle.cvr_tally.specs.declared.row.Row.{Row}
use Rattle.cvr_tally.specs.Rows.{Rows, number_in}

-- a unit or a batch, `null` where there is none, with a space before it
abbrev pub part_text : Option (List ℕ) → List ℕ
part_text None = codes " null"
part_text (Some text) = 32 ∷ quoted text

-- a number, with a space before it
abbrev pub number : ℕ → List ℕ
number n = 32 ∷ decimal n

-- a selection's id and its votes, with a space before each
abbrev pub selection : List ℕ × ℕ → List ℕ
selection p = 32 ∷ quoted p.0 ++ number p.1

-- contest, unit, batch
abbrev pub key_words : List Contest → RowKey → List ℕ
key_words contests k = quoted (slice_index_or (contest_ids contests) k.contest [])
    ++ (part_text k.unit ++ part_text k.batch)

-- the numbers in the columns that each row has
abbrev pub numbers : Row → List ℕ
numbers row = flat_map (λ column. number (number_in column row)) columns

-- the key, the numbers, then the votes of each selection
abbrev pub row_line : List Contest → RowKey × Row → List ℕ
row_line contests e = key_words contests e.0
    ++ (numbers e.1 ++ (flat_map selection (zip (selections_at contests e.0.contest) e.1.votes)
    ++ 10 ∷ []))

-- one line for each row, in order of key
abbrev pub tally_text : List Contest → Rows → List ℕ
tally_text contests rows = flat_map (row_line contests) (entries rows)
