-- Each number of the running totals is below 2^118.
use Rattle.std.proofs.Common.{◌≡◌, ℕ, ◌<◌, List, Contains, map, Option, Some, None, IfSome, ap, ◌∙◌}
use Rattle.std.proofs.Common.{arith}
use Rattle.std.specs.List.{flat_map}
use Rattle.std.specs.FinMap.{get}
use Rattle.std.proofs.lemmas.List.Elements.{Contains-append_right}
use Rattle.cdf_definition.specs.Frame.{Frame}
use Rattle.cvr_fact_types.specs.declared.name.RecordName.{RecordName}
use Rattle.cvr_fact_types.specs.Facts.{fact_total, fact_exact}
use Rattle.cvr_facts.proofs.Lemmas.{in_map, in_set, in_flat}
use Rattle.cvr_tally.specs.declared.key.RowKey.{RowKey}
use Rattle.cvr_tally.specs.declared.row.Row.{Row}
use Rattle.cvr_office.specs.declared.any_fact.AnyFact.{AnyFact}
use Rattle.cvr_office.specs.Place.{fact_of}
use Rattle.cvr_office.specs.Plain.{set_of}
use Rattle.cvr_office.specs.Tallied.{rows, total_limit, IsBelow}
use Rattle.cvr_lists.proofs.Laws.{currents_are_sums}
use Rattle.cvr_cached.specs.Contents.{Entries, fact_list, pairs_of}
use Rattle.cvr_fact_types.specs.Columns.{Column}
use Rattle.cvr_facts.specs.Sums.{sum_limit}
use Rattle.cvr_cached.specs.Cells.{shares}
use Rattle.cvr_cached.specs.Held.{Stored, IsHeld, IsCached, IsSummed}
use Rattle.cvr_cached.proofs.CellSums.{cell_of}
use Rattle.cvr_cached.proofs.Listed.{found_own}
use Rattle.cvr_cached.proofs.RowLink.{agrees_rows}
use Rattle.cvr_cached.proofs.Rooms.{most_votes, shares_le, values_le, full_le, summed}
use Rattle.cvr_cached.proofs.Taken.{listed_long}

row_below : (o : Option Row) → ((j : Column) → cell_of o j < total_limit)
    → IfSome o (IsBelow total_limit)
row_below None h = tt
row_below (Some r) h = h

module _ (frame : Frame) (s : Stored) (count : ℕ) (held : IsHeld s count)
    (is : IsCached frame s) where
  abbrev d : List AnyFact
  d = s.devices

  abbrev es : Entries
  es = s.records

  summed_each : (e : RecordName × List AnyFact) → Contains es e → (x : AnyFact) → Contains e.1 x
      → IsSummed frame.contests x
  summed_each e at x in_it =
      let here = Contains-append_right d (flat_map (λ (e : RecordName × List AnyFact). e.1) es) x
      (in_flat (λ (e : RecordName × List AnyFact). e.1) e x es at in_it) in
      summed frame (set_of (fact_list d es)) is.plain.can_hold x
      (in_set fact_total fact_exact (map fact_of (fact_list d es)) (fact_of x)
      (in_map fact_of x (fact_list d es) here)) (is.plain.spelled x here)

  rows_at : s.totals.rows ≡ rows frame.contests (set_of (fact_list d es))
  rows_at = held.rows_are ∙ ap (λ cs. rows cs (set_of (fact_list d es))) is.contests_are

  cell_below : (q : RowKey) (j : Column) → cell_of (get s.totals.rows q) j < total_limit
  cell_below q j =
      let same = agrees_rows frame d es is.plain held.own
      (currents_are_sums frame (set_of (fact_list d es)) is.plain.can_hold) s.totals.rows rows_at q
      j in
      let most = values_le (λ facts. shares (pairs_of facts) q j) sum_limit es
      (λ e at. shares_le frame.contests e.1 (summed_each e at) q j sum_limit (most_votes j)) in
      let many =
      full_le es (λ e at. held.own.full e.0 e.1 (found_own es held.own.names_rise e at)) in
      let few = held.fits in
      let long = held.counted ∙ listed_long d es in
      omega (arith, same, most, many, few, long)

  pub all_below : (q : RowKey) → IfSome (get s.totals.rows q) (IsBelow total_limit)
  all_below q = row_below (get s.totals.rows q) (cell_below q)
