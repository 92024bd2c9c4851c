use Rattle.std.proofs.Common.{◌≡◌, ◌++◌, string_bytes}
use Rattle.std.specs.Iterator.Adapters.{zip_first, zip_second}
use Rattle.std.specs.List.{flat_map, zip}
use Rattle.std.specs.Slice.Iter.{iter_rest}
use Rattle.cvr_tally.specs.Text.{selection}
use Rattle.cvr_tally.proofs.tally.push_selections.Given as goal

-- the text so far and the selections that are left
abbrev pub invariant-loop-id : goal.invariant-loop-id
invariant-loop-id l =
    string_bytes l.text ++ flat_map selection
    (zip (iter_rest (zip_first l.id-iterator)) (iter_rest (zip_second l.id-iterator)))
    ≡ string_bytes l.initial.text ++ flat_map selection (zip l.ids l.votes)
