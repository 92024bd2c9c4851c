-- The lines of current snapshots over a set of facts that is given by a list.
use Rattle.std.proofs.Common.{◌≡◌, List}
use Rattle.std.specs.List.{filter_map, flat_map}
use Rattle.std.specs.FinSet.{from_list}
use Rattle.cdf_typed.specs.Greatest.{max_by}
use Rattle.cvr_fact_types.specs.Facts.{Fact, name_cmp}
use Rattle.cvr_facts.specs.Choosing.{choice_cmp, snapshot_body}
use Rattle.cvr_office.specs.Names.{record_of}
use Rattle.cvr_office.proofs.Lemmas.{sorted, records-given, current-given}
use Rattle.cvr_run.specs.Currents.{line_of, currents}

pub currents-given : (fs : List Fact) → currents (from_list fs)
    ≡ flat_map (λ key. line_of key (max_by choice_cmp (filter_map (snapshot_body key) fs)))
    (sorted name_cmp (filter_map record_of fs))
currents-given fs = λ i. flat_map (λ key. line_of key (current-given fs key i)) (records-given fs i)
