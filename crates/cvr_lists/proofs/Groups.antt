-- Along a record's run ids don't fall: the snapshots under one stand together.
use Rattle.std.proofs.Common.{ℕ, List, Some}
use Rattle.std.specs.List.Sorted.{IsNonDecreasingBy}
use Rattle.std.specs.Ordering.{ordering_index}
use Rattle.std.specs.Cmp.Lexicographic.{options_total}
use Rattle.std.proofs.lemmas.List.Sorted.{searchable_from_sorted}
use Rattle.cvr_facts.proofs.Laws.{text_total}
use Rattle.cvr_office.specs.declared.any_fact.AnyFact.{AnyFact}
use Rattle.cvr_lists.specs.Groups.{snapshot_id, id_order, RisesById}

pub id_order_rises : (run : List AnyFact) → RisesById run → (id : List ℕ)
    → IsNonDecreasingBy (λ y. ordering_index (id_order id y)) run
id_order_rises run rises id =
    searchable_from_sorted (options_total text_total) snapshot_id run (Some id) rises
