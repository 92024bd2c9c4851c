use Rattle.std.proofs.Common.{List, ◌+◌, ◌≤◌, length}
use Rattle.std.specs.List.Sorted.{IsStrictlySortedBy}
use Rattle.std.specs.Vec.{vec_len, vec_capacity}
use Rattle.cvr_office.specs.declared.any_fact.AnyFact.{AnyFact}
use Rattle.cvr_office.specs.Place.{any_cmp}
use Rattle.cvr_office.specs.Plain.{IsPut}
use Rattle.cvr_lists.proofs.putting.insert_each.Given as goal

-- with the rest put in, all are; and there is room for the rest
abbrev pub invariant-loop-fact : goal.invariant-loop-fact
invariant-loop-fact l = record {
  rises : IsStrictlySortedBy any_cmp l.facts.items;
  rest : (new : List AnyFact) → IsPut l.facts.items l.rest.items new
      → IsPut l.initial.facts.items l.initial.rest.items new;
  room : vec_len l.facts + length l.rest.items ≤ vec_capacity l.facts;
}

abbrev pub decreases-loop-fact : goal.decreases-loop-fact
decreases-loop-fact l = length l.rest.items
