use Rattle.std.proofs.Common.{◌≡◌, ◌+◌, ◌≤◌, ◌++◌, length}
use Rattle.std.specs.List.Sorted.{IsStrictlySortedBy}
use Rattle.std.specs.Vec.{vec_len, vec_capacity}
use Rattle.cvr_office.specs.Place.{any_cmp}
use Rattle.cvr_cached.specs.Merged.{merged}
use Rattle.cvr_cached.proofs.growth.merge.Given as goal

-- what is left, put behind the list, makes all of them; and there is room for it
abbrev pub invariant-loop-fact : goal.invariant-loop-fact
invariant-loop-fact l = record {
  rises : IsStrictlySortedBy any_cmp l.rest.items;
  all : l.list.items ++ merged l.rest.items l.coming.items
      ≡ l.initial.list.items ++ merged l.initial.rest.items l.initial.coming.items;
  room : vec_len l.list + (length l.rest.items + length l.coming.items) ≤ vec_capacity l.list;
}

abbrev pub decreases-loop-fact : goal.decreases-loop-fact
decreases-loop-fact l = length l.coming.items
