use Rattle.std.proofs.Common.{◌≡◌, ◌++◌, take, drop}
use Rattle.std.specs.Vec.{vec_capacity}
use Rattle.cvr_cached.proofs.growth.move_front.Given as goal

abbrev pub invariant-loop-place : goal.invariant-loop-place
invariant-loop-place l = record {
  moved : l.list.items ≡ l.initial.list.items ++ take l.place l.initial.facts.items;
  rest : l.facts.items ≡ drop l.place l.initial.facts.items;
  room : vec_capacity l.list ≡ vec_capacity l.initial.list;
}
