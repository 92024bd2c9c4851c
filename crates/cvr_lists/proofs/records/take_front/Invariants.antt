use Rattle.std.proofs.Common.{◌≡◌, take, drop}
use Rattle.cvr_lists.proofs.records.take_front.Given as goal

abbrev pub invariant-loop-place : goal.invariant-loop-place
invariant-loop-place l = record {
  front : l.taken.items ≡ take l.place l.initial.facts.items;
  rest : l.facts.items ≡ drop l.place l.initial.facts.items;
}
