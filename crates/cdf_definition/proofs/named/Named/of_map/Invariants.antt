use Rattle.std.proofs.Common.{◌≡◌, ◌++◌, length}
use Rattle.std.specs.List.{zip}
use Rattle.cdf_parts.specs.Ids.{bytes_of}
use Rattle.cdf_definition.specs.Named.{map_entries}
use Rattle.cdf_definition.proofs.named.Named.of_map.Given as goal

abbrev pub invariant-loop-id : goal.invariant-loop-id
invariant-loop-id l = record {
  same : length l.ids.items ≡ length l.bodies.items;
  rest : zip (bytes_of l.ids.items) l.bodies.items ++ map_entries l.id-iterator
      ≡ map_entries l.initial.id-iterator;
}
