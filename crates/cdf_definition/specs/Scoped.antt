-- What the ids that are kept of a report stand for. (This project's own.)
use Rattle.std.specs.Prelude.{List, []}
use Rattle.cdf_parts.specs.Places.{Contest}
use Rattle.cdf_definition.specs.References.{Scope}
use Rattle.cdf_definition.specs.declared.scope.Scope.{Scope as Held}

-- the ids that can be named
abbrev pub scope_view : Held → Scope
scope_view s = record {
  elections = s.elections;
  units = s.units;
  parties = s.parties;
  devices = s.devices;
  contests = s.contests;
}

-- a scope in which nothing but these contests can be named
abbrev pub contests_alone : List Contest → Scope
contests_alone contests =
    record { elections = []; units = []; parties = []; devices = []; contests = contests }
