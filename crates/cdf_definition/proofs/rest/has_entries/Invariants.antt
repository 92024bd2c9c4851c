use Rattle.std.proofs.Common.{◌↔◌, drop}
use Rattle.cdf_node.specs.View.{view}
use Rattle.cdf_form.specs.Tables.{entries_of}
use Rattle.cdf_definition.specs.Lists.{HasEntries}
use Rattle.cdf_definition.proofs.rest.has_entries.Given as goal

-- all entries hold where those that are left do
abbrev pub invariant-loop-entry : goal.invariant-loop-entry
invariant-loop-entry l = HasEntries (entries_of (drop l.entry-index l.entries)) (view l.value)
    ↔ HasEntries (entries_of l.entries) (view l.value)
