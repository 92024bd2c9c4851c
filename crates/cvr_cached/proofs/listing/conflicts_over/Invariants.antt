use Rattle.std.proofs.Common.{◌≡◌, ◌++◌}
use Rattle.std.specs.List.{flat_map}
use Rattle.cvr_office.specs.Names.{conflicts}
use Rattle.cvr_office.specs.Plain.{set_of}
use Rattle.cvr_cached.proofs.listing.conflicts_over.Given as goal

-- the conflicts so far, and those of the contents that are left
abbrev pub invariant-loop-content : goal.invariant-loop-content
invariant-loop-content l = l.list.items ++ flat_map (λ e. conflicts (set_of e.1)) l.content-iterator
    ≡ conflicts (set_of l.devices) ++ flat_map (λ e. conflicts (set_of e.1)) l.records.entries
