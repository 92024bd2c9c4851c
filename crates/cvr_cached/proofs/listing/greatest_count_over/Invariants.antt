use Rattle.std.proofs.Common.{◌≡◌, ◌∷◌, map}
use Rattle.std.specs.Prelude.{max}
use Rattle.cvr_office.specs.Names.{most, greatest_count}
use Rattle.cvr_office.specs.Plain.{set_of}
use Rattle.cvr_cached.proofs.listing.greatest_count_over.Given as goal

-- the greatest so far, and those of the contents that are left
abbrev pub invariant-loop-content : goal.invariant-loop-content
invariant-loop-content l = max l.greatest
    (most (map (λ e. greatest_count (set_of e.1)) l.content-iterator))
    ≡ most (greatest_count (set_of l.devices)
    ∷ map (λ e. greatest_count (set_of e.1)) l.records.entries)
