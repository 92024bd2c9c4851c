use Rattle.std.proofs.Common.{◌≡◌, drop}
use Rattle.cdf_node.specs.View.{members_view}
use Rattle.cdf_check.specs.Seen.{file_fraction}
use Rattle.cdf_check.proofs.fractions.file_fraction.Given as goal

-- the answer depends on what is left of the members and on what was found, and on nothing else
abbrev pub invariant-loop-member : goal.invariant-loop-member
invariant-loop-member l = file_fraction (members_view (drop l.member-index l.left)) l.of_records
    ≡ file_fraction (members_view l.left) l.fn.of_records
