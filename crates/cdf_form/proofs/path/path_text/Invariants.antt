use Rattle.std.proofs.Common.{◌≡◌, drop, map, reverse, string_bytes, ◌≤◌, length}
use Rattle.cdf_form.specs.Path.{path_text}
use Rattle.cdf_form.specs.Found.{step_of}
use Rattle.cdf_form.proofs.path.path_text.Given as goal

abbrev pub invariant-loop-left : goal.invariant-loop-left
invariant-loop-left l = record {
  within : l.left ≤ length l.steps;
  so_far : string_bytes l.text ≡ path_text (reverse (map step_of (drop l.left l.steps)));
}

abbrev pub decreases-loop-left : goal.decreases-loop-left
decreases-loop-left l = l.left
