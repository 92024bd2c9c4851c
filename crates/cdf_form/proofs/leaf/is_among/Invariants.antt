use Rattle.std.proofs.Common.{◌≡◌, bytes_eq, drop}
use Rattle.std.specs.List.{list_any}
use Rattle.cdf_form.proofs.leaf.is_among.Given as goal

abbrev pub invariant-loop-listed : goal.invariant-loop-listed
invariant-loop-listed l = list_any (λ t. bytes_eq l.text t.now) (drop l.listed-index l.texts)
    ≡ list_any (λ t. bytes_eq l.text t.now) l.texts
