-- Orders in turn.
use Rattle.std.proofs.Common.{◌≡◌, Ordering, Equal, arith}
use Rattle.std.specs.Ordering.{ordering_then}

pub then-Equal : (r : Ordering) → ordering_then r Equal ≡ r
then-Equal r = grind arith

pub then-then : (q r s : Ordering) → ordering_then (ordering_then q r) s
    ≡ ordering_then q (ordering_then r s)
then-then q r s = grind arith
