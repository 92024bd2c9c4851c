-- Tests joined by `||`, and ties of an order in which only equal keys tie.
use Rattle.std.proofs.Common.{◌≡◌, Bool, true, ◌||◌, subst}
use Rattle.std.proofs.Common.{true≢false, arith}
use Rattle.std.specs.Bool.{Decides}
use Rattle.std.specs.declared.cmp.Ordering.{Ordering}
use Rattle.std.specs.Ordering.{eq_by_cmp}
use Rattle.std.specs.Cmp.{IsTotalOrder, Equal-is, tied_itself}
use Rattle.std.specs.FinMap.{IsAntisymmetric}

pub or_swap : (a b c : Bool) → (a || (b || c)) ≡ (b || (a || c))
or_swap a b c = grind arith

-- a test that the first implies adds nothing to it
pub or_absorb : (a b c : Bool) → (b ≡ true → a ≡ true) → (a || (b || c)) ≡ (a || c)
or_absorb a b c h = grind (arith, true≢false)

module _ {K : Type 0} {R : K → K → Ordering} where
  pub tie_is : IsAntisymmetric R → (x y : K) → eq_by_cmp R x y ≡ true → x ≡ y
  tie_is e x y h = e x y ((Equal-is (R x y)).0 h)

  pub tie_itself : IsTotalOrder R → (x y : K) → x ≡ y → eq_by_cmp R x y ≡ true
  tie_itself t x y is =
      subst (λ z. eq_by_cmp R x z ≡ true) is ((Equal-is (R x x)).1 (tied_itself t x))

  pub tie_decides : IsTotalOrder R → IsAntisymmetric R → (x y : K)
      → Decides (eq_by_cmp R x y) (x ≡ y)
  tie_decides t e x y = (tie_is e x y, tie_itself t x y)
