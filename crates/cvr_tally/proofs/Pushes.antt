-- A text after several pushes, each at its end.
use Rattle.std.proofs.Common.{◌≡◌, ℕ, List, ◌++◌, append_assoc}

pub after_three : (a b c d p q r : List ℕ) → b ≡ a ++ p → c ≡ b ++ q → d ≡ c ++ r
    → d ≡ a ++ (p ++ (q ++ r))
after_three a b c d p q r first second third = rw (third, second, first) (simp append_assoc)

pub after_four : (a b c d e p q r s : List ℕ) → b ≡ a ++ p → c ≡ b ++ q → d ≡ c ++ r → e ≡ d ++ s
    → e ≡ a ++ (p ++ (q ++ (r ++ s)))
after_four a b c d e p q r s first second third fourth =
    rw (fourth, third, second, first) (simp append_assoc)

-- what was to come begins with what was pushed
pub more_pushed : (a b p q whole : List ℕ) → b ≡ a ++ p → a ++ (p ++ q) ≡ whole → b ++ q ≡ whole
more_pushed a b p q whole first rest = rw (first, append_assoc a p q) rest
