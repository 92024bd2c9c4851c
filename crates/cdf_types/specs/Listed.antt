-- Listed texts of the standard (NIST SP 1500-103, enumerations).
use Rattle.std.specs.Prelude.{◌≡◌, ℕ, List}

-- no text stands for two values
abbrev pub AreDistinct : {K : Type 0} → (K → List ℕ) → Type 0
AreDistinct {K = K} text_of = (a b : K) → text_of a ≡ text_of b → a ≡ b
