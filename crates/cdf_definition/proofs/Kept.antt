-- The members of a cast vote record that its header keeps.
use Rattle.std.proofs.Common.{◌≡◌, ℕ, List, false, bytes_eq, codes, true≢false, sym, ◌∙◌}
use Rattle.std.proofs.lemmas.Slice.Eq.{bytes_eq-Decides}
use Rattle.cdf_definition.specs.Bodies.{IsInHeader}

-- two names that computing tells apart
pub differ : (a b : List ℕ) → bytes_eq a b ≡ false → a ≡ b → ⊥
differ a b h e = true≢false (sym ((bytes_eq-Decides a b).1 e) ∙ h)

pub is_kept : (name : List ℕ) → bytes_eq name (codes "CVRSnapshot") ≡ false
    → bytes_eq name (codes "CurrentSnapshotId") ≡ false → IsInHeader name
is_kept name p q = (differ name (codes "CVRSnapshot") p, differ name (codes "CurrentSnapshotId") q)
