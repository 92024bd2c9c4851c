-- The place of an id, and the id at a place.
use Rattle.std.proofs.Common.{◌≡◌, ◌<◌, ℕ, zero, suc, ◌+◌, List, [], ◌∷◌, length, slice_index_or}
use Rattle.std.proofs.Common.{Bool, true, false, cond, Some, bytes_eq, refl, sym, subst, ◌∙◌, arith}
use Rattle.std.specs.List.{position_from}
use Rattle.std.proofs.lemmas.Slice.Eq.{bytes_eq-Decides}
use Rattle.cdf_parts.specs.Places.{Texts, place_in}

abbrev IsAt : List ℕ → ℕ → Texts → ℕ → Type 0
IsAt s i ids p = (k : ℕ) × (p ≡ i + k) × (k < length ids) × (slice_index_or ids k [] ≡ s)

at_here : (t : Bool) (s x : List ℕ) (i : ℕ) (ids : Texts) (p : ℕ) → bytes_eq s x ≡ t
    → (position_from (bytes_eq s) (i + 1) ids ≡ Some p → IsAt s (i + 1) ids p)
    → cond t (Some i) (position_from (bytes_eq s) (i + 1) ids) ≡ Some p → IsAt s i (x ∷ ids) p
at_here true s x i ids p is rest h = let same : i
    ≡ p = cc in (zero, omega (arith, same), omega arith, sym ((bytes_eq-Decides s x).0 is))
at_here false s x i ids p is rest h =
    let r = rest h in (suc r.0, omega (arith, r.1), omega (arith, r.2), r.3)

placed_at : (s : List ℕ) (i : ℕ) (ids : Texts) (p : ℕ) → position_from (bytes_eq s) i ids ≡ Some p
    → IsAt s i ids p
placed_at s i [] p e = absurd (cc)
placed_at s i (x ∷ ids) p e = at_here (bytes_eq s x) s x i ids p refl (placed_at s (i + 1) ids p) e

-- an id stands at its place
pub placed_in : (ids : Texts) (s : List ℕ) (p : ℕ) → place_in ids s ≡ Some p
    → (p < length ids) × (slice_index_or ids p [] ≡ s)
placed_in ids s p e =
    let h = placed_at s 0 ids p e in
    let same : h.0 ≡ p = omega (arith, h.1) in
    subst (λ k. (k < length ids) × (slice_index_or ids k [] ≡ s)) same (h.2, h.3)

-- so that two texts with one place are one text
pub one_place : (ids : Texts) (s t : List ℕ) (p : ℕ) → place_in ids s ≡ Some p
    → place_in ids t ≡ Some p → s ≡ t
one_place ids s t p u v = sym (placed_in ids s p u).1 ∙ (placed_in ids t p v).1
