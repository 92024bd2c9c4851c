-- Entries by their ids: where the ids are apart, they are the same entries.
use Rattle.std.proofs.Common.{◌≡◌, ◌↔◌, ◌⊎◌, inl, inr, ◌<◌, ℕ, zero, suc, List, [], ◌∷◌, length}
use Rattle.std.proofs.Common.{reverse, slice_index_or, Contains, bytes_eq, nat_cmp, sym, ◌∙◌, subst}
use Rattle.std.proofs.Common.{arith}
use Rattle.std.specs.List.{IsDistinct}
use Rattle.std.specs.Cmp.Lexicographic.{slice_cmp}
use Rattle.std.proofs.lemmas.Cmp.{nat_list_eq_equiv}
use Rattle.std.proofs.lemmas.List.Sorted.{Contains-permutation, IsPermutation-map}
use Rattle.std.proofs.lemmas.List.Sorted.{IsPermutation-reverse, IsPermutation-sym}
use Rattle.std.proofs.lemmas.Map.Keys.{IsDistinct-from_sorted, IsDistinct-IsPermutation}
use Rattle.std.proofs.lemmas.Map.Text.{is_eq-slice_cmp}
use Rattle.std.proofs.lemmas.Map.Views.{Contains-from_lookup, lookup-from_Contains}
use Rattle.std.proofs.lemmas.Slice.Eq.{bytes_eq-Decides}
use Rattle.cdf_definition.specs.Named.{IdText, ids_of, text_of, by_id}
use Rattle.cdf_definition.proofs.Laws.{by_id_law}

abbrev pub IsAmong : {X : Type 0} → List X → X → Type 0
IsAmong [] x = ⊥
IsAmong (y ∷ ys) x = (y ≡ x) ⊎ IsAmong ys x

pub among_from : {X : Type 0} (ys : List X) (x : X) → Contains ys x → IsAmong ys x
among_from ys x c = go ys c.0 c.1 c.2
  where
    go : {X : Type 0} {x : X} (ys : List X) (i : ℕ) → i < length ys → slice_index_or ys i x ≡ x
        → IsAmong ys x
    go [] i lt is = absurd (omega arith)
    go (y ∷ ys) zero lt is = inl is
    go (y ∷ ys) (suc i) lt is = inr (go ys i (omega arith) is)

pub from_among : {X : Type 0} (ys : List X) (x : X) → IsAmong ys x → Contains ys x
from_among [] x a = absurd a
from_among (y ∷ ys) x (inl is) = (0, omega arith, is)
from_among (y ∷ ys) x (inr a) = let c = from_among ys x a in (suc c.0, omega (arith, c.1), c.2)

-- ---- entries by their ids

-- no id stands at two entries
abbrev pub AreAlone : List IdText → Type 0
AreAlone es = IsDistinct bytes_eq (ids_of es)

pub alone_by_id : (es : List IdText) → AreAlone (by_id es)
alone_by_id es =
    subst (λ eq. IsDistinct eq (ids_of (by_id es))) (λ i k l. is_eq-slice_cmp k l i)
    (IsDistinct-from_sorted (slice_cmp nat_cmp) (ids_of (by_id es)) (by_id_law es).rises)

alone_reversed : (es : List IdText) → AreAlone es → AreAlone (reverse es)
alone_reversed es alone =
    IsDistinct-IsPermutation bytes_eq nat_list_eq_equiv.symm (ids_of es) (ids_of (reverse es))
    (IsPermutation-map (λ (e : IdText). e.0) es (reverse es) (IsPermutation-reverse es)) alone

-- what stands in one list stands in another with the same text beside each id
same_texts : (es fs : List IdText) → AreAlone es → ((id : List ℕ) → text_of es id ≡ text_of fs id)
    → (x : IdText) → Contains es x → Contains fs x
same_texts es fs alone same x at =
    Contains-from_lookup (λ k l. (bytes_eq-Decides k l).0) x.0 x.1 fs
    (sym (same x.0) ∙ lookup-from_Contains nat_list_eq_equiv x.0 x.1 es alone at)

pub same_by_id : (es : List IdText) → AreAlone es → (x : IdText)
    → Contains (by_id es) x ↔ Contains es x
same_by_id es alone x =
    let texts = (by_id_law es).texts in (
      (λ at. Contains-permutation _ _ x (IsPermutation-sym _ _ (IsPermutation-reverse es))
          (same_texts (by_id es) (reverse es) (alone_by_id es) texts x at)),
      λ at. same_texts (reverse es) (by_id es) (alone_reversed es alone) (λ id. sym (texts id)) x
          (Contains-permutation _ _ x (IsPermutation-reverse es) at),
    )
