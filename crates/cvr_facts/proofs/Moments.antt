-- The moment of a snapshot is its annotations' latest instant.
use Rattle.std.proofs.Common.{◌≡◌, ℤ, ◌<ℤ◌, List, [], ◌∷◌, false, Contains, Some, None, Less, Equal}
use Rattle.std.proofs.Common.{Greater, codes, int_cmp, is_gt, refl, ap, ◌∙◌, true≢false}
use Rattle.std.specs.List.{filter_map}
use Rattle.std.specs.Ordering.{MatchOrdering}
use Rattle.std.specs.Cmp.{int_cmp_is, int_ranks}
use Rattle.std.specs.FinMap.{int_cmp-IsAntisymmetric}
use Rattle.std.proofs.lemmas.Cmp.{int_cmp_total}
use Rattle.serde_json.specs.Data.{Data}
use Rattle.cdf_parts.specs.Parts.{array_at}
use Rattle.cdf_typed.specs.Greatest.{max_by}
use Rattle.cdf_typed.specs.Typed.{instant_in}
use Rattle.cvr_facts.specs.Laws.{IsAnnotatedAt, MomentLaw, NoMomentLaw}
use Rattle.cvr_facts.proofs.Greatest.{greatest_is, is_greatest}
use Rattle.cvr_facts.proofs.Members.{none_listed}
use Rattle.cvr_facts.proofs.Records.{Contains-filter_map, from-filter_map}

not_above : (n m : ℤ) → is_gt (int_cmp n m) ≡ false → ¬ (m <ℤ n)
not_above n m low less = true≢false (ap is_gt (int_cmp_is n m Greater less) ∙ low)

not_gt : (n m : ℤ) → ¬ (m <ℤ n) → is_gt (int_cmp n m) ≡ false
not_gt n m never =
    elim (int_cmp n m) as (λ o. MatchOrdering o (n <ℤ m) (n ≡ m) (m <ℤ n) → is_gt o ≡ false) [
      | Less ↦ λ _. refl
      | Equal ↦ λ _. refl
      | Greater ↦ λ later. absurd (never later)
    ] (int_ranks n m)

module _ (snapshot : Data) where
  abbrev annotations : List Data
  annotations = array_at (codes "Annotation") snapshot

  abbrev instants : List ℤ
  instants = filter_map instant_in annotations

  annotated : (m : ℤ) → Contains instants m → IsAnnotatedAt snapshot m
  annotated m at = let found = from-filter_map instant_in annotations m at in
      record { annotation = found.0; listed = found.1; instant = found.2 }

  listed : (m : ℤ) → IsAnnotatedAt snapshot m → Contains instants m
  listed m at = Contains-filter_map instant_in annotations at.annotation m at.listed at.instant

pub moment : MomentLaw
moment d m = (
  λ is. let most = greatest_is int_cmp_total (instants d) m is in
      (annotated d m most.listed, λ n at. not_above n m (most.top n (listed d n at))),
  λ h. is_greatest int_cmp_total int_cmp-IsAntisymmetric (instants d) m
      (record { listed = listed d m h.0; top = λ n at. not_gt n m (h.1 n (annotated d n at)) }),
)

-- nothing is the greatest of an empty list alone
none_greatest : (xs : List ℤ) → ((m : ℤ) → ¬ Contains xs m) → max_by int_cmp xs ≡ None
none_greatest xs never =
    elim (max_by int_cmp xs) as (λ o. max_by int_cmp xs ≡ o → o ≡ None) [
      | None ↦ λ _. refl
      | Some m ↦ λ is. absurd (never m (greatest_is int_cmp_total xs m is).listed)
    ] refl

none_in : (xs : List ℤ) → max_by int_cmp xs ≡ None → (m : ℤ) → ¬ Contains xs m
none_in [] none m at = none_listed m at
none_in (x ∷ xs) none m at = Prim.cc none

pub no_moment : NoMomentLaw
no_moment d = (
  λ none m at. none_in (instants d) none m (listed d m at),
  λ never. none_greatest (instants d) (λ m at. never m (annotated d m at)),
)
