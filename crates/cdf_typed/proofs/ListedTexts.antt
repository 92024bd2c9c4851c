-- The value that a listed text names.
use Rattle.std.proofs.Common.{◌≡◌, ℕ, List, [], ◌∷◌, false, ◌↔◌, Option, Some, None}
use Rattle.std.proofs.Common.{bytes_eq, refl, sym, ap, ◌∙◌, arith}
use Rattle.std.specs.Prelude.{find}
use Rattle.std.proofs.lemmas.Slice.Eq.{bytes_eq-Decides}
use Rattle.std.proofs.lemmas.Bool.{false_from_ne_true}
use Rattle.cdf_types.specs.declared.snapshot_kind.SnapshotKind.{SnapshotKind}
use Rattle.cdf_types.specs.declared.snapshot_kind.SnapshotKind.TheVariants as kind
use Rattle.cdf_types.specs.declared.mark.Indication.{Indication}
use Rattle.cdf_types.specs.declared.mark.Indication.TheVariants as indication
use Rattle.cdf_types.specs.declared.mark.Allocation.{Allocation}
use Rattle.cdf_types.specs.declared.mark.Allocation.TheVariants as allocation
use Rattle.cdf_types.specs.SnapshotKind.{snapshot_kind_text}
use Rattle.cdf_types.specs.Mark.{indication_text, allocation_text}
use Rattle.cdf_typed.specs.Typed.{kind_named, indication_named, allocation_named}

none_named : {K : Type 0} (text : List ℕ) (text_of : K → List ℕ) (ks : List K)
    → ((k : K) → bytes_eq text (text_of k) ≡ false)
    → find (λ k. bytes_eq text (text_of k)) ks ≡ None
none_named text text_of [] h = refl
none_named text text_of (k ∷ ks) h = rw (h k) (none_named text text_of ks h)

is_named : {K : Type 0} (text : List ℕ) (text_of : K → List ℕ) (ks : List K) (o : Option K)
    → ((k : K) → find (λ x. bytes_eq (text_of k) (text_of x)) ks ≡ Some k)
    → ((k : K) → (o ≡ Some k) ↔ (text ≡ text_of k)) → o ≡ find (λ k. bytes_eq text (text_of k)) ks
is_named text text_of ks (Some k) own h =
    sym (ap (λ t. find (λ x. bytes_eq t (text_of x)) ks) ((h k).0 refl) ∙ own k)
is_named text text_of ks None own h = sym
    (none_named text text_of ks (λ k. false_from_ne_true (bytes_eq text (text_of k))
    (λ e. let same : None ≡ Some k = (h k).1 ((bytes_eq-Decides text (text_of k)).0 e) in cc)))

own_kind : (k : SnapshotKind) → kind_named (snapshot_kind_text k) ≡ Some k
own_kind k = grind arith

own_indication : (i : Indication) → indication_named (indication_text i) ≡ Some i
own_indication i = grind arith

own_allocation : (a : Allocation) → allocation_named (allocation_text a) ≡ Some a
own_allocation a = grind arith

pub kind_is : (text : List ℕ) (o : Option SnapshotKind)
    → ((k : SnapshotKind) → (o ≡ Some k) ↔ (text ≡ snapshot_kind_text k)) → o ≡ kind_named text
kind_is text o h = is_named text snapshot_kind_text
    (kind.Original ∷ kind.Interpreted ∷ kind.Modified ∷ []) o own_kind h

pub indication_is : (text : List ℕ) (o : Option Indication)
    → ((i : Indication) → (o ≡ Some i) ↔ (text ≡ indication_text i)) → o ≡ indication_named text
indication_is text o h = is_named text indication_text
    (indication.No ∷ indication.Unknown ∷ indication.Yes ∷ []) o own_indication h

pub allocation_is : (text : List ℕ) (o : Option Allocation)
    → ((a : Allocation) → (o ≡ Some a) ↔ (text ≡ allocation_text a)) → o ≡ allocation_named text
allocation_is text o h = is_named text allocation_text
    (allocation.No ∷ allocation.Unknown ∷ allocation.Yes ∷ []) o own_allocation h
