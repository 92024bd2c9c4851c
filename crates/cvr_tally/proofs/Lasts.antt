-- An entry whose key is above all others comes last.
use Rattle.std.proofs.Common.{◌≡◌, List, [], ◌∷◌, ◌++◌, Less, Greater, refl, sym, ap, subst, ◌∙◌}
use Rattle.std.proofs.Common.{append_assoc}
use Rattle.std.specs.BTreeMap.{insert_entry}
use Rattle.std.specs.Cmp.{IsTotalOrder}
use Rattle.std.specs.List.{AllByRecursion}
use Rattle.std.specs.List.Sorted.{IsStrictlySortedBy}
use Rattle.std.specs.Map.{keys_of}
use Rattle.std.specs.Ordering.{match_ordering, ordering_reverse}
use Rattle.std.specs.declared.cmp.Ordering.{Ordering}

insert_last : {K X : Type 0} {R : K → K → Ordering} → IsTotalOrder R
    → (es : List (K × X)) (k : K) (v : X) → AllByRecursion (λ y. R y k ≡ Less) (keys_of es)
    → insert_entry R es k v ≡ es ++ (k, v) ∷ []
insert_last o [] k v below = refl
insert_last {R = R} o (e ∷ es) k v below =
    let above : R k e.0 ≡ Greater = o.antisymm k e.0 ∙ ap ordering_reverse below.0 in
    ap (λ r. match_ordering r ((k, v) ∷ e ∷ es) ((e.0, v) ∷ es) (e ∷ insert_entry R es k v)) above
    ∙ ap (λ fs. e ∷ fs) (insert_last o es k v below.1)

all_at : {K X : Type 0} (P : K → Type 0) (es : List (K × X)) (e : K × X) (fs : List (K × X))
    → AllByRecursion P (keys_of (es ++ e ∷ fs)) → P e.0
all_at P [] e fs all = all.0
all_at P (d ∷ es) e fs all = all_at P es e fs all.1

all_before : {K X : Type 0} (R : K → K → Ordering) (es : List (K × X)) (e : K × X)
    (fs : List (K × X)) → IsStrictlySortedBy R (keys_of (es ++ e ∷ fs))
    → AllByRecursion (λ y. R y e.0 ≡ Less) (keys_of es)
unfolding IsStrictlySortedBy
all_before R [] e fs rises = tt
all_before R (d ∷ es) e fs rises = (
  all_at (λ y. R d.0 y ≡ Less) es e fs rises.0,
  all_before R es e
      fs rises.1,
)

-- the next of entries in order comes last
insert_next : {K X : Type 0} {R : K → K → Ordering} → IsTotalOrder R
    → (es : List (K × X)) (e : K × X) (fs : List (K × X))
    → IsStrictlySortedBy R (keys_of (es ++ e ∷ fs)) → insert_entry R es e.0 e.1 ≡ es ++ e ∷ []
insert_next {R = R} o es e fs rises = insert_last o es e.0 e.1 (all_before R es e fs rises)

-- one more of the entries that are left is put in its place
pub put_next : {K X : Type 0} {R : K → K → Ordering} → IsTotalOrder R
    → (done left rest all new : List (K × X)) (k j : K) (v w : X) → left ≡ (k, v) ∷ rest
    → done ++ left ≡ all
    → IsStrictlySortedBy R (keys_of all) → new ≡ insert_entry R done j w → j ≡ k → w ≡ v
    → new ++ rest ≡ all
put_next {R = R} o done left rest all new k j v w is was rises put key value =
    let split = ap (λ es. done ++ es) (sym is) ∙ was in
    let last = insert_next o done (k, v) rest
    (subst (λ es. IsStrictlySortedBy R (keys_of es)) (sym split) rises) in
    ap (λ es. es ++ rest) (put ∙ ((λ i. insert_entry R done (key i) (value i)) ∙ last))
    ∙ (append_assoc done ((k, v) ∷ []) rest ∙ split)
