-- Lists of paths that are empty, told by their parts.
use Rattle.std.proofs.Common.{◌≡◌, ◌↔◌, ◌<◌, ℕ, zero, suc, ◌+◌, List, [], ◌∷◌, ◌++◌, length}
use Rattle.std.proofs.Common.{slice_index_or, Bool, true, false, Contains, refl, ap, subst, arith}
use Rattle.serde_json.specs.Data.{Data}
use Rattle.cdf_form.specs.Form.{Step, at_member, at_item}
use Rattle.cdf_parts.specs.Parts.{array_at}
use Rattle.cdf_definition.specs.Paths.{Path, below, itself_unless, below_each, each}
use Rattle.cdf_definition.specs.Resolves.{Each}

-- ---- lists

pub left_nil : (xs ys : List Path) → xs ++ ys ≡ [] → xs ≡ []
left_nil [] ys e = refl
left_nil (x ∷ xs) ys e = cc

pub right_nil : (xs ys : List Path) → xs ++ ys ≡ [] → ys ≡ []
right_nil [] ys e = e
right_nil (x ∷ xs) ys e = cc

pub both_nil : (xs ys : List Path) → xs ≡ [] → ys ≡ [] → xs ++ ys ≡ []
both_nil xs ys a b = rw (a, b)

-- two lists are empty where both are
pub two : {P Q : Type 0} (xs ys : List Path) → (xs ≡ []) ↔ P → (ys ≡ []) ↔ Q
    → (xs ++ ys ≡ []) ↔ (P × Q)
two xs ys p q = (
  (λ e. (p.0 (left_nil xs ys e), q.0 (right_nil xs ys e))),
  λ h.
      both_nil xs ys (p.1 h.0) (q.1 h.1),
)

below_nil : (s : Step) (xs : List Path) → below s xs ≡ [] → xs ≡ []
below_nil s [] e = refl
below_nil s (x ∷ xs) e = cc

-- the paths of a part are none where the part has none
pub inner : {P : Type 0} (s : Step) (xs : List Path) → (xs ≡ []) ↔ P → (below s xs ≡ []) ↔ P
inner s xs p = ((λ e. p.0 (below_nil s xs e)), λ h. ap (below s) (p.1 h))

pub unless_nil : (b : Bool) → itself_unless b ≡ [] → b ≡ true
unless_nil true e = refl
unless_nil false e = cc

pub nil_unless : (b : Bool) → b ≡ true → itself_unless b ≡ []
nil_unless b e = ap itself_unless e

-- ---- items

pub at_head : (d : Data) (ds : List Data) → Contains (d ∷ ds) d
at_head d ds = (0, omega arith, refl)

pub at_tail : (d e : Data) (ds : List Data) → Contains ds e → Contains (d ∷ ds) e
at_tail d e ds c = (suc c.0, omega (arith, c.1), c.2)

module _ (f : Data → List Path) (P : Data → Type 0) (told : (e : Data) → (f e ≡ []) ↔ P e) where
  items_nil : (ds : List Data) (i j : ℕ) (e : Data) → below_each f ds i ≡ [] → j < length ds
      → slice_index_or ds j e ≡ e → P e
  items_nil [] i j e h lt is = absurd (omega arith)
  items_nil (d ∷ ds) i zero e h lt is =
      subst P is ((told d).0 (below_nil (at_item i) (f d) (left_nil _ _ h)))
  items_nil (d ∷ ds) i (suc j) e h lt is =
      items_nil ds (i + 1) j e (right_nil _ _ h) (omega arith) is

  nil_items : (ds : List Data) (i : ℕ) → ((e : Data) → Contains ds e → P e) → below_each f ds i ≡ []
  nil_items [] i h = refl
  nil_items (d ∷ ds) i h =
      both_nil (below (at_item i) (f d)) (below_each f ds (i + 1))
      (ap (below (at_item i)) ((told d).1 (h d (at_head d ds))))
      (nil_items ds (i + 1) (λ e c. h e (at_tail d e ds c)))

  -- no item has a path where each has what its own paths say
  pub all_items : (name : List ℕ) (d : Data) → (each f name d ≡ []) ↔ Each P name d
  all_items name d =
      inner (at_member name) (below_each f (array_at name d) 0)
      ((λ h e c. items_nil (array_at name d) 0 c.0 e h c.1 c.2), nil_items (array_at name d) 0)
