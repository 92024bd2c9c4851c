-- The greatest of the snapshots that are shown is the same by facts and by bodies.
use Rattle.std.proofs.Common.{◌≡◌, Bool, true, false, cond, List, [], ◌∷◌, map, Option, Some, None}
use Rattle.std.proofs.Common.{IfSome, Contains, option_map, refl, ap, ◌∙◌}
use Rattle.std.specs.Option.{option_map_or}
use Rattle.std.specs.declared.cmp.Ordering.{Ordering}
use Rattle.std.specs.Ordering.{is_gt}
use Rattle.cdf_typed.specs.Greatest.{max_of, max_by}
use Rattle.cvr_facts.proofs.Lemmas.{at_head, at_tail}

module _ {X Y : Type 0} (R : X → X → Ordering) (Q : Y → Y → Ordering) (f : X → Y) (P : X → Type 0)
    (same : (x y : X) → P x → P y → Q (f x) (f y) ≡ R x y) where
  greater_same : (b : Bool) (x y : X) → cond b (f x) (f y) ≡ f (cond b x y)
  greater_same true x y = refl
  greater_same false x y = refl

  greater_has : (b : Bool) (x y : X) → P x → P y → P (cond b x y)
  greater_has true x y p q = p
  greater_has false x y p q = q

  more_has : (x : X) (o : Option X) → P x → IfSome o P → P (option_map_or (max_of R x) o x)
  more_has x None p h = p
  more_has x (Some y) p h = greater_has (is_gt (R x y)) x y p h

  greatest_has : (xs : List X) → ((x : X) → Contains xs x → P x) → IfSome (max_by R xs) P
  greatest_has [] h = tt
  greatest_has (x ∷ xs) h = more_has x (max_by R xs) (h x (at_head x xs))
      (greatest_has xs (λ y at. h y (at_tail x y xs at)))

  more_same : (x : X) (o : Option X) → P x → IfSome o P
      → option_map_or (max_of Q (f x)) (option_map f o) (f x) ≡ f (option_map_or (max_of R x) o x)
  more_same x None p h = refl
  more_same x (Some y) p h =
      ap (λ r. cond (is_gt r) (f x) (f y)) (same x y p h) ∙ greater_same (is_gt (R x y)) x y

  pub greatest_map : (xs : List X) → ((x : X) → Contains xs x → P x)
      → max_by Q (map f xs) ≡ option_map f (max_by R xs)
  greatest_map [] h = refl
  greatest_map (x ∷ xs) h =
      let rest : (y : X) → Contains xs y → P y = λ y at. h y (at_tail x y xs at) in
      ap (λ o. Some (option_map_or (max_of Q (f x)) o (f x))) (greatest_map xs rest)
      ∙ ap Some (more_same x (max_by R xs) (h x (at_head x xs)) (greatest_has xs rest))
