-- The latest of several instants.
use Rattle.std.proofs.Common.{◌≡◌, ℕ, ◌+◌, ◌<◌, ℤ, List, ◌∷◌, length, get_or, drop, map, Bool, true}
use Rattle.std.proofs.Common.{false, cond, Option, Some, None, Ordering, Less, Greater, refl}
use Rattle.std.proofs.Common.{sym, ap, ◌∙◌, arith}
use Rattle.std.specs.Ordering.{int_cmp, is_gt, ordering_reverse}
use Rattle.std.specs.Option.{option_map_or}
use Rattle.std.specs.List.{filter_map, cons_option}
use Rattle.std.proofs.lemmas.Cmp.{int_cmp_total, upto}
use Rattle.std.proofs.lemmas.List.{drop_more}
use Rattle.serde_json.specs.Data.{Data}
use Rattle.cdf_node.specs.View.{view}
use Rattle.cdf_node.specs.declared.node.Node.{Node}
use Rattle.cdf_typed.specs.Greatest.{max_of, max_by}
use Rattle.cdf_typed.specs.Instants.{later}
use Rattle.cdf_typed.specs.Typed.{instant_in}

is_above : (o : Ordering) → is_gt o ≡ true → o ≡ Greater
is_above o e = grind arith

above_below : (a b : ℤ) → is_gt (int_cmp a b) ≡ true → int_cmp b a ≡ Less
above_below a b e = int_cmp_total.antisymm b a ∙ ap ordering_reverse (is_above (int_cmp a b) e)

above_chain : (a b c : ℤ) → is_gt (int_cmp a b) ≡ true → is_gt (int_cmp b c) ≡ true
    → is_gt (int_cmp a c) ≡ true
above_chain a b c p q =
    let low : int_cmp c a ≡ Less =
    int_cmp_total.trans c b a (above_below b c q) (above_below a b p) in
    ap is_gt (int_cmp_total.antisymm a c ∙ ap ordering_reverse low)

joined : (a b c : ℤ) (ab bc : Bool) → is_gt (int_cmp a b) ≡ ab → is_gt (int_cmp b c) ≡ bc
    → max_of int_cmp a (cond bc b c) ≡ max_of int_cmp (cond ab a b) c
joined a b c true true p q = rw (p, above_chain a b c p q) refl
joined a b c true false p q = refl
joined a b c false true p q = rw (p, q) refl
joined a b c false false p q = rw (upto int_cmp_total a b c p q, q) refl

pub later_joined : (a b c : Option ℤ) → later a (later b c) ≡ later (later a b) c
later_joined a b c = grind (arith, joined, is_gt, int_cmp)

greatest_more : (o : Option ℤ) (xs : List ℤ)
    → max_by int_cmp (cons_option o xs) ≡ later o (max_by int_cmp xs)
greatest_more None xs = refl
greatest_more (Some x) xs = at_rest x (max_by int_cmp xs) where
  at_rest : (x : ℤ) (g : Option ℤ) → Some (option_map_or (max_of int_cmp x) g x) ≡ later (Some x) g
  at_rest x None = refl
  at_rest x (Some y) = refl

pub latest_more : (m : Option ℤ) (d : Data) (ds : List Data)
    → later m (max_by int_cmp (filter_map instant_in (d ∷ ds)))
    ≡ later (later m (instant_in d)) (max_by int_cmp (filter_map instant_in ds))
latest_more m d ds = ap (later m) (greatest_more (instant_in d) (filter_map instant_in ds))
    ∙ later_joined m (instant_in d) (max_by int_cmp (filter_map instant_in ds))

pub latest_step : (vs : List Node) (i : ℕ) (v : Node) (m : Option ℤ) → i < length vs
    → v ≡ get_or vs i v
    → later m (max_by int_cmp (filter_map instant_in (map view (drop i vs))))
    ≡ later (later m (instant_in (view v)))
    (max_by int_cmp (filter_map instant_in (map view (drop (i + 1) vs))))
latest_step vs i v m lt is =
    let first : drop i vs ≡ v ∷ drop (i + 1) vs =
    drop_more vs i v lt ∙ ap (λ x. x ∷ drop (i + 1) vs) (sym is) in
    ap (λ xs. later m (max_by int_cmp (filter_map instant_in (map view xs)))) first
    ∙ latest_more m (view v) (map view (drop (i + 1) vs))
