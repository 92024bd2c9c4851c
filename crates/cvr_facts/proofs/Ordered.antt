-- A list put in order.
use Rattle.std.proofs.Common.{◌≡◌, List, [], ◌∷◌, Bool, true, false, cond, ◌||◌, Option, Some}
use Rattle.std.proofs.Common.{is_some, Ordering, refl, sym, ap, ◌∙◌}
use Rattle.std.specs.List.{list_any}
use Rattle.std.specs.List.Sorted.{IsStrictlySortedBy}
use Rattle.std.specs.Ordering.{eq_by_cmp}
use Rattle.std.specs.Cmp.{IsTotalOrder}
use Rattle.std.specs.FinMap as map_of
use Rattle.std.specs.FinMap.{IsAntisymmetric, entries, entries_sorted}
use Rattle.std.specs.FinSet.{items, from_list, contains-from_list, contains-items}
use Rattle.cdf_definition.proofs.Lemmas.{keys_rise}
use Rattle.cvr_facts.specs.Ordered.{keys_of, keys_in_order}
use Rattle.cvr_facts.proofs.SameLists.{same_lists}

some_cond : (b : Bool) (o : Option (Unit {0})) → is_some (cond b (Some tt) o) ≡ (b || is_some o)
some_cond true o = refl
some_cond false o = refl

pub ordered_rises : {K : Type 0} (R : K → K → Ordering) (ks : List K)
    → IsStrictlySortedBy R (keys_in_order R ks)
ordered_rises R ks = keys_rise R (entries (keys_of R ks)) (entries_sorted (keys_of R ks))

module _ {K : Type 0} {R : K → K → Ordering} (t : IsTotalOrder R) where
  found : (ks : List K) (q : K) → is_some (map_of.get (keys_of R ks) q)
      ≡ list_any (eq_by_cmp R q) ks
  found [] q = ap is_some (map_of.get-empty R q)
  found (k ∷ ks) q = ap is_some (map_of.get-insert t (keys_of R ks) k tt q)
      ∙ (some_cond (eq_by_cmp R q k) (map_of.get (keys_of R ks) q)
      ∙ ap (λ b. eq_by_cmp R q k || b) (found ks q))

  -- it keeps its members
  pub list_any-keys_in_order : (ks : List K) (q : K)
      → list_any (eq_by_cmp R q) (keys_in_order R ks) ≡ list_any (eq_by_cmp R q) ks
  list_any-keys_in_order ks q = sym (map_of.contains_key-keys (keys_of R ks) q) ∙ found ks q

  -- what rises and has the members is it
  pub keys_in_order-same : IsAntisymmetric R → (ks xs : List K) → IsStrictlySortedBy R xs
      → ((q : K) → list_any (eq_by_cmp R q) xs ≡ list_any (eq_by_cmp R q) ks)
      → keys_in_order R ks ≡ xs
  keys_in_order-same e ks xs h same = same_lists t e (keys_in_order R ks) xs (ordered_rises R ks) h
      (λ q. list_any-keys_in_order ks q ∙ sym (same q))

  -- the members of the set that a rising list makes, in order, are that list
  pub keys_in_order-from_list : IsAntisymmetric R → (xs : List K) → IsStrictlySortedBy R xs
      → keys_in_order R (items (from_list {R = R} xs)) ≡ xs
  keys_in_order-from_list e xs h = keys_in_order-same e (items (from_list xs)) xs h
      (λ q. sym (contains-from_list t xs q) ∙ contains-items (from_list xs) q)
