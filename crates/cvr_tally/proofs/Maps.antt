-- A map in memory as a finite map: what its entries make, and what a change at one key makes of it.
use Rattle.std.proofs.Common.{◌≡◌, Bool, true, false, cond, List, [], ◌∷◌, Some, None, refl, sym}
use Rattle.std.proofs.Common.{ap, subst, ◌∙◌, T, ◌&&◌, Less}
use Rattle.std.specs.Map.{lookup}
use Rattle.std.specs.BTreeMap.{is_at}
use Rattle.std.specs.Cmp.{IsTotalOrder, eq_by_cmp_equiv, Equal-is}
use Rattle.std.specs.Option.{option_map, option_map_or, unwrap_or}
use Rattle.std.specs.FinMap.{find, get, insert, remove, from_entries, from_sorted, is_sorted}
use Rattle.std.specs.FinMap.{entries, entries-from_sorted, get-from_sorted, get-from_entries}
use Rattle.std.specs.FinMap.{get-insert, get-remove, same_map, IsAntisymmetric}
use Rattle.std.specs.FinMap.Entries.{below_all}
use Rattle.std.specs.List.{AllByRecursion}
use Rattle.std.specs.List.Sorted.{IsStrictlySortedBy}
use Rattle.std.specs.Map.{keys_of}
use Rattle.std.specs.declared.cmp.Ordering.{Ordering}
use Rattle.std.specs.Ordering.{eq_by_cmp, is_lt}

both : (a b : Bool) → T a → T b → T (a && b)
both true b p q = q
both false b p q = p

below_rest : {K X : Type 0} (R : K → K → Ordering) (x : K) (es : List (K × X))
    → AllByRecursion (λ y. R x y ≡ Less) (keys_of es) → T (below_all R x es)
below_rest R x [] h = tt
below_rest R x (e ∷ es) h = both _ _ (subst (λ r. T (is_lt r)) (sym h.0) tt) (below_rest R x es h.1)

-- keys in strict order rise
pub rises : {K X : Type 0} (R : K → K → Ordering) (es : List (K × X))
    → IsStrictlySortedBy R (keys_of es) → T (is_sorted R es)
unfolding IsStrictlySortedBy
rises R [] h = tt
rises R (e ∷ es) h = both _ _ (below_rest R e.0 es h.0) (rises R es h.1)

module _ {K X : Type 0} {R : K → K → Ordering} (o : IsTotalOrder R) (e : IsAntisymmetric R) where
  find_lookup : (es : List (K × X)) (q : K) → find R q es ≡ lookup (is_at (R q)) es
  find_lookup [] q = refl
  find_lookup (x ∷ es) q = ap (cond (is_at (R q) x.0) (Some x.1)) (find_lookup es q)

  -- what the map that the entries make has
  pub get-made : (es : List (K × X)) (q : K)
      → get (from_entries {R = R} es) q ≡ lookup (is_at (R q)) es
  get-made es q = get-from_entries o es q ∙ find_lookup es q

  -- entries that differ at one key make maps that differ there
  pub one_put : (es fs : List (K × X)) (k : K) (v : X)
      → ((q : K) → lookup (is_at (R q)) fs
      ≡ cond (is_at (R k) q) (Some v) (lookup (is_at (R q)) es))
      → from_entries {R = R} fs ≡ insert (from_entries es) k v
  one_put es fs k v h = same_map o e _ _ (λ q.
      get-made fs q ∙ (h q ∙ (ap (λ b. cond b (Some v) (lookup (is_at (R q)) es))
      ((eq_by_cmp_equiv o).symm k q)
      ∙ sym (get-insert o (from_entries es) k v q
      ∙ ap (cond (eq_by_cmp R q k) (Some v)) (get-made es q)))))

  pub one_gone : (es fs : List (K × X)) (k : K)
      → ((q : K) → lookup (is_at (R q)) fs ≡ cond (is_at (R k) q) None (lookup (is_at (R q)) es))
      → from_entries {R = R} fs ≡ remove (from_entries es) k
  one_gone es fs k h = same_map o e _ _ (λ q.
      get-made fs q ∙ (h q ∙ (ap (λ b. cond b None (lookup (is_at (R q)) es))
      ((eq_by_cmp_equiv o).symm k q)
      ∙ sym (get-remove o (from_entries es) k q
      ∙ ap (cond (eq_by_cmp R q k) None) (get-made es q)))))

  pub moved : (es fs : List (K × X)) (k : K) (v : X) → lookup (is_at (R k)) fs ≡ Some v
      → ((q : K) → is_at (R k) q ≡ false → lookup (is_at (R q)) fs ≡ lookup (is_at (R q)) es)
      → from_entries {R = R} fs ≡ insert (from_entries es) k v
  moved es fs k v here others = one_put es fs k v (λ q.
      elim (is_at (R k) q) as (λ b. is_at (R k) q ≡ b
      → lookup (is_at (R q)) fs ≡ cond b (Some v) (lookup (is_at (R q)) es)) [
        | true ↦ λ t. subst (λ z. lookup (is_at (R z)) fs ≡ Some v) (e k q ((Equal-is (R k q)).0 t))
            here
        | false ↦ λ t. others q t
      ] refl)

  pub stays : (es fs : List (K × X)) (k : K) → lookup (is_at (R k)) fs ≡ lookup (is_at (R k)) es
      → ((q : K) → is_at (R k) q ≡ false → lookup (is_at (R q)) fs ≡ lookup (is_at (R q)) es)
      → from_entries {R = R} fs ≡ from_entries es
  stays es fs k here others = same_map o e _ _ (λ q. get-made fs q ∙ (
      elim (is_at (R k) q) as (λ b. is_at (R k) q ≡ b
      → lookup (is_at (R q)) fs ≡ lookup (is_at (R q)) es) [
        | true ↦ λ t. subst (λ z. lookup (is_at (R z)) fs ≡ lookup (is_at (R z)) es)
            (e k q ((Equal-is (R k q)).0 t)) here
        | false ↦ λ t. others q t
      ] refl ∙ sym (get-made es q)))

  -- a function is put to the value at one key
  pub mapped_at : (f : X → X) (es fs : List (K × X)) (k : K)
      → lookup (is_at (R k)) fs ≡ option_map f (lookup (is_at (R k)) es)
      → ((q : K) → is_at (R k) q ≡ false → lookup (is_at (R q)) fs ≡ lookup (is_at (R q)) es)
      → from_entries {R = R} fs ≡ option_map_or (λ x. insert (from_entries es) k (f x))
      (get (from_entries {R = R} es) k) (from_entries es)
  mapped_at f es fs k here others =
      elim (lookup (is_at (R k)) es) as
      (λ w. lookup (is_at (R k)) es ≡ w
      → from_entries {R = R} fs ≡ option_map_or (λ x. insert (from_entries es) k (f x))
      (get (from_entries {R = R} es) k) (from_entries es)) [
        | None ↦ λ w. subst (λ z. from_entries {R = R} fs
            ≡ option_map_or (λ x. insert (from_entries es) k (f x)) z (from_entries es))
            (sym (get-made es k ∙ w)) (stays es fs k (here ∙ (ap (option_map f) w ∙ sym w)) others)
        | Some x ↦ λ w. subst (λ z. from_entries {R = R} fs
            ≡ option_map_or (λ x. insert (from_entries es) k (f x)) z (from_entries es))
            (sym (get-made es k ∙ w)) (moved es fs k (f x) (here ∙ ap (option_map f) w) others)
      ] refl

  pub gone : (es fs : List (K × X)) (k : K) → lookup (is_at (R k)) fs ≡ None
      → ((q : K) → is_at (R k) q ≡ false → lookup (is_at (R q)) fs ≡ lookup (is_at (R q)) es)
      → from_entries {R = R} fs ≡ remove (from_entries es) k
  gone es fs k here others = one_gone es fs k (λ q.
      elim (is_at (R k) q) as (λ b. is_at (R k) q ≡ b
      → lookup (is_at (R q)) fs ≡ cond b None (lookup (is_at (R q)) es)) [
        | true ↦ λ t. subst (λ z. lookup (is_at (R z)) fs ≡ None) (e k q ((Equal-is (R k q)).0 t))
            here
        | false ↦ λ t. others q t
      ] refl)

  -- z is put where nothing stands
  pub opened_at : (z : X) (es fs : List (K × X)) (k : K)
      → lookup (is_at (R k)) fs ≡ Some (unwrap_or (lookup (is_at (R k)) es) z)
      → ((q : K) → is_at (R k) q ≡ false → lookup (is_at (R q)) fs ≡ lookup (is_at (R q)) es)
      → from_entries {R = R} fs ≡ option_map_or (λ _. from_entries es)
      (get (from_entries {R = R} es) k) (insert (from_entries es) k z)
  opened_at z es fs k here others =
      elim (lookup (is_at (R k)) es) as
      (λ w. lookup (is_at (R k)) es ≡ w
      → from_entries {R = R} fs ≡ option_map_or (λ _. from_entries es)
      (get (from_entries {R = R} es) k) (insert (from_entries es) k z)) [
        | None ↦ λ w. subst (λ y. from_entries {R = R} fs
            ≡ option_map_or (λ _. from_entries es) y (insert (from_entries es) k z))
            (sym (get-made es k ∙ w)) (moved es fs k z (here ∙ ap (λ y. Some (unwrap_or y z)) w)
            others)
        | Some x ↦ λ w. subst (λ y. from_entries {R = R} fs
            ≡ option_map_or (λ _. from_entries es) y (insert (from_entries es) k z))
            (sym (get-made es k ∙ w)) (stays es fs k
            (here ∙ (ap (λ y. Some (unwrap_or y z)) w ∙ sym w)) others)
      ] refl

  -- what passes the test goes
  pub closed_at : (p : X → Bool) (es fs : List (K × X)) (k : K)
      → lookup (is_at (R k)) fs ≡ option_map_or (λ x. cond (p x) None (Some x))
      (lookup (is_at (R k)) es) None → ((q : K) → is_at (R k) q ≡ false
      → lookup (is_at (R q)) fs ≡ lookup (is_at (R q)) es)
      → from_entries {R = R} fs ≡ option_map_or
      (λ x. cond (p x) (remove (from_entries es) k) (from_entries es))
      (get (from_entries {R = R} es) k) (from_entries es)
  closed_at p es fs k here others =
      elim (lookup (is_at (R k)) es) as
      (λ w. lookup (is_at (R k)) es ≡ w
      → from_entries {R = R} fs ≡ option_map_or
      (λ x. cond (p x) (remove (from_entries es) k) (from_entries es))
      (get (from_entries {R = R} es) k) (from_entries es)) [
        | None ↦ λ w. subst (λ y. from_entries {R = R} fs
            ≡ option_map_or (λ x. cond (p x) (remove (from_entries es) k) (from_entries es)) y
            (from_entries es)) (sym (get-made es k ∙ w))
            (stays es fs k (here ∙ (ap (λ y. option_map_or (λ x. cond (p x) None (Some x)) y None) w
            ∙ sym w)) others)
        | Some x ↦ λ w. subst (λ y. from_entries {R = R} fs
            ≡ option_map_or (λ x. cond (p x) (remove (from_entries es) k) (from_entries es)) y
            (from_entries es)) (sym (get-made es k ∙ w))
            (elim (p x) as (λ b. p x ≡ b
            → from_entries {R = R} fs ≡ cond b (remove (from_entries es) k) (from_entries es)) [
              | true ↦ λ t. gone es fs k
                  (here ∙ (ap (λ y. option_map_or (λ x. cond (p x) None (Some x)) y None) w
                  ∙ ap (λ b. cond b None (Some x)) t)) others
              | false ↦ λ t. stays es fs k
                  (here ∙ (ap (λ y. option_map_or (λ x. cond (p x) None (Some x)) y None) w
                  ∙ (ap (λ b. cond b None (Some x)) t ∙ sym w))) others
            ] refl)
      ] refl

  pub all_stay : (es fs : List (K × X))
      → ((q : K) → lookup (is_at (R q)) fs ≡ lookup (is_at (R q)) es)
      → from_entries {R = R} fs ≡ from_entries es
  all_stay es fs h = same_map o e _ _ (λ q. get-made fs q ∙ (h q ∙ sym (get-made es q)))

  -- the map that entries in order make has just these entries
  pub entries-made : (es : List (K × X)) → IsStrictlySortedBy R (keys_of es)
      → entries (from_entries {R = R} es) ≡ es
  entries-made es h =
      let up : T (is_sorted R es) = rises R es h in
      ap entries (same_map o e (from_entries es) (from_sorted es)
      (λ q. get-from_entries o es q ∙ sym (get-from_sorted R es q up)))
      ∙ entries-from_sorted R es up
