-- Facts that aren't among others, put in beside them.
use Rattle.std.proofs.Common.{◌≡◌, true, false, List, [], ◌∷◌, map, Contains, inl, inr, Less, Equal}
use Rattle.std.proofs.Common.{◌⊎◌, refl, sym, ap, ◌∙◌, subst}
use Rattle.std.specs.Prelude.{not}
use Rattle.std.specs.List.Sorted.{IsStrictlySortedBy}
use Rattle.std.specs.FinSet.{contains, union, same_set}
use Rattle.std.specs.Cmp.{tied_itself, both_ways}
use Rattle.std.proofs.lemmas.Bool.{false≢true, not-true}
use Rattle.std.proofs.lemmas.List.Elements.{All-contains, All-from_recursion}
use Rattle.cvr_fact_types.specs.Facts.{Fact, fact_total, fact_exact}
use Rattle.cvr_facts.proofs.Lemmas.{head_or_tail, none_listed, in_map, from_map, in_set, from_set}
use Rattle.cvr_office.specs.declared.any_fact.AnyFact.{AnyFact}
use Rattle.cvr_office.specs.Place.{fact_of, place_cmp, place_total, any_cmp}
use Rattle.cvr_office.specs.Plain.{set_of, IsPut}
use Rattle.cvr_office.proofs.Lemmas.{in_union, from_union, from_filter, in_filter}
use Rattle.cvr_cached.specs.Fresh.{is_fresh, fresh, AreApart}
use Rattle.cvr_lists.proofs.Lemmas.{set_both}

-- ---- facts of a list in order that are alike are one

less_alike : (x y : AnyFact) → any_cmp x y ≡ Less → fact_of x ≡ fact_of y → ⊥
less_alike x y less same =
    let both : Less ≡ Equal = sym less
    ∙ (ap (λ f. place_cmp f (fact_of y)) same ∙ tied_itself place_total (fact_of y)) in
    Prim.cc both

abbrev pub Once : List AnyFact → Type 0
Once xs = (x y : AnyFact) → Contains xs x → Contains xs y → fact_of x ≡ fact_of y → x ≡ y

pub once_rising : (xs : List AnyFact) → IsStrictlySortedBy any_cmp xs → Once xs
unfolding IsStrictlySortedBy
once_rising [] rises x y a b same = absurd (none_listed x a)
once_rising (z ∷ zs) rises x y a b same =
    let above : (w : AnyFact) → Contains zs w → any_cmp z w ≡ Less = λ w at.
    All-contains (λ v. any_cmp z v ≡ Less) zs w
    (All-from_recursion (λ v. any_cmp z v ≡ Less) zs rises.0) at in
    elim (head_or_tail z x zs a) [
      | inl p ↦ elim (head_or_tail z y zs b) [
        | inl q ↦ sym p ∙ q
        | inr q ↦ absurd (less_alike z y (above y q) (ap fact_of p ∙ same))
      ]
      | inr p ↦ elim (head_or_tail z y zs b) [
        | inl q ↦ absurd (less_alike z x (above x p) (ap fact_of q ∙ sym same))
        | inr q ↦ once_rising zs rises.1 x y p q same
      ]
    ]

-- ---- facts by what they are alike to

pub alike_in : (xs : List AnyFact) (x : AnyFact) → Contains xs x
    → contains (set_of xs) (fact_of x) ≡ true
alike_in xs x at =
    in_set fact_total fact_exact (map fact_of xs) (fact_of x) (in_map fact_of x xs at)

pub alike_from : (xs : List AnyFact) (f : Fact) → contains (set_of xs) f ≡ true
    → (y : AnyFact) × Contains xs y × (fact_of y ≡ f)
alike_from xs f h = from_map fact_of f xs (from_set fact_total fact_exact (map fact_of xs) f h)

-- ---- what is put in beside facts that it isn't among

module _ (old more new : List AnyFact) (once : Once old) (more_once : Once more)
    (apart : AreApart old more) (put : IsPut old more new) where
  put_alike : (x : AnyFact) → (contains (set_of old) (fact_of x) ≡ true)
      ⊎ (contains (set_of more) (fact_of x) ≡ true)
      → (y : AnyFact) × Contains new y × (fact_of y ≡ fact_of x)
  put_alike x h = alike_from new (fact_of x)
      (subst (λ s. contains s (fact_of x) ≡ true) (sym put.set)
      (in_union fact_total fact_exact (set_of old) (set_of more) (fact_of x) h))

  not_both : (x y : AnyFact) → Contains old x → Contains more y → fact_of x ≡ fact_of y → ⊥
  not_both x y a b same = false≢true (sym (apart y b)
      ∙ subst (λ f. contains (set_of old) f ≡ true) same (alike_in old x a))

  pub old_in : (x : AnyFact) → Contains old x → Contains new x
  old_in x at =
      let y = put_alike x (inl (alike_in old x at)) in
      elim (put.from y.0 y.1) [
        | inl a ↦ subst (Contains new) (once y.0 x a at y.2) y.1
        | inr b ↦ absurd (not_both x y.0 at b (sym y.2))
      ]

  pub more_in : (x : AnyFact) → Contains more x → Contains new x
  more_in x at =
      let y = put_alike x (inr (alike_in more x at)) in
      elim (put.from y.0 y.1) [
        | inl a ↦ absurd (not_both y.0 x a at y.2)
        | inr b ↦ subst (Contains new) (more_once y.0 x b at y.2) y.1
      ]

-- where there was nothing, all is put in
pub put_alone : (old more : List AnyFact) → old ≡ [] → IsStrictlySortedBy any_cmp more
    → IsPut old more more
put_alone old more none rises = record {
  rises = rises;
  from = λ x at. inr at;
  set = set_both [] more ∙ ap (λ xs. union (set_of xs) (set_of more)) (sym none);
}

-- ---- of what comes only what is fresh has to be put in

pub fresh_apart : (old more : List AnyFact) → AreApart old (fresh old more)
fresh_apart old more x at = not-true (contains (set_of old) (fact_of x))
    (from_filter (is_fresh old) more x at).1

fresh_set : (old more : List AnyFact)
    → union (set_of old) (set_of (fresh old more)) ≡ union (set_of old) (set_of more)
fresh_set old more =
    let s = set_of old in
    let t = set_of (fresh old more) in
    let u = set_of more in
    same_set fact_total fact_exact (union s t) (union s u) (λ q. both_ways _ _
    (λ h. elim (from_union fact_total fact_exact s t q h) [
      | inl a ↦ in_union fact_total fact_exact s u q (inl a)
      | inr b ↦
          let y = alike_from (fresh old more) q b in
          in_union fact_total fact_exact s u q (inr (subst (λ f. contains u f ≡ true) y.2
          (alike_in more y.0 (from_filter (is_fresh old) more y.0 y.1).0)))
    ])
    (λ h. elim (from_union fact_total fact_exact s u q h) [
      | inl a ↦ in_union fact_total fact_exact s t q (inl a)
      | inr b ↦
          let y = alike_from more q b in
          elim (contains s q) as (λ c. contains s q ≡ c → contains (union s t) q ≡ true) [
            | true ↦ λ e. in_union fact_total fact_exact s t q (inl e)
            | false ↦ λ e. in_union fact_total fact_exact s t q
                (inr (subst (λ f. contains t f ≡ true) y.2
                (alike_in (fresh old more) y.0 (in_filter (is_fresh old) more y.0 y.1
                (ap (λ f. not (contains s f)) y.2 ∙ ap not e)))))
          ] refl
    ]))

pub put_fresh : (old more new : List AnyFact) → IsPut old (fresh old more) new → IsPut old more new
put_fresh old more new put = record {
  rises = put.rises;
  from = λ x at. elim (put.from x at) [
    | inl a ↦ inl a
    | inr b ↦ inr (from_filter (is_fresh old) more x b).0
  ];
  set = put.set ∙ fresh_set old more;
}

-- what was put into nothing is put in as a whole
pub put_listed : (none more list old new : List AnyFact) → none ≡ [] → IsPut none more list
    → IsPut old list new → IsPut old more new
put_listed none more list old new empty listed put = record {
  rises = put.rises;
  from = λ x at. elim (put.from x at) [
    | inl a ↦ inl a
    | inr b ↦ elim (listed.from x b) [
      | inl c ↦ absurd (none_listed x (subst (λ xs. Contains xs x) empty c))
      | inr d ↦ inr d
    ]
  ];
  set = put.set ∙ ap (union (set_of old)) (listed.set
      ∙ (ap (λ xs. union (set_of xs) (set_of more)) empty ∙ sym (set_both [] more)));
}
