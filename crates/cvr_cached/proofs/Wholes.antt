-- Parts that are joined name by name make the join of their wholes, by the laws of joining alone.
use Rattle.std.proofs.Common.{◌≡◌, List, [], ◌∷◌, Contains, inl, inr, Some, None, refl, sym, ap}
use Rattle.std.proofs.Common.{◌∙◌, subst}
use Rattle.std.specs.List.Sorted.{IsStrictlySortedBy}
use Rattle.std.specs.Map.{keys_of}
use Rattle.std.specs.Option.{option_map_or}
use Rattle.cvr_fact_types.specs.declared.name.RecordName.{RecordName}
use Rattle.cvr_fact_types.specs.Facts.{name_cmp}
use Rattle.cvr_facts.specs.Sets.{JoinLaws}
use Rattle.cvr_facts.proofs.Lemmas.{at_head, at_tail, head_or_tail, none_listed}
use Rattle.cvr_cached.specs.Wholes.{part, whole_of}
use Rattle.cvr_cached.proofs.Listed.{at_name, found_own, found_listed}

-- ---- one is in another where joining it adds nothing

module _ {M : Type 0} (join : M → M → M) (nothing : M) (laws : JoinLaws join nothing) where
  abbrev IsIn : M → M → Type 0
  IsIn s t = join s t ≡ t

  nothing_in : (s : M) → IsIn nothing s
  nothing_in s = laws.unit_left s

  in_left : (s t : M) → IsIn s (join s t)
  in_left s t = sym (laws.associates s s t) ∙ ap (λ u. join u t) (laws.repeats s)

  in_right : (s t : M) → IsIn t (join s t)
  in_right s t = ap (join t) (laws.commutes s t) ∙ (in_left t s ∙ laws.commutes t s)

  both_in : (s t u : M) → IsIn s u → IsIn t u → IsIn (join s t) u
  both_in s t u a b = laws.associates s t u ∙ (ap (join s) b ∙ a)

  in_through : (s t u : M) → IsIn s t → IsIn t u → IsIn s u
  in_through s t u a b =
      ap (join s) (sym b) ∙ (sym (laws.associates s t u) ∙ (ap (λ v. join v u) a ∙ b))

  each_in : (s t : M) → IsIn s t → IsIn t s → s ≡ t
  each_in s t a b = sym b ∙ (laws.commutes t s ∙ a)

  -- ---- parts

  module _ {P : Type 0} (held : P → M) where
    abbrev all : List (RecordName × P) → M
    all parts = whole_of held join nothing parts

    abbrev held_at : List (RecordName × P) → RecordName → M
    held_at parts k = part held nothing parts k

    part_in : (parts : List (RecordName × P)) (p : RecordName × P) → Contains parts p
        → IsIn (held p.1) (all parts)
    part_in [] p there = absurd (none_listed p there)
    part_in (q ∷ qs) p there = elim (head_or_tail q p qs there) [
      | inl is ↦ subst (λ (r : RecordName × P). IsIn (held r.1) (all (q ∷ qs))) is
          (in_left (held q.1) (all qs))
      | inr more ↦ in_through (held p.1) (all qs) (all (q ∷ qs)) (part_in qs p more)
          (in_right (held q.1) (all qs))
    ]

    -- what each part is in, the whole is in
    all_in : (parts : List (RecordName × P)) (u : M)
        → ((p : RecordName × P) → Contains parts p → IsIn (held p.1) u) → IsIn (all parts) u
    all_in [] u each = nothing_in u
    all_in (q ∷ qs) u each = both_in (held q.1) (all qs) u (each q (at_head q qs))
        (all_in qs u (λ p there. each p (at_tail q p qs there)))

    at_in : (parts : List (RecordName × P)) (k : RecordName) → IsIn (held_at parts k) (all parts)
    at_in parts k = elim (at_name k parts) as
        (λ o. at_name k parts ≡ o → IsIn (option_map_or held o nothing) (all parts)) [
          | None ↦ λ e. nothing_in (all parts)
          | Some p ↦ λ e. part_in parts (k, p) (found_listed parts k p e)
        ] refl

    own_at : (parts : List (RecordName × P)) → IsStrictlySortedBy name_cmp (keys_of parts)
        → (p : RecordName × P) → Contains parts p → held_at parts p.0 ≡ held p.1
    own_at parts rises p there =
        ap (λ o. option_map_or held o nothing) (found_own parts rises p there)

    module _ (one other both : List (RecordName × P))
        (one_rises : IsStrictlySortedBy name_cmp (keys_of one))
        (other_rises : IsStrictlySortedBy name_cmp (keys_of other))
        (both_rise : IsStrictlySortedBy name_cmp (keys_of both))
        (whole_of : (k : RecordName)
        → held_at both k ≡ join (held_at one k) (held_at other k)) where
      both_below : IsIn (all both) (join (all one) (all other))
      both_below = all_in both (join (all one) (all other)) (λ p there.
          subst (λ s. IsIn s (join (all one) (all other)))
          (sym (whole_of p.0) ∙ own_at both both_rise p there)
          (both_in (held_at one p.0) (held_at other p.0) (join (all one) (all other))
          (in_through (held_at one p.0) (all one) (join (all one) (all other)) (at_in one p.0)
          (in_left (all one) (all other)))
          (in_through (held_at other p.0) (all other) (join (all one) (all other)) (at_in other p.0)
          (in_right (all one) (all other)))))

      one_below : IsIn (all one) (all both)
      one_below = all_in one (all both) (λ p there.
          subst (λ s. IsIn s (all both)) (own_at one one_rises p there)
          (in_through (held_at one p.0) (held_at both p.0) (all both)
          (subst (IsIn (held_at one p.0)) (sym (whole_of p.0))
          (in_left (held_at one p.0) (held_at other p.0))) (at_in both p.0)))

      other_below : IsIn (all other) (all both)
      other_below = all_in other (all both) (λ p there.
          subst (λ s. IsIn s (all both)) (own_at other other_rises p there)
          (in_through (held_at other p.0) (held_at both p.0) (all both)
          (subst (IsIn (held_at other p.0)) (sym (whole_of p.0))
          (in_right (held_at one p.0) (held_at other p.0))) (at_in both p.0)))

      pub whole_joined : all both ≡ join (all one) (all other)
      whole_joined = each_in (all both) (join (all one) (all other)) both_below
          (both_in (all one) (all other) (all both) one_below other_below)
