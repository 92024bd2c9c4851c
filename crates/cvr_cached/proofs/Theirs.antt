-- A plan made from the contents of another office, name by name.
use Rattle.std.proofs.Common.{◌≡◌, List, [], ◌∷◌, inl, inr, Option, Some, None, IfSome, Less, Equal}
use Rattle.std.proofs.Common.{Greater, refl, sym, ap, ◌∙◌, subst}
use Rattle.std.specs.Prelude.{◌⊎◌}
use Rattle.std.specs.List.{AllByRecursion}
use Rattle.std.specs.List.Sorted.{IsStrictlySortedBy}
use Rattle.std.specs.Map.{keys_of}
use Rattle.std.specs.BTreeMap.{is_at}
use Rattle.std.specs.Ordering.{ordering_reverse}
use Rattle.std.proofs.lemmas.Map.Entries.{lookup_head, lookup_tail}
use Rattle.std.proofs.lemmas.Map.Keys.{sorted_head, sorted_tail}
use Rattle.cvr_fact_types.specs.declared.name.RecordName.{RecordName}
use Rattle.cvr_fact_types.specs.Facts.{name_cmp}
use Rattle.cvr_office.specs.declared.any_fact.AnyFact.{AnyFact}
use Rattle.cvr_office.specs.Place.{any_cmp}
use Rattle.cvr_office.specs.Plain.{IsPut}
use Rattle.cvr_office.proofs.Laws.{name_exact, name_total}
use Rattle.cvr_office.proofs.Lemmas.{own_name, each_of}
use Rattle.cvr_cached.specs.declared.plan.Plan.{Plan}
use Rattle.cvr_cached.specs.Contents.{Entries, facts_at}
use Rattle.cvr_cached.specs.Plans.{IsPassed, IsMade, IsStep}
use Rattle.cvr_cached.proofs.Listed.{at_name, less_other, turned}
use Rattle.cvr_cached.proofs.Passing.{made_none, planned_step}
use Rattle.cvr_lists.proofs.Lemmas.{put_nothing, all_of}

-- the name of the first
abbrev pub first_name : Entries → Option RecordName
first_name [] = None
first_name (e ∷ es) = Some e.0

-- in order; what stands at a name that isn't passed is among those left
pub record AreLeft (all left : Entries) : Type 0 where
  pub rises : IsStrictlySortedBy name_cmp (keys_of left)
  pub found : (q : RecordName) → IsPassed (first_name left) q ⊎ (at_name q left ≡ at_name q all)

pub all_left : (all : Entries) → IsStrictlySortedBy name_cmp (keys_of all) → AreLeft all all
all_left all rises = record { rises = rises; found = λ q. inr refl }

-- ---- below the first name nothing stands

none_above : (es : Entries) (q : RecordName)
    → AllByRecursion (λ k. name_cmp q k ≡ Less) (keys_of es) → at_name q es ≡ None
none_above [] q above = refl
none_above (e ∷ es) q above = lookup_tail (is_at (name_cmp q)) e es
    (less_other (name_cmp q e.0) above.0) ∙ none_above es q above.1

none_before : (es : Entries) (q : RecordName) → IsStrictlySortedBy name_cmp (keys_of es)
    → IsPassed (first_name es) q → at_name q es ≡ None
none_before [] q rises passed = refl
none_before (e ∷ es) q rises less =
    lookup_tail (is_at (name_cmp q)) e es (less_other (name_cmp q e.0) less)
    ∙ none_above es q (all_of (λ k. name_cmp q k ≡ Less) (keys_of es)
    (λ k at. name_total.trans q e.0 k less
    (each_of (λ y. name_cmp e.0 y ≡ Less) (keys_of es) k
    (sorted_head name_cmp e.0 (keys_of es) rises) at)))

next_above : (e : RecordName × List AnyFact) (es : Entries)
    → IsStrictlySortedBy name_cmp (keys_of (e ∷ es))
    → IfSome (first_name es) (λ k. name_cmp e.0 k ≡ Less)
next_above e [] rises = tt
next_above e (d ∷ ds) rises = (sorted_head name_cmp e.0 (d.0 ∷ keys_of ds) rises).0

-- what is below a name is passed by what is above it
still_passed : (k : RecordName) (o : Option RecordName) → IfSome o (λ n. name_cmp k n ≡ Less)
    → (q : RecordName) → name_cmp q k ≡ Less → IsPassed o q
still_passed k None up q less = tt
still_passed k (Some n) up q less = name_total.trans q k n less up

itself_passed : (k : RecordName) (o : Option RecordName) → IfSome o (λ n. name_cmp k n ≡ Less)
    → IsPassed o k
itself_passed k None up = tt
itself_passed k (Some n) up = up

not_both : (q k : RecordName) → name_cmp q k ≡ Less → name_cmp k q ≡ Less → ⊥
not_both q k less above =
    let back : name_cmp q k ≡ Greater = name_total.antisymm q k ∙ ap ordering_reverse above in
    let clash : Less ≡ Greater = sym less ∙ back in
    Prim.cc clash

-- ---- one name after the other

module _ (f : RecordName → Option (List AnyFact))
    (rise : (q : RecordName) → IsStrictlySortedBy any_cmp (facts_at (f q))) (all : Entries) where
  abbrev theirs : RecordName → List AnyFact
  theirs q = facts_at (at_name q all)

  nothing_put : (q : RecordName) → at_name q all ≡ None
      → IsPut (facts_at (f q)) (theirs q) (facts_at (f q))
  nothing_put q none = put_nothing (facts_at (f q)) (theirs q) (rise q) (ap facts_at none)

  pub theirs_begin : IsStrictlySortedBy name_cmp (keys_of all) → (plan : Plan)
      → plan.contents.items ≡ [] → plan.growths.items ≡ [] → plan.new_facts ≡ 0
      → IsMade f (λ q. facts_at (at_name q all)) (first_name all) plan
  theirs_begin rises plan none none_grow zero =
      made_none f theirs (first_name all) plan none none_grow zero
      (λ q passed. nothing_put q (none_before all q rises passed))

  module _ (e : RecordName × List AnyFact) (rest : Entries) (are : AreLeft all (e ∷ rest)) where
    tail_rises : IsStrictlySortedBy name_cmp (keys_of rest)
    tail_rises = sorted_tail name_cmp e.0 (keys_of rest) are.rises

    up : IfSome (first_name rest) (λ k. name_cmp e.0 k ≡ Less)
    up = next_above e rest are.rises

    -- behind this name the rest is left
    behind : (q : RecordName) → name_cmp e.0 q ≡ Less → at_name q rest ≡ at_name q all
    behind q above = elim (are.found q) [
      | inl less ↦ absurd (not_both q e.0 less above)
      | inr is ↦ sym (lookup_tail (is_at (name_cmp q)) e rest
          (turned q e.0 ∙ less_other (name_cmp e.0 q) above)) ∙ is
    ]

    own_group : theirs e.0 ≡ e.1
    own_group = elim (are.found e.0) [
      | inl less ↦ absurd (not_both e.0 e.0 less less)
      | inr is ↦ ap facts_at (sym is ∙ lookup_head (is_at (name_cmp e.0)) e rest
          (own_name e.0 e.0 refl))
    ]

    pub rest_left : AreLeft all rest
    rest_left = record {
      rises = tail_rises;
      found = λ q. elim (name_cmp q e.0) as
          (λ r. name_cmp q e.0 ≡ r → IsPassed (first_name rest) q
          ⊎ (at_name q rest ≡ at_name q all)) [
            | Less ↦ λ less. inl (still_passed e.0 (first_name rest) up q less)
            | Equal ↦ λ same. inl (subst (IsPassed (first_name rest))
                (name_exact e.0 q (name_total.antisymm e.0 q ∙ ap ordering_reverse same))
                (itself_passed e.0 (first_name rest) up))
            | Greater ↦ λ above. inr (behind q (name_total.antisymm e.0 q ∙ ap ordering_reverse above))
          ] refl;
    }

    pub theirs_go_on : (plan : Plan) → IsMade f (λ q. facts_at (at_name q all)) (Some e.0) plan
        → (plan' : Plan) → IsStep (facts_at (f e.0)) e.1 e.0 plan plan'
        → IsMade f (λ q. facts_at (at_name q all)) (first_name rest) plan'
    theirs_go_on plan was plan' step =
        planned_step f theirs e.0 plan was (first_name rest) up
        (λ q passed above. nothing_put q
        (sym (behind q above) ∙ none_before rest q tail_rises passed))
        plan' (subst (λ g. IsStep (facts_at (f e.0)) g e.0 plan plan') (sym own_group) step)
