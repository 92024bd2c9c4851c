-- One step of a loop over the runs of a list.
use Rattle.std.proofs.Common.{◌≡◌, ℕ, suc, Less, Equal, Greater, ◌≤◌, ◌<◌, List, [], ◌∷◌, ◌++◌, map}
use Rattle.std.proofs.Common.{length, drop, cond, inl, inr, refl, sym, ap, ◌∙◌, arith, append_assoc}
use Rattle.std.specs.Prelude.{Bool, true, false, ◌==◌, max, Some, None}
use Rattle.std.specs.List.{prefix_len, slice_get}
use Rattle.std.specs.Ordering.{is_lt, nat_cmp, ord_max}
use Rattle.std.proofs.lemmas.Bool.Decides.{leb_tells, nat_tests}
use Rattle.cvr_office.specs.declared.any_fact.AnyFact.{AnyFact}
use Rattle.cvr_office.specs.declared.conflict.Conflict.{Conflict}
use Rattle.cvr_office.specs.Names.{most}
use Rattle.cvr_lists.specs.AnyNames.{any_name, has_name}
use Rattle.cvr_lists.specs.NameRuns.{counted_runs, of_several, most_of}
use Rattle.cvr_lists.proofs.NameRuns.{counted_runs-is, prefix_len-some}

-- `more` is what is left of `rest` after its first run, of `bodies` facts
pub record IsCut (first : AnyFact) (bodies : ℕ) (rest more : List AnyFact) : Type 0 where
  pub first_is : Some first ≡ slice_get rest 0
  pub bodies_is : bodies ≡ prefix_len (has_name (any_name first)) rest
  pub more_is : more ≡ drop bodies rest

-- what a split at the end of the first run gives
pub cut : (first : AnyFact) (n : ℕ) (rest run more : List AnyFact) → Some first ≡ slice_get rest 0
    → n ≡ prefix_len (has_name (any_name first)) rest → length run ≡ n → more ≡ drop n rest
    → IsCut first (length run) rest more
cut first n rest run more is count front back = record
    { first_is = is; bodies_is = front ∙ count; more_is = back ∙ ap (λ k. drop k rest) (sym front) }

-- the run as a name with a number
abbrev pub told : AnyFact → ℕ → Conflict
told first bodies = record { name = any_name first; bodies = bodies }

pub runs-cut : (first : AnyFact) (bodies : ℕ) (rest more : List AnyFact)
    → IsCut first bodies rest more → counted_runs rest ≡ told first bodies ∷ counted_runs more
runs-cut first bodies [] more cut = Prim.cc cut.first_is
runs-cut first bodies (x ∷ rest) more cut =
    let same : first ≡ x = Prim.cc cut.first_is in
    let is : bodies ≡ prefix_len (has_name (any_name x)) (x ∷ rest) =
    cut.bodies_is ∙ ap (λ f. prefix_len (has_name (any_name f)) (x ∷ rest)) same in
    counted_runs-is x rest
    ∙ ((λ i. told (sym same i) (sym is i) ∷ counted_runs (drop (sym is i) (x ∷ rest)))
    ∙ ap (λ xs. told first bodies ∷ counted_runs xs) (sym cut.more_is))

pub bodies-some : (first : AnyFact) (bodies : ℕ) (rest more : List AnyFact)
    → IsCut first bodies rest more → 1 ≤ bodies
bodies-some first bodies [] more cut = Prim.cc cut.first_is
bodies-some first bodies (x ∷ rest) more cut =
    let same : first ≡ x = Prim.cc cut.first_is in
    let is : bodies ≡ prefix_len (has_name (any_name x)) (x ∷ rest) =
    cut.bodies_is ∙ ap (λ f. prefix_len (has_name (any_name f)) (x ∷ rest)) same in
    omega (arith, is, prefix_len-some x rest)

-- ---- at the end

pub runs-end : (rest : List AnyFact) → None ≡ slice_get rest 0 → rest ≡ []
runs-end [] e = refl
runs-end (x ∷ rest) e = Prim.cc e

-- ---- the list of conflicts

of_several-more : (c : Conflict) (cs : List Conflict) → 2 ≤ c.bodies
    → of_several (c ∷ cs) ≡ c ∷ of_several cs
of_several-more c cs h = elim (leb_tells 2 c.bodies) [
  | inl met ↦ ap (λ b. cond b (c ∷ of_several cs) (of_several cs)) met.0
  | inr unmet ↦ absurd (omega (arith, unmet.1, h))
]

of_several-less : (c : Conflict) (cs : List Conflict) → c.bodies < 2
    → of_several (c ∷ cs) ≡ of_several cs
of_several-less c cs h = elim (leb_tells 2 c.bodies) [
  | inl met ↦ absurd (omega (arith, met.1, h))
  | inr unmet ↦ ap (λ b. cond b (c ∷ of_several cs) (of_several cs)) unmet.0
]

module _ (first : AnyFact) (bodies : ℕ) (rest more : List AnyFact)
    (cut : IsCut first bodies rest more) (list new all : List Conflict)
    (was : list ++ of_several (counted_runs rest) ≡ all) where
  pub list-more : 2 ≤ bodies → new ≡ list ++ told first bodies ∷ []
      → new ++ of_several (counted_runs more) ≡ all
  list-more h is =
      ap (λ cs. cs ++ of_several (counted_runs more)) is
      ∙ (append_assoc list (told first bodies ∷ []) (of_several (counted_runs more))
      ∙ (ap (λ cs. list ++ cs) (sym (of_several-more (told first bodies) (counted_runs more) h)
      ∙ ap of_several (sym (runs-cut first bodies rest more cut))) ∙ was))

  pub list-same : bodies < 2 → new ≡ list → new ++ of_several (counted_runs more) ≡ all
  list-same h is =
      ap (λ cs. cs ++ of_several (counted_runs more)) is
      ∙ (ap (λ cs. list ++ cs) (sym (of_several-less (told first bodies) (counted_runs more) h)
      ∙ ap of_several (sym (runs-cut first bodies rest more cut))) ∙ was)

-- ---- the greatest number

pub most-cons : (n : ℕ) (ns : List ℕ) → most (n ∷ ns) ≡ max n (most ns)
most-cons n ns = grind (arith, nat_tests)

ord_max-is : (a b : ℕ) → ord_max nat_cmp a b ≡ max a b
ord_max-is a b =
    elim (leb_tells (suc b) a) [
      | inl met ↦ ap (λ t. cond (is_lt (cond t Less (cond (b == a) Equal Greater))) a b) met.0
          ∙ omega (arith, met.1)
      | inr unmet ↦ ap (λ t. cond (is_lt (cond t Less (cond (b == a) Equal Greater))) a b) unmet.0
          ∙ (not_less (b == a) ∙ omega (arith, unmet.1))
    ]
  where
    not_less : (t : Bool) → cond (is_lt (cond t Equal Greater)) a b ≡ b
    not_less true = refl
    not_less false = refl

pub max_more : (greatest bodies left rest new top : ℕ) → rest ≡ max bodies left
    → max greatest rest ≡ top → new ≡ ord_max nat_cmp greatest bodies → max new left ≡ top
max_more greatest bodies left rest new top a b c = omega (arith, ord_max-is greatest bodies)

pub max_by-more : (first : AnyFact) (bodies : ℕ) (rest more : List AnyFact)
    → IsCut first bodies rest more → (greatest new top : ℕ)
    → max greatest (most_of (counted_runs rest)) ≡ top → new ≡ ord_max nat_cmp greatest bodies
    → max new (most_of (counted_runs more)) ≡ top
max_by-more first bodies rest more cut greatest new top =
    max_more greatest bodies (most_of (counted_runs more)) (most_of (counted_runs rest)) new top
    (ap most_of (runs-cut first bodies rest more cut)
    ∙ most-cons bodies (map (λ c. c.bodies) (counted_runs more)))
