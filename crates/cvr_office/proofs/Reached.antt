-- What the offices hold is what has reached them: at first, and after one more event.
use Rattle.std.proofs.Common.{◌≡◌, ℕ, ◌<◌, ◌==◌, true, false, cond, inl, inr, List, [], ◌∷◌, length}
use Rattle.std.proofs.Common.{get_or, set, refl, sym, ap, ◌∙◌, subst, arith, ◌≢◌}
use Rattle.std.proofs.lemmas.List.{get_or-set_same, get_or-set_other}
use Rattle.std.proofs.lemmas.Bool.{cases_lt}
use Rattle.std.specs.FinSet.{union, empty, insert, items}
use Rattle.std.specs.Cmp.{IsTotalOrder, unsigned_Decides}
use Rattle.std.specs.Cmp.Lexicographic.{nat_list_cmp_total}
use Rattle.std.proofs.lemmas.Cmp.{on_total}
use Rattle.std.specs.FinMap.{IsAntisymmetric, nat_cmp-IsAntisymmetric, slice_cmp-IsAntisymmetric}
use Rattle.cdf_definition.specs.Frame.{Frame}
use Rattle.cvr_fact_types.specs.Facts.{Facts}
use Rattle.cvr_facts.specs.Reports.{facts}
use Rattle.cvr_office.specs.Reach.{Origin, Start, File, origin_numbers, origin_cmp, History}
use Rattle.cvr_office.specs.Reach.{origins_at, origin_facts, union_over, content}
use Rattle.cvr_office.specs.Outcomes.{contents_after, IsOutcome}
use Rattle.cvr_office.specs.declared.event.Event.{Event}
use Rattle.cvr_office.specs.declared.event.Event.TheVariants.{Import, Exchange}
use Rattle.cvr_office.specs.declared.event.Outcome.{Outcome}
use Rattle.cvr_office.specs.declared.event.Outcome.TheVariants.{Accepted, Refused}
use Rattle.cvr_office.proofs.Unions.{over_union, over_insert, over_one}
use Rattle.cvr_office.proofs.Slots.{contents_after-refused}

-- ---- the order of origins

origin_of : List ℕ → Origin
origin_of [] = Start 0
origin_of (o ∷ []) = Start o
origin_of (f ∷ _ ∷ _) = File f

origin_of-numbers : (x : Origin) → origin_of (origin_numbers x) ≡ x
unfolding origin_of
origin_of-numbers (Start o) = refl
origin_of-numbers (File f) = refl

pub origin_total : IsTotalOrder origin_cmp
origin_total = on_total origin_numbers nat_list_cmp_total

pub origin_exact : IsAntisymmetric origin_cmp
origin_exact x y e = sym (origin_of-numbers x)
    ∙ (ap origin_of (slice_cmp-IsAntisymmetric nat_cmp-IsAntisymmetric (origin_numbers x)
    (origin_numbers y) e) ∙ origin_of-numbers y)

-- ---- the same place

pub at_eq : (o k : ℕ) → (o == k) ≡ true → o ≡ k
at_eq o k = (unsigned_Decides o k).0

pub is_eq : (o k : ℕ) → o ≡ k → (o == k) ≡ true
is_eq o k = (unsigned_Decides o k).1

-- ---- contents

pub content-none : (starts : List Facts) (files : List (List ℕ)) (o : ℕ)
    → content starts files [] o ≡ get_or starts o empty
content-none starts files o =
    over_one origin_total origin_exact (origin_facts starts files) (Start o)

module _ (starts : List Facts) (files : List (List ℕ)) (past : History) (held : List Facts) where
  -- these are the contents
  abbrev pub AreContents : Type 0
  AreContents = (o : ℕ) → o < length held → get_or held o empty ≡ content starts files past o

  content-imported : (k f n o : ℕ) → o < length held → AreContents
      → get_or (contents_after files (Import k f) (Accepted n) held) o empty
      ≡ content starts files ((Import k f, Accepted n) ∷ past) o
  content-imported k f n o lt here =
      elim (o == k) as (λ b. (o == k) ≡ b
      → get_or (set held k (union (get_or held k empty) (facts (get_or files f [])))) o empty
      ≡ union_over (origin_facts starts files)
      (items (cond b (insert (origins_at past o) (File f)) (origins_at past o)))) [
        | true ↦ λ e. let same : o ≡ k = at_eq o k e in
            subst (λ z. get_or (set held z
            (union (get_or held z empty) (facts (get_or files f [])))) o empty
            ≡ union_over (origin_facts starts files)
            (items (insert (origins_at past o) (File f)))) same
            (get_or-set_same held o (union (get_or held o empty) (facts (get_or files f []))) empty
            lt
            ∙ (ap (λ s. union s (facts (get_or files f []))) (here o lt)
            ∙ sym (over_insert origin_total origin_exact (origin_facts starts files)
            (origins_at past o) (File f))))
        | false ↦ λ e. let ne : o ≢ k = λ same. Prim.cc (is_eq o k same) in
            get_or-set_other held k o _ empty ne ∙ here o lt
      ] refl

  content-exchanged : (p k n o : ℕ) → o < length held → p < length held → AreContents
      → get_or (contents_after files (Exchange p k) (Accepted n) held) o empty
      ≡ content starts files ((Exchange p k, Accepted n) ∷ past) o
  content-exchanged p k n o lt lp here =
      elim (o == k) as (λ b. (o == k) ≡ b
      → get_or (set held k (union (get_or held k empty) (get_or held p empty))) o empty
      ≡ union_over (origin_facts starts files)
      (items (cond b (union (origins_at past o) (origins_at past p)) (origins_at past o)))) [
        | true ↦ λ e. let same : o ≡ k = at_eq o k e in
            subst (λ z. get_or (set held z (union (get_or held z empty) (get_or held p empty))) o
            empty ≡ union_over (origin_facts starts files)
            (items (union (origins_at past o) (origins_at past p)))) same
            (get_or-set_same held o (union (get_or held o empty) (get_or held p empty)) empty lt
            ∙ (ap (λ s. union s (get_or held p empty)) (here o lt)
            ∙ (ap (union (content starts files past o)) (here p lp)
            ∙ sym (over_union origin_total origin_exact (origin_facts starts files)
            (origins_at past o) (origins_at past p)))))
        | false ↦ λ e. let ne : o ≢ k = λ same. Prim.cc (is_eq o k same) in
            get_or-set_other held k o _ empty ne ∙ here o lt
      ] refl

  -- after one event
  pub content-more : (frames : List Frame) (e : Event) (r : Outcome) → length frames ≡ length held
      → AreContents
      → IsOutcome frames files (content starts files past) e r
      → (o : ℕ) → o < length held → get_or (contents_after files e r held) o empty
      ≡ content starts files ((e, r) ∷ past) o
  content-more frames (Import k f) (Accepted n) same here out o lt =
      content-imported k f n o lt here
  content-more frames (Import k f) (Refused c) same here out o lt =
      ap (λ xs. get_or xs o empty) (contents_after-refused files (Import k f) c held) ∙ here o lt
  content-more frames (Exchange p k) (Accepted n) same here out o lt =
      elim (cases_lt p (length held)) [
        | inl lp ↦ content-exchanged p k n o lt lp here
        | inr none ↦ let clash = out.no_from (omega arith) in Prim.cc clash
      ]
  content-more frames (Exchange p k) (Refused c) same here out o lt =
      ap (λ xs. get_or xs o empty) (contents_after-refused files (Exchange p k) c held) ∙ here o lt
