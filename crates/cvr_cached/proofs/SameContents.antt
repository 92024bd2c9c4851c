-- Two offices hold the same facts exactly where their devices are equal and their contents are.
use Rattle.std.proofs.Common.{◌≡◌, Bool, true, false, cond, ◌&&◌, List, [], ◌∷◌, ◌++◌, map}
use Rattle.std.proofs.Common.{Contains, Some, refl, sym, ap, ◌∙◌, subst, append-nil}
use Rattle.std.specs.Prelude.{◌↔◌, is_none, bytes_eq}
use Rattle.std.specs.List.{filter, flat_map}
use Rattle.std.specs.Map.{keys_of}
use Rattle.std.specs.Option.{option_cmp}
use Rattle.std.specs.Ordering.{is_eq, eq_by_cmp}
use Rattle.std.specs.Cmp.Lexicographic.{pointwise, pointwise_decides}
use Rattle.std.specs.FinSet.{from_list}
use Rattle.std.proofs.lemmas.Slice.Eq.{bytes_eq-Decides}
use Rattle.std.proofs.lemmas.List.{map-append}
use Rattle.std.proofs.lemmas.List.Elements.{filter-append}
use Rattle.std.proofs.lemmas.Bool.{and_parts, and_from}
use Rattle.cvr_fact_types.specs.declared.name.RecordName.{RecordName}
use Rattle.cvr_fact_types.specs.Facts.{Fact, fact_cmp, name_cmp}
use Rattle.cvr_facts.proofs.Lemmas.{tie_decides, at_head, at_tail, from_flat}
use Rattle.cvr_office.specs.declared.any_fact.AnyFact.{AnyFact}
use Rattle.cvr_office.specs.Names.{record_of, records}
use Rattle.cvr_office.specs.Place.{fact_of, place_cmp, place_total, place_exact, any_cmp}
use Rattle.cvr_office.specs.Plain.{set_of}
use Rattle.cvr_lists.proofs.Lemmas.{pointwise-on}
use Rattle.cvr_lists.proofs.Laws.{same_facts}
use Rattle.cvr_cached.specs.Contents.{Entries, fact_list, facts_at}
use Rattle.cvr_cached.specs.Held.{AreOwn}
use Rattle.cvr_cached.proofs.Answering.{records_are}
use Rattle.cvr_cached.proofs.Listed.{at_name, filter_none, filter_all, found_own, own_each}
use Rattle.cvr_cached.proofs.Listed.{run_listed, listed_rises}

-- fact by fact
abbrev pub are_equal : List AnyFact → List AnyFact → Bool
are_equal xs ys = pointwise (eq_by_cmp any_cmp) xs ys

abbrev pub is_same_name : RecordName → RecordName → Bool
is_same_name a b = bytes_eq a.device b.device && bytes_eq a.unique b.unique

-- content by content, each under its name
abbrev pub are_same : Entries → Entries → Bool
are_same es fs = pointwise (λ e f. is_same_name e.0 f.0 && are_equal e.1 f.1) es fs

-- ---- lists

facts_equal : (xs ys : List AnyFact) → are_equal xs ys ≡ true → map fact_of xs ≡ map fact_of ys
facts_equal xs ys e = (pointwise_decides (tie_decides place_total place_exact) (map fact_of xs)
    (map fact_of ys)).0 (sym (pointwise-on fact_of (eq_by_cmp place_cmp) xs ys) ∙ e)

equal_facts : (xs ys : List AnyFact) → map fact_of xs ≡ map fact_of ys → are_equal xs ys ≡ true
equal_facts xs ys e = pointwise-on fact_of (eq_by_cmp place_cmp) xs ys
    ∙ (pointwise_decides (tie_decides place_total place_exact) (map fact_of xs) (map fact_of ys)).1
    e

own_name : (a b : RecordName) → a ≡ b → is_same_name a b ≡ true
own_name a b is = subst (λ k. is_same_name a k ≡ true) is
    (and_from _ _ ((bytes_eq-Decides a.device a.device).1 refl)
    ((bytes_eq-Decides a.unique a.unique).1 refl))

-- what the facts alone decide
map-filter : (p : Fact → Bool) (xs : List AnyFact)
    → map fact_of (filter (λ x. p (fact_of x)) xs) ≡ filter p (map fact_of xs)
map-filter p [] = refl
map-filter p (x ∷ xs) = elim (p (fact_of x)) as
    (λ b. map fact_of (cond b (x ∷ filter (λ x. p (fact_of x)) xs) (filter (λ x. p (fact_of x)) xs))
    ≡ cond b (fact_of x ∷ filter p (map fact_of xs)) (filter p (map fact_of xs))) [
      | true ↦ ap (λ fs. fact_of x ∷ fs) (map-filter p xs)
      | false ↦ map-filter p xs
    ]

same_part : (p : Fact → Bool) (xs ys : List AnyFact) → map fact_of xs ≡ map fact_of ys
    → map fact_of (filter (λ x. p (fact_of x)) xs) ≡ map fact_of (filter (λ x. p (fact_of x)) ys)
same_part p xs ys same = map-filter p xs ∙ (ap (filter p) same ∙ sym (map-filter p ys))

-- ---- contents

flat_same : (es fs : Entries) → are_same es fs ≡ true
    → map fact_of (flat_map (λ (e : RecordName × List AnyFact). e.1) es)
    ≡ map fact_of (flat_map (λ (e : RecordName × List AnyFact). e.1) fs)
flat_same [] [] e = refl
flat_same [] (g ∷ fs) e = Prim.cc e
flat_same (c ∷ es) [] e = Prim.cc e
flat_same (c ∷ es) (g ∷ fs) e =
    let both = and_parts _ _ e in
    let here = and_parts _ _ both.0 in
    map-append fact_of c.1 (flat_map (λ (e : RecordName × List AnyFact). e.1) es)
    ∙ ((λ i. facts_equal c.1 g.1 here.1 i ++ flat_same es fs both.1 i)
    ∙ sym (map-append fact_of g.1 (flat_map (λ (e : RecordName × List AnyFact). e.1) fs)))

contents_same : (es fs : Entries) → keys_of es ≡ keys_of fs
    → ((e g : RecordName × List AnyFact) → Contains es e → Contains fs g → e.0 ≡ g.0
    → map fact_of e.1 ≡ map fact_of g.1) → are_same es fs ≡ true
contents_same [] [] keys each = refl
contents_same [] (g ∷ fs) keys each = Prim.cc keys
contents_same (c ∷ es) [] keys each = Prim.cc keys
contents_same (c ∷ es) (g ∷ fs) keys each =
    let first : c.0 ≡ g.0 = Prim.cc keys in
    let rest : keys_of es ≡ keys_of fs = Prim.cc keys in
    and_from _ _
    (and_from _ _ (own_name c.0 g.0 first)
    (equal_facts c.1 g.1 (each c g (at_head c es) (at_head g fs) first)))
    (contents_same es fs rest (λ d h a b. each d h (at_tail c d es a) (at_tail g h fs b)))

module _ (d : List AnyFact) (es : Entries) (own : AreOwn d es) where
  device_part : filter (λ x. is_none (record_of (fact_of x))) (fact_list d es) ≡ d
  device_part =
      filter-append (λ x. is_none (record_of (fact_of x))) d
      (flat_map (λ (e : RecordName × List AnyFact). e.1) es)
      ∙ ((λ i. filter_all (λ x. is_none (record_of (fact_of x))) d
      (λ x at. ap is_none (own.devices_are x at)) i
      ++ filter_none (λ x. is_none (record_of (fact_of x)))
      (flat_map (λ (e : RecordName × List AnyFact). e.1) es) (λ x at.
      let from = from_flat (λ (p : RecordName × List AnyFact). p.1) x es at in
      ap is_none (own_each d es own from.0 from.1 x from.2)) i)
      ∙ append-nil d)

module _ (d d' : List AnyFact) (es fs : Entries) (own : AreOwn d es) (own' : AreOwn d' fs) where
  abbrev ListsSame : Type 0
  ListsSame = map fact_of (fact_list d es) ≡ map fact_of (fact_list d' fs)

  from_equal : are_equal d d' ≡ true → are_same es fs ≡ true → ListsSame
  from_equal devices contents =
      map-append fact_of d (flat_map (λ (e : RecordName × List AnyFact). e.1) es)
      ∙ ((λ i. facts_equal d d' devices i ++ flat_same es fs contents i)
      ∙ sym (map-append fact_of d' (flat_map (λ (e : RecordName × List AnyFact). e.1) fs)))

  devices_equal : ListsSame → are_equal d d' ≡ true
  devices_equal same = equal_facts d d' (
      ap (map fact_of) (sym (device_part d es own))
      ∙ (same_part (λ f. is_none (record_of f)) (fact_list d es) (fact_list d' fs) same
      ∙ ap (map fact_of) (device_part d' fs own')))

  run_same : ListsSame → (k : RecordName)
      → map fact_of (facts_at (at_name k es)) ≡ map fact_of (facts_at (at_name k fs))
  run_same same k =
      ap (map fact_of) (sym (run_listed d es own k))
      ∙ (same_part (λ f. is_eq (option_cmp name_cmp (record_of f) (Some k))) (fact_list d es)
      (fact_list d' fs) same ∙ ap (map fact_of) (run_listed d' fs own' k))

  names_same : ListsSame → keys_of es ≡ keys_of fs
  names_same same = sym (records_are d es own)
      ∙ (ap (λ ms. records (from_list {R = fact_cmp} ms)) same ∙ records_are d' fs own')

  contents_equal : ListsSame → are_same es fs ≡ true
  contents_equal same = contents_same es fs (names_same same) (λ e g a b is.
      ap (λ o. map fact_of (facts_at o)) (sym (found_own es own.names_rise e a))
      ∙ (run_same same e.0 ∙ (ap (λ k. map fact_of (facts_at (at_name k fs))) is
      ∙ ap (λ o. map fact_of (facts_at o)) (found_own fs own'.names_rise g b))))

  pub same_all : ((are_equal d d' ≡ true) × (are_same es fs ≡ true))
      ↔ (set_of (fact_list d es) ≡ set_of (fact_list d' fs))
  same_all = (
    λ both. ap (from_list {R = fact_cmp}) (from_equal both.0 both.1),
    λ same. let lists = same_facts (fact_list d es) (fact_list d' fs) (listed_rises d es own)
        (listed_rises d' fs own') same in (devices_equal lists, contents_equal lists),
  )
