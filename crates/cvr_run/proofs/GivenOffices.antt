-- The lines of offices whose facts are given by lists.
use Rattle.std.proofs.Common.{◌≡◌, ℕ, zero, suc, ◌+◌, Bool, not, cond, ◌&&◌, List, [], ◌∷◌, ◌++◌}
use Rattle.std.proofs.Common.{map, length, get_or, inl, inr, refl, sym, ap, ◌∙◌}
use Rattle.std.specs.Prelude.{codes, decimal}
use Rattle.std.specs.List.{list_any, list_all, filter_map, flat_map, range_with_len}
use Rattle.std.specs.List.{position_or_len}
use Rattle.std.specs.Ordering.{eq_by_cmp}
use Rattle.std.specs.Cmp.{both_ways}
use Rattle.std.specs.FinSet.{empty, insert, contains, from_list, len, is_subset, len-empty}
use Rattle.std.specs.FinSet.{len-insert, contains-empty, contains-insert, contains-from_list}
use Rattle.std.specs.FinSet.{contains-is_subset, is_subset-contains}
use Rattle.std.proofs.lemmas.Bool.{and_parts, and_from, false≢true}
use Rattle.std.proofs.lemmas.List.{length-map}
use Rattle.cvr_fact_types.specs.Facts.{Fact, Facts, fact_cmp, fact_total, fact_exact, name_cmp}
use Rattle.cvr_facts.proofs.Lemmas.{tie_is, tie_itself}
use Rattle.cvr_office.specs.Names.{record_of, records}
use Rattle.cvr_office.proofs.Lemmas.{sorted, records-given, or_cases, or_left, or_right}
use Rattle.cvr_run.specs.Drill.{are_same, office_line, office_lines}

-- ---- how many

-- those that aren't among the later ones
abbrev distinct : List Fact → ℕ
distinct [] = 0
distinct (f ∷ fs) = cond (list_any (eq_by_cmp fact_cmp f) fs) (distinct fs) (distinct fs + 1)

len-given : (fs : List Fact) → len (from_list {R = fact_cmp} fs) ≡ distinct fs
len-given [] = len-empty fact_cmp
len-given (f ∷ fs) = len-insert fact_total (from_list fs) f
    ∙ (λ i. cond (contains-from_list fact_total fs f i) (len-given fs i) (len-given fs i + 1))

-- ---- which are the same

-- one more fact is in a set where it is there, and so are the others
subset-more : (s t : Facts) (f : Fact) → is_subset (insert s f) t ≡ (contains t f && is_subset s t)
subset-more s t f =
    both_ways (is_subset (insert s f) t) (contains t f && is_subset s t)
    (λ h. and_from (contains t f) (is_subset s t)
    (is_subset-contains fact_total (insert s f) t h f
    (contains-insert fact_total s f f ∙ or_left _ _ (tie_itself fact_total f f refl)))
    (contains-is_subset fact_total s t (λ q there.
    is_subset-contains fact_total (insert s f) t h q
    (contains-insert fact_total s f q ∙ or_right (eq_by_cmp fact_cmp q f) _ there))))
    (λ h. let both = and_parts (contains t f) (is_subset s t) h in
    contains-is_subset fact_total (insert s f) t
    (λ q there. elim (or_cases _ _ (sym (contains-insert fact_total s f q) ∙ there)) [
      | inl is ↦ ap (contains t) (tie_is fact_exact q f is) ∙ both.0
      | inr more ↦ is_subset-contains fact_total s t both.1 q more
    ]))

abbrev are_within : List Fact → List Fact → Bool
are_within fs gs = list_all (λ f. list_any (eq_by_cmp fact_cmp f) gs) fs

subset-given : (fs gs : List Fact) → is_subset (from_list {R = fact_cmp} fs) (from_list gs)
    ≡ are_within fs gs
subset-given [] gs = contains-is_subset fact_total empty (from_list gs)
    (λ q there. absurd (false≢true (sym (contains-empty fact_cmp q) ∙ there)))
subset-given (f ∷ fs) gs = subset-more (from_list fs) (from_list gs) f
    ∙ (λ i. contains-from_list fact_total gs f i && subset-given fs gs i)

abbrev are_alike : List Fact → List Fact → Bool
are_alike fs gs = are_within fs gs && are_within gs fs

least-given : (fs : List Fact) (all : List (List Fact))
    → position_or_len (are_same (from_list fs)) (map from_list all)
    ≡ position_or_len (are_alike fs) all
least-given fs [] = refl
least-given fs (gs ∷ all) =
    λ i. cond (not (subset-given fs gs i && subset-given gs fs i)) (1 + least-given fs all i) 0

-- ---- lines

facts-at : (all : List (List Fact)) (o : ℕ)
    → get_or (map from_list all) o empty ≡ from_list {R = fact_cmp} (get_or all o [])
facts-at [] o = refl
facts-at (fs ∷ all) zero = refl
facts-at (fs ∷ all) (suc o) = facts-at all o

-- of the office at place o, with so many records and facts, and the least place of one that is the
-- same
abbrev line_with : ℕ → ℕ → ℕ → ℕ → List ℕ
line_with o records facts least =
    codes "office " ++ (decimal (o + 1)
    ++ (codes " records " ++ (decimal records
    ++ (codes " facts " ++ (decimal facts
    ++ (codes " same " ++ (decimal (least + 1) ++ 10 ∷ [])))))))

abbrev pub given_line : List (List Fact) → ℕ → List ℕ
given_line all o =
    let fs = get_or all o [] in
    line_with o (length (sorted name_cmp (filter_map record_of fs))) (distinct fs)
    (position_or_len (are_alike fs) all)

line-given : (all : List (List Fact)) (o : ℕ) → office_line (map from_list all) o ≡ given_line all o
line-given all o =
    let fs = get_or all o [] in
    ap (λ (s : Facts). line_with o (length (records s)) (len s)
    (position_or_len (are_same s) (map from_list all))) (facts-at all o)
    ∙ (λ i. line_with o (length (records-given fs i)) (len-given fs i) (least-given fs all i))

pub offices-given : (all : List (List Fact))
    → office_lines (map from_list all) ≡ flat_map (given_line all) (range_with_len 0 (length all))
offices-given all = λ i. flat_map (λ o. line-given all o i)
    (range_with_len 0 (length-map all (from_list {R = fact_cmp}) i))
