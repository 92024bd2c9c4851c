-- How often rows are changed between two sets of facts that are given by lists.
use Rattle.std.proofs.Common.{◌≡◌, ℕ, ◌+◌, Bool, true, false, not, ◌&&◌, List, [], length, Contains}
use Rattle.std.proofs.Common.{Option, refl, sym, ap, ◌∙◌}
use Rattle.std.specs.List.{filter, filter_map, sum_by, list_any}
use Rattle.std.specs.Option.{option_map_or}
use Rattle.std.specs.Ordering.{eq_by_cmp}
use Rattle.std.specs.FinSet.{contains, difference, from_list, contains-difference}
use Rattle.std.specs.FinSet.{contains-from_list}
use Rattle.std.proofs.lemmas.Bool.{false≢true}
use Rattle.cdf_parts.specs.Places.{Contest}
use Rattle.cdf_typed.specs.Greatest.{max_by}
use Rattle.cvr_fact_types.specs.Facts.{Fact, Facts, fact_cmp, name_cmp, fact_total, fact_exact}
use Rattle.cvr_facts.specs.Choosing.{choice_cmp, snapshot_body}
use Rattle.cvr_facts.proofs.Lemmas.{in_set, from_set}
use Rattle.cvr_office.specs.Names.{record_of, records}
use Rattle.cvr_office.specs.Tallied.{sums_of_body}
use Rattle.cvr_office.proofs.Lemmas.{current-given, records-given, sorted, set_is, from_filter}
use Rattle.cvr_office.proofs.Lemmas.{in_filter}
use Rattle.cvr_cached.specs.Moves.{move_count}

-- those of a list that aren't in another
abbrev pub new_in : List Fact → List Fact → List Fact
new_in xs ys = filter (λ f. not (list_any (eq_by_cmp fact_cmp f) xs)) ys

parts : (a b : Bool) → (a && not b) ≡ true → (a ≡ true) × (not b ≡ true)
parts true b e = (refl, e)
parts false b e = absurd (false≢true e)

module _ (xs ys : List Fact) where
  abbrev left : Facts
  left = difference (from_list ys) (from_list xs)

  there : (f : Fact) → Contains (new_in xs ys) f → contains left f ≡ true
  there f at =
      let from = from_filter (λ f. not (list_any (eq_by_cmp fact_cmp f) xs)) ys f at in
      contains-difference fact_total (from_list ys) (from_list xs) f
      ∙ ((λ i. in_set fact_total fact_exact ys f from.0 i
      && not (contains-from_list fact_total xs f i)) ∙ from.1)

  back : (f : Fact) → contains left f ≡ true → Contains (new_in xs ys) f
  back f is =
      let both = parts (contains (from_list {R = fact_cmp} ys) f)
      (contains (from_list {R = fact_cmp} xs) f)
      (sym (contains-difference fact_total (from_list ys) (from_list xs) f) ∙ is) in
      in_filter (λ f. not (list_any (eq_by_cmp fact_cmp f) xs)) ys f
      (from_set fact_total fact_exact ys f both.0)
      (ap not (sym (contains-from_list fact_total xs f)) ∙ both.1)

  difference-given : difference (from_list {R = fact_cmp} ys) (from_list xs)
      ≡ from_list (new_in xs ys)
  difference-given = sym (set_is fact_total fact_exact (new_in xs ys) left there back)

abbrev many : List Contest → Option (List ℕ) → ℕ
many contests o = length (option_map_or (sums_of_body contests) o [])

abbrev pub moved_in : List Contest → List Fact → List Fact → ℕ
moved_in contests xs ys =
    sum_by (λ r. many contests (max_by choice_cmp (filter_map (snapshot_body r) xs))
    + many contests (max_by choice_cmp (filter_map (snapshot_body r) ys)))
    (sorted name_cmp (filter_map record_of (new_in xs ys)))

pub move_count-given : (contests : List Contest) (xs ys : List Fact)
    → move_count contests (from_list xs) (from_list ys) ≡ moved_in contests xs ys
move_count-given contests xs ys =
    λ i. sum_by (λ r. many contests (current-given xs r i) + many contests (current-given ys r i))
    ((ap records (difference-given xs ys) ∙ records-given (new_in xs ys)) i)
