-- Offices that the same files have reached hold the same, where all began with the same.
use Rattle.std.proofs.Common.{◌≡◌, ℕ, true, List, [], ◌∷◌, get_or, refl, sym, ap, ◌∙◌}
use Rattle.std.specs.List.{list_any}
use Rattle.std.specs.Cmp.{both_ways}
use Rattle.std.specs.FinSet.{empty, contains, items, same_set, contains-insert, from_list}
use Rattle.std.proofs.lemmas.Bool.{or_left}
use Rattle.serde_json.specs.Data.{Data}
use Rattle.cdf_definition.specs.Acceptance.{value_in}
use Rattle.cvr_fact_types.specs.Facts.{Fact, Facts, fact_cmp, fact_total, fact_exact}
use Rattle.cvr_facts.specs.Reports.{report_facts}
use Rattle.cvr_office.specs.Reach.{Origin, Start, File, History, origins_at, origin_facts, content}
use Rattle.cvr_office.specs.Alike.{HasReached, HaveSameFiles, BeganAlike, SamePlacesLaw}
use Rattle.cvr_office.proofs.Unions.{tie_itself, contains-union_over, member_that_passes}
use Rattle.cvr_office.proofs.Unions.{passes_by_member}
use Rattle.cvr_office.proofs.Reached.{origin_total, origin_exact}
use Rattle.cvr_office.proofs.Ways.{origins_after-stays}

-- an office has reached itself
own : (past : History) (o : ℕ) → contains (origins_at past o) (Start o) ≡ true
own [] o = contains-insert origin_total empty (Start o) (Start o)
    ∙ or_left _ _ (tie_itself origin_total origin_exact (Start o))
own (e ∷ past) o = origins_after-stays (Start o) e.0 e.1 (origins_at past) o (own past o)

-- a fact of what has reached o is one of what has reached p
one_way : (start : Facts) (starts : List Facts) (files : List (List ℕ)) (past : History) (o p : ℕ)
    → BeganAlike start starts past o → BeganAlike start starts past p
    → ((value : Data) → HasReached files past o value → HasReached files past p value)
    → (q : Fact) → list_any (λ x. contains (origin_facts starts files x) q)
    (items (origins_at past o)) ≡ true
    → list_any (λ x. contains (origin_facts starts files x) q) (items (origins_at past p)) ≡ true
one_way start starts files past o p a b same q any =
    let has = λ (x : Origin). contains (origin_facts starts files x) q in
    let w = member_that_passes origin_total origin_exact has (origins_at past o) any in
    elim w.0 as (λ x. contains (origins_at past o) x ≡ true → has x ≡ true
    → list_any has (items (origins_at past p)) ≡ true) [
      | Start k ↦ λ had here.
          passes_by_member origin_total origin_exact has (Start p) (origins_at past p) (own past p)
          (ap (λ t. contains t q) (b p (own past p) ∙ sym (a k had)) ∙ here)
      | File f ↦ λ had here.
          let copy = same (value_in (get_or files f [])) (f, had, refl) in
          passes_by_member origin_total origin_exact has (File copy.0) (origins_at past p) copy.1
          (ap (λ value. contains (from_list {R = fact_cmp} (report_facts value)) q) copy.2
          ∙ here)
    ] w.1 w.2

pub same_files : (start : Facts) (starts : List Facts) (files : List (List ℕ)) (past : History)
    (o p : ℕ)
    → BeganAlike start starts past o → BeganAlike start starts past p → HaveSameFiles files past o p
    → content starts files past o ≡ content starts files past p
same_files start starts files past o p a b same = same_set fact_total fact_exact _ _ (λ q.
    contains-union_over (origin_facts starts files) (items (origins_at past o)) q
    ∙ (both_ways _ _ (one_way start starts files past o p a b (λ v. (same v).0) q)
    (one_way start starts files past p o b a (λ v. (same v).1) q)
    ∙ sym (contains-union_over (origin_facts starts files) (items (origins_at past p)) q)))

-- the files at the same places are the same
pub same_places : SamePlacesLaw
same_places files past o p same value = (
  λ has. (has.0, (same has.0).0 has.1, has.2),
  λ has. (has.0, (same has.0).1 has.1, has.2),
)
