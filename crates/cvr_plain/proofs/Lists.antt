-- A plain office's list of facts: what it keeps after each call, and when two are the same.
use Rattle.std.proofs.Common.{◌≡◌, List, map, true, sym, ap, ◌∙◌, subst, ℕ}
use Rattle.std.proofs.Common.{length}
use Rattle.std.specs.Cmp.Lexicographic.{pointwise, pointwise_decides}
use Rattle.std.specs.FinSet.{from_list, union, len}
use Rattle.std.specs.List.Sorted.{IsStrictlySortedBy}
use Rattle.std.specs.Ordering.{eq_by_cmp}
use Rattle.std.specs.Prelude.{OnOk, OnErr, ◌↔◌}
use Rattle.std.specs.declared.result.Result.TheVariants.{Ok, Err}
use Rattle.std.specs.declared.result.Result.{Result}
use Rattle.cdf_types.specs.declared.fault.Memory.{Memory}
use Rattle.cdf_check.proofs.Laws.{same_definitions}
use Rattle.cdf_definition.specs.Acceptance.{Valid}
use Rattle.cdf_definition.specs.Frame.{Frame, IsSame}
use Rattle.cvr_facts.proofs.Lemmas.{tie_decides}
use Rattle.cvr_fact_types.specs.Facts.{fact_cmp, fact_total, fact_exact}
use Rattle.cvr_facts.specs.Reports.{facts}
use Rattle.cvr_office.specs.CanHold.{CanHold}
use Rattle.cvr_office.specs.Place.{fact_of, place_cmp, place_total, place_exact, any_cmp}
use Rattle.cvr_office.specs.Plain.{set_of, IsSpelled, IsPlain, IsPut}
use Rattle.cvr_office.specs.Runs.{AreSpelled}
use Rattle.cvr_office.specs.declared.any_fact.AnyFact.{AnyFact}
use Rattle.cvr_office.proofs.Laws.{import_keeps, join_keeps}
use Rattle.cvr_lists.proofs.Laws.{spelled_put, same_facts}
use Rattle.cvr_lists.proofs.Lemmas.{pointwise-on}
use Rattle.cvr_office.proofs.Lemmas.{len-from_list}

-- ---- order and number

pub len-set_of : (frame : Frame) (xs : List AnyFact) → IsPlain frame xs
    → len (set_of xs) ≡ length xs
len-set_of frame xs plain = len-from_list fact_of place_total fact_total fact_exact xs plain.rises

-- ---- the same facts

module _ (xs ys : List AnyFact) (h : IsStrictlySortedBy any_cmp xs)
    (k : IsStrictlySortedBy any_cmp ys) where
  pub same_iff : (pointwise (eq_by_cmp any_cmp) xs ys ≡ true) ↔ (set_of xs ≡ set_of ys)
  same_iff =
      let decides = pointwise_decides (tie_decides place_total place_exact) (map fact_of xs)
      (map fact_of ys) in
      let is = pointwise-on fact_of (eq_by_cmp place_cmp) xs ys in (
        λ e. ap (from_list {R = fact_cmp}) (decides.0 (sym is ∙ e)),
        λ same. is
            ∙ decides.1 (same_facts xs ys h k same),
      )

-- ---- the facts of a file

module _ (frame : Frame) (bytes : List ℕ) (old more new : List AnyFact)
    (told_is : set_of more ≡ facts bytes) (put : IsPut old more new) where
  pub import_is : set_of new ≡ union (set_of old) (facts bytes)
  import_is = put.set ∙ ap (union (set_of old)) told_is

  pub plain_import : AreSpelled frame.contests more → Valid frame bytes → IsPlain frame old
      → IsPlain frame new
  plain_import spelled valid plain = record {
    rises = put.rises;
    spelled = spelled_put frame.contests old more new put plain.spelled spelled;
    can_hold = subst (CanHold frame) (sym import_is)
        (import_keeps frame (set_of old) bytes valid plain.can_hold);
  }

-- ---- another office's facts

pub plain_join : (frame other : Frame) (old theirs new : List AnyFact) → IsSame frame other
    → IsPlain frame old → IsPlain other theirs → IsPut old theirs new → IsPlain frame new
plain_join frame other old theirs new same mine plain put =
    let contests : other.contests ≡ frame.contests =
    sym ((same_definitions frame other mine.can_hold.sound plain.can_hold.sound same).contests) in
    record {
      rises = put.rises;
      spelled = spelled_put frame.contests old theirs new put mine.spelled
          (λ f at. subst (λ cs. IsSpelled cs f) contests (plain.spelled f at));
      can_hold = subst (CanHold frame) (sym put.set)
          (join_keeps frame other (set_of old) (set_of theirs) same mine.can_hold plain.can_hold);
    }

-- whether they were put in or not
pub plain_after : (r : Result ℕ Memory) (frame other : Frame) (old theirs new : List AnyFact)
    → IsSame frame other → IsPlain frame old → IsPlain other theirs
    → OnOk r (IsPut old theirs new) → OnErr r (new ≡ old) → IsPlain frame new
plain_after (Ok n) frame other old theirs new same mine plain put was =
    plain_join frame other old theirs new same mine plain put
plain_after (Err e) frame other old theirs new same mine plain put was =
    subst (IsPlain frame) (sym was) mine
