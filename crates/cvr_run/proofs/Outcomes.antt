-- What outcomes say of files or steps, one after the other.
use Rattle.std.proofs.Common.{◌≡◌, ℕ, ◌+◌, ◌<◌, List, length, get_or, take, Bool, true, false, ◌||◌}
use Rattle.std.proofs.Common.{Some, None, sym, ap, ◌∙◌, subst}
use Rattle.std.specs.Prelude.{is_some}
use Rattle.std.specs.Option.{option_map_or}
use Rattle.std.specs.List.{list_any}
use Rattle.std.proofs.lemmas.List.{get_or_default}
use Rattle.std.proofs.lemmas.List.Folds.{list_any_more}
use Rattle.std.proofs.Math.Bool.{or-false, or-true}
use Rattle.cvr_office.specs.declared.event.Cause.{Cause}
use Rattle.cvr_office.specs.declared.event.Outcome.{Outcome}
use Rattle.cvr_office.specs.declared.event.Outcome.TheVariants.{Accepted}
use Rattle.cvr_run.specs.Refusals.{Due, no_due, IsDue, AreDue, cause_in, is_refusal, is_want}
use Rattle.cvr_run.specs.Refusals.{wants_memory}

module _ (outcomes : List Outcome) (k : ℕ) (o : Outcome) (lt : k < length outcomes)
    (at : o ≡ get_or outcomes k o) where
  told_here : (dues : List Due) → AreDue dues outcomes → IsDue (get_or dues k no_due) (cause_in o)
  told_here dues due = subst (λ x. IsDue (get_or dues k no_due) (cause_in x))
      (get_or_default outcomes k (Accepted 0) o lt ∙ sym at) (due.each k lt)

  pub due_where_told : (dues : List Due) → AreDue dues outcomes → (cause : Cause)
      → Some cause ≡ cause_in o → IsDue (get_or dues k no_due) (Some cause)
  due_where_told dues due cause is_logged =
      subst (IsDue (get_or dues k no_due)) (sym is_logged) (told_here dues due)

  pub none_where_not : (dues : List Due) → AreDue dues outcomes → None ≡ cause_in o
      → (get_or dues k no_due).cause ≡ None
  none_where_not dues due is_logged =
      subst (IsDue (get_or dues k no_due)) (sym is_logged) (told_here dues due)

  -- one more of those that pass a test
  any_here : (test : Outcome → Bool) (before now : Bool) → before ≡ list_any test (take k outcomes)
      → now ≡ (before || test o) → now ≡ list_any test (take (k + 1) outcomes)
  any_here test before now is grown =
      grown ∙ ((λ i. is i || test (at i)) ∙ sym (list_any_more test outcomes k o lt))

  pub refused_here : (cause : Cause) (before now : Bool) → Some cause ≡ cause_in o
      → before ≡ list_any is_refusal (take k outcomes) → now ≡ true
      → now ≡ list_any is_refusal (take (k + 1) outcomes)
  refused_here cause before now is_logged is grown = any_here is_refusal before now is
      (grown ∙ (sym (or-true before) ∙ ap (λ c. before || is_some c) is_logged))

  pub wanted_here : (cause : Cause) (before now : Bool) → Some cause ≡ cause_in o
      → before ≡ list_any is_want (take k outcomes) → now ≡ (before || wants_memory cause)
      → now ≡ list_any is_want (take (k + 1) outcomes)
  wanted_here cause before now is_logged is grown = any_here is_want before now is
      (grown ∙ ap (λ c. before || option_map_or wants_memory c false) is_logged)

  pub accepted_here : (before : Bool) → None ≡ cause_in o
      → before ≡ list_any is_refusal (take k outcomes)
      → before ≡ list_any is_refusal (take (k + 1) outcomes)
  accepted_here before is_logged is = any_here is_refusal before before is
      (sym (or-false before) ∙ ap (λ c. before || is_some c) is_logged)

  pub unwanted_here : (before : Bool) → None ≡ cause_in o
      → before ≡ list_any is_want (take k outcomes)
      → before ≡ list_any is_want (take (k + 1) outcomes)
  unwanted_here before is_logged is = any_here is_want before before is
      (sym (or-false before) ∙ ap (λ c. before || option_map_or wants_memory c false) is_logged)
