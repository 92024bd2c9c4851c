-- An accepted file adds a line with the number of its `records`; a refused one adds none, and its
-- `fault` is the file's first: so, if memory lasted, the text is what cvr check prints of files.
use Rattle.std.proofs.Common.{◌≡◌, ◌∙◌, ◌++◌, subst, sym, ap, string_bytes, option_map, None, Some}
use Rattle.cdf_parts.specs.Parts.{record_count}
use Rattle.cdf_definition.specs.Acceptance.{first_refusal, value_in}
use Rattle.cdf_form.specs.Reading.{IsMemory}
use Rattle.cvr_office.specs.declared.event.Cause.TheVariants.{Read}
use Rattle.cvr_run.specs.Outcome.{check_lines}
use Rattle.cvr_run.specs.Refusals.{IsDue, file_due}
use Rattle.cvr_run.proofs.Collected.{line_of_accepted, lines_more, lines_refused, taken_more}
use Rattle.cvr_run.proofs.Logging.{read_due}
use Rattle.cvr_run.proofs.collecting.CountedTake.take.Goals as goal

pub returns-in_ok-push_count-in-Ok : goal.returns-in_ok-push_count-in-Ok
returns-in_ok-push_count-in-Ok c = λ definition paths files rs was.
    let own = c.args.self.now.definition in
    let text = string_bytes c.args.self.now.text in
    let path = c.args.path.now in
    let file = c.args.file.now.items in
    let is_logged = c.in-Ok.ensures in
    let is : c.as_slice.result.now ≡ file = c.as_slice.ensures.value in
    let accepted : first_refusal own file ≡ None =
    subst (λ f. first_refusal own f ≡ None) is is_logged.accepted in
    let count : c.in-Ok.records ≡ record_count (value_in file) =
    subst (λ f. c.in-Ok.records ≡ record_count (value_in f)) is is_logged.count in (
      was.0,
      taken_more definition paths files rs path file _
          (text ≡ check_lines definition paths files) _ was.1
          (subst (λ d. IsDue (file_due (first_refusal d file)) None) was.0
          (ap (option_map Read) accepted))
          (λ named works so_far. c.in_ok-push_count-in-Ok.ensures
          ∙ ((λ i. so_far i ++ sym (line_of_accepted definition path file c.in-Ok.records
          (subst (λ d. first_refusal d file ≡ None) was.0 accepted) count) i)
          ∙ sym (lines_more definition paths files path file named))),
    )

pub returns-in-Err : goal.returns-in-Err
returns-in-Err c = λ definition paths files rs was.
    let text = string_bytes c.args.self.now.text in
    let path = c.args.path.now in
    let file = c.args.file.now.items in
    let fault = c.in-Err.fault in
    let own = c.args.self.now.definition in
    let first = subst (λ d. ¬ IsMemory fault → first_refusal d file ≡ Some fault) was.0
    (subst (λ f. ¬ IsMemory fault → first_refusal own f ≡ Some fault) c.as_slice.ensures.value
    c.in-Err.ensures.fault) in (
      was.0,
      taken_more definition paths files rs path file _
          (text ≡ check_lines definition paths files) _ was.1
          (read_due (first_refusal definition file) fault first)
          (λ named works so_far. lines_refused definition paths files path file text fault named
          first works so_far),
    )
