-- The one `office` holds the content of all files, unless one was refused since memory ran out; by
-- the outcomes `rs`, `status` ends the task over them. `several` is only noted, beside these.
use Rattle.std.proofs.Common.{◌≡◌, ◌∙◌, inl, inr, length, get_or, refl, sym, ap, subst, arith, rules}
use Rattle.std.proofs.Common.{IfSome}
use Rattle.std.specs.List.{list_any}
use Rattle.cvr_office.specs.Names.{conflicts}
use Rattle.cvr_run.specs.Devices.{Outputs}
use Rattle.cvr_run.specs.Ends.{RanOver}
use Rattle.cvr_run.specs.Log.{memory_line}
use Rattle.cvr_run.specs.Outcome.{content_of_files, facts_text, files_refused, task_fault}
use Rattle.cvr_run.specs.Refusals.{is_want}
use Rattle.cvr_run.specs.Taken.{AreTaken}
use Rattle.cvr_run.specs.Logged.{import_dues}
use Rattle.cvr_run.proofs.Collected.{as_many, held_none, of_only, one_of, taken_none, taken_so}
use Rattle.cvr_run.proofs.Had.{stops_at_once, stops_behind}
use Rattle.cvr_run.proofs.Happenings.{keeps_due, stops_not_whole}
use Rattle.cvr_run.proofs.Known.{not_whole}
use Rattle.cvr_run.proofs.tasks.run_office.Goals as goal

pub returns-in_default-clause-ran : goal.returns-in_default-clause-ran
returns-in_default-clause-ran g c = inl (
  refl,
  (memory_line, stops_at_once _ _ _ _ c.end_in_memory.ensures.status, c.end_in_memory.ensures.log),
)

pub index-office-requires : goal.index-office-requires
index-office-requires g c =
    let definition = c.args.definition in
    let is = c.in-Ok.ensures in
    let had = c.in-Ok-take_all.ensures.taken definition
    (is.definition, taken_none definition _ (held_none definition _ is.content)) in
    omega (arith, one_of g.C.Office.defined c.take_all.new.taker.offices.items definition had.2.0)

pub end_office-status-requires-clause-named : goal.end_office-status-requires-clause-named
end_office-status-requires-clause-named g c =
    let definition = c.args.definition in
    let is = c.in-Ok.ensures in
    let had = c.in-Ok-take_all.ensures.taken definition
    (is.definition, taken_none definition _ (held_none definition _ is.content)) in
    as_many definition c.args.paths.now had.0 _ _ had.2.1 ∙ ap length (sym c.as_slice.ensures.value)

pub returns-in-Ok-take_all-clause-ran : goal.returns-in-Ok-take_all-clause-ran
returns-in-Ok-take_all-clause-ran g c =
    let definition = c.args.definition in
    let task = c.args.task.now in
    let paths = c.args.paths.now in
    let is = c.in-Ok.ensures in
    let had = c.in-Ok-take_all.ensures.taken definition
    (is.definition, taken_none definition _ (held_none definition _ is.content)) in
    let answer = c.end_office-status.result in
    let offices = c.take_all.new.taker.offices.items in
    let office = c.index-office.result.now in
    let at : office ≡ get_or offices 0 office = search rules in
    let out = g.W.Sink.taken c.args.out.now in
    let new : Outputs = record {
      out = g.W.Sink.taken c.end_office-status.new.out;
      log = g.L.Sink.taken c.end_office-status.new.log;
    } in
    inr (
      had.0,
      had.1,
      subst (λ l. RanOver (facts_text definition task (content_of_files definition had.0))
          (files_refused definition task had.0) (import_dues definition paths had.0)
          (task_fault definition task had.0) answer (record { out = out; log = g.L.Sink.taken l })
          new) c.in-Ok-take_all.ensures.quiet
          (c.end_office-status.ensures.ran definition had.0
          (of_only g.C.Office.defined offices office office definition at had.2.0)
          (subst (λ rs. AreTaken definition paths had.0 rs
          (g.C.Office.held office ≡ content_of_files definition had.0))
          (sym c.as_slice.ensures.value) (taken_so definition paths had.0 _ _ _
          (of_only g.C.Office.held offices office office (content_of_files definition had.0) at)
          had.2.1))),
    )

pub returns-clause-ran : goal.returns-clause-ran
returns-clause-ran g c =
    let some = c.in-Err.ensures.stops in
    inl (refl, (some.0, stops_behind _ _ _ _ _ _ some.1, some.2))

pub returns-in_default-clause-happened : goal.returns-in_default-clause-happened
returns-in_default-clause-happened g c whole =
    absurd (not_whole c.end_in_memory.result (inr c.end_in_memory.ensures.status) whole)

pub returns-in-Ok-take_all-clause-happened : goal.returns-in-Ok-take_all-clause-happened
returns-in-Ok-take_all-clause-happened g c whole =
    let definition = c.args.definition in
    let is = c.in-Ok.ensures in
    let rs = c.in-Ok-take_all.rs.items in
    let held = g.C.Office.held in
    let had = c.in-Ok-take_all.ensures.taken definition
    (is.definition, taken_none definition _ (held_none definition _ is.content)) in
    let working = ap (list_any is_want) (sym c.as_slice.ensures.value)
    ∙ c.end_office-status.ensures.lacking (λ e. not_whole _ (inr e) whole) in
    let offices = c.take_all.new.taker.offices.items in
    let office = c.index-office.result.now in
    let at : office ≡ get_or offices 0 office = search rules in
    let content = (taken_so definition c.args.paths.now had.0 _ _ _
    (of_only held offices office office (content_of_files definition had.0) at) had.2.1).made
    working in
    let after = c.note.new.self in (
      had.0,
      had.1,
      keeps_due after (import_dues definition c.args.paths.now had.0).dues
          (content_of_files definition had.0) rs had.2.1.due working c.note.ensures.definition
          c.note.ensures.outcomes
          (subst (λ o. IfSome o (λ n. n ≡ length (conflicts (content_of_files definition had.0))))
          (sym c.note.ensures.several)
          (subst (λ h. IfSome c.count_several-several.result (λ n. n ≡ length (conflicts h))) content
          c.count_several-several.ensures.counted)),
    )

pub returns-clause-happened : goal.returns-clause-happened
returns-clause-happened g c whole =
    let some = c.in-Err.ensures.stops in
    let old = g.O.Open.state c.args.opener.now in
    let new = g.O.Open.state c.take_all.new.opener in
    absurd (stops_not_whole c.args.from old new c.args.paths.now c.in-Err.status some.0 some.1 whole)
