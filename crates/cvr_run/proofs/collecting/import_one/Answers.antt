use Rattle.std.proofs.Common.{◌∙◌, ◌≡◌, ◌∷◌, [], ℕ, List, length, map, get_or, ap, subst, arith}
use Rattle.std.specs.FinSet.{empty, union}
use Rattle.std.proofs.lemmas.List.{length-map}
use Rattle.cdf_definition.specs.Frame.{Frame}
use Rattle.cvr_fact_types.specs.Facts.{Facts}
use Rattle.cvr_office.specs.declared.event.Event.TheVariants.{Import}
use Rattle.cvr_office.specs.declared.event.Outcome.{Outcome}
use Rattle.cvr_office.specs.Outcomes.{AreOutcomes}
use Rattle.cvr_office.specs.Reach.{content, history}
use Rattle.cvr_run.specs.Outcome.{accepted_facts, files_of}
use Rattle.cvr_run.proofs.Collected.{due_played, held_played, one_of, only}
use Rattle.cvr_run.proofs.collecting.import_one.Goals as goal

-- the outcomes are of one office and one file
of_one : (held : List Facts) (frames : List Frame) (definition : Frame) (files : List (List ℕ))
    (file : List ℕ) (rs : List Outcome) → frames ≡ definition ∷ [] → files ≡ file ∷ []
    → AreOutcomes held frames files (history (Import 0 0 ∷ []) rs)
    → AreOutcomes held (definition ∷ []) (file ∷ []) (history (Import 0 0 ∷ []) rs)
of_one held frames definition files file rs is files_are out =
    subst (λ fs. AreOutcomes held (definition ∷ []) fs (history (Import 0 0 ∷ []) rs)) files_are
    (subst (λ ds. AreOutcomes held ds files (history (Import 0 0 ∷ []) rs)) is out)

pub returns-clause-content : goal.returns-clause-content
returns-clause-content g c = λ definition before is was working.
    let held = map g.C.Office.held c.args.office.now in
    let new = c.play.new.offices in
    let file = c.args.file.now.items in
    let rs = c.in_ok-outcomes.outcomes.items in
    let out = c.in_ok-outcomes.ensures in
    let files_are : files_of c.from_ref.result.now ≡ file ∷ [] =
    ap files_of c.from_ref.ensures.value in
    let one : length (map g.C.Office.held new) ≡ 1 =
    length-map new g.C.Office.held
    ∙ one_of g.C.Office.defined new definition (c.play.ensures.definitions ∙ is) in
    only (map g.C.Office.held new) empty one
    ∙ ap (λ h. h ∷ [])
    (out.content 0 (omega (arith, one_of g.C.Office.defined c.args.office.now definition is))
    ∙ (ap (λ fs. content held fs (history (Import 0 0 ∷ []) rs) 0) files_are
    ∙ (held_played held definition file rs c.swap_remove.result out.count
    c.swap_remove.ensures.value (of_one held _ definition _ file rs is files_are out.outcomes)
    working ∙ ap (λ h. union (get_or h 0 empty) (accepted_facts definition file)) was)))

pub returns-clause-due : goal.returns-clause-due
returns-clause-due g c = λ definition is.
    let held = map g.C.Office.held c.args.office.now in
    let file = c.args.file.now.items in
    let rs = c.in_ok-outcomes.outcomes.items in
    let out = c.in_ok-outcomes.ensures in
    due_played held definition file rs c.swap_remove.result out.count c.swap_remove.ensures.value
    (of_one held _ definition _ file rs is (ap files_of c.from_ref.ensures.value) out.outcomes)
