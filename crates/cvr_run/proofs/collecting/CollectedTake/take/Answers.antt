use Rattle.std.proofs.Common.{◌≡◌, ◌∙◌, ◌∷◌, ◌++◌, [], length, map, take, drop, refl, sym, ap}
use Rattle.std.proofs.Math.Seq.{take-append_seam}
use Rattle.std.proofs.lemmas.List.{length-map}
use Rattle.cvr_run.specs.Outcome.{content_of_files}
use Rattle.cvr_run.proofs.Collected.{held_more, taken_more, two_of_ok}
use Rattle.cvr_run.proofs.collecting.CollectedTake.take.Goals as goal

pub returns : goal.returns
returns g c =
    let is_logged = c.import_one.ensures in
    let items = c.args.self.now.offices.items in
    let now = c.import_one.new.office in
    let slice : c.as_mut_slice.result.now ≡ items = c.as_mut_slice.ensures.value in
    let same : length now ≡ length c.as_mut_slice.result.now =
    sym (length-map now g.C.Office.defined)
    ∙ (ap length is_logged.definition ∙ length-map c.as_mut_slice.result.now g.C.Office.defined) in
    let stands : take c.args.self.now.offices.len (now ++ drop (length now) items) ≡ now =
    ap (λ n. take n (now ++ drop (length now) items)) (sym (same ∙ c.as_mut_slice.ensures.len))
    ∙ take-append_seam now (drop (length now) items) in
    two_of_ok _ _ _ c.import_one.result is_logged.content is_logged.due
    (λ r content due definition paths files rs was.
    let file = c.args.file.now.items in
    let is : map g.C.Office.defined c.as_mut_slice.result.now ≡ definition ∷ [] =
    ap (map g.C.Office.defined) slice ∙ was.0 in (
      ap (map g.C.Office.defined) stands ∙ (is_logged.definition ∙ is),
      taken_more definition paths files rs c.args._path.now file r _ _ was.1 (due definition is)
          (λ named works so_far.
          ap (map g.C.Office.held) stands
          ∙ (content definition (content_of_files definition files) is
          (ap (map g.C.Office.held) slice ∙ so_far) works
          ∙ ap (λ h. h ∷ []) (held_more definition files file _ _ refl refl))),
    ))
