use Rattle.std.proofs.Common.{◌∙◌, refl, ap, sym, [], map}
use Rattle.std.proofs.lemmas.List.{get_or-map}
use Rattle.cvr_office.proofs.Slots.{map-set_imported, map-set_alike}
use Rattle.cvr_office.proofs.playing.import_at.Goals as goal

pub returns-clause-contents : goal.returns-clause-contents
returns-clause-contents g c =
    let files = c.args.files.now in
    map-set_imported g.O.Office.held c.args.offices.now (map (λ f. f.items) files) c.args.office
    c.args.file _ c.index-offices-office.result c.import_into.new.office c.deref.result.now
    c.import_into.result c.if-office-offices.false refl
    (c.deref.ensures.value ∙ (ap (λ f. f.items) c.index-files-file.is
    ∙ sym (get_or-map (λ f. f.items) files c.args.file c.index-files-file.result []
    c.if-file-files.false)))
    c.import_into.ensures.content

pub returns-clause-definitions : goal.returns-clause-definitions
returns-clause-definitions g c = map-set_alike g.O.Office.defined c.args.offices.now c.args.office _
    c.index-offices-office.result c.import_into.new.office refl c.import_into.ensures.definition
