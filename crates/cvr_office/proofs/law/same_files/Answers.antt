use Rattle.cvr_office.proofs.NewOffices.{same_files_law, same_content, same_definition}
use Rattle.cvr_office.proofs.law.same_files.Goals as goal

pub returns : goal.returns
returns g c = record {
  alike = same_files_law g.O.Office.held g.O.Office.defined;
  content = same_content g.O.Office.held g.O.Office.defined;
  definition = same_definition g.O.Office.held g.O.Office.defined;
}
