use Rattle.cvr_office.proofs.UnitOffice.{new_office}
use Rattle.cvr_office.proofs.law.new_office.Goals as goal

pub returns : goal.returns
returns c = record { unit = new_office }
