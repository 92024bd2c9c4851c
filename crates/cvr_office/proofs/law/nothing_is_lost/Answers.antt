use Rattle.cvr_office.proofs.Lasting.{held_lasts, import_lasts, exchange_lasts, played_lasts}
use Rattle.cvr_office.proofs.law.nothing_is_lost.Goals as goal

pub returns : goal.returns
returns g c = record {
  held = held_lasts;
  imported = import_lasts;
  exchanged = exchange_lasts;
  played = played_lasts g.O.Office.held g.O.Office.defined;
}
