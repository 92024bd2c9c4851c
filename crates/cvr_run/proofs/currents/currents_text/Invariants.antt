use Rattle.std.proofs.Common.{◌≡◌, ◌++◌, IfSome, Contains, length, option_map, string_bytes}
use Rattle.cvr_office.specs.Names.{records}
use Rattle.cvr_run.specs.Currents.{currents}
use Rattle.cvr_run.proofs.CurrentLines.{records_from, lines_from}
use Rattle.cvr_run.proofs.currents.currents_text.Given as goal

-- the text so far and the lines from the next record on, which is one of the office's
abbrev pub invariant-loop-next : goal.invariant-loop-next
invariant-loop-next g l = record {
  text : string_bytes l.text ++ lines_from (g.O.Office.held l.office)
      (option_map (λ k. k.now) l.next) ≡ currents (g.O.Office.held l.office);
  listed : IfSome (option_map (λ k. k.now) l.next) (Contains (records (g.O.Office.held l.office)));
}

abbrev pub decreases-loop-next : goal.decreases-loop-next
decreases-loop-next g l =
    length (records_from (g.O.Office.held l.office) (option_map (λ k. k.now) l.next))
