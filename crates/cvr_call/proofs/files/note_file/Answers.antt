use Rattle.std.proofs.Common.{◌≡◌, false, rules}
use Rattle.std.specs.Prelude.{is_some}
use Rattle.cvr_call.proofs.Holding.{at_path, noted}
use Rattle.cvr_call.proofs.files.note_file.Goals as goal

pub returns-in_ok-insert : goal.returns-in_ok-insert
returns-in_ok-insert c =
    let lacks : is_some (at_path c.args.held.now c.args.path.now) ≡ false = search rules in
    noted c.args.held.now c.insert.new.self c.args.path.now c.args.bytes lacks
    c.in_ok-insert.ensures.updates
