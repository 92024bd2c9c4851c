use Rattle.std.proofs.Common.{rules}
use Rattle.cvr_run.proofs.Unasked.{own_told}
use Rattle.cvr_run.proofs.own_words.print_own.Goals as goal

pub returns : goal.returns
returns g c =
    own_told c.args.text.now c.print_text-printed.result c.none.result c.end_with.result
    (g.W.Sink.taken c.args.out.now) (g.W.Sink.taken c.print_text-printed.new.out) _ _
    (search rules) (search rules)
    c.none.ensures.any_refusal c.none.ensures.file_lacking c.none.ensures.path_unspelled
    c.end_with.ensures.status c.end_with.ensures.log
