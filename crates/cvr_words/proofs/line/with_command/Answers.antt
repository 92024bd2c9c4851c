use Rattle.std.proofs.lemmas.Result.{IfOk-weaker}
use Rattle.cvr_words.proofs.Flags.{third_is_false}
use Rattle.cvr_words.proofs.line.with_command.Goals as goal

pub returns : goal.returns
returns c = IfOk-weaker c.subcommand.result _ _ (λ r h. (
  c.in_ok-command.field-0,
  c.in_ok-command.was,
  λ plain. h.shape (third_is_false _ _ _ _ plain),
)) c.subcommand.ensures
