use Rattle.std.proofs.Common.{arith, rules}
use Rattle.cdf_form.proofs.Pointers.{escape-encode}
use Rattle.cdf_form.proofs.path.push_char.Goals as goal

pub returns-in_default : goal.returns-in_default
returns-in_default c =
    let e = escape-encode c.args.c (omega arith) (omega arith) in
    rw e (search rules)
