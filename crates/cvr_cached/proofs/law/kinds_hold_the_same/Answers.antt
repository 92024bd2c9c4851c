use Rattle.std.proofs.Common.{◌∙◌, length, sym, ap, arith}
use Rattle.std.proofs.lemmas.List.{length-map}
use Rattle.cvr_office.specs.Reach.{content}
use Rattle.cvr_cached.proofs.law.kinds_hold_the_same.Goals as goal

pub returns : goal.returns
returns g c before after others others_after files past same one other o lt =
    let long = sym (length-map before g.One.Office.held)
    ∙ (ap length same ∙ length-map others g.Other.Office.held) in
    one.contents o lt
    ∙ (ap (λ starts. content starts files past o) same
    ∙ sym (other.contents o (omega (arith, lt, long))))
