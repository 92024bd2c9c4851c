-- Each kind of number gets a text that reads back as itself: the digits of a `whole` one, after a
-- sign where it is below zero, and the float text of a `fraction`.
use Rattle.std.proofs.Common.{◌≡◌, ◌∷◌, ◌++◌, [], None, SFits, w64, to_z-of_z, sym, ap, ◌∙◌, arith}
use Rattle.std.proofs.Common.{rules}
use Rattle.std.proofs.lemmas.Result.{on_ok_weaker}
use Rattle.std.specs.Fmt.{signed_decimal}
use Rattle.json.specs.Token as spec
use Rattle.serde_json.specs.Data.{unsigned, negative, float}
use Rattle.serde_json.specs.Find.{as_u64, as_i64, to_float}
use Rattle.serde_json.specs.View.{number_view}
use Rattle.serde_json.specs.Written.{number_text}
use Rattle.serde_json.proofs.Numbers.{number_of-decimal, number_of-plus}
use Rattle.serde_json.proofs.Texts.{unless_float-number_of}
use Rattle.cdf_node.proofs.Digits.{kind_of, in_range, in_range-valid, number_of_below_zero}
use Rattle.cdf_node.proofs.write.write_number.Goals as goal

pub returns-in-Some-clause-ok : goal.returns-in-Some-clause-ok
returns-in-Some-clause-ok c =
    let n = c.args.n.now in
    let w = c.in-Some.whole in
    let kind = kind_of (number_view n) in
    let is : unsigned w ≡ number_view n = rw (← c.as_u64.ensures, c.in-Some.is) at kind in
    on_ok_weaker c.u64.result (λ e. (
      _,
      e,
      unless_float-number_of _ _
          (number_of-decimal w (omega arith)) ∙ ap number_text is,
    )) c.u64.ensures.ok

pub returns-in-Some-as_i64-clause-ok : goal.returns-in-Some-as_i64-clause-ok
returns-in-Some-as_i64-clause-ok c =
    let n = c.args.n.now in
    let z = c.in-Some-as_i64.whole in
    let none : as_u64 (number_view n) ≡ None = grind arith in
    let kind = kind_of (number_view n) in
    let is : negative z ≡ number_view n =
    rw (none, ← c.as_i64.ensures, c.in-Some-as_i64.is) at kind in
    let fits : SFits w64 z = search rules in
    let read = number_of_below_zero z (ap in_range is ∙ in_range-valid n.n ∙ n.valid) fits in
    on_ok_weaker c.i64.result (λ e. (
      signed_decimal z,
      e
          ∙ ap (λ i. c.args.out.now.tokens ++ spec.number (signed_decimal i) ∷ []) (to_z-of_z fits),
      unless_float-number_of _ _ read ∙ ap number_text is,
    )) c.i64.ensures.ok

pub returns-clause-ok : goal.returns-clause-ok
returns-clause-ok c =
    let n = c.args.n.now in
    let x = c.in-Some-as_f64.fraction in
    let none : as_u64 (number_view n) ≡ None = grind arith in
    let other : as_i64 (number_view n) ≡ None = grind arith in
    let kind = kind_of (number_view n) in
    let same : x ≡ to_float (number_view n) =
    let e = sym c.in-Some-as_f64.is ∙ c.as_f64.ensures in cc in
    let is : float x ≡ number_view n = ap float same ∙ (rw (none, other) at kind) in
    on_ok_weaker c.float_with_plus.result
    (λ w. (
      w.0,
      w.1,
      unless_float-number_of _ _
          (number_of-plus 16 4 w.0 x w.2 w.3 (ap in_range is ∙ in_range-valid n.n ∙ n.valid))
          ∙ ap number_text is,
    )) c.float_with_plus.ensures.layout
