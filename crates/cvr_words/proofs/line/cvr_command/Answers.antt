use Rattle.std.proofs.Common.{◌≡◌, true, Ok, Result, refl, ◌∙◌, ap, ap₂, subst}
use Rattle.std.specs.Prelude.{IfOk}
use Rattle.std.proofs.lemmas.Result.{IfOk-weaker}
use Rattle.clap.specs.Words.{App, app_of, with_subcommand}
use Rattle.clap.specs.declared.builder.command.Command.TheBlock as command
use Rattle.cvr_words.proofs.line.cvr_command.Goals as goal

-- a command whose form is known, and plain, is added as it is to a line whose form is known
added : {E : Type 0} (below : Result command.the_data E) (now line a r : App)
    → (c : command.the_data) × (below ≡ Ok c)
    × ((app_of c).top.is_plain ≡ true → r ≡ with_subcommand now (app_of c).top)
    → IfOk below (λ c. app_of c ≡ a) → a.top.is_plain ≡ true → now ≡ line
    → r ≡ with_subcommand line a.top
added below now line a r h is plain before =
    let e = subst (λ q. IfOk q (λ c. app_of c ≡ a)) h.1 is in
    h.2 (ap (λ q. q.top.is_plain) e ∙ plain) ∙ ap₂ (λ p q. with_subcommand p q.top) before e

pub returns : goal.returns
returns c =
    let one = added _ _ _ _ _ c.in_ok-line.ensures c.currents_command.ensures refl
    c.bare_command.ensures in
    let two = added _ _ _ _ _ c.in_ok-line-2.ensures c.conflicts_command.ensures refl one in
    let three = added _ _ _ _ _ c.in_ok-line-3.ensures c.tally_command.ensures refl two in
    let four = added _ _ _ _ _ c.in_ok-line-4.ensures c.check_command.ensures refl three in
    let five = added _ _ _ _ _ c.in_ok-line-5.ensures c.merge_command.ensures refl four in
    IfOk-weaker c.with_command-6.result _ _
    (λ r h. added _ _ _ _ _ h c.drill_command.ensures refl five) c.with_command-6.ensures
