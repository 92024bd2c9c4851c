-- As `command` is the line of cvr, its `matches` hold the subcommand that the words name (`name`,
-- `found`), whose request is theirs; an `error` is a fault of the words, or memory was refused.
use Rattle.std.proofs.Common.{rules, ◌≡◌, ◌∙◌, sym, subst, Bor, map, true, Some}
use Rattle.std.proofs.lemmas.Result.{IfErr-weaker, IfOk-weaker}
use Rattle.clap.specs.Words.{App, FailsBy, HasMatchesOf, Text, fault_of, found_of}
use Rattle.clap.specs.Words.{is_simple_and_free, kind_of, rows_of, subcommand_rows_of}
use Rattle.cvr_words.specs.Line.{cvr_line}
use Rattle.cvr_words.proofs.Named.{command_of, no_fault, paired, simple, simple_and_free}
use Rattle.cvr_words.proofs.Refused.{drill_fault_is, fault_is}
use Rattle.cvr_words.proofs.read.read_named.Goals as goal

pub request_of-requires-clause-named : goal.request_of-requires-clause-named
request_of-requires-clause-named c =
    let words = map (λ (t : Bor Text). t.now) c.args.words.now in
    let e = c.in_ok-command.ensures in
    let met = subst (λ (a : App). HasMatchesOf a words c.in-Ok.matches) e c.in-Ok.ensures.matches
    simple in
    let pair : subcommand_rows_of c.in-Ok.matches
    ≡ Some (c.in-Some.name.now, rows_of (found_of c.in-Some.found.now)) =
    paired _ _ _ _ _ c.in-Some.ensures.name c.in-Some.ensures.rows in
    let kinds = subst (λ (a : App). is_simple_and_free a ≡ true
    → FailsBy (fault_of a words) c.try_get_matches_from.result) e
    c.try_get_matches_from.ensures.kinds simple_and_free in
    let known = command_of words (c.in-Some.name.now, rows_of (found_of c.in-Some.found.now))
    (sym met.1 ∙ pair)
    (no_fault (fault_of cvr_line words) c.try_get_matches_from.result c.in-Ok.matches kinds
    c.in-Ok.is) in
    known.0

pub request_of-requires-clause-whole : goal.request_of-requires-clause-whole
request_of-requires-clause-whole c =
    let words = map (λ (t : Bor Text). t.now) c.args.words.now in
    let e = c.in_ok-command.ensures in
    let met = subst (λ (a : App). HasMatchesOf a words c.in-Ok.matches) e c.in-Ok.ensures.matches
    simple in
    let pair : subcommand_rows_of c.in-Ok.matches
    ≡ Some (c.in-Some.name.now, rows_of (found_of c.in-Some.found.now)) =
    paired _ _ _ _ _ c.in-Some.ensures.name c.in-Some.ensures.rows in
    let kinds = subst (λ (a : App). is_simple_and_free a ≡ true
    → FailsBy (fault_of a words) c.try_get_matches_from.result) e
    c.try_get_matches_from.ensures.kinds simple_and_free in
    let known = command_of words (c.in-Some.name.now, rows_of (found_of c.in-Some.found.now))
    (sym met.1 ∙ pair)
    (no_fault (fault_of cvr_line words) c.try_get_matches_from.result c.in-Ok.matches kinds
    c.in-Ok.is) in
    known.1

pub returns-in-Some-clause-request : goal.returns-in-Some-clause-request
returns-in-Some-clause-request c =
    let words = map (λ (t : Bor Text). t.now) c.args.words.now in
    let e = c.in_ok-command.ensures in
    let met = subst (λ (a : App). HasMatchesOf a words c.in-Ok.matches) e c.in-Ok.ensures.matches
    simple in
    let pair : subcommand_rows_of c.in-Ok.matches
    ≡ Some (c.in-Some.name.now, rows_of (found_of c.in-Some.found.now)) =
    paired _ _ _ _ _ c.in-Some.ensures.name c.in-Some.ensures.rows in
    let kinds = subst (λ (a : App). is_simple_and_free a ≡ true
    → FailsBy (fault_of a words) c.try_get_matches_from.result) e
    c.try_get_matches_from.ensures.kinds simple_and_free in
    let fine = no_fault (fault_of cvr_line words) c.try_get_matches_from.result c.in-Ok.matches
    kinds c.in-Ok.is in
    IfOk-weaker c.request_of.result _ _
    (λ r h. (
      fine,
      c.in-Some.name.now,
      rows_of (found_of c.in-Some.found.now),
      sym met.1
          ∙ pair,
      h,
    )) c.request_of.ensures.ok

pub returns-in-Some-clause-fault : goal.returns-in-Some-clause-fault
returns-in-Some-clause-fault c =
    let words = map (λ (t : Bor Text). t.now) c.args.words.now in
    let e = c.in_ok-command.ensures in
    let met = subst (λ (a : App). HasMatchesOf a words c.in-Ok.matches) e c.in-Ok.ensures.matches
    simple in
    let pair : subcommand_rows_of c.in-Ok.matches
    ≡ Some (c.in-Some.name.now, rows_of (found_of c.in-Some.found.now)) =
    paired _ _ _ _ _ c.in-Some.ensures.name c.in-Some.ensures.rows in
    let kinds = subst (λ (a : App). is_simple_and_free a ≡ true
    → FailsBy (fault_of a words) c.try_get_matches_from.result) e
    c.try_get_matches_from.ensures.kinds simple_and_free in
    let fine = no_fault (fault_of cvr_line words) c.try_get_matches_from.result c.in-Ok.matches
    kinds c.in-Ok.is in
    IfErr-weaker c.request_of.result _ _
    (λ f h. drill_fault_is words _ _ f fine (sym met.1 ∙ pair) h) c.request_of.ensures.err

pub returns-in-Err-clause-fault : goal.returns-in-Err-clause-fault
returns-in-Err-clause-fault c =
    let words = map (λ (t : Bor Text). t.now) c.args.words.now in
    let e = c.in_ok-command.ensures in
    let kinds = subst (λ (a : App). is_simple_and_free a ≡ true
    → FailsBy (fault_of a words) c.try_get_matches_from.result) e
    c.try_get_matches_from.ensures.kinds simple_and_free in
    fault_is words (kind_of c.in-Err.error) c.refusal.result c.refusal.ensures (search rules)
