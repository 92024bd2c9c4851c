use Rattle.cvr_cli.proofs.running.run.Goals as goal

pub run-requires-clause-named : goal.run-requires-clause-named
run-requires-clause-named g c = c.requires.named

pub returns : goal.returns
returns g c = c.run.ensures
