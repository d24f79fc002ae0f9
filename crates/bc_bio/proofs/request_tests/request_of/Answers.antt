use Rattle.bc_bio.proofs.request_tests.request_of.Goals as goal

pub start-requires-clause-placed : goal.start-requires-clause-placed
start-requires-clause-placed c = (c.args.keys.now.keys, c.requires)
