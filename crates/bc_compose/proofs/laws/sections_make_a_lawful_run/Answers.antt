use Rattle.bc_compose.proofs.Lawful.{lawful_run}
use Rattle.bc_compose.proofs.laws.sections_make_a_lawful_run.Goals as goal

pub returns : goal.returns
returns c = lawful_run c.bio_laws.ensures.sizes c.bio_laws.ensures.blocks c.bio_laws.ensures.accepted
