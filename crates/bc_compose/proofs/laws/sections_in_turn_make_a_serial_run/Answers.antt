use Rattle.bc_compose.proofs.InTurn.{is_serial}
use Rattle.bc_compose.proofs.laws.sections_in_turn_make_a_serial_run.Goals as goal

pub returns : goal.returns
returns c = is_serial c.bio_laws.ensures.sizes c.bio_laws.ensures.blocks c.bio_laws.ensures.accepted
