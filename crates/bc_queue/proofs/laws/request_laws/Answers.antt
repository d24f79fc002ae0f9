use Rattle.bc_queue.proofs.Names.{by_names}
use Rattle.bc_queue.proofs.laws.request_laws.Goals as goal

pub returns : goal.returns
returns c = record { by_names = by_names }
