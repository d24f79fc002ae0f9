use Rattle.std.proofs.Common.{refl}
use Rattle.bc_queue.proofs.request_units.take_bytes.Goals as goal

pub returns-clause-left : goal.returns-clause-left
returns-clause-left c = (c.replace.new.dest, refl)
