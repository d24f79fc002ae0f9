use Rattle.std.proofs.Common.{arith}
use Rattle.bc_aes.proofs.CircuitTables.{sub_bytes-sliced}
use Rattle.bc_aes.proofs.circuit.sub_bytes.Goals as goal

pub returns : goal.returns
returns c = record {
  substitutes = sub_bytes-sliced c.args.q c.sub_byte_gates.result c.sub_byte_gates.ensures.computes
      (omega arith, (omega arith, (omega arith, (omega arith, (omega arith, (omega arith, (omega arith, (omega arith, tt))))))));
}
