use Rattle.std.proofs.Common.{arith}
use Rattle.bc_aes.proofs.CircuitTables.{inv_sub_bytes-sliced}
use Rattle.bc_aes.proofs.circuit.inv_sub_bytes.Goals as goal

pub returns : goal.returns
returns c = record {
  substitutes = inv_sub_bytes-sliced c.args.q c.inv_sub_byte_gates.result c.inv_sub_byte_gates.ensures.computes
      (omega arith, (omega arith, (omega arith, (omega arith, (omega arith, (omega arith, (omega arith, (omega arith, tt))))))));
}
