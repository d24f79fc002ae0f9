use Rattle.std.proofs.Common.{arith}
use Rattle.bc_aes.proofs.RoundKeyLemmas.{spread-bits}
use Rattle.bc_aes.proofs.round_keys.spread.Goals as goal

pub returns : goal.returns
returns c = record { spreads = λ p k lt below. spread-bits c.args.bits p k (omega arith) lt below }
