use Rattle.std.proofs.Common.{◌≡◌, ◌++◌, map, take, drop}
use Rattle.bc_aes.specs.State.{inv_sub_byte}
use Rattle.bc_aes.proofs.plain.inv_sub_bytes.Given as goal

abbrev pub invariant-loop-byte : goal.invariant-loop-byte
invariant-loop-byte l = l.state ≡ map inv_sub_byte (take l.byte-index l.fn.state) ++ drop l.byte-index l.fn.state
