use Rattle.std.proofs.Common.{◌≡◌, ◌++◌, map, take, drop}
use Rattle.bc_aes.specs.State.{sub_byte}
use Rattle.bc_aes.proofs.plain.sub_bytes.Given as goal

abbrev pub invariant-loop-byte : goal.invariant-loop-byte
invariant-loop-byte l = l.state ≡ map sub_byte (take l.byte-index l.fn.state) ++ drop l.byte-index l.fn.state
