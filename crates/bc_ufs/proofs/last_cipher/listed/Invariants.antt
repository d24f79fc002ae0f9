use Rattle.std.proofs.Common.{◌≡◌, take}
use Rattle.bc_ufs.proofs.last_cipher.listed.Given as goal

abbrev pub invariant-loop-capability : goal.invariant-loop-capability
invariant-loop-capability l = l.list.items ≡ take l.capability-index l.fn.capabilities
