use Rattle.std.proofs.Common.{◌≡◌, replicate, None}
use Rattle.bc_serial.proofs.keyslots.no_ciphers.Given as goal

abbrev pub invariant-loop : goal.invariant-loop
invariant-loop l = l.ciphers.items ≡ replicate l.counter None
