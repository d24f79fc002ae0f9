use Rattle.std.proofs.Common.{◌≡◌, map}
use Rattle.bc_serial.proofs.keyslots.Keyslots.close.Given as goal

abbrev pub invariant-loop-device : goal.invariant-loop-device
invariant-loop-device l = l.journals.items ≡ map (λ solo. solo.journal) l.yielded
