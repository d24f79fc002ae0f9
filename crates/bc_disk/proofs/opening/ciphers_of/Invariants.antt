use Rattle.std.proofs.Common.{◌≡◌, ℕ, false, length, Some}
use Rattle.bc_base.specs.Lists.{AllAt}
use Rattle.bc_modes.specs.UnitCipher.{parts_of}
use Rattle.bc_stack.specs.Devices.{all_support}
use Rattle.bc_disk.proofs.opening.ciphers_of.Given as goal

abbrev pub invariant-loop-number : goal.invariant-loop-number
invariant-loop-number l = record {
  long : length l.ciphers.items ≡ l.number;
  each : (k : ℕ) → AllAt l.ciphers.items k (λ cipher. AllAt l.keys.keys k (λ key. all_support l.stack.targets key.config ≡ false → cipher ≡ Some (parts_of key)));
}
