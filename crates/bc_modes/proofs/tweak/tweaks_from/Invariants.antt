use Rattle.std.proofs.Common.{◌≡◌, ◌*◌, length, take}
use Rattle.bc_modes.specs.Tweak.{tweak_at}
use Rattle.bc_modes.specs.Xts.{tweak_bytes}
use Rattle.bc_modes.proofs.tweak.tweaks_from.Given as goal

abbrev pub invariant-loop-block : goal.invariant-loop-block
invariant-loop-block l = record {
  size : length l.tweaks ≡ 128;
  written : take (16 * l.block) l.tweaks ≡ tweak_bytes l.first l.block;
  next : l.tweak ≡ tweak_at l.first l.block;
}
