use Rattle.std.proofs.Common.{◌≡◌, length, map, take}
use Rattle.std.specs.Int.{w32, from_le_bytes}
use Rattle.bc_modes.proofs.entry_bytes.words_of_bytes.Given as goal

abbrev pub invariant-loop-i : goal.invariant-loop-i
invariant-loop-i l = record {
  size : length l.words ≡ 18;
  made : take l.i l.words ≡ map (from_le_bytes w32) (take l.i l.chunks);
}
