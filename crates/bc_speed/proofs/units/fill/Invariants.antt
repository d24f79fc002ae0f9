use Rattle.std.proofs.Common.{◌≡◌, take, map}
use Rattle.std.specs.List.{range_with_len}
use Rattle.bc_speed.specs.Units.{text_byte}
use Rattle.bc_speed.proofs.units.fill.Given as goal

abbrev pub invariant-loop-i : goal.invariant-loop-i
invariant-loop-i l = take l.i l.texts ≡ map text_byte (range_with_len 0 l.i)
