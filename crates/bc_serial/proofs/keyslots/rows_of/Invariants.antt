use Rattle.std.proofs.Common.{◌≡◌, map, take}
use Rattle.bc_serial.specs.Keyslots.{row_of_key}
use Rattle.bc_serial.proofs.keyslots.rows_of.Given as goal

abbrev pub invariant-loop-one : goal.invariant-loop-one
invariant-loop-one l = l.rows.items ≡ map (λ one. row_of_key l.caps one.key) (take l.one-index l.named)
