use Rattle.std.proofs.Common.{take}
use Rattle.bc_modes.specs.Schedules.{block_cipher}
use Rattle.bc_modes.specs.Xts.{first_tweak}
use Rattle.bc_modes.proofs.Pieces.{AfterTweaks}
use Rattle.bc_modes.proofs.xts.Xts.cipher_text.Given as goal

abbrev pub invariant-loop-piece : goal.invariant-loop-piece
invariant-loop-piece l =
    AfterTweaks (block_cipher l.way (take 32 l.self)) (first_tweak l.self l.dun) l.piece l.tweak l.initial.text l.text
