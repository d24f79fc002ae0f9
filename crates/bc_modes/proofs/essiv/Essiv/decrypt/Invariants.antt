use Rattle.bc_modes.specs.CbcEssiv.{essiv}
use Rattle.bc_modes.proofs.Unchained.{AfterLinks}
use Rattle.bc_modes.proofs.essiv.Essiv.decrypt.Given as goal

abbrev pub invariant-loop-piece : goal.invariant-loop-piece
invariant-loop-piece l = AfterLinks l.self (essiv l.self l.dun) l.piece l.before l.initial.text l.text
