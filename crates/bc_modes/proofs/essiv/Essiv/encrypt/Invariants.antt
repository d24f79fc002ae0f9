use Rattle.std.proofs.Common.{◌≡◌}
use Rattle.bc_modes.specs.CbcEssiv.{chained, essiv}
use Rattle.bc_modes.proofs.Links.{AfterBlocks, chain}
use Rattle.bc_modes.proofs.essiv.Essiv.encrypt.Given as goal

abbrev pub invariant-loop-block : goal.invariant-loop-block
invariant-loop-block l = record {
  blocks : AfterBlocks (chained l.self (essiv l.self l.dun) l.initial.text) l.block l.initial.text l.text;
  next : l.before ≡ chain l.self (essiv l.self l.dun) l.initial.text l.block;
}
