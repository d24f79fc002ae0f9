use Rattle.std.proofs.Common.{◌≡◌, length, take}
use Rattle.bc_profile.specs.Passes.{row_at}
use Rattle.bc_ufs.proofs.controller.Controller.load.Given as goal

abbrev pub invariant-loop-register : goal.invariant-loop-register
invariant-loop-register l =
    (l.slots ≡ l.fn.slots) × (length l.words ≡ 18) × (take l.register l.words ≡ take l.register (row_at l.self.profile l.hold.key))
