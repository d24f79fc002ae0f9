use Rattle.std.proofs.Common.{◌≡◌, ◌+◌, ◌≤◌, length, take}
use Rattle.std.specs.Prelude.{vec_capacity}
use Rattle.uses.specs.Keyslots.{Stands}
use Rattle.uses.proofs.SlotLemmas.{ToldBy}
use Rattle.uses.proofs.keyslots.carry_out_calls.Given as goal

abbrev pub invariant-loop-call : goal.invariant-loop-call
invariant-loop-call g l = record {
  stands : Stands l.profile l.caller;
  told : ToldBy l.profile l.fn.pass.caller l.caller.pass (take l.call-index l.calls) l.told.items;
  few : length l.told.items ≡ l.call-index;
  room : length l.calls + 1 ≤ vec_capacity l.told;
}
