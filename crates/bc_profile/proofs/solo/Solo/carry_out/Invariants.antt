use Rattle.std.proofs.Common.{◌≡◌, ◌-◌, ◌*◌, length, drop, None}
use Rattle.bc_profile.specs.OneCaller.{journal_of}
use Rattle.bc_profile.specs.Solo.{HasSpare, solo_with_events, slots_of}
use Rattle.bc_profile.proofs.solo.Solo.carry_out.Given as goal

abbrev pub invariant-loop-one : goal.invariant-loop-one
invariant-loop-one l = record {
  free : l.self.held ≡ None;
  rows : l.self.rows ≡ l.fn.self.rows;
  leads_to : solo_with_events l.self (journal_of (slots_of l.self) (drop l.one-index l.uses)) None ≡ solo_with_events l.fn.self (journal_of (slots_of l.fn.self) l.uses) None;
  spare : HasSpare l.self (2 * (length l.uses - l.one-index));
}
