use Rattle.std.proofs.Common.{◌∙◌, ◌+◌, ◌≤◌, length, map, sym, ap, subst}
use Rattle.std.specs.Prelude.{vec_capacity}
use Rattle.bc_profile.specs.Solo.{SoloData, HasSpare}
use Rattle.bc_profile.specs.Rows.{row_of}
use Rattle.bc_profile.proofs.SoloLemmas.{free_parts, held_parts, keeps_reset, written_back}
use Rattle.bc_profile.proofs.solo.Solo.reset.Goals as goal

pub invariant_of-self : goal.invariant_of-self
invariant_of-self c =
    let is = free_parts c.self.inside.keys.items c.self.inside.epochs.items c.self.inside.stamps.items c.self.inside.rows.items c.self.inside.registers.items c.self.inside.journal.items c.self.inside.quota (vec_capacity c.self.inside.journal) c.self.inside.held (ap (λ (o : SoloData). o.held) c.self.view_is ∙ c.requires.free) c.self.invariant in
    let spare : length c.self.inside.journal.items + 1 ≤ c.self.inside.quota = subst (λ (o : SoloData). HasSpare o 1) (sym c.self.view_is) c.requires.spare in
    let s = c.self.inside in
    let written = c.program_again.ensures ∙ ap (λ r. map (row_of r) c.as_slice.result.now) c.as_slice-2.ensures.value ∙ ap (map (row_of s.rows.items)) c.as_slice.ensures.value in
    let back = written_back s.registers.len c.program_again.new.registers s.registers.items (c.program_again.auto.registers ∙ ap length c.as_mut_slice.ensures.value ∙ sym s.registers.ok.0) in
    held_parts _ _ _ _ _ _ _ _ s.held (ap (λ (o : SoloData). o.held) c.self.view_is ∙ c.requires.free)
    (keeps_reset c.self.inside.keys.items c.self.inside.epochs.items c.self.inside.stamps.items c.self.inside.rows.items c.self.inside.registers.items c.self.inside.journal.items c.self.inside.quota (vec_capacity c.self.inside.journal) is _ c.push_reserved.new.self.items (vec_capacity c.push_reserved.new.self) (back ∙ written) spare c.push_reserved.ensures.items c.push_reserved.ensures.capacity)
