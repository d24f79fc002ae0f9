use Rattle.std.proofs.Common.{◌∙◌, ap, subst}
use Rattle.bc_profile.specs.SlotJournal.{AllIdle}
use Rattle.bc_profile.specs.Stamps.{IsSolo}
use Rattle.bc_profile.specs.Solo.{SoloData}
use Rattle.bc_profile.proofs.SoloLemmas.{all_idle}
use Rattle.std.specs.Prelude.{vec_capacity}
use Rattle.bc_profile.proofs.solo.Solo.close.Goals as goal

pub returns-clause-all_idle : goal.returns-clause-all_idle
returns-clause-all_idle c free =
    let s = c.self.inside in
    let is = subst (λ h. IsSolo s.keys.items s.epochs.items s.stamps.items s.rows.items s.registers.items s.journal.items h s.quota (vec_capacity s.journal)) (ap (λ (o : SoloData). o.held) c.self.view_is ∙ free) c.self.invariant in
    subst (λ (o : SoloData). AllIdle o.count o.journal) c.self.view_is
    (all_idle s.keys.items s.epochs.items s.stamps.items s.rows.items s.registers.items s.journal.items s.quota (vec_capacity s.journal) is)
