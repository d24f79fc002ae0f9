use Rattle.std.proofs.Common.{◌≡◌, ◌∙◌, ◌+◌, length, None, sym, ap, subst, slice_set}
use Rattle.std.specs.Prelude.{vec_capacity}
use Rattle.bc_profile.specs.Solo.{SoloData}
use Rattle.bc_profile.specs.Stamps.{IsSolo}
use Rattle.bc_profile.proofs.SoloLemmas.{keeps_put}
use Rattle.bc_profile.proofs.solo.Solo.put.Goals as goal

pub invariant_of-self : goal.invariant_of-self
invariant_of-self c =
    let s = c.self.inside in
    let is = subst (λ h. IsSolo s.keys.items s.epochs.items s.stamps.items s.rows.items s.registers.items s.journal.items h s.quota (vec_capacity s.journal)) (ap (λ (o : SoloData). o.held) c.self.view_is ∙ c.requires) c.self.invariant in
    let keys : c.len.result ≡ length s.keys.items = c.len.ensures ∙ s.keys.ok.0 in
    let events : c.len-2.result ≡ length s.journal.items = c.len-2.ensures ∙ s.journal.ok.0 in
    let stamp = ap (λ n. n + c.len-2.result) keys ∙ ap (λ n. length s.keys.items + n) events in
    subst (λ n. IsSolo s.keys.items s.epochs.items n s.rows.items s.registers.items c.push_reserved.new.self.items None s.quota (vec_capacity c.push_reserved.new.self))
    (sym (ap (λ at. slice_set s.stamps.items at (c.len.result + c.len-2.result)) c.from.ensures ∙ ap (slice_set s.stamps.items c.args.slot) stamp))
    (keeps_put c.self.inside.keys.items c.self.inside.epochs.items c.self.inside.stamps.items c.self.inside.rows.items c.self.inside.registers.items c.self.inside.journal.items c.self.inside.quota (vec_capacity c.self.inside.journal) c.args.slot c.push_reserved.new.self.items (vec_capacity c.push_reserved.new.self) is c.push_reserved.ensures.items c.push_reserved.ensures.capacity)
