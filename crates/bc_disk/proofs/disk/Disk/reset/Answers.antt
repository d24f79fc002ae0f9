use Rattle.std.proofs.Common.{◌+◌, ◌≤◌, ℕ, [], ◌∷◌, cond, get_or, set, subst, sym, ap, ◌∙◌, arith}
use Rattle.std.specs.Prelude.{◌==◌}
use Rattle.bc_profile.specs.declared.event.Event.TheVariants as events
use Rattle.bc_profile.specs.Passes.{IsOf}
use Rattle.bc_disk.specs.Disks.{IsPassOf, events_left, facts_on, pass_by}
use Rattle.bc_disk.specs.Evictions.{Resets}
use Rattle.bc_disk.proofs.Evictions.{Goes, has_part, pass_now, adds_at, events_now}
use Rattle.bc_disk.proofs.disk.Disk.reset.Goals as goal

pub reset-requires-clause-pass : goal.reset-requires-clause-pass
reset-requires-clause-pass g c =
    let disk = c.args.self.now in
    let inside = c.pass.inside.queue in
    let pass = pass_by inside.caller inside.slots.items inside.units in
    let read = c.index_mut.ensures.value ∙ ap (λ (k : ℕ). get_or inside.slots.items k c.index_mut.result.now) c.from-number.ensures in
    let part = has_part g.S.Store.contents disk pass c.args.device c.controller.result.now c.index_mut.result.now (subst (λ p. IsPassOf disk p) (sym c.pass.view_is) c.requires.pass) c.controller.ensures.at read
    (subst (λ p. 1 ≤ events_left disk p c.args.device) (sym c.pass.view_is) c.requires.events) in
    subst (λ p. IsOf p c.index_mut.result.now) (sym c.profile-profile.ensures) part.is_of

pub returns-clause-pass : goal.returns-clause-pass
returns-clause-pass g c =
    let disk = c.args.self.now in
    let inside = c.pass.inside.queue in
    let pass = pass_by inside.caller inside.slots.items inside.units in
    let read = c.index_mut.ensures.value ∙ ap (λ (k : ℕ). get_or inside.slots.items k c.index_mut.result.now) c.from-number.ensures in
    let part = has_part g.S.Store.contents disk pass c.args.device c.controller.result.now c.index_mut.result.now (subst (λ p. IsPassOf disk p) (sym c.pass.view_is) c.requires.pass) c.controller.ensures.at read
    (subst (λ p. 1 ≤ events_left disk p c.args.device) (sym c.pass.view_is) c.requires.events) in
    let after = c.reset.new.pass in
    let goes : Goes g.S.Store.contents disk pass c.args.device c.controller.result.now c.index_mut.result.now after = record { made = events.Reset ∷ []; few = omega arith; noticed = c.reset.ensures.reset } in
    subst (λ (k : ℕ). IsPassOf disk (pass_by inside.caller (set inside.slots.items k after) inside.units)) (sym c.from-number.ensures)
    (pass_now g.S.Store.contents disk pass c.args.device c.controller.result.now c.index_mut.result.now part after goes (subst (λ p. IsOf p after) c.profile-profile.ensures c.reset.ensures.pass) c.reset.ensures.free)

pub returns-clause-resets : goal.returns-clause-resets
returns-clause-resets g c =
    let disk = c.args.self.now in
    let inside = c.pass.inside.queue in
    let pass = pass_by inside.caller inside.slots.items inside.units in
    let read = c.index_mut.ensures.value ∙ ap (λ (k : ℕ). get_or inside.slots.items k c.index_mut.result.now) c.from-number.ensures in
    let part = has_part g.S.Store.contents disk pass c.args.device c.controller.result.now c.index_mut.result.now (subst (λ p. IsPassOf disk p) (sym c.pass.view_is) c.requires.pass) c.controller.ensures.at read
    (subst (λ p. 1 ≤ events_left disk p c.args.device) (sym c.pass.view_is) c.requires.events) in
    let after = c.reset.new.pass in
    let goes : Goes g.S.Store.contents disk pass c.args.device c.controller.result.now c.index_mut.result.now after = record { made = events.Reset ∷ []; few = omega arith; noticed = c.reset.ensures.reset } in
    subst (λ p. Resets (facts_on g.S.Store.contents disk p) (facts_on g.S.Store.contents disk (pass_by inside.caller (set inside.slots.items c.from-number.result after) inside.units)) c.args.device) c.pass.view_is
    (subst (λ (k : ℕ). Resets (facts_on g.S.Store.contents disk pass) (facts_on g.S.Store.contents disk (pass_by inside.caller (set inside.slots.items k after) inside.units)) c.args.device) (sym c.from-number.ensures)
    (adds_at g.S.Store.contents disk pass c.args.device c.controller.result.now c.index_mut.result.now part after goes).adds)

pub returns-clause-events : goal.returns-clause-events
returns-clause-events g c other =
    let disk = c.args.self.now in
    let inside = c.pass.inside.queue in
    let pass = pass_by inside.caller inside.slots.items inside.units in
    let read = c.index_mut.ensures.value ∙ ap (λ (k : ℕ). get_or inside.slots.items k c.index_mut.result.now) c.from-number.ensures in
    let part = has_part g.S.Store.contents disk pass c.args.device c.controller.result.now c.index_mut.result.now (subst (λ p. IsPassOf disk p) (sym c.pass.view_is) c.requires.pass) c.controller.ensures.at read
    (subst (λ p. 1 ≤ events_left disk p c.args.device) (sym c.pass.view_is) c.requires.events) in
    let after = c.reset.new.pass in
    let goes : Goes g.S.Store.contents disk pass c.args.device c.controller.result.now c.index_mut.result.now after = record { made = events.Reset ∷ []; few = omega arith; noticed = c.reset.ensures.reset } in
    subst (λ p. events_left disk p other ≤ events_left disk (pass_by inside.caller (set inside.slots.items c.from-number.result after) inside.units) other + cond (other == c.args.device) 1 0) c.pass.view_is
    (subst (λ (k : ℕ). events_left disk pass other ≤ events_left disk (pass_by inside.caller (set inside.slots.items k after) inside.units) other + cond (other == c.args.device) 1 0) (sym c.from-number.ensures)
    (events_now g.S.Store.contents disk pass c.args.device c.controller.result.now c.index_mut.result.now part after goes other))
