use Rattle.std.proofs.Common.{◌+◌, ◌≤◌, ℕ, cond, get_or, set, refl, subst, sym, ap, ◌∙◌, Option, None, Some}
use Rattle.std.specs.Prelude.{◌==◌, MatchResult}
use Rattle.std.proofs.lemmas.Result.{MatchResult-at_ok, MatchResult-at_err}
use Rattle.bc_profile.specs.Passes.{Evicts, IsOf, RefusesEviction, slots_in}
use Rattle.bc_disk.specs.declared.eviction.Busy.{Busy}
use Rattle.bc_disk.specs.Disks.{IsPassOf, events_left, facts_on, pass_by}
use Rattle.bc_disk.specs.Evictions.{AsksOne}
use Rattle.bc_disk.proofs.Evictions.{has_part, goes_by, pass_now, events_now, emptied, refused}
use Rattle.bc_disk.proofs.disk.Disk.ask.Goals as goal
use Rattle.bc_disk.proofs.disk.Disk.ask.Goals.{in-Ok, in-Err}

pub evict-requires-clause-pass : goal.evict-requires-clause-pass
evict-requires-clause-pass g c =
    let disk = c.args.self.now in
    let inside = c.pass.inside.queue in
    let pass = pass_by inside.caller inside.slots.items inside.units in
    let read = c.index_mut.ensures.value ∙ ap (λ (k : ℕ). get_or inside.slots.items k c.index_mut.result.now) c.from-number.ensures in
    let part = has_part g.S.Store.contents disk pass c.args.device c.controller.result.now c.index_mut.result.now (subst (λ p. IsPassOf disk p) (sym c.pass.view_is) c.requires.pass) c.controller.ensures.at read
    (subst (λ p. 1 ≤ events_left disk p c.args.device) (sym c.pass.view_is) c.requires.events) in
    subst (λ p. IsOf p c.index_mut.result.now) (sym c.profile-profile.ensures) part.is_of

pub returns-clause-pass : goal.returns-clause-pass
returns-clause-pass g c =
    let disk = c.args.self.now in
    let inside = c.pass.inside.queue in
    let pass = pass_by inside.caller inside.slots.items inside.units in
    let read = c.index_mut.ensures.value ∙ ap (λ (k : ℕ). get_or inside.slots.items k c.index_mut.result.now) c.from-number.ensures in
    let part = has_part g.S.Store.contents disk pass c.args.device c.controller.result.now c.index_mut.result.now (subst (λ p. IsPassOf disk p) (sym c.pass.view_is) c.requires.pass) c.controller.ensures.at read
    (subst (λ p. 1 ≤ events_left disk p c.args.device) (sym c.pass.view_is) c.requires.events) in
    let after = c.evict.new.pass in
    let evicted = subst (λ p. MatchResult c.evict.result (λ x. Evicts (slots_in p) c.index_mut.result.now after c.args.key.0) (λ busy. RefusesEviction (slots_in p) c.index_mut.result.now after c.args.key.0 busy.slot busy.refs)) c.profile-profile.ensures c.evict.ensures.evicted in
    let goes = goes_by g.S.Store.contents disk pass c.args.device c.controller.result.now c.index_mut.result.now after c.args.key.0 c.evict.result evicted in
    subst (λ (k : ℕ). IsPassOf disk (pass_by inside.caller (set inside.slots.items k after) inside.units)) (sym c.from-number.ensures)
    (pass_now g.S.Store.contents disk pass c.args.device c.controller.result.now c.index_mut.result.now part after goes (subst (λ p. IsOf p after) c.profile-profile.ensures c.evict.ensures.pass) c.evict.ensures.free)

pub returns-clause-asks : goal.returns-clause-asks
returns-clause-asks g c =
    let disk = c.args.self.now in
    let inside = c.pass.inside.queue in
    let pass = pass_by inside.caller inside.slots.items inside.units in
    let read = c.index_mut.ensures.value ∙ ap (λ (k : ℕ). get_or inside.slots.items k c.index_mut.result.now) c.from-number.ensures in
    let part = has_part g.S.Store.contents disk pass c.args.device c.controller.result.now c.index_mut.result.now (subst (λ p. IsPassOf disk p) (sym c.pass.view_is) c.requires.pass) c.controller.ensures.at read
    (subst (λ p. 1 ≤ events_left disk p c.args.device) (sym c.pass.view_is) c.requires.events) in
    let after = c.evict.new.pass in
    let evicted = subst (λ p. MatchResult c.evict.result (λ x. Evicts (slots_in p) c.index_mut.result.now after c.args.key.0) (λ busy. RefusesEviction (slots_in p) c.index_mut.result.now after c.args.key.0 busy.slot busy.refs)) c.profile-profile.ensures c.evict.ensures.evicted in
    let asks : Option Busy → Type 0 = (λ answer. AsksOne (facts_on g.S.Store.contents disk c.args.pass.now) (facts_on g.S.Store.contents disk (pass_by inside.caller (set inside.slots.items c.from-number.result after) inside.units)) c.args.device c.args.key.0 answer) in
    elim c.match-evict.branch [
      | in-Ok w ↦
          subst (λ r. MatchResult r (λ x. asks None) (λ busy. asks (Some busy))) (sym w.result-is)
          (subst (λ p. AsksOne (facts_on g.S.Store.contents disk p) (facts_on g.S.Store.contents disk (pass_by inside.caller (set inside.slots.items c.from-number.result after) inside.units)) c.args.device c.args.key.0 None) c.pass.view_is
          (subst (λ (k : ℕ). AsksOne (facts_on g.S.Store.contents disk pass) (facts_on g.S.Store.contents disk (pass_by inside.caller (set inside.slots.items k after) inside.units)) c.args.device c.args.key.0 None) (sym c.from-number.ensures)
          (emptied g.S.Store.contents disk pass c.args.device c.controller.result.now c.index_mut.result.now after c.args.key.0 part (MatchResult-at_ok (λ x. Evicts (slots_in c.controller.result.now.profile) c.index_mut.result.now after c.args.key.0) (λ busy. RefusesEviction (slots_in c.controller.result.now.profile) c.index_mut.result.now after c.args.key.0 busy.slot busy.refs) w.in-Ok.field-0 w.in-Ok.is evicted))))
      | in-Err w ↦
          let busy : Busy = record { device = c.args.device; slot = w.in-Err.busy.slot; refs = w.in-Err.busy.refs } in
          subst (λ r. MatchResult r (λ x. asks None) (λ found. asks (Some found))) (sym w.result-is)
          (subst (λ p. AsksOne (facts_on g.S.Store.contents disk p) (facts_on g.S.Store.contents disk (pass_by inside.caller (set inside.slots.items c.from-number.result after) inside.units)) c.args.device c.args.key.0 (Some busy)) c.pass.view_is
          (subst (λ (k : ℕ). AsksOne (facts_on g.S.Store.contents disk pass) (facts_on g.S.Store.contents disk (pass_by inside.caller (set inside.slots.items k after) inside.units)) c.args.device c.args.key.0 (Some busy)) (sym c.from-number.ensures)
          (refused g.S.Store.contents disk pass c.args.device c.controller.result.now c.index_mut.result.now after c.args.key.0 busy part refl (MatchResult-at_err (λ x. Evicts (slots_in c.controller.result.now.profile) c.index_mut.result.now after c.args.key.0) (λ found. RefusesEviction (slots_in c.controller.result.now.profile) c.index_mut.result.now after c.args.key.0 found.slot found.refs) w.in-Err.busy w.in-Err.is evicted))))
    ]

pub returns-clause-events : goal.returns-clause-events
returns-clause-events g c other =
    let disk = c.args.self.now in
    let inside = c.pass.inside.queue in
    let pass = pass_by inside.caller inside.slots.items inside.units in
    let read = c.index_mut.ensures.value ∙ ap (λ (k : ℕ). get_or inside.slots.items k c.index_mut.result.now) c.from-number.ensures in
    let part = has_part g.S.Store.contents disk pass c.args.device c.controller.result.now c.index_mut.result.now (subst (λ p. IsPassOf disk p) (sym c.pass.view_is) c.requires.pass) c.controller.ensures.at read
    (subst (λ p. 1 ≤ events_left disk p c.args.device) (sym c.pass.view_is) c.requires.events) in
    let after = c.evict.new.pass in
    let evicted = subst (λ p. MatchResult c.evict.result (λ x. Evicts (slots_in p) c.index_mut.result.now after c.args.key.0) (λ busy. RefusesEviction (slots_in p) c.index_mut.result.now after c.args.key.0 busy.slot busy.refs)) c.profile-profile.ensures c.evict.ensures.evicted in
    let goes = goes_by g.S.Store.contents disk pass c.args.device c.controller.result.now c.index_mut.result.now after c.args.key.0 c.evict.result evicted in
    subst (λ p. events_left disk p other ≤ events_left disk (pass_by inside.caller (set inside.slots.items c.from-number.result after) inside.units) other + cond (other == c.args.device) 1 0) c.pass.view_is
    (subst (λ (k : ℕ). events_left disk pass other ≤ events_left disk (pass_by inside.caller (set inside.slots.items k after) inside.units) other + cond (other == c.args.device) 1 0) (sym c.from-number.ensures)
    (events_now g.S.Store.contents disk pass c.args.device c.controller.result.now c.index_mut.result.now part after goes other))
