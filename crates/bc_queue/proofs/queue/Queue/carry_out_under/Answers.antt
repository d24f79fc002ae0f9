use Rattle.std.proofs.Common.{◌≡◌, ℕ, ◌+◌, List, refl, subst, sym, ap, ◌∙◌}
use Rattle.bc_key.specs.KeyList.{KeyList}
use Rattle.bc_medium.specs.declared.via.Via.TheVariants as ways
use Rattle.bc_medium.specs.Medium.{Belongs, MediumData}
use Rattle.bc_profile.specs.Passes.{HoldFacts}
use Rattle.bc_ufs.specs.Controllers.{ControllerData, via_by_device}
use Rattle.bc_queue.specs.Carrying.{ArePerformable, CarriesOut}
use Rattle.bc_queue.specs.Queues.{QueueData, InlineData, PassHasHold, TakesUnder, facts_by}
use Rattle.bc_queue.proofs.Queues.{has_hold, way_of, all_under}
use Rattle.bc_queue.proofs.queue.Queue.carry_out_under.Goals as goal

pub carry_out-requires-clause-ready : goal.carry_out-requires-clause-ready
carry_out-requires-clause-ready g c =
    let way = way_of c.args.self.now c.args.pass.now.slots.items c.args.device c.args.hold.now c.controller-controller.result.now in
    let is : c.new-access.result ≡ way = c.new-access.ensures ∙ ap (λ m. record { controller = c.controller-controller.result.now; hold = c.args.hold.now; medium = m; slots = c.args.pass.now.slots.items }) (ap (λ q. q.medium) c.self.view_is) in
    subst (λ w. Belongs w.medium c.args.pass.now.units × (c.args.pass.now.units.caller ≡ c.args.pass.now.caller) × PassHasHold w c.args.pass.now.slots.items) (sym is) (
      c.requires.belongs,
      c.requires.number,
      has_hold c.args.self.now c.args.pass.now.slots.items c.args.device c.args.hold.now c.controller-controller.result.now c.requires.holding c.controller-controller.ensures.at c.controller-controller.ensures.is_its,
    )

pub carry_out-requires-clause-units : goal.carry_out-requires-clause-units
carry_out-requires-clause-units g c =
    let way = way_of c.args.self.now c.args.pass.now.slots.items c.args.device c.args.hold.now c.controller-controller.result.now in
    let is : c.new-access.result ≡ way = c.new-access.ensures ∙ ap (λ m. record { controller = c.controller-controller.result.now; hold = c.args.hold.now; medium = m; slots = c.args.pass.now.slots.items }) (ap (λ q. q.medium) c.self.view_is) in
    let keys : c.keys.result.now ≡ c.args.self.now.medium.keys = c.keys.ensures ∙ ap (λ q. q.medium.keys) c.self.view_is in
    subst (λ w. ArePerformable c.keys.result.now.keys (TakesUnder g.S.Store.owns w) c.args.request.now.bios c.args.first c.args.count) (sym is)
    (subst (λ (ks : KeyList). ArePerformable ks.keys (TakesUnder g.S.Store.owns way) c.args.request.now.bios c.args.first c.args.count) (sym keys)
    (all_under g.S.Store.owns way c.args.self.now.medium.keys.keys c.args.device c.args.first c.args.count c.args.request.now.bios refl c.controller-controller.ensures.is_its (c.requires.units c.controller-controller.result.now c.controller-controller.ensures.at) c.requires.key))

pub returns-clause-carries : goal.returns-clause-carries
returns-clause-carries g c =
    let way = way_of c.args.self.now c.args.pass.now.slots.items c.args.device c.args.hold.now c.controller-controller.result.now in
    let is : c.new-access.result ≡ way = c.new-access.ensures ∙ ap (λ m. record { controller = c.controller-controller.result.now; hold = c.args.hold.now; medium = m; slots = c.args.pass.now.slots.items }) (ap (λ q. q.medium) c.self.view_is) in
    let after : c.carry_out.new.access ≡ way = c.carry_out.ensures.same ∙ is in
    subst (λ (d : ℕ). CarriesOut (facts_by g.S.Store.contents c.args.self.now.medium (ways.Inline d c.args.hold.now.slot c.args.hold.now.epoch) c.args.pass.now.units) (facts_by g.S.Store.contents c.args.self.now.medium (ways.Inline d c.args.hold.now.slot c.args.hold.now.epoch) c.carry_out.new.pass.units) c.args.request.now c.carry_out.new.request c.args.first c.args.count) c.controller-controller.ensures.is_its.device_is
    (subst (λ w. CarriesOut (facts_by g.S.Store.contents c.args.self.now.medium (via_by_device c.controller-controller.result.now c.args.hold.now) c.args.pass.now.units) (facts_by g.S.Store.contents w.medium (via_by_device w.controller w.hold) c.carry_out.new.pass.units) c.args.request.now c.carry_out.new.request c.args.first c.args.count) after
    (subst (λ w. CarriesOut (facts_by g.S.Store.contents w.medium (via_by_device w.controller w.hold) c.args.pass.now.units) (facts_by g.S.Store.contents c.carry_out.new.access.medium (via_by_device c.carry_out.new.access.controller c.carry_out.new.access.hold) c.carry_out.new.pass.units) c.args.request.now c.carry_out.new.request c.args.first c.args.count) is c.carry_out.ensures.carries))
