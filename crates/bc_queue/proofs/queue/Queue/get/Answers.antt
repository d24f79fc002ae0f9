use Rattle.std.proofs.Common.{◌≡◌, ℕ, ◌<◌, List, length, get_or, set, subst, sym, ap, ◌∙◌, arith}
use Rattle.bc_base.proofs.Lists.{at_read}
use Rattle.bc_profile.specs.Passes.{SlotFacts, IsOf, HasSpare}
use Rattle.bc_ufs.specs.Controllers.{ControllerData}
use Rattle.bc_queue.specs.Queues.{HasGot}
use Rattle.bc_queue.proofs.Queues.{inside, Chosen, chosen, got}
use Rattle.bc_queue.proofs.queue.Queue.get.Goals as goal
use Rattle.bc_base.proofs.Members.{zip_length}

pub index_mut-requires : goal.index_mut-requires
index_mut-requires g c =
    let long : length c.args.pass.now.slots.items ≡ length c.args.self.now.controllers = zip_length (λ (x : ControllerData) (p : SlotFacts). IsOf x.profile p) c.args.self.now.controllers c.args.pass.now.slots.items c.requires.pass.each in
    omega (arith, long, c.from.ensures, c.requires.device)

pub get-requires-clause-pass : goal.get-requires-clause-pass
get-requires-clause-pass g c =
    let long : length c.args.pass.now.slots.items ≡ length c.args.self.now.controllers = zip_length (λ (x : ControllerData) (p : SlotFacts). IsOf x.profile p) c.args.self.now.controllers c.args.pass.now.slots.items c.requires.pass.each in
    let here = at_read c.args.pass.now.slots.items c.args.device c.index_mut.result.now (omega (arith, long, c.requires.device)) (c.index_mut.ensures.value ∙ ap (λ (k : ℕ). get_or c.args.pass.now.slots.items k c.index_mut.result.now) c.from.ensures) in
    let is = chosen c.args.self.now c.args.pass.now.slots.items c.args.device c.controller.result.now c.index_mut.result.now c.controller.ensures.at here c.requires.pass.each c.requires.free c.requires.events in
    subst (λ p. IsOf p c.index_mut.result.now) (sym c.profile-profile.ensures) is.is_of

pub get-requires-clause-free : goal.get-requires-clause-free
get-requires-clause-free g c =
    let long : length c.args.pass.now.slots.items ≡ length c.args.self.now.controllers = zip_length (λ (x : ControllerData) (p : SlotFacts). IsOf x.profile p) c.args.self.now.controllers c.args.pass.now.slots.items c.requires.pass.each in
    let here = at_read c.args.pass.now.slots.items c.args.device c.index_mut.result.now (omega (arith, long, c.requires.device)) (c.index_mut.ensures.value ∙ ap (λ (k : ℕ). get_or c.args.pass.now.slots.items k c.index_mut.result.now) c.from.ensures) in
    let is = chosen c.args.self.now c.args.pass.now.slots.items c.args.device c.controller.result.now c.index_mut.result.now c.controller.ensures.at here c.requires.pass.each c.requires.free c.requires.events in
    is.free

pub get-requires-clause-spare : goal.get-requires-clause-spare
get-requires-clause-spare g c =
    let long : length c.args.pass.now.slots.items ≡ length c.args.self.now.controllers = zip_length (λ (x : ControllerData) (p : SlotFacts). IsOf x.profile p) c.args.self.now.controllers c.args.pass.now.slots.items c.requires.pass.each in
    let here = at_read c.args.pass.now.slots.items c.args.device c.index_mut.result.now (omega (arith, long, c.requires.device)) (c.index_mut.ensures.value ∙ ap (λ (k : ℕ). get_or c.args.pass.now.slots.items k c.index_mut.result.now) c.from.ensures) in
    let is = chosen c.args.self.now c.args.pass.now.slots.items c.args.device c.controller.result.now c.index_mut.result.now c.controller.ensures.at here c.requires.pass.each c.requires.free c.requires.events in
    subst (λ p. HasSpare p c.index_mut.result.now 2) (sym c.profile-profile.ensures) is.spare

pub returns-clause-got : goal.returns-clause-got
returns-clause-got g c =
    let long : length c.args.pass.now.slots.items ≡ length c.args.self.now.controllers = zip_length (λ (x : ControllerData) (p : SlotFacts). IsOf x.profile p) c.args.self.now.controllers c.args.pass.now.slots.items c.requires.pass.each in
    let here = at_read c.args.pass.now.slots.items c.args.device c.index_mut.result.now (omega (arith, long, c.requires.device)) (c.index_mut.ensures.value ∙ ap (λ (k : ℕ). get_or c.args.pass.now.slots.items k c.index_mut.result.now) c.from.ensures) in
    let is = chosen c.args.self.now c.args.pass.now.slots.items c.args.device c.controller.result.now c.index_mut.result.now c.controller.ensures.at here c.requires.pass.each c.requires.free c.requires.events in
    subst (λ (k : ℕ). HasGot c.args.self.now c.args.pass.now.slots.items (set c.args.pass.now.slots.items k c.get.new.pass) c.args.device c.args.key.0 c.get.result) (sym c.from.ensures)
    (got c.args.self.now c.args.pass.now.slots.items c.args.device c.args.key.0 c.controller.result.now c.index_mut.result.now c.get.new.pass c.get.result is
    (subst (λ p. IsOf p c.get.new.pass) c.profile-profile.ensures c.get.ensures.pass) c.get.ensures.held c.get.ensures.key
    (subst (λ p. Rattle.bc_profile.specs.Passes.Gets (Rattle.bc_profile.specs.Passes.slots_in p) c.index_mut.result.now c.get.new.pass c.args.key.0 c.get.result.slot) c.profile-profile.ensures c.get.ensures.got)
    (subst (λ p. Rattle.bc_profile.specs.Story.Holds (Rattle.bc_profile.specs.Passes.slots_in p) c.get.new.pass.seen c.args.key.0 c.get.result.slot c.get.result.epoch) c.profile-profile.ensures c.get.ensures.holds))
