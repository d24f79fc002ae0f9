use Rattle.std.proofs.Common.{◌≡◌, ℕ, ◌<◌, List, length, get_or, subst, sym, ap, ◌∙◌}
use Rattle.bc_base.proofs.Lists.{at_read}
use Rattle.bc_ufs.specs.Controllers.{ControllerData}
use Rattle.bc_queue.specs.Queues.{QueueData, IsController, AreControllers}
use Rattle.bc_queue.proofs.Queues.{from_start}
use Rattle.bc_queue.proofs.queue.Queue.controller.Goals as goal

pub returns-clause-is_its : goal.returns-clause-is_its
returns-clause-is_its g c =
    let queue = c.args.self.now in
    let are : AreControllers queue.medium.keys.keys queue.controllers = subst (λ q. AreControllers q.medium.keys.keys q.controllers) c.self.view_is c.self.invariant in
    let is : c.index.result.now ≡ get_or queue.controllers c.args.device c.index.result.now =
    c.index.ensures ∙ ap (λ (l : List ControllerData). get_or l c.from.result c.index.result.now) (ap (λ q. q.controllers) c.self.view_is) ∙ ap (λ (k : ℕ). get_or queue.controllers k c.index.result.now) c.from.ensures in
    from_start (IsController queue.medium.keys.keys) queue.controllers c.args.device c.index.result.now are (at_read queue.controllers c.args.device c.index.result.now c.requires is)
