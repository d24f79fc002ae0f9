use Rattle.std.proofs.Common.{◌≡◌, ℕ, List, get_or, subst, ap, ◌∙◌, arith}
use Rattle.bc_base.proofs.Lists.{at_read}
use Rattle.bc_ufs.specs.Controllers.{ControllerData}
use Rattle.bc_disk.specs.Disks.{IsDisk, keys_in}
use Rattle.bc_disk.proofs.Evictions.{rows_here}
use Rattle.bc_disk.proofs.disk.Disk.controller.Goals as goal

pub returns-clause-rows : goal.returns-clause-rows
returns-clause-rows g c =
    let disk = c.args.self.now in
    let found = c.index-controllers-from.result in
    let is : IsDisk g.S.Store.owns disk = subst (λ d. IsDisk g.S.Store.owns d) c.self.view_is c.self.invariant.0 in
    let read : found ≡ get_or disk.queue.controllers c.args.device found =
    c.index-controllers-from.is ∙ ap (λ (l : List ControllerData). get_or l c.from.result found) (c.controllers.ensures ∙ ap (λ d. d.queue.controllers) c.self.view_is)
    ∙ ap (λ (k : ℕ). get_or disk.queue.controllers k found) c.from.ensures in
    rows_here (keys_in disk) disk.queue.controllers c.args.device found is.rows
    (at_read disk.queue.controllers c.args.device found (omega (arith, is.count, c.requires)) read)
