use Rattle.std.proofs.Common.{length, ◌∙◌, ap, subst, ℕ}
use Rattle.std.proofs.lemmas.Result.{err_from_is_err_and}
use Rattle.bc_script.specs.Progress.{Progress, IsProgress}
use Rattle.bc_script.specs.Says.{SaysNumberBelow}
use Rattle.bc_script.proofs.Refusals.{reset_refused, reset_without_room}
use Rattle.bc_script.proofs.Sayings.{said_reset}
use Rattle.bc_script.proofs.reader.Reader.reset.Goals as goal

pub returns-in_err-device : goal.returns-in_err-device
returns-in_err-device c =
    let p = err_from_is_err_and c.from_residual.result c.from_residual.ensures.1 in
    let count = c.len.ensures ∙ c.self.inside.targets.ok.0 ∙ ap (λ (p : Progress). length p.targets) c.self.view_is in
    rw (p.1, p.2)
    (reset_refused c.args.self.now c.len.result c.args.device.now c.in_err-device.field-0.0 (subst IsProgress c.self.view_is c.self.invariant.rules) count c.in_err-device.ensures)

pub returns-then-not-has_room : goal.returns-then-not-has_room
returns-then-not-has_room c =
    reset_without_room c.args.self.now c.len.result c.args.device.now c.has_room.result c.has_room.ensures.rules (c.len.ensures ∙ c.self.inside.targets.ok.0 ∙ ap (λ (p : Progress). length p.targets) c.self.view_is) c.in_ok-device.ensures.passes c.has_room.ensures.test c.if-not-has_room.true

pub returns : goal.returns
returns c =
    let count = c.len.ensures ∙ c.self.inside.targets.ok.0 ∙ ap (λ (p : Progress). length p.targets) c.self.view_is in
    said_reset c.args.self.now c.args.device.now c.in_ok-device.device c.has_room.result c.has_room.ensures.rules (subst (λ (n : ℕ). SaysNumberBelow n c.args.device.now c.in_ok-device.device) count c.in_ok-device.ensures) c.has_room.ensures.test c.if-not-has_room.false
