use Rattle.std.proofs.Common.{◌∙◌}
use Rattle.std.proofs.lemmas.Result.{err_from_is_err_and}
use Rattle.bc_script.specs.ScriptErrors.{bio_limits}
use Rattle.bc_script.specs.Lent.{bio_lent}
use Rattle.bc_script.specs.Progress.{forms_read}
use Rattle.bc_script.proofs.Refusals.{no_room_for}
use Rattle.bc_script.proofs.Sayings.{said_read}
use Rattle.bc_script.proofs.reader.Reader.read.Goals as goal

pub returns-in_err-context : goal.returns-in_err-context
returns-in_err-context c =
    let p = err_from_is_err_and c.from_residual.result c.from_residual.ensures.1 in
    rw (p.1, p.2) (c.in_err-context.ensures (bio_limits (forms_read c.args.self.now) (bio_lent c.args.form)))

pub returns-then-not-has_room_for : goal.returns-then-not-has_room_for
returns-then-not-has_room_for c =
    c.in_ok-context.ensures.passes (bio_limits (forms_read c.args.self.now) (bio_lent c.args.form))
    ∙ no_room_for c.args.self.now (bio_lent c.args.form) _ c.unit_sectors.result c.unit_sectors.ensures.rules c.in_ok-context.ensures c.unit_sectors.ensures.value c.has_room_for.result c.has_room_for.ensures.test c.if-not-has_room_for.true

pub returns : goal.returns
returns c =
    said_read c.args.self.now (bio_lent c.args.form) _ c.unit_sectors.result c.has_room_for.result c.unit_sectors.ensures.rules c.in_ok-context.ensures c.unit_sectors.ensures.value c.has_room_for.ensures.test c.if-not-has_room_for.false
