use Rattle.std.proofs.lemmas.Result.{err_from_is_err_and}
use Rattle.bc_script.specs.declared.script_error.ScriptWhy.TheVariants as why
use Rattle.bc_script.specs.ScriptErrors.{first_why, is_text, size_of, bio_limits}
use Rattle.bc_script.specs.Lent.{bio_lent, text_lent}
use Rattle.bc_script.specs.Progress.{forms_read}
use Rattle.bc_script.proofs.Refusals.{text_refused, write_without_room}
use Rattle.bc_script.proofs.Sayings.{said_write}
use Rattle.bc_script.proofs.reader.Reader.write.Goals as goal

pub returns-in_err-context : goal.returns-in_err-context
returns-in_err-context c =
    let p = err_from_is_err_and c.from_residual.result c.from_residual.ensures.1 in
    let above = forms_read c.args.self.now in
    let bio = bio_lent c.args.form in
    rw (p.1, p.2) (c.in_err-context.ensures (first_why (is_text (size_of above bio) (text_lent c.args.text)) why.Hex (bio_limits above bio)))

pub returns-in_err-text : goal.returns-in_err-text
returns-in_err-text c =
    let p = err_from_is_err_and c.from_residual-in_err-text.result c.from_residual-in_err-text.ensures.1 in
    rw (p.1, p.2)
    (text_refused c.args.self.now (bio_lent c.args.form) _ c.unit_sectors-sectors.result c.unit_sectors-sectors.ensures.rules c.in_ok-context.ensures c.unit_sectors-sectors.ensures.value (text_lent c.args.text) c.in_err-text.field-0.0 c.in_err-text.ensures)

pub returns-then-not-has_room_for : goal.returns-then-not-has_room_for
returns-then-not-has_room_for c =
    write_without_room c.args.self.now (bio_lent c.args.form) _ c.unit_sectors-sectors.result c.unit_sectors-sectors.ensures.rules c.in_ok-context.ensures c.unit_sectors-sectors.ensures.value (text_lent c.args.text) c.has_room_for.result
    c.in_ok-text.ensures.passes c.has_room_for.ensures.test c.if-not-has_room_for.true

pub returns : goal.returns
returns c =
    said_write c.args.self.now (bio_lent c.args.form) _ c.unit_sectors-sectors.result c.has_room_for.result c.unit_sectors-sectors.ensures.rules c.in_ok-context.ensures c.unit_sectors-sectors.ensures.value c.has_room_for.ensures.test c.if-not-has_room_for.false
    (text_lent c.args.text) c.in_ok-text.text c.in_ok-text.ensures
