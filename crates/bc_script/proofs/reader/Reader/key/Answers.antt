use Rattle.std.proofs.Common.{length, refl, ap, ◌∙◌}
use Rattle.std.proofs.lemmas.Result.{err_from_is_err_and}
use Rattle.bc_script.specs.Lent.{key_lent}
use Rattle.bc_script.specs.Progress.{Progress, forms_read}
use Rattle.bc_script.proofs.Refusals.{key_unit_refused, key_dun_refused, key_digits_refused, no_key, key_not_whole, too_many_keys}
use Rattle.bc_script.proofs.reader.Reader.key.Goals as goal

pub returns-in_err-unit : goal.returns-in_err-unit
returns-in_err-unit c =
    let p = err_from_is_err_and c.from_residual-in_err-unit.result c.from_residual-in_err-unit.ensures.1 in
    rw (p.1, p.2) (key_unit_refused (forms_read c.args.self.now) (key_lent c.args.form) c.in_err-unit.field-0.0 c.in_ok-name.ensures.passes c.in_err-unit.ensures)

pub returns-in_err-dun_bytes : goal.returns-in_err-dun_bytes
returns-in_err-dun_bytes c =
    let p = err_from_is_err_and c.from_residual-in_err-dun_bytes.result c.from_residual-in_err-dun_bytes.ensures.1 in
    rw (p.1, p.2) (key_dun_refused (forms_read c.args.self.now) (key_lent c.args.form) c.in_err-dun_bytes.field-0.0 c.in_ok-name.ensures.passes c.in_ok-unit.ensures.passes c.in_err-dun_bytes.ensures)

pub returns-in_default : goal.returns-in_default
returns-in_default c = key_digits_refused (forms_read c.args.self.now) (key_lent c.args.form) c.in_ok-name.ensures.passes c.in_ok-unit.ensures.passes c.in_ok-dun_bytes.ensures.passes c.in_default.ensures

pub returns-in-Err : goal.returns-in-Err
returns-in-Err c =
    no_key (forms_read c.args.self.now) (key_lent c.args.form) c.as_slice.result.now c.in_ok-unit.unit c.in_ok-dun_bytes.dun_bytes
    (c.as_slice.ensures.value ∙ c.in-Some.ensures.value) c.in_ok-unit.ensures.value c.in_ok-dun_bytes.ensures.value c.in-Err.error
    c.in_ok-name.ensures.passes c.in_ok-unit.ensures.passes c.in_ok-dun_bytes.ensures.passes c.in-Some.ensures.passes c.in-Err.ensures.refuses

pub returns-then-not-are_whole : goal.returns-then-not-are_whole
returns-then-not-are_whole c =
    let key = key_lent c.args.form in
    key_not_whole (forms_read c.args.self.now) key c.as_slice.result.now c.in_ok-unit.unit c.in_ok-dun_bytes.dun_bytes
    (c.as_slice.ensures.value ∙ c.in-Some.ensures.value) c.in_ok-unit.ensures.value c.in_ok-dun_bytes.ensures.value
    c.in_ok-name.ensures.passes c.in_ok-unit.ensures.passes c.in_ok-dun_bytes.ensures.passes c.in-Some.ensures.passes c.in-Ok.ensures.accepts
    c.args.self.now c.are_whole.result refl c.are_whole.ensures.rules c.are_whole.ensures.test c.if-not-are_whole.true

pub returns-then-len-ge-MAX_KEYS : goal.returns-then-len-ge-MAX_KEYS
returns-then-len-ge-MAX_KEYS c =
    let key = key_lent c.args.form in
    too_many_keys (forms_read c.args.self.now) key c.as_slice.result.now c.in_ok-unit.unit c.in_ok-dun_bytes.dun_bytes
    (c.as_slice.ensures.value ∙ c.in-Some.ensures.value) c.in_ok-unit.ensures.value c.in_ok-dun_bytes.ensures.value
    c.in_ok-name.ensures.passes c.in_ok-unit.ensures.passes c.in_ok-dun_bytes.ensures.passes c.in-Some.ensures.passes c.in-Ok.ensures.accepts
    c.args.self.now c.are_whole.result refl c.are_whole.ensures.rules c.are_whole.ensures.test
    c.len.result c.if-not-are_whole.false (c.len.ensures ∙ ap (λ (p : Progress). length p.keys) c.self.view_is) c.if-len-ge-MAX_KEYS.true
