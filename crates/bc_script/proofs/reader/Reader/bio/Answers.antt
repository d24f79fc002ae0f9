use Rattle.std.proofs.lemmas.Result.{err_from_is_err_and}
use Rattle.bc_script.specs.Lent.{bio_lent}
use Rattle.bc_script.specs.Progress.{forms_read}
use Rattle.bc_script.proofs.Refusals.{key_passes, bio_sector_refused, bio_units_refused, bio_number_refused}
use Rattle.bc_script.proofs.Sayings.{says_bio}
use Rattle.bc_script.proofs.reader.Reader.bio.Goals as goal

pub returns-in_err-sector : goal.returns-in_err-sector
returns-in_err-sector c =
    let p = err_from_is_err_and c.from_residual-in_err-sector.result c.from_residual-in_err-sector.ensures.1 in
    let bio = bio_lent c.args.form.now in
    rw (p.1, p.2) (λ next. bio_sector_refused (forms_read c.args.self.now) bio next c.in_err-sector.field-0.0 (key_passes c.args.self.now bio.key c.in_ok-key.key c.in_ok-key.ensures) c.in_err-sector.ensures)

pub returns-in_err-units : goal.returns-in_err-units
returns-in_err-units c =
    let p = err_from_is_err_and c.from_residual-in_err-units.result c.from_residual-in_err-units.ensures.1 in
    let bio = bio_lent c.args.form.now in
    rw (p.1, p.2)
    (λ next. bio_units_refused (forms_read c.args.self.now) bio next c.in_err-units.field-0.0 (key_passes c.args.self.now bio.key c.in_ok-key.key c.in_ok-key.ensures) c.in_ok-sector.ensures.passes c.in_err-units.ensures)

pub returns-in_err-dun : goal.returns-in_err-dun
returns-in_err-dun c =
    let p = err_from_is_err_and c.from_residual-in_err-dun.result c.from_residual-in_err-dun.ensures.1 in
    let bio = bio_lent c.args.form.now in
    rw (p.1, p.2)
    (λ next. bio_number_refused (forms_read c.args.self.now) bio next c.in_err-dun.field-0.0 (key_passes c.args.self.now bio.key c.in_ok-key.key c.in_ok-key.ensures) c.in_ok-sector.ensures.passes c.in_ok-units.ensures.passes c.in_err-dun.ensures)

pub returns : goal.returns
returns c =
    says_bio c.args.self.now (bio_lent c.args.form.now) c.in_ok-key.key c.in_ok-dun.dun c.context_with.result c.in_ok-sector.sector c.in_ok-units.units c.requires.dashes c.in_ok-key.ensures c.in_ok-sector.ensures c.in_ok-units.ensures c.in_ok-dun.ensures c.context_with.ensures
