use Rattle.std.proofs.Common.{◌∙◌, subst}
use Rattle.bc_script.specs.declared.script_error.ScriptWhy.TheVariants as why
use Rattle.bc_script.specs.ScriptErrors.{op_limit, is_open}
use Rattle.bc_script.specs.Progress.{Progress, forms_read}
use Rattle.bc_script.specs.Reading.{IsReading}
use Rattle.bc_script.proofs.Refusals.{fails, goes_on, open_is, no_room}
use Rattle.bc_script.proofs.Sayings.{said_unplug}
use Rattle.bc_script.proofs.reader.Reader.unplug.Goals as goal

pub returns-then-not-self : goal.returns-then-not-self
returns-then-not-self c =
    let here = c.self.inside in
    let is = subst (λ (p : Progress). IsReading p here.lines here.plugged here.ops here.units) c.self.view_is c.self.invariant in
    fails (is_open (forms_read c.args.self.now)) why.Order (op_limit (forms_read c.args.self.now)) (open_is c.args.self.now here.lines here.ops here.units here.plugged is ∙ c.if-not-self.true)

pub returns-then-not-has_room : goal.returns-then-not-has_room
returns-then-not-has_room c =
    let here = c.self.inside in
    let is = subst (λ (p : Progress). IsReading p here.lines here.plugged here.ops here.units) c.self.view_is c.self.invariant in
    goes_on (is_open (forms_read c.args.self.now)) why.Order (op_limit (forms_read c.args.self.now)) (open_is c.args.self.now here.lines here.ops here.units here.plugged is ∙ c.if-not-self.false)
    ∙ no_room c.args.self.now c.has_room.result c.has_room.ensures.rules c.has_room.ensures.test c.if-not-has_room.true

pub returns : goal.returns
returns c =
    let here = c.self.inside in
    let is = subst (λ (p : Progress). IsReading p here.lines here.plugged here.ops here.units) c.self.view_is c.self.invariant in
    said_unplug c.args.self.now here.lines here.ops here.units here.plugged c.has_room.result is c.if-not-self.false c.has_room.ensures.test c.if-not-has_room.false
