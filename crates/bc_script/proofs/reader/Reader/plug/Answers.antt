use Rattle.std.proofs.Common.{◌∙◌, subst}
use Rattle.bc_script.specs.ScriptErrors.{op_limit}
use Rattle.bc_script.specs.Progress.{Progress, forms_read}
use Rattle.bc_script.specs.Reading.{IsReading}
use Rattle.bc_script.proofs.Refusals.{is_plugged, is_unplugged, no_room}
use Rattle.bc_script.proofs.Sayings.{said_plug}
use Rattle.bc_script.proofs.reader.Reader.plug.Goals as goal

pub returns-then-self : goal.returns-then-self
returns-then-self c =
    let here = c.self.inside in
    let is = subst (λ (p : Progress). IsReading p here.lines here.plugged here.ops here.units) c.self.view_is c.self.invariant in
    is_plugged c.args.self.now here.lines here.ops here.units here.plugged (op_limit (forms_read c.args.self.now)) is c.if-self.true

pub returns-then-not-has_room : goal.returns-then-not-has_room
returns-then-not-has_room c =
    let here = c.self.inside in
    let is = subst (λ (p : Progress). IsReading p here.lines here.plugged here.ops here.units) c.self.view_is c.self.invariant in
    is_unplugged c.args.self.now here.lines here.ops here.units here.plugged (op_limit (forms_read c.args.self.now)) is c.if-self.false
    ∙ no_room c.args.self.now c.has_room.result c.has_room.ensures.rules c.has_room.ensures.test c.if-not-has_room.true

pub returns : goal.returns
returns c =
    let here = c.self.inside in
    let is = subst (λ (p : Progress). IsReading p here.lines here.plugged here.ops here.units) c.self.view_is c.self.invariant in
    said_plug c.args.self.now here.lines here.ops here.units here.plugged c.has_room.result is c.if-self.false c.has_room.ensures.test c.if-not-has_room.false
