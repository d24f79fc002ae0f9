use Rattle.std.proofs.Common.{None, ◌∙◌, subst}
use Rattle.bc_script.specs.ScriptErrors.{device_test}
use Rattle.bc_script.specs.Progress.{Progress, forms_read}
use Rattle.bc_script.specs.Reading.{IsReading}
use Rattle.bc_script.proofs.Refusals.{is_plugged, is_unplugged, not_whole}
use Rattle.bc_script.proofs.reader.Reader.end.Goals as goal

pub returns-then-self : goal.returns-then-self
returns-then-self c =
    let here = c.self.inside in
    let is = subst (λ (p : Progress). IsReading p here.lines here.plugged here.ops here.units) c.self.view_is c.self.invariant in
    is_plugged c.args.self.now here.lines here.ops here.units here.plugged (device_test (forms_read c.args.self.now) None) is c.if-self.true

pub returns-then-not-are_whole : goal.returns-then-not-are_whole
returns-then-not-are_whole c =
    let here = c.self.inside in
    let is = subst (λ (p : Progress). IsReading p here.lines here.plugged here.ops here.units) c.self.view_is c.self.invariant in
    is_unplugged c.args.self.now here.lines here.ops here.units here.plugged (device_test (forms_read c.args.self.now) None) is c.if-self.false
    ∙ not_whole c.args.self.now None c.are_whole.result is.rules c.are_whole.ensures.test c.if-not-are_whole.true
