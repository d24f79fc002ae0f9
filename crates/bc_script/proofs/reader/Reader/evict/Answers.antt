use Rattle.std.proofs.Common.{◌∙◌}
use Rattle.bc_script.specs.declared.script_error.ScriptWhy.TheVariants as why
use Rattle.bc_script.specs.ScriptErrors.{is_declared, op_limit}
use Rattle.bc_script.specs.Progress.{forms_read}
use Rattle.bc_script.proofs.Refusals.{goes_on, no_room}
use Rattle.bc_script.proofs.Sayings.{said_evict}
use Rattle.bc_script.proofs.reader.Reader.evict.Goals as goal

pub returns-then-not-has_room : goal.returns-then-not-has_room
returns-then-not-has_room c =
    goes_on (is_declared c.args.name.now (forms_read c.args.self.now)) why.Name (op_limit (forms_read c.args.self.now)) c.in_ok-key.ensures.passes
    ∙ no_room c.args.self.now c.has_room.result c.has_room.ensures.rules c.has_room.ensures.test c.if-not-has_room.true

pub returns : goal.returns
returns c = said_evict c.args.self.now c.args.name.now c.in_ok-key.key c.has_room.result c.has_room.ensures.rules c.in_ok-key.ensures c.has_room.ensures.test c.if-not-has_room.false
