use Rattle.std.proofs.Common.{◌∙◌, ap}
use Rattle.std.proofs.lemmas.Result.{IfOk-weaker}
use Rattle.bc_run.specs.Making.{make_line_of}
use Rattle.bc_run.specs.Stages.{options_of_making}
use Rattle.bc_run.proofs.MakeEnds.{is_made}
use Rattle.bc_run.proofs.make.made.Goals as goal

pub returns-clause-made : goal.returns-clause-made
returns-clause-made g c =
    IfOk-weaker c.line_left.result _ _ (λ line is.
    is_made c.runs_leave_the_made_image.ensures (options_of_making c.args.making) c.in_ok-script.script c.in_ok-finished.finished.report c.in_ok-finished.finished.image.items line.items
    c.requires.ranges c.in_ok-script.ensures.script c.in_ok-finished.ensures.lawful c.in_ok-finished.ensures.one_caller
    (is ∙ ap (make_line_of c.args.making.n) c.deref.ensures.value)) c.line_left.ensures.line
