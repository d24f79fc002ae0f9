use Rattle.std.proofs.Common.{List, ℕ, subst}
use Rattle.bc_report.specs.LawfulRun.{LawfulButHolders}
use Rattle.bc_report.specs.SerialRun.{IsSerialRun}
use Rattle.bc_run.proofs.make.over_zeros.Goals as goal

pub returns-clause-lawful : goal.returns-clause-lawful
returns-clause-lawful g c =
    subst (λ (image : List ℕ). LawfulButHolders c.args.script.now image c.args.making.shards c.in_ok-finished.finished.report c.in_ok-finished.finished.image.items)
    c.in_ok-image.ensures.ok c.in_ok-finished.ensures.lawful

pub returns-clause-one_caller : goal.returns-clause-one_caller
returns-clause-one_caller g c = λ in_turn.
    subst (λ (image : List ℕ). IsSerialRun c.args.script.now image c.args.making.shards c.in_ok-finished.finished.report c.in_ok-finished.finished.image.items)
    c.in_ok-image.ensures.ok (c.in_ok-finished.ensures.one_caller in_turn)
