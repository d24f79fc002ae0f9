use Rattle.std.proofs.Common.{subst, IfSome}
use Rattle.bc_run.specs.Command.{IsScriptTextOf}
use Rattle.bc_run.specs.Statuses.{Effects, ScriptEndsBy}
use Rattle.bc_run.specs.Stages.{status_of}
use Rattle.bc_run.specs.Words.{Options}
use Rattle.bc_run.proofs.Ends.{accepted_of, ends_by}
use Rattle.bc_run.proofs.program.stages.Goals as goal

pub returns-clause-status : goal.returns-clause-status
returns-clause-status g c =
    let script = c.in_ok-script.script in
    let effects : Effects = record {
      files_before = g.F.Folder.files c.args.folder.now;
      files_after = g.F.Folder.files c.run_script.new.folder;
      folder_faults_before = g.F.Folder.faults c.args.folder.now;
      folder_faults_after = g.F.Folder.faults c.run_script.new.folder;
      write_faults_before = g.K.Sink.faults c.args.out.now;
      write_faults_after = g.K.Sink.faults c.run_script.new.out;
      held_before = g.K.Sink.held c.args.out.now;
      held_after = g.K.Sink.held c.run_script.new.out;
    } in
    let accepted : IfSome (g.S.Source.left c.args.source.now) (λ t. IsScriptTextOf t script) =
    accepted_of (g.S.Source.left c.args.source.now) (g.S.Source.left c.read_script.new.source) c.in_ok-text.text.items script
    c.in_ok-text.ensures.all c.in_ok-text.ensures.end c.in_ok-text.ensures.within (rw (← c.deref.ensures.value) c.in_ok-script.ensures.ok) in
    ends_by _ script (status_of c.run_script.result) c.in_ok-options.ensures.taken accepted
    (subst (λ (o : Options). ScriptEndsBy effects o script (status_of c.run_script.result)) c.in_ok-options.ensures.said c.run_script.ensures.status)
