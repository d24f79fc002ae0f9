use Rattle.std.proofs.Common.{map}
use Rattle.std.specs.String.{string_bytes}
use Rattle.bc_run.specs.Statuses.{SinkEffects}
use Rattle.bc_run.specs.Stages.{options_of_making}
use Rattle.bc_run.proofs.MakeEnds.{make_written}
use Rattle.bc_run.proofs.make.write_line.Goals as goal

pub returns-clause-status : goal.returns-clause-status
returns-clause-status g c =
    let effects : SinkEffects = record {
      faults_before = g.K.Sink.faults c.args.out.now;
      faults_after = g.K.Sink.faults c.write_text.new.out;
      held_before = g.K.Sink.held c.args.out.now;
      held_after = g.K.Sink.held c.write_text.new.out;
    } in
    make_written (map string_bytes c.args.words.now) effects (options_of_making c.in_ok-making.making) c.in_ok-line.line.items c.deref.result.now c.write_text.result
    c.in_ok-making.ensures.taken c.in_ok-making.ensures.said c.in_ok-line.ensures.made c.deref.ensures.value
    c.write_text.ensures.ok c.write_text.ensures.prefix c.write_text.ensures.fault c.write_text.ensures.cause.rose
