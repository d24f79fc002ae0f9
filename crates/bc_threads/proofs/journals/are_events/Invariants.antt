use Rattle.std.proofs.Common.{take}
use Rattle.bc_base.specs.Lists.{Each}
use Rattle.bc_report.specs.Report.{IsEvent}
use Rattle.bc_threads.proofs.journals.are_events.Given as goal

abbrev pub invariant-loop-event : goal.invariant-loop-event
invariant-loop-event l = record { ranges : Each IsEvent (take l.event-index l.events) }
