use Rattle.std.proofs.Common.{take}
use Rattle.bc_base.specs.Lists.{Each}
use Rattle.bc_report.specs.Report.{IsSkip}
use Rattle.bc_threads.proofs.journals.are_skips.Given as goal

abbrev pub invariant-loop-skip : goal.invariant-loop-skip
invariant-loop-skip l = record { ranges : Each IsSkip (take l.skip-index l.skips) }
