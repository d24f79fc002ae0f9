use Rattle.std.proofs.Common.{◌≡◌, map}
use Rattle.bc_base.specs.Lists.{Each}
use Rattle.bc_report.specs.Report.{IsEvent, IsPart}
use Rattle.bc_threads.proofs.journals.journals_of.Given as goal

abbrev pub invariant-loop-device : goal.invariant-loop-device
invariant-loop-device l = record {
  journals : l.journals.items ≡ map (λ journal. journal.items) l.yielded;
  ranges : Each (IsPart IsEvent) l.journals.items;
}
