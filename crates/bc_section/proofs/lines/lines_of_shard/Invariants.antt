use Rattle.std.proofs.Common.{◌≡◌, map, take}
use Rattle.std.specs.List.{AllByRecursion}
use Rattle.bc_report.specs.Report.{IsEntry}
use Rattle.bc_compose.specs.ClosedOrders.{report_line_of}
use Rattle.bc_section.proofs.lines.lines_of_shard.Given as goal

abbrev pub invariant-loop-entry : goal.invariant-loop-entry
invariant-loop-entry l = record {
  lines : l.lines.items ≡ map report_line_of (take l.entry-index l.entries);
  ranges : AllByRecursion IsEntry l.lines.items;
}
