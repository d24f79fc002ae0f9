use Rattle.std.proofs.Common.{◌≡◌, map, take}
use Rattle.std.specs.List.{AllByRecursion}
use Rattle.bc_report.specs.Report.{IsEntry, IsPart}
use Rattle.bc_compose.specs.ClosedOrders.{report_line_of}
use Rattle.bc_section.proofs.lines.lines_of_shards.Given as goal

abbrev pub invariant-loop-order : goal.invariant-loop-order
invariant-loop-order l = record {
  lines : l.lists.items ≡ map (λ order. map report_line_of order.items) (take l.order-index l.orders);
  ranges : AllByRecursion (IsPart IsEntry) l.lists.items;
}
