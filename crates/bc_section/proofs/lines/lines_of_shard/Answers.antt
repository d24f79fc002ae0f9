use Rattle.std.proofs.Common.{◌≡◌, sym, subst}
use Rattle.std.specs.List.{AllByRecursion}
use Rattle.bc_report.specs.Report.{IsEntry}
use Rattle.bc_compose.specs.ClosedOrders.{report_line_of}
use Rattle.bc_section.proofs.Openings.{map_more, each_more}
use Rattle.bc_section.proofs.lines.lines_of_shard.Goals as goal

pub loop-entry-init : goal.loop-entry-init
loop-entry-init c = record { lines = c.in_ok-lines.ensures.items; ranges = subst (AllByRecursion IsEntry) (sym c.in_ok-lines.ensures.items) tt }

pub loop-entry-preserved : goal.loop-entry-preserved
loop-entry-preserved c =
    let line : c.line_of.result ≡ report_line_of c.entry-item.result = c.line_of.ensures.line in
    record {
      lines = map_more report_line_of c.args.entries.now c.loop-entry.entry-index c.entry-item.result c.loop-entry.lines.items c.push.new.self.items c.line_of.result
          c.loop-entry-test.true c.entry-item.is c.loop-entry.invariant.lines line c.in_ok-push.ensures.items;
      ranges = each_more IsEntry c.loop-entry.lines.items c.push.new.self.items c.line_of.result c.in_ok-push.ensures.items c.loop-entry.invariant.ranges c.line_of.ensures.range;
    }
