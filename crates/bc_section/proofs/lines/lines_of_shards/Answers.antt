use Rattle.std.proofs.Common.{◌≡◌, ◌∙◌, ◌<◌, ◌^◌, map, Vec, Global, sym, ap, subst, arith, length}
use Rattle.std.specs.List.{AllByRecursion}
use Rattle.std.proofs.lemmas.List.{length-map}
use Rattle.bc_medium.specs.declared.entry.Entry.{Entry}
use Rattle.bc_section.proofs.Lists.{all_read}
use Rattle.bc_report.specs.Report.{IsEntry, IsPart}
use Rattle.bc_compose.specs.ClosedOrders.{report_line_of}
use Rattle.bc_section.proofs.Openings.{map_more, each_more}
use Rattle.bc_section.proofs.lines.lines_of_shards.Goals as goal

pub loop-order-init : goal.loop-order-init
loop-order-init c = record { lines = c.in_ok-lists.ensures.items; ranges = subst (AllByRecursion (IsPart IsEntry)) (sym c.in_ok-lists.ensures.items) tt }

pub loop-order-preserved : goal.loop-order-preserved
loop-order-preserved c =
    let order = c.order-item.result in
    let lines : c.in_ok-lines.lines ≡ map report_line_of order.items = c.in_ok-lines.ensures.lines ∙ ap (map report_line_of) c.as_slice.ensures.value in
    let few : length order.items < 2 ^ 32 = all_read (λ (o : Vec Entry Global). length o.items < 2 ^ 32) c.args.orders.now c.loop-order.order-index order c.requires.few c.loop-order-test.true c.order-item.is in
    record {
      lines = map_more (λ (o : Vec Entry Global). map report_line_of o.items) c.args.orders.now c.loop-order.order-index order c.loop-order.lists.items c.push.new.self.items c.in_ok-lines.lines
          c.loop-order-test.true c.order-item.is c.loop-order.invariant.lines lines c.in_ok-push.ensures.items;
      ranges = each_more (IsPart IsEntry) c.loop-order.lists.items c.push.new.self.items c.in_ok-lines.lines c.in_ok-push.ensures.items c.loop-order.invariant.ranges
          (record { count = omega (arith, ap length lines, length-map order.items report_line_of); each = c.in_ok-lines.ensures.ranges });
    }
