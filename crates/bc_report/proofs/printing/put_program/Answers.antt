use Rattle.std.proofs.Common.{codes}
use Rattle.std.specs.Fmt.{decimal}
use Rattle.bc_report.specs.ReportText.{skip_fields}
use Rattle.bc_report.proofs.Printed.{program_parts}
use Rattle.bc_report.proofs.printing.put_program.Goals as goal

pub returns : goal.returns
returns c =
    program_parts (codes "program") (decimal c.args.slot) (decimal c.args.key) (skip_fields c.args.skipped.now) c.args.text.now.items c.extend_from_slice.new.self.items c.put_next_number.new.text.items
    c.put_next_number-2.new.text.items c.put_skips.new.text.items c.push.new.self.items c.in_ok-extend_from_slice.ensures.items c.in_ok-put_next_number.ensures c.in_ok-put_next_number-2.ensures
    c.in_ok-put_skips.ensures c.in_ok-push.ensures.items
