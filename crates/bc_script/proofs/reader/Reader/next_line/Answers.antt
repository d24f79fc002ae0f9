use Rattle.std.proofs.Common.{arith}
use Rattle.bc_script.proofs.Readings.{few_lines}
use Rattle.bc_script.proofs.reader.Reader.next_line.Goals as goal

pub overflow_add-result : goal.overflow_add-result
overflow_add-result c = omega (arith, few_lines _ c.self.inside.lines c.self.inside.ops c.self.inside.units c.self.inside.plugged c.self.invariant)
