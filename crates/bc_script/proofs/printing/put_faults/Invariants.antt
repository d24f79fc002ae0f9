use Rattle.std.proofs.Common.{◌≡◌, ◌++◌, take, map}
use Rattle.bc_text.specs.Lines.{lines_text}
use Rattle.bc_script.specs.ScriptText.{fault_line}
use Rattle.bc_script.proofs.printing.put_faults.Given as goal

abbrev pub invariant-loop-fault : goal.invariant-loop-fault
invariant-loop-fault l = l.text.items ≡ l.initial.text.items ++ lines_text (map fault_line (take l.fault-index l.faults))
