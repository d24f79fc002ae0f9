use Rattle.std.proofs.Common.{◌≡◌, ◌++◌, take, map}
use Rattle.bc_text.specs.Lines.{lines_text}
use Rattle.bc_script.specs.ScriptText.{key_line}
use Rattle.bc_script.proofs.printing.put_keys.Given as goal

abbrev pub invariant-loop-key : goal.invariant-loop-key
invariant-loop-key l = l.text.items ≡ l.initial.text.items ++ lines_text (map key_line (take l.key-index l.keys))
