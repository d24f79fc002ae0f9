use Rattle.std.proofs.Common.{◌≡◌, ◌++◌, take}
use Rattle.std.specs.List.{flat_map}
use Rattle.bc_text.specs.Lines.{lines_text}
use Rattle.bc_script.specs.ScriptText.{section_lines}
use Rattle.bc_script.proofs.printing.put_sections.Given as goal

abbrev pub invariant-loop-section : goal.invariant-loop-section
invariant-loop-section l = l.text.items ≡ l.initial.text.items ++ lines_text (flat_map (section_lines l.keys) (take l.section-index l.threads))
