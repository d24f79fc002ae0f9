use Rattle.std.proofs.Common.{◌≡◌, map}
use Rattle.std.specs.List.{range_with_len}
use Rattle.bc_script.specs.GeneratedScript.{generated_section}
use Rattle.bc_script.proofs.generator.sections.Given as goal

abbrev pub invariant-loop-thread : goal.invariant-loop-thread
invariant-loop-thread l = l.sections.items ≡ map (generated_section l.n) (range_with_len 0 l.thread)
