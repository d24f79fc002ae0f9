use Rattle.std.proofs.Common.{◌≡◌, flat_map}
use Rattle.std.specs.List.{range_with_len}
use Rattle.bc_script.specs.GeneratedScript.{generated_pair}
use Rattle.bc_script.proofs.generator.section.Given as goal

abbrev pub invariant-loop-j : goal.invariant-loop-j
invariant-loop-j l = l.section.items ≡ flat_map (generated_pair l.n l.thread) (range_with_len 0 l.j)
