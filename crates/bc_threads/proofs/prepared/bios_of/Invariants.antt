use Rattle.std.proofs.Common.{◌≡◌, ℕ, length}
use Rattle.bc_base.specs.Lists.{AllAt}
use Rattle.bc_threads.specs.PreparedBios.{IsMadeFor}
use Rattle.bc_threads.proofs.prepared.bios_of.Given as goal

abbrev pub invariant-loop-op : goal.invariant-loop-op
invariant-loop-op l = record {
  count : length l.bios.items ≡ l.op;
  each : (k : ℕ) → AllAt l.bios.items k (λ made. AllAt l.section k (λ operation. IsMadeFor l.script k operation made));
}
