use Rattle.std.proofs.Common.{◌≡◌, ◌++◌, map, length}
use mathlib.Core.List.{reverse}
use Rattle.uses.proofs.disk.take_apart.Given as goal

abbrev pub invariant-loop-last : goal.invariant-loop-last
invariant-loop-last g l = l.passes.items ++ map (λ d. d.pass) (reverse l.done.items) ≡ map (λ d. d.pass) l.fn.done.items

abbrev pub decreases-loop-last : goal.decreases-loop-last
decreases-loop-last g l = length l.done.items
