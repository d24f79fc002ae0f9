use Rattle.std.proofs.Common.{◌≡◌, ◌++◌, map, length, Some}
use mathlib.Core.List.{reverse}
use Rattle.uses.specs.Keyslots.{answers_of_caller}
use Rattle.uses.proofs.keyslots.apart.Given as goal

abbrev pub invariant-loop-last : goal.invariant-loop-last
invariant-loop-last l = record {
  passes : l.passes.items ++ map (λ d. d.pass) (reverse l.done.items) ≡ map (λ d. d.pass) l.fn.done.items;
  told : map (λ told. Some told.items) l.answers.items ++ map answers_of_caller (reverse l.done.items) ≡ map answers_of_caller l.fn.done.items;
}

abbrev pub decreases-loop-last : goal.decreases-loop-last
decreases-loop-last l = length l.done.items
