use Rattle.std.proofs.Common.{◌≡◌, length}
use Rattle.bc_base.specs.Lists.{EachFrom}
use Rattle.bc_profile.specs.Book.{IsHeldBy}
use Rattle.bc_profile.proofs.book.Book.words.Given as goal

abbrev pub invariant-loop-slot : goal.invariant-loop-slot
invariant-loop-slot l = record {
  many : length l.words ≡ l.slot;
  each : EachFrom (IsHeldBy l.fn.self) 0 l.words;
}
