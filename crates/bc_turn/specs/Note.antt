-- What an entry of a story says of a keyslot, where it says something: the entries of a slot
-- journal do, those of a shard don't.
use Rattle.std.specs.Prelude.{ℕ}

-- what one entry says of a slot
pub data Note : Type 0 where
  -- the slot was programmed with a key
  programming : ℕ → ℕ → Note
  -- the slot's key was taken out
  emptying : ℕ → Note
  -- the slot's last reference was given back
  idle : ℕ → Note
  -- nothing
  none : Note
