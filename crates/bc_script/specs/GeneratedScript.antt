-- The script that `make N` carries out: sixteen threads, each of which writes N data units and
-- reads each back at once. Each thread has 64 blocks of its own, so every answer is the same in
-- every order.
use Rattle.std.specs.Prelude.{ℕ, ◌+◌, ◌*◌, ◌%◌, true, List, [], ◌∷◌, codes, map, flat_map, Some}
use Rattle.std.specs.List.{range_with_len}
use Rattle.bc_key.specs.KeyData.{KeyData, key_size}
use Rattle.bc_key.specs.declared.config.Mode.{Mode}
use Rattle.bc_key.specs.declared.config.Mode.TheVariants.{Aes256Xts, Aes128CbcEssiv}
use Rattle.bc_key.specs.declared.config.DataUnit.{DataUnit}
use Rattle.bc_key.specs.declared.config.DataUnit.TheVariants.{Bytes512, Bytes4096}
use Rattle.bc_bio.specs.declared.context.Context.{Context}
use Rattle.bc_stack.specs.declared.target.Target.{Target}
use Rattle.bc_script.specs.declared.named_key.NamedKey.{NamedKey}
use Rattle.bc_script.specs.declared.op.Op.{Op}
use Rattle.bc_script.specs.declared.op.Op.TheVariants.{Write, Read}
use Rattle.bc_script.specs.declared.op.Text.TheVariants.{Fill}
use Rattle.bc_script.specs.Script.{Script}

-- ---- the disk, its device and its keys

-- how many blocks of 4096 bytes the disk has
abbrev pub generated_blocks : ℕ
generated_blocks = 1024

-- how many threads it has, each with a section of its own
abbrev pub generated_threads : ℕ
generated_threads = 16

-- the one device: all blocks, so many keyslots, data units of 512 and 4096 bytes in XTS, none in
-- ESSIV, numbers of 8 bytes
abbrev pub generated_device : ℕ → Target
generated_device slots = record {
  first = 0;
  blocks = generated_blocks;
  slots = slots;
  caps = record { xts = 9; essiv = 0; max_dun_bytes = 8 };
}

-- a key whose bytes count up from the first of them, with numbers of 8 bytes
abbrev pub counted_key : Mode → DataUnit → ℕ → KeyData
counted_key mode unit first = record {
  config = record { mode = mode; unit = unit; dun_bytes = 8 };
  raw = range_with_len first (key_size mode);
}

-- key a, of the bytes 00 to 3f, for data units of 4096 bytes in XTS
abbrev pub key_a : NamedKey
key_a = record { name = codes "a"; key = counted_key Aes256Xts Bytes4096 0 }

-- key b, of the bytes 40 to 7f, for data units of 512 bytes in XTS
abbrev pub key_b : NamedKey
key_b = record { name = codes "b"; key = counted_key Aes256Xts Bytes512 64 }

-- key c, of the bytes 80 to 8f, for data units of 4096 bytes in ESSIV
abbrev pub key_c : NamedKey
key_c = record { name = codes "c"; key = counted_key Aes128CbcEssiv Bytes4096 128 }

-- the three keys, by number
abbrev pub generated_keys : List NamedKey
generated_keys = key_a ∷ key_b ∷ key_c ∷ []

-- ---- the sections

-- the key of a thread's pair j, from 0, and j as the number of its data unit: neighbouring pairs
-- and threads take other keys
abbrev pub generated_context : ℕ → ℕ → Context
generated_context thread j = record { key = record { 0 = (thread + j) % 3 }; dun = j }

-- the sector of a thread's pair j of n: the first of one of the thread's 64 blocks
abbrev pub generated_sector : ℕ → ℕ → ℕ → ℕ
generated_sector n thread j = 8 * (64 * thread + (7 * j + n) % 64)

-- the byte that a thread's pair j writes throughout
abbrev pub generated_byte : ℕ → ℕ → ℕ
generated_byte thread j = (16 * thread + j) % 256

-- a thread's pair j of n: one data unit is written
abbrev pub generated_write : ℕ → ℕ → ℕ → Op
generated_write n thread j =
    Write (Some (generated_context thread j)) (generated_sector n thread j) 1 (Fill (generated_byte thread j))

-- and read back
abbrev pub generated_read : ℕ → ℕ → ℕ → Op
generated_read n thread j = Read (Some (generated_context thread j)) (generated_sector n thread j) 1

-- the two, one after the other
abbrev pub generated_pair : ℕ → ℕ → ℕ → List Op
generated_pair n thread j = generated_write n thread j ∷ generated_read n thread j ∷ []

-- a thread's n pairs, one after the other
abbrev pub generated_section : ℕ → ℕ → List Op
generated_section n thread = flat_map (generated_pair n thread) (range_with_len 0 n)

-- the script of n pairs a thread over a device with so many keyslots: a disk of 1024 blocks, the
-- fallback on, no faults
abbrev pub generated : ℕ → ℕ → Script
generated n slots = record {
  blocks = generated_blocks;
  fallback = true;
  targets = generated_device slots ∷ [];
  keys = generated_keys;
  faults = [];
  threads = map (generated_section n) (range_with_len 0 generated_threads);
}
