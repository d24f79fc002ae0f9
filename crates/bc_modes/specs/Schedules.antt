-- Private: the contracts of private functions alone speak of these. What a unit cipher's expanded
-- key was made of, and which way XTS takes its blocks.
use Rattle.std.specs.Prelude.{ℕ, List}
use Rattle.bc_key.specs.declared.config.Mode.{Mode}
use Rattle.bc_key.specs.declared.config.Mode.TheVariants.{Aes256Xts, Aes128CbcEssiv}
use Rattle.bc_aes.specs.Cipher.{encipher, decipher}
use Rattle.bc_modes.specs.declared.xts.Way.{Way}
use Rattle.bc_modes.specs.declared.xts.Way.TheVariants.{Encipher, Decipher}
use Rattle.bc_modes.specs.declared.unit_cipher.Schedules.{Schedules}
use Rattle.bc_modes.specs.declared.unit_cipher.Schedules.TheVariants.{Xts, Essiv}

-- the mode that it is for
abbrev pub mode_of_schedules : Schedules → Mode
mode_of_schedules (Xts xts) = Aes256Xts
mode_of_schedules (Essiv essiv) = Aes128CbcEssiv

-- the key's bytes
abbrev pub raw_of : Schedules → List ℕ
raw_of (Xts xts) = xts
raw_of (Essiv essiv) = essiv

-- AES-256 of one block, one way, under a key
abbrev pub block_cipher : Way → List ℕ → List ℕ → List ℕ
block_cipher Encipher = encipher 8
block_cipher Decipher = decipher 8
