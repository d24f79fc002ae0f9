-- What comes out of AES has the length of a block.
use Rattle.std.proofs.Common.{◌≡◌, ℕ, List, length, refl}
use Rattle.bc_aes.specs.State.{add_round_key}
use Rattle.bc_aes.specs.Cipher.{encipher, decipher, encipher_by, decipher_by, last_round, inv_last_round}

pub length-encipher : (nk : ℕ) (key block : List ℕ) → length (encipher nk key block) ≡ 16
unfolding encipher encipher_by last_round add_round_key
length-encipher nk key block = refl

pub length-decipher : (nk : ℕ) (key block : List ℕ) → length (decipher nk key block) ≡ 16
unfolding decipher decipher_by inv_last_round add_round_key
length-decipher nk key block = refl
