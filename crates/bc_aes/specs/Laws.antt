-- The laws of the block cipher AES, for keys and blocks of bytes and every number of words in a
-- key.
use Rattle.std.specs.Prelude.{◌≡◌, ℕ, ◌*◌, ◌<◌, List, length, All}
use Rattle.bc_aes.specs.Cipher.{encipher, decipher}

-- a list of this many bytes
pub record IsBytes (size : ℕ) (bytes : List ℕ) : Type 0 where
  pub size_is : length bytes ≡ size
  pub bytes_are : All (λ b. b < 256) bytes

-- decipherment undoes encipherment
abbrev pub DeciphermentUndoes : Type 0
DeciphermentUndoes =
    (nk : ℕ) (key block : List ℕ) → IsBytes (4 * nk) key → IsBytes 16 block
    → decipher nk key (encipher nk key block) ≡ block

-- and encipherment undoes decipherment
abbrev pub EnciphermentUndoes : Type 0
EnciphermentUndoes =
    (nk : ℕ) (key block : List ℕ) → IsBytes (4 * nk) key → IsBytes 16 block
    → encipher nk key (decipher nk key block) ≡ block

-- encipherment makes a block of a block
abbrev pub EnciphermentMakesBlocks : Type 0
EnciphermentMakesBlocks =
    (nk : ℕ) (key block : List ℕ) → IsBytes (4 * nk) key → IsBytes 16 block → IsBytes 16 (encipher nk key block)

-- and so does decipherment
abbrev pub DeciphermentMakesBlocks : Type 0
DeciphermentMakesBlocks =
    (nk : ℕ) (key block : List ℕ) → IsBytes (4 * nk) key → IsBytes 16 block → IsBytes 16 (decipher nk key block)
