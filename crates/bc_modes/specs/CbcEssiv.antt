-- AES-128-CBC-ESSIV over one data unit: CBC (SP 800-38A, section 6.2) whose initialization vector
-- is the number's IV, enciphered under the SHA-256 of the key, as Linux's "essiv(cbc(aes),sha256)"
-- makes it. A key has 16 bytes.
use Rattle.std.specs.Prelude.{ℕ, zero, suc, List}
use Rattle.sha2.specs.Sha256.{sha256}
use Rattle.bc_aes.specs.Cipher.{encipher, decipher}
use Rattle.bc_aes.specs.Blocks.{block}
use Rattle.bc_key.specs.DataUnitNumber.{iv_of}
use Rattle.bc_modes.specs.ByBlocks.{by_blocks, xor_bytes}

-- S: the number's IV, enciphered by AES-256 under the digest of the key
unfoldable pub essiv : List ℕ → ℕ → List ℕ
essiv key number = encipher 8 (sha256 key) (iv_of number)

-- C_0 = E(P_0 xor S), and C_j = E(P_j xor C_(j - 1))
unfoldable pub chained : List ℕ → List ℕ → List ℕ → ℕ → List ℕ
chained key start text zero = encipher 4 key (xor_bytes (block text 0) start)
chained key start text (suc j) = encipher 4 key (xor_bytes (block text (suc j)) (chained key start text j))

-- what P_j was added to before its encipherment: S, and then the ciphertext's block before
abbrev pub link : List ℕ → List ℕ → ℕ → List ℕ
link start text zero = start
link start text (suc j) = block text j

-- the ciphertext of a data unit
unfoldable pub essiv_encipher : List ℕ → ℕ → List ℕ → List ℕ
essiv_encipher key number text = by_blocks text (chained key (essiv key number) text)

-- the plaintext of a chain that starts so: P_0 = D(C_0) xor S, and P_j = D(C_j) xor C_(j - 1)
unfoldable pub unchained : List ℕ → List ℕ → List ℕ → List ℕ
unchained key start text = by_blocks text (λ j. xor_bytes (decipher 4 key (block text j)) (link start text j))

-- the plaintext of a data unit
unfoldable pub essiv_decipher : List ℕ → ℕ → List ℕ → List ℕ
essiv_decipher key number text = unchained key (essiv key number) text
