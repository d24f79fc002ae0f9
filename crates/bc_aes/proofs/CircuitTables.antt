-- With the bits of each byte, the circuits compute the S-box and its inverse: over all 256 bytes, by computing. So with
-- slices they compute it of each byte of each block.
use Rattle.std.proofs.Common.{◌≡◌, ℕ, zero, suc, ◌<◌, ◌==◌, Bool, true, false, ◌&&◌, List, [], ◌∷◌, map, slice_index, slice_index_or, length, get_or, refl, sym, ap, ◌∙◌, arith, rules, bit_xor}
use Rattle.std.proofs.lemmas.Nat.Bits.{bit_at-lt}
use Rattle.std.proofs.lemmas.List.FromFn.{get_or-map-range_with_len}
use Rattle.std.proofs.lemmas.Simd.{map-map}
use Rattle.std.specs.List.{range_with_len}
use Rattle.std.specs.Simd.Lanes.{Each1}
use Rattle.bc_aes.specs.State.{byte_of_bits, sub_byte, inv_sub_byte}
use Rattle.bc_aes.specs.SlicedRounds.{bare_sub_bytes, bare_inv_sub_bytes}
use Rattle.std.proofs.lemmas.List.{get_or-map}
use Rattle.std.proofs.lemmas.Nat.{xor_of_8}
use Rattle.bc_aes.specs.Slices.{slices_of, byte_of, EachSlicedBlock}
use Rattle.bc_aes.specs.Circuit.{Circuit, results_of, bit_logic, slice_logic, sub_byte_circuit, inv_sub_byte_circuit}
use Rattle.bc_aes.specs.declared.slices.Slices.{Slices}
use Rattle.bc_aes.specs.declared.tables.TheConstants.{SBOX, INV_SBOX}
use Rattle.bc_aes.proofs.TableLemmas.{sbox_at, inv_sbox_at}
use Rattle.bc_aes.proofs.SliceLemmas.{same_below, place}
use Rattle.bc_aes.proofs.CircuitLemmas.{Long, bit_of, byte_from, results_bits}

-- ---- a test of all bytes, by their bits

abbrev all_bits : ℕ → (List ℕ → Bool) → Bool
all_bits zero p = p []
all_bits (suc n) p = all_bits n (λ bits. p (0 ∷ bits)) && all_bits n (λ bits. p (1 ∷ bits))

both : (a b : Bool) → (a && b) ≡ true → (a ≡ true) × (b ≡ true)
both true b e = (refl, e)
both false b e = absurd (grind (arith, e))

all_bits_at : (n : ℕ) (p : List ℕ → Bool) → all_bits n p ≡ true → (bits : List ℕ) → length bits ≡ n → Each1 (λ b. b < 2) bits → p bits ≡ true
all_bits_at zero p e [] long small = e
all_bits_at zero p e (b ∷ bits) long small = absurd (omega (arith, long))
all_bits_at (suc n) p e [] long small = absurd (omega (arith, long))
all_bits_at (suc n) p e (zero ∷ bits) long small =
    all_bits_at n (λ bits. p (0 ∷ bits)) (both _ _ e).0 bits (omega (arith, long)) small.1
all_bits_at (suc n) p e (suc zero ∷ bits) long small =
    all_bits_at n (λ bits. p (1 ∷ bits)) (both _ _ e).1 bits (omega (arith, long)) small.1
all_bits_at (suc n) p e (suc (suc b) ∷ bits) long small = absurd (omega (arith, small.0))

abbrev first_8 : (ℕ → ℕ) → List ℕ
first_8 bit = bit 0 ∷ bit 1 ∷ bit 2 ∷ bit 3 ∷ bit 4 ∷ bit 5 ∷ bit 6 ∷ bit 7 ∷ []

-- ---- the circuits and the tables

abbrev Agrees : Circuit → List ℕ → List ℕ → Bool
Agrees circuit table bits = byte_from (results_of bit_logic circuit bits) == get_or table (byte_from bits) 0

abbrev bare_sbox : List ℕ
bare_sbox = map (λ b. bit_xor b 0x63) SBOX.now

bare_sbox_at : (n : ℕ) → n < 256 → get_or bare_sbox n 0 ≡ bit_xor (sub_byte n) 0x63
bare_sbox_at n h = get_or-map (λ b. bit_xor b 0x63) SBOX.now n 0 0 h ∙ ap (λ b. bit_xor b 0x63) (sbox_at n h)

abbrev bare_inv_sbox : List ℕ
bare_inv_sbox = map (λ n. get_or INV_SBOX.now (bit_xor n 0x63) 0) (range_with_len 0 256)

bare_inv_sbox_at : (n : ℕ) → n < 256 → get_or bare_inv_sbox n 0 ≡ inv_sub_byte (bit_xor n 0x63)
bare_inv_sbox_at n h =
    get_or-map-range_with_len (λ n. get_or INV_SBOX.now (bit_xor n 0x63) 0) 0 256 n n 0 h (omega arith)
    ∙ inv_sbox_at (bit_xor n 0x63) (xor_of_8 n 0x63 h (omega arith))

sub_byte_test : all_bits 8 (Agrees sub_byte_circuit bare_sbox) ≡ true
sub_byte_test = refl

inv_sub_byte_test : all_bits 8 (Agrees inv_sub_byte_circuit bare_inv_sbox) ≡ true
inv_sub_byte_test = refl

-- a circuit that computes f with the bits of each byte
abbrev Computes : Circuit → (ℕ → ℕ) → Type 0
Computes circuit f = (bit : ℕ → ℕ) → ((j : ℕ) → bit j < 2) → byte_from (results_of bit_logic circuit (first_8 bit)) ≡ f (byte_of_bits bit)

byte_lt : (bit : ℕ → ℕ) → ((j : ℕ) → bit j < 2) → byte_of_bits bit < 256
byte_lt bit small = omega (arith, small 0, small 1, small 2, small 3, small 4, small 5, small 6, small 7)

computes : (circuit : Circuit) (table : List ℕ) (f : ℕ → ℕ) → all_bits 8 (Agrees circuit table) ≡ true
    → ((n : ℕ) → n < 256 → get_or table n 0 ≡ f n) → Computes circuit f
computes circuit table f e listed bit small =
    let agrees : Agrees circuit table (first_8 bit) ≡ true =
    all_bits_at 8 (Agrees circuit table) e (first_8 bit) refl (small 0, (small 1, (small 2, (small 3, (small 4, (small 5, (small 6, (small 7, tt)))))))) in
    let same : byte_from (results_of bit_logic circuit (first_8 bit)) ≡ get_or table (byte_of_bits bit) 0 = search (agrees, rules) in
    same ∙ listed (byte_of_bits bit) (byte_lt bit small)

-- ---- with slices

sliced : (circuit : Circuit) (f : ℕ → ℕ) → Computes circuit f → (old new : Slices)
    → slices_of new ≡ results_of slice_logic circuit (slices_of old) → Each1 Long (slices_of old)
    → EachSlicedBlock (λ block. map f block) (slices_of old) (slices_of new)
sliced circuit f law old new e long =
    let at : (k p : ℕ) → k < 8 → p < 16 → byte_of (slices_of new) k p ≡ f (byte_of (slices_of old) k p) =
    λ k p kt pt.
    ap (λ (slices : List (List ℕ)). byte_from (map (bit_of p k) slices)) e
    ∙ ap byte_from (results_bits circuit p k (slices_of old) pt kt long)
    ∙ law (λ j. bit_of p k (slice_index_or (slices_of old) j [])) (λ j. bit_at-lt (slice_index (slice_index_or (slices_of old) j []) p) k) in
    record {
      each = λ k kt.
          same_below (λ i. byte_of (slices_of new) k (place i)) (λ i. f (byte_of (slices_of old) k (place i))) 16 (λ i it. at k (place i) kt (omega arith))
          ∙ sym (map-map f (λ i. byte_of (slices_of old) k (place i)) (range_with_len 0 16));
    }

pub sub_bytes-sliced : (old new : Slices) → slices_of new ≡ results_of slice_logic sub_byte_circuit (slices_of old)
    → Each1 Long (slices_of old) → EachSlicedBlock bare_sub_bytes (slices_of old) (slices_of new)
unfolding bare_sub_bytes
sub_bytes-sliced old new e long =
    let f : ℕ → ℕ = λ b. bit_xor (sub_byte b) 0x63 in
    sliced sub_byte_circuit f (computes sub_byte_circuit bare_sbox f sub_byte_test bare_sbox_at) old new e long

pub inv_sub_bytes-sliced : (old new : Slices) → slices_of new ≡ results_of slice_logic inv_sub_byte_circuit (slices_of old)
    → Each1 Long (slices_of old) → EachSlicedBlock bare_inv_sub_bytes (slices_of old) (slices_of new)
unfolding bare_inv_sub_bytes
inv_sub_bytes-sliced old new e long =
    let f : ℕ → ℕ = λ b. inv_sub_byte (bit_xor b 0x63) in
    sliced inv_sub_byte_circuit f (computes inv_sub_byte_circuit bare_inv_sbox f inv_sub_byte_test bare_inv_sbox_at) old new e long
