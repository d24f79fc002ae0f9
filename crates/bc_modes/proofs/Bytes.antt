-- Lists of bytes, and sums of blocks: a sum taken twice is gone.
use Rattle.std.proofs.Common.{◌≡◌, ℕ, zero, suc, ◌+◌, ◌/◌, ◌^◌, ◌<◌, ◌≤◌, List, [], ◌∷◌, length, take, drop, get_or, refl, sym, ap, ap₂, ◌∙◌, subst, arith, bit_xor}
use Rattle.std.specs.List.{All}
use Rattle.std.specs.Int.{w128, to_le_bytes, byte_at, bytes_low_first}
use Rattle.std.specs.Int.Bits.{xor_assoc, xor_self, xor_zero_r}
use Rattle.std.proofs.lemmas.Nat.{mod_below, xor_of_8}
use Rattle.std.proofs.lemmas.List.{get_or-take, get_or-drop, length-take-le, length-drop}
use Rattle.std.proofs.lemmas.List.Elements.{All-nil, All-cons, All-from_get_or}
use Rattle.std.proofs.lemmas.Simd.{get_or-zip2, length-zip2}
use Rattle.bc_aes.specs.Laws.{IsBytes}
use Rattle.bc_modes.specs.ByBlocks.{xor_bytes}

abbrev pub AreBytes : List ℕ → Type 0
AreBytes bytes = All (λ b. b < 256) bytes

-- the first n of a list of bytes
pub IsBytes-take : (n : ℕ) (bytes : List ℕ) → n ≤ length bytes → AreBytes bytes → IsBytes n (take n bytes)
IsBytes-take n bytes h are =
    let l = length-take-le n bytes h in record {
      size_is = l;
      bytes_are = λ k d lt. subst (λ b. b < 256) (sym (get_or-take n bytes k d (omega arith))) (are k d (omega arith));
    }

pub AreBytes-drop : (n : ℕ) (bytes : List ℕ) → AreBytes bytes → AreBytes (drop n bytes)
AreBytes-drop n bytes are =
    λ k d lt. subst (λ b. b < 256) (sym (get_or-drop n bytes k d)) (are (n + k) d (omega (arith, length-drop n bytes)))

pub IsBytes-xor : (n : ℕ) (xs ys : List ℕ) → IsBytes n xs → IsBytes n ys → IsBytes n (xor_bytes xs ys)
IsBytes-xor n xs ys x y =
    let l : length (xor_bytes xs ys) ≡ length xs = length-zip2 bit_xor xs ys (x.size_is ∙ sym y.size_is) in record {
      size_is = l ∙ x.size_is;
      bytes_are = All-from_get_or (λ b. b < 256) (xor_bytes xs ys) 0 (λ k lt.
          let in_x : k < length xs = omega arith in
          let in_y : k < length ys = omega (arith, x.size_is, y.size_is) in
          subst (λ b. b < 256) (sym (get_or-zip2 bit_xor xs ys k 0 0 0 in_x in_y))
          (xor_of_8 (get_or xs k 0) (get_or ys k 0) (x.bytes_are k 0 in_x) (y.bytes_are k 0 in_y)));
    }

pub byte_at-lt : (i n : ℕ) → byte_at i n < 256
byte_at-lt zero n = mod_below n 256 (omega arith)
byte_at-lt (suc i) n = mod_below (n / 256 ^ suc i) 256 (omega arith)

AreBytes-low_first : (i k n : ℕ) → AreBytes (bytes_low_first i k n)
AreBytes-low_first i zero n = All-nil (λ b. b < 256)
AreBytes-low_first i (suc k) n = All-cons (λ b. b < 256) (byte_at i n) (bytes_low_first (suc i) k n) (byte_at-lt i n) (AreBytes-low_first (suc i) k n)

-- a number's sixteen bytes are bytes
pub IsBytes-le_bytes : (n : ℕ) → IsBytes 16 (to_le_bytes w128 n)
IsBytes-le_bytes n = record { size_is = refl; bytes_are = AreBytes-low_first 0 16 n }

-- a sum taken twice is gone
pub xor_bytes-twice : (xs ys : List ℕ) → length xs ≤ length ys → xor_bytes (xor_bytes xs ys) ys ≡ xs
xor_bytes-twice [] ys h = refl
xor_bytes-twice (x ∷ xs) [] h = absurd (omega arith)
xor_bytes-twice (x ∷ xs) (y ∷ ys) h =
    ap₂ (λ (b : ℕ) (bs : List ℕ). b ∷ bs)
    (xor_assoc x y y ∙ ap (bit_xor x) (xor_self y) ∙ xor_zero_r x) (xor_bytes-twice xs ys (omega arith))
