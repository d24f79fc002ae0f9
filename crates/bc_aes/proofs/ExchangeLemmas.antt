-- Two slices that exchange the bits at every other step of n bits.
use Rattle.std.proofs.Common.{◌≡◌, ℕ, zero, suc, ◌+◌, ◌-◌, ◌*◌, ◌/◌, ◌%◌, ◌^◌, ◌<◌, ◌≤◌, ◌==◌, true, false, nat_lt, List, map, slice_index, replicate, refl, sym, ap, ◌∙◌, arith, bit_xor, bit_and, min, Fits, w8, if◌then◌else◌}
use borrow.Author.Tests.{ltb-true, ltb-false}
use Rattle.std.proofs.lemmas.Nat.{shr-shr, shr_split, pow_pos, xor_lt, and_le_r, mod_below}
use Rattle.std.proofs.lemmas.Nat.Bits.{bit_at_xor, bit_at_and, bit_at-lt, bit_at-zero, bit_at_cat_low, bit_at_cat_high}
use Rattle.std.proofs.lemmas.List.FromFn.{get_or-map-range_with_len, fill_by_all, length-map-range_with_len}
use Rattle.std.proofs.lemmas.Simd.{get_or-replicate, Each1-get_or}
use Rattle.std.specs.Simd.Lanes.{zip2, Each1}
use Rattle.std.specs.List.{range_with_len}
use Rattle.std.specs.Int.{bit_at}
use Rattle.bc_aes.specs.Slices.{bits_at, AreBytes}
use Rattle.bc_aes.proofs.CircuitLemmas.{Long, long, lane}

-- ---- a shift moves bits

shr_bit : (x n i : ℕ) → bit_at (x / 2 ^ n) i ≡ bit_at x (n + i)
shr_bit x n i = ap (λ (v : ℕ). v % 2) (shr-shr x n i)

mod_bit : (x i : ℕ) → i < 8 → bit_at (x % 2 ^ 8) i ≡ bit_at x i
mod_bit x i lt = sym (ap (λ (v : ℕ). bit_at v i) (sym (shr_split x 8)) ∙ bit_at_cat_low (x / 2 ^ 8) 8 (x % 2 ^ 8) i lt)

plus_0 : (x : ℕ) → x ≡ x + 0
plus_0 x = omega arith

shl_bit : (t n i : ℕ) → i < 8 → bit_at (t * 2 ^ n % 2 ^ 8) i ≡ (if nat_lt i n then 0 else bit_at t (i - n))
shl_bit t n i lt =
    mod_bit (t * 2 ^ n) i lt ∙ ap (λ (v : ℕ). bit_at v i) (plus_0 (t * 2 ^ n))
    ∙ elim (nat_lt i n) as (λ c. nat_lt i n ≡ c → bit_at (t * 2 ^ n + 0) i ≡ (if c then 0 else bit_at t (i - n))) [
      | true ↦ λ e. bit_at_cat_low t n 0 i (ltb-true i n e) ∙ bit_at-zero i
      | false ↦ λ e. bit_at_cat_high t n 0 i (pow_pos n) (ltb-false i n e)
    ] refl

-- ---- bytes

abbrev moved : ℕ → ℕ → ℕ → ℕ → ℕ
moved n m x y = bit_and (bit_xor (x / 2 ^ n) y) m

picked : (s y b : ℕ) → s < 2 → y < 2 → b < 2 → (y + min ((s + y) % 2) b) % 2 ≡ (if b == 1 then s else y)
picked s y zero hs hy hb = omega arith
picked s y (suc zero) hs hy hb = omega arith
picked s y (suc (suc b)) hs hy hb = absurd (omega arith)

moved_bit : (n m x y i : ℕ) → bit_at (moved n m x y) i ≡ min ((bit_at x (n + i) + bit_at y i) % 2) (bit_at m i)
moved_bit n m x y i =
    bit_at_and (bit_xor (x / 2 ^ n) y) m i
    ∙ ap (λ (v : ℕ). min v (bit_at m i)) (bit_at_xor (x / 2 ^ n) y i ∙ ap (λ (v : ℕ). (v + bit_at y i) % 2) (shr_bit x n i))

upper_bit : (n m x y i : ℕ) → bit_at (bit_xor y (moved n m x y)) i ≡ (if bit_at m i == 1 then bit_at x (n + i) else bit_at y i)
upper_bit n m x y i =
    bit_at_xor y (moved n m x y) i ∙ ap (λ (v : ℕ). (bit_at y i + v) % 2) (moved_bit n m x y i)
    ∙ picked (bit_at x (n + i)) (bit_at y i) (bit_at m i) (bit_at-lt x (n + i)) (bit_at-lt y i) (bit_at-lt m i)

turned : (s y b : ℕ) → s < 2 → y < 2 → b < 2 → (s + min ((s + y) % 2) b) % 2 ≡ (if b == 1 then y else s)
turned s y zero hs hy hb = omega arith
turned s y (suc zero) hs hy hb = omega arith
turned s y (suc (suc b)) hs hy hb = absurd (omega arith)

lower_bit : (n m x y i : ℕ) → i < 8
    → bit_at (bit_xor x (moved n m x y * 2 ^ n % 2 ^ 8)) i ≡ (if nat_lt i n then bit_at x i else if bit_at m (i - n) == 1 then bit_at y (i - n) else bit_at x i)
lower_bit n m x y i lt =
    bit_at_xor x (moved n m x y * 2 ^ n % 2 ^ 8) i ∙ ap (λ (v : ℕ). (bit_at x i + v) % 2) (shl_bit (moved n m x y) n i lt)
    ∙ elim (nat_lt i n) as (λ c. nat_lt i n ≡ c → (bit_at x i + (if c then 0 else bit_at (moved n m x y) (i - n))) % 2 ≡ (if c then bit_at x i else if bit_at m (i - n) == 1 then bit_at y (i - n) else bit_at x i)) [
      | true ↦ λ e. omega (arith, bit_at-lt x i)
      | false ↦ λ e.
          let place : n + (i - n) ≡ i = omega (arith, ltb-false i n e) in
          ap (λ (v : ℕ). (bit_at x i + v) % 2) (moved_bit n m x y (i - n) ∙ ap (λ (j : ℕ). min ((bit_at x j + bit_at y (i - n)) % 2) (bit_at m (i - n))) place)
          ∙ turned (bit_at x i) (bit_at y (i - n)) (bit_at m (i - n)) (bit_at-lt x i) (bit_at-lt y (i - n)) (bit_at-lt m (i - n))
    ] refl

-- ---- slices

abbrev moved_lanes : ℕ → ℕ → List ℕ → List ℕ → List ℕ
moved_lanes n m a b = zip2 bit_and (zip2 bit_xor (zip2 (λ x s. x / 2 ^ s) a (replicate 16 n)) b) (replicate 16 m)

lane_by : (f : ℕ → ℕ → ℕ) (xs : List ℕ) (s p : ℕ) → p < 16 → Long xs → slice_index (zip2 f xs (replicate 16 s)) p ≡ f (slice_index xs p) s
lane_by f xs s p lt hx = lane f xs (replicate 16 s) p lt hx refl ∙ ap (f (slice_index xs p)) (get_or-replicate 16 p s 0 lt)

moved_long : (n m : ℕ) (a b : List ℕ) → Long a → Long b → Long (moved_lanes n m a b)
moved_long n m a b ha hb =
    long bit_and (zip2 bit_xor (zip2 (λ x s. x / 2 ^ s) a (replicate 16 n)) b) (replicate 16 m)
    (long bit_xor (zip2 (λ x s. x / 2 ^ s) a (replicate 16 n)) b (long (λ x s. x / 2 ^ s) a (replicate 16 n) ha refl) hb) refl

moved_lane : (n m : ℕ) (a b : List ℕ) (p : ℕ) → p < 16 → Long a → Long b → slice_index (moved_lanes n m a b) p ≡ moved n m (slice_index a p) (slice_index b p)
moved_lane n m a b p lt ha hb =
    let shifted : List ℕ = zip2 (λ x s. x / 2 ^ s) a (replicate 16 n) in
    let shifted_long : Long shifted = long (λ x s. x / 2 ^ s) a (replicate 16 n) ha refl in
    lane_by bit_and (zip2 bit_xor shifted b) m p lt (long bit_xor shifted b shifted_long hb)
    ∙ ap (λ (v : ℕ). bit_and v m) (lane bit_xor shifted b p lt shifted_long hb ∙ ap (λ (v : ℕ). bit_xor v (slice_index b p)) (lane_by (λ x s. x / 2 ^ s) a n p lt ha))

lower_lane : (n m : ℕ) (a b : List ℕ) (p : ℕ) → p < 16 → Long a → Long b
    → slice_index (zip2 bit_xor a (zip2 (λ x s. x * 2 ^ s % 2 ^ 8) (moved_lanes n m a b) (replicate 16 n))) p
    ≡ bit_xor (slice_index a p) (moved n m (slice_index a p) (slice_index b p) * 2 ^ n % 2 ^ 8)
lower_lane n m a b p lt ha hb =
    let t : List ℕ = moved_lanes n m a b in
    let ht : Long t = moved_long n m a b ha hb in
    lane bit_xor a (zip2 (λ x s. x * 2 ^ s % 2 ^ 8) t (replicate 16 n)) p lt ha (long (λ x s. x * 2 ^ s % 2 ^ 8) t (replicate 16 n) ht refl)
    ∙ ap (bit_xor (slice_index a p)) (lane_by (λ x s. x * 2 ^ s % 2 ^ 8) t n p lt ht ∙ ap (λ (v : ℕ). v * 2 ^ n % 2 ^ 8) (moved_lane n m a b p lt ha hb))

upper_lane : (n m : ℕ) (a b : List ℕ) (p : ℕ) → p < 16 → Long a → Long b
    → slice_index (zip2 bit_xor b (moved_lanes n m a b)) p ≡ bit_xor (slice_index b p) (moved n m (slice_index a p) (slice_index b p))
upper_lane n m a b p lt ha hb =
    lane bit_xor b (moved_lanes n m a b) p lt hb (moved_long n m a b ha hb) ∙ ap (bit_xor (slice_index b p)) (moved_lane n m a b p lt ha hb)

bits_same : (x : ℕ) (f : ℕ → ℕ) → ((i : ℕ) → i < 8 → bit_at x i ≡ f i) → map (bit_at x) (range_with_len 0 8) ≡ map f (range_with_len 0 8)
bits_same x f each =
    fill_by_all f (map (bit_at x) (range_with_len 0 8)) 8 0 (length-map-range_with_len (bit_at x) 0 8)
    (λ i lt. get_or-map-range_with_len (bit_at x) 0 8 i i 0 lt (omega arith) ∙ each i lt)

pub lower-exchanged : (n m : ℕ) (a b : List ℕ) (p : ℕ) → p < 16 → Long a → Long b
    → bits_at p (zip2 bit_xor a (zip2 (λ x s. x * 2 ^ s % 2 ^ 8) (moved_lanes n m a b) (replicate 16 n)))
    ≡ map (λ i. if nat_lt i n then bit_at (slice_index a p) i else if bit_at m (i - n) == 1 then bit_at (slice_index b p) (i - n) else bit_at (slice_index a p) i) (range_with_len 0 8)
lower-exchanged n m a b p lt ha hb =
    ap (λ (v : ℕ). map (bit_at v) (range_with_len 0 8)) (lower_lane n m a b p lt ha hb)
    ∙ bits_same _ _ (λ i below. lower_bit n m (slice_index a p) (slice_index b p) i below)

pub upper-exchanged : (n m : ℕ) (a b : List ℕ) (p : ℕ) → p < 16 → Long a → Long b
    → bits_at p (zip2 bit_xor b (moved_lanes n m a b))
    ≡ map (λ i. if bit_at m i == 1 then bit_at (slice_index a p) (n + i) else bit_at (slice_index b p) i) (range_with_len 0 8)
upper-exchanged n m a b p lt ha hb =
    ap (λ (v : ℕ). map (bit_at v) (range_with_len 0 8)) (upper_lane n m a b p lt ha hb)
    ∙ bits_same _ _ (λ i below. upper_bit n m (slice_index a p) (slice_index b p) i)

-- ---- bytes before and after

pub are_bytes : (v : List ℕ) → Long v × Each1 (Fits w8) v → AreBytes v
are_bytes v fit p lt = (Each1-get_or (Fits w8) v p 0 (omega (arith, fit.0, lt)) fit.1).fits

pub lower-bytes : (n m : ℕ) (a b : List ℕ) → Long a → Long b → AreBytes a
    → AreBytes (zip2 bit_xor a (zip2 (λ x s. x * 2 ^ s % 2 ^ 8) (moved_lanes n m a b) (replicate 16 n)))
lower-bytes n m a b ha hb small p lt =
    let t : ℕ = moved n m (slice_index a p) (slice_index b p) * 2 ^ n % 2 ^ 8 in
    omega (arith, lower_lane n m a b p lt ha hb, xor_lt 8 (slice_index a p) t (small p lt) (mod_below _ (2 ^ 8) (omega arith)))

pub upper-bytes : (n m : ℕ) (a b : List ℕ) → m < 256 → Long a → Long b → AreBytes b → AreBytes (zip2 bit_xor b (moved_lanes n m a b))
upper-bytes n m a b below ha hb small p lt =
    let t : ℕ = moved n m (slice_index a p) (slice_index b p) in
    let le : t ≤ m = and_le_r (bit_xor (slice_index a p / 2 ^ n) (slice_index b p)) m in
    omega (arith, upper_lane n m a b p lt ha hb, xor_lt 8 (slice_index b p) t (small p lt) (omega (arith, le, below)))
