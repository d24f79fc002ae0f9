-- Parts of one size of a list, and facts of numbered parts.
use Rattle.std.proofs.Common.{◌≡◌, ℕ, ◌+◌, ◌*◌, ◌<◌, ◌≤◌, List, length, drop, ◌-◌, arith, length-take, length-drop, ap, ◌∙◌}
use Rattle.std.specs.Prelude.{slice_range}
use Rattle.bc_section.proofs.Numbered.{part_within}

pub length-range : (bytes : List ℕ) (a size : ℕ) → a + size ≤ length bytes → length (slice_range bytes a (a + size)) ≡ size
length-range bytes a size within = omega (arith, length-take (a + size - a) (drop a bytes), length-drop a bytes)

pub length-part : (bytes : List ℕ) (size i : ℕ) → size * i + size ≤ length bytes → length (slice_range bytes (size * i) (size * i + size)) ≡ size
length-part bytes size i within = length-range bytes (size * i) size within

-- the next part begins after this one
pub next_part : (size i : ℕ) → (i + 1) * size ≡ i * size + size
next_part size i = omega arith

-- the parts before one begin where so many bytes end, of which no bio has more
pub part_starts : (i units n size : ℕ) → i < units → units * n ≤ 256 → size ≡ 512 * n → i * size ≤ 131072
part_starts i units n size lt most is =
    let within = part_within n i units lt in
    let at : i * size ≡ 512 * (n * i) = ap (λ k. i * k) is ∙ turned i n in
    omega arith
  where
    turned : (i n : ℕ) → i * (512 * n) ≡ 512 * (n * i)
    turned i n = omega arith
