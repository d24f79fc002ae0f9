-- MixColumns and its inverse by sums of rows, doubled.
use Rattle.std.proofs.Common.{◌≡◌, ℕ, ◌+◌, ◌*◌, ◌%◌, ◌<◌, List, refl, arith, bit_xor}
use Rattle.bc_aes.specs.Field.{times_x, product_by, product}
use Rattle.bc_aes.specs.State.{at, mixed, mix_columns_by, mix_columns, inv_mix_columns, mixing_row, inv_mixing_row, add_round_key}
use Rattle.bc_aes.specs.SlicedRounds.{turned, doubled}
use Rattle.bc_aes.proofs.WordLemmas.{four}
use Rattle.bc_aes.proofs.RoundLemmas.{joined}
use Rattle.bc_aes.proofs.ByteLemmas.{Small}
use Rattle.bc_aes.proofs.ColumnLemmas.{OfColumn, TakesSums, row, row-sums, sum-sums, product-sums, mixed-sums, AgreeAlone, rows_agree}

-- the byte this many rows further
abbrev further : ℕ → ℕ → OfColumn
further n r = row ((r + n) % 4)

-- ---- MixColumns

-- twice the sum of a row and the next, and the next, and the sum of the two rows after that
abbrev by_doubling : ℕ → OfColumn
by_doubling r a b c d =
    bit_xor (bit_xor (product 2 (bit_xor (further 0 r a b c d) (further 1 r a b c d))) (further 1 r a b c d))
    (bit_xor (further 2 r a b c d) (further 3 r a b c d))

by_doubling-sums : (r : ℕ) → TakesSums (by_doubling r)
by_doubling-sums r =
    let at_ : (n : ℕ) → TakesSums (further n r) = λ n. row-sums ((r + n) % 4) in
    let first : OfColumn = λ a b c d. bit_xor (further 0 r a b c d) (further 1 r a b c d) in
    let last : OfColumn = λ a b c d. bit_xor (further 2 r a b c d) (further 3 r a b c d) in
    let twice : OfColumn = λ a b c d. product 2 (first a b c d) in
    let twice-sums : TakesSums twice = product-sums 2 first (sum-sums (further 0 r) (further 1 r) (at_ 0) (at_ 1)) in
    sum-sums (λ a b c d. bit_xor (twice a b c d) (further 1 r a b c d)) last (sum-sums twice (further 1 r) twice-sums (at_ 1))
    (sum-sums (further 2 r) (further 3 r) (at_ 2) (at_ 3))

mixing-sums : (m : List ℕ) (r : ℕ) → TakesSums (mixed m r)
mixing-sums m r = mixed-sums m r (row 0) (row 1) (row 2) (row 3) (row-sums 0) (row-sums 1) (row-sums 2) (row-sums 3)

by_doubling_alone : AgreeAlone by_doubling (mixed mixing_row)
unfolding mixed product product_by times_x
by_doubling_alone = refl

pub mix_columns-by_doubling : (s : List ℕ) → Small s
    → add_round_key (add_round_key (doubled (add_round_key s (turned 1 s))) (turned 1 s)) (turned 2 (add_round_key s (turned 1 s))) ≡ mix_columns s
unfolding add_round_key doubled turned mix_columns_by
mix_columns-by_doubling s h =
    let same : (c r : ℕ) → r < 4 → by_doubling r (at s 0 c) (at s 1 c) (at s 2 c) (at s 3 c) ≡ mixed mixing_row r (at s 0 c) (at s 1 c) (at s 2 c) (at s 3 c) =
    λ c r lt. rows_agree by_doubling (mixed mixing_row) by_doubling_alone by_doubling-sums (mixing-sums mixing_row) r
    (at s 0 c) (at s 1 c) (at s 2 c) (at s 3 c) lt (h (0 + 4 * c)) (h (1 + 4 * c)) (h (2 + 4 * c)) (h (3 + 4 * c)) in
    joined (four (same 0 0 (omega arith)) (same 0 1 (omega arith)) (same 0 2 (omega arith)) (same 0 3 (omega arith)))
    (four (same 1 0 (omega arith)) (same 1 1 (omega arith)) (same 1 2 (omega arith)) (same 1 3 (omega arith)))
    (four (same 2 0 (omega arith)) (same 2 1 (omega arith)) (same 2 2 (omega arith)) (same 2 3 (omega arith)))
    (four (same 3 0 (omega arith)) (same 3 1 (omega arith)) (same 3 2 (omega arith)) (same 3 3 (omega arith)))

-- ---- InvMixColumns

-- a row, and four times the sum of it and the row after the next
abbrev lifted : ℕ → OfColumn
lifted r a b c d = bit_xor (further 0 r a b c d) (product 2 (product 2 (bit_xor (further 0 r a b c d) (further 2 r a b c d))))

lifted-sums : (r : ℕ) → TakesSums (lifted r)
lifted-sums r =
    let sum : OfColumn = λ a b c d. bit_xor (further 0 r a b c d) (further 2 r a b c d) in
    let twice : OfColumn = λ a b c d. product 2 (sum a b c d) in
    let sum-sums_ : TakesSums sum = sum-sums (further 0 r) (further 2 r) (row-sums ((r + 0) % 4)) (row-sums ((r + 2) % 4)) in
    sum-sums (further 0 r) (λ a b c d. product 2 (twice a b c d)) (row-sums ((r + 0) % 4)) (product-sums 2 twice (product-sums 2 sum sum-sums_))

abbrev by_lifting : ℕ → OfColumn
by_lifting r a b c d = mixed mixing_row r (lifted 0 a b c d) (lifted 1 a b c d) (lifted 2 a b c d) (lifted 3 a b c d)

by_lifting-sums : (r : ℕ) → TakesSums (by_lifting r)
by_lifting-sums r = mixed-sums mixing_row r (lifted 0) (lifted 1) (lifted 2) (lifted 3) (lifted-sums 0) (lifted-sums 1) (lifted-sums 2) (lifted-sums 3)

by_lifting_alone : AgreeAlone by_lifting (mixed inv_mixing_row)
unfolding mixed product product_by times_x
by_lifting_alone = refl

pub inv_mix_columns-by_lifting : (s : List ℕ) → Small s
    → mix_columns (add_round_key s (doubled (doubled (add_round_key s (turned 2 s))))) ≡ inv_mix_columns s
unfolding add_round_key doubled turned mix_columns_by
inv_mix_columns-by_lifting s h =
    let same : (c r : ℕ) → r < 4 → by_lifting r (at s 0 c) (at s 1 c) (at s 2 c) (at s 3 c) ≡ mixed inv_mixing_row r (at s 0 c) (at s 1 c) (at s 2 c) (at s 3 c) =
    λ c r lt. rows_agree by_lifting (mixed inv_mixing_row) by_lifting_alone by_lifting-sums (mixing-sums inv_mixing_row) r
    (at s 0 c) (at s 1 c) (at s 2 c) (at s 3 c) lt (h (0 + 4 * c)) (h (1 + 4 * c)) (h (2 + 4 * c)) (h (3 + 4 * c)) in
    joined (four (same 0 0 (omega arith)) (same 0 1 (omega arith)) (same 0 2 (omega arith)) (same 0 3 (omega arith)))
    (four (same 1 0 (omega arith)) (same 1 1 (omega arith)) (same 1 2 (omega arith)) (same 1 3 (omega arith)))
    (four (same 2 0 (omega arith)) (same 2 1 (omega arith)) (same 2 2 (omega arith)) (same 2 3 (omega arith)))
    (four (same 3 0 (omega arith)) (same 3 1 (omega arith)) (same 3 2 (omega arith)) (same 3 3 (omega arith)))
