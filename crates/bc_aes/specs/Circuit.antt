-- Private: the contracts of private functions alone speak of these. Circuits of exclusive-ors and
-- ands, and those of the S-box and of its inverse. A circuit computes with whatever has both: with
-- bits, or with slices, byte by byte.
use Rattle.std.specs.Prelude.{ℕ, ◌+◌, ◌%◌, min, List, [], ◌∷◌, ◌++◌, Bool, true, false, if◌then◌else◌, map, slice_index_or, replicate, bit_xor, bit_and}
use Rattle.std.specs.Simd.Lanes.{zip2}

-- a gate reads two of the values so far, each by how many stand before it, the newest first
pub record Gate : Type 0 where
  pub is_and : Bool
  pub left : ℕ
  pub right : ℕ

-- the exclusive-or of two values
abbrev pub xor_of : ℕ → ℕ → Gate
xor_of i j = record { is_and = false; left = i; right = j }

-- the and of two values
abbrev pub and_of : ℕ → ℕ → Gate
and_of i j = record { is_and = true; left = i; right = j }

-- what a circuit computes with: exclusive-or and and, and the values of all zeros and of all ones
pub record Logic (A : Type 0) : Type 0 where
  pub xor : A → A → A
  pub and : A → A → A
  pub zeros : A
  pub ones : A

-- the value of a gate
abbrev pub gate_value : {A : Type 0} → Logic A → List A → Gate → A
gate_value logic values g =
    if g.is_and then logic.and (slice_index_or values g.left logic.zeros) (slice_index_or values g.right logic.zeros)
    else logic.xor (slice_index_or values g.left logic.zeros) (slice_index_or values g.right logic.zeros)

-- the values after these gates: each gate's value becomes the newest
abbrev pub values_after : {A : Type 0} → Logic A → List Gate → List A → List A
values_after logic [] values = values
values_after logic (g ∷ gates) values = values_after logic gates (gate_value logic values g ∷ values)

-- gates, and where their results stand in the end
pub record Circuit : Type 0 where
  pub gates : List Gate
  pub results : List ℕ

-- the results of a circuit, which is given these inputs and all ones
abbrev pub results_of : {A : Type 0} → Logic A → Circuit → List A → List A
results_of logic circuit inputs =
    map (λ k. slice_index_or (values_after logic circuit.gates (inputs ++ logic.ones ∷ [])) k logic.zeros)
    circuit.results

-- with single bits: their sum modulo 2, and the lesser
abbrev pub bit_logic : Logic ℕ
bit_logic = record { xor = λ x y. (x + y) % 2; and = min; zeros = 0; ones = 1 }

-- with slices of 16 bytes
abbrev pub slice_logic : Logic (List ℕ)
slice_logic = record { xor = zip2 bit_xor; and = zip2 bit_and; zeros = replicate 16 0; ones = replicate 16 255 }

-- the S-box without its constant: the results are bits 0 to 7 of the sum of 0x63 and the S-box at
-- the byte of the inputs
abbrev pub sub_byte_circuit : Circuit
sub_byte_circuit = record {
  gates =
      xor_of 7 4 ∷ xor_of 8 3 ∷ xor_of 9 3 ∷ xor_of 7 5 ∷ xor_of 7 5 ∷ xor_of 4 0 ∷ xor_of 12 11 ∷
      xor_of 7 1 ∷ xor_of 8 1 ∷ xor_of 15 11 ∷ xor_of 14 10 ∷ xor_of 16 13 ∷ xor_of 9 8 ∷ xor_of 1 8 ∷
      xor_of 9 4 ∷ xor_of 9 8 ∷ xor_of 7 2 ∷ xor_of 10 6 ∷ xor_of 17 0 ∷ xor_of 20 19 ∷ xor_of 13 0 ∷
      xor_of 19 0 ∷ xor_of 20 6 ∷ xor_of 4 6 ∷ xor_of 21 10 ∷ xor_of 19 15 ∷ xor_of 25 14 ∷ and_of 5 19 ∷
      and_of 15 22 ∷ xor_of 3 0 ∷ and_of 12 30 ∷ xor_of 0 2 ∷ and_of 29 18 ∷ and_of 12 24 ∷ xor_of 9 1 ∷
      and_of 16 18 ∷ xor_of 13 4 ∷ xor_of 1 4 ∷ and_of 37 23 ∷ and_of 35 12 ∷ xor_of 0 1 ∷ and_of 39 25 ∷
      xor_of 0 3 ∷ xor_of 13 15 ∷ xor_of 9 10 ∷ xor_of 8 2 ∷ xor_of 8 3 ∷ xor_of 3 6 ∷ xor_of 3 7 ∷
      xor_of 2 25 ∷ xor_of 1 0 ∷ and_of 2 3 ∷ xor_of 6 0 ∷ and_of 3 5 ∷ xor_of 6 8 ∷ xor_of 5 3 ∷ and_of 0 1 ∷
      and_of 4 6 ∷ and_of 3 4 ∷ xor_of 4 7 ∷ and_of 14 11 ∷ and_of 10 0 ∷ xor_of 11 10 ∷ xor_of 17 6 ∷
      xor_of 5 4 ∷ xor_of 15 7 ∷ xor_of 4 3 ∷ xor_of 2 0 ∷ xor_of 4 2 ∷ xor_of 5 4 ∷ xor_of 4 3 ∷ xor_of 2 3 ∷
      and_of 1 66 ∷ and_of 6 65 ∷ and_of 8 74 ∷ and_of 5 61 ∷ and_of 75 7 ∷ and_of 12 68 ∷ and_of 14 61 ∷
      and_of 10 64 ∷ and_of 8 53 ∷ and_of 13 65 ∷ and_of 11 69 ∷ and_of 16 61 ∷ and_of 18 66 ∷ and_of 15 82 ∷
      and_of 21 65 ∷ and_of 23 68 ∷ and_of 16 84 ∷ and_of 21 87 ∷ xor_of 13 1 ∷ xor_of 7 6 ∷ xor_of 13 5 ∷
      xor_of 10 9 ∷ xor_of 19 15 ∷ xor_of 14 13 ∷ xor_of 23 20 ∷ xor_of 11 22 ∷ xor_of 18 17 ∷ xor_of 13 6 ∷
      xor_of 2 3 ∷ xor_of 23 10 ∷ xor_of 26 3 ∷ xor_of 13 14 ∷ xor_of 13 3 ∷ xor_of 17 4 ∷ xor_of 10 4 ∷
      xor_of 13 5 ∷ xor_of 30 5 ∷ xor_of 3 2 ∷ xor_of 36 2 ∷ xor_of 8 3 ∷ xor_of 12 5 ∷ xor_of 20 8 ∷
      xor_of 5 4 ∷ xor_of 18 4 ∷ xor_of 21 5 ∷ xor_of 25 7 ∷ xor_of 9 2 ∷ xor_of 15 4 ∷ [];
  results = 6 ∷ 7 ∷ 2 ∷ 3 ∷ 4 ∷ 0 ∷ 1 ∷ 8 ∷ [];
}

-- the inverse S-box at the sum of the byte and 0x63
abbrev pub inv_sub_byte_circuit : Circuit
inv_sub_byte_circuit = record {
  gates =
      xor_of 7 4 ∷ xor_of 7 5 ∷ xor_of 9 8 ∷ xor_of 7 6 ∷ xor_of 7 4 ∷ xor_of 6 5 ∷ xor_of 12 5 ∷ xor_of 5 1 ∷
      xor_of 8 4 ∷ xor_of 6 4 ∷ xor_of 7 4 ∷ xor_of 7 5 ∷ xor_of 17 8 ∷ xor_of 19 14 ∷ xor_of 19 6 ∷
      xor_of 10 1 ∷ xor_of 19 9 ∷ xor_of 22 19 ∷ xor_of 20 19 ∷ xor_of 24 22 ∷ xor_of 27 2 ∷ xor_of 7 1 ∷
      xor_of 12 3 ∷ xor_of 19 4 ∷ xor_of 22 6 ∷ xor_of 15 1 ∷ xor_of 14 4 ∷ and_of 26 20 ∷ and_of 17 3 ∷
      xor_of 6 0 ∷ and_of 22 9 ∷ xor_of 0 2 ∷ and_of 20 10 ∷ and_of 31 24 ∷ xor_of 7 1 ∷ and_of 19 20 ∷
      xor_of 31 4 ∷ xor_of 1 4 ∷ and_of 34 12 ∷ and_of 22 15 ∷ xor_of 0 1 ∷ and_of 38 31 ∷ xor_of 0 3 ∷
      xor_of 13 15 ∷ xor_of 9 10 ∷ xor_of 8 2 ∷ xor_of 8 3 ∷ xor_of 3 6 ∷ xor_of 3 7 ∷ xor_of 2 36 ∷
      xor_of 1 0 ∷ and_of 2 3 ∷ xor_of 6 0 ∷ and_of 3 5 ∷ xor_of 6 8 ∷ xor_of 5 3 ∷ and_of 0 1 ∷ and_of 4 6 ∷
      and_of 3 4 ∷ xor_of 4 7 ∷ and_of 14 11 ∷ and_of 10 0 ∷ xor_of 11 10 ∷ xor_of 17 6 ∷ xor_of 5 4 ∷
      xor_of 15 7 ∷ xor_of 4 3 ∷ xor_of 2 0 ∷ xor_of 4 2 ∷ xor_of 5 4 ∷ xor_of 4 3 ∷ xor_of 2 3 ∷
      and_of 1 47 ∷ and_of 6 66 ∷ and_of 8 53 ∷ and_of 5 53 ∷ and_of 72 7 ∷ and_of 12 68 ∷ and_of 14 63 ∷
      and_of 10 53 ∷ and_of 8 56 ∷ and_of 13 71 ∷ and_of 11 71 ∷ and_of 16 82 ∷ and_of 18 76 ∷ and_of 15 73 ∷
      and_of 21 84 ∷ and_of 23 71 ∷ and_of 16 71 ∷ and_of 21 86 ∷ xor_of 4 3 ∷ xor_of 11 14 ∷ xor_of 3 1 ∷
      xor_of 1 0 ∷ xor_of 21 19 ∷ xor_of 13 1 ∷ xor_of 11 6 ∷ xor_of 18 13 ∷ xor_of 15 1 ∷ xor_of 21 18 ∷
      xor_of 21 4 ∷ xor_of 6 3 ∷ xor_of 10 0 ∷ xor_of 27 15 ∷ xor_of 7 1 ∷ xor_of 31 27 ∷ xor_of 11 10 ∷
      xor_of 22 5 ∷ xor_of 17 8 ∷ xor_of 36 3 ∷ xor_of 5 1 ∷ xor_of 18 12 ∷ xor_of 36 11 ∷ xor_of 37 19 ∷
      xor_of 13 4 ∷ xor_of 11 7 ∷ xor_of 29 0 ∷ xor_of 40 18 ∷ xor_of 18 4 ∷ xor_of 2 4 ∷ xor_of 8 0 ∷ [];
  results = 3 ∷ 2 ∷ 6 ∷ 10 ∷ 14 ∷ 1 ∷ 0 ∷ 8 ∷ [];
}
