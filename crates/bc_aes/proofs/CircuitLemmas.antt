-- A circuit computes with slices what it computes with each bit; and with the bits of each byte, the S-box.
use Rattle.std.proofs.Common.{◌≡◌, ℕ, zero, suc, ◌+◌, ◌%◌, ◌<◌, Bool, true, false, List, [], ◌∷◌, ◌++◌, map, length, slice_index, slice_index_or, replicate, refl, sym, ap, ap₂, ◌∙◌, arith, bit_xor, bit_and, min, if◌then◌else◌}
use Rattle.std.proofs.lemmas.Nat.Bits.{bit_at_xor, bit_at_and, bit_at-zero, bit_at_ones}
use Rattle.std.proofs.lemmas.Simd.{get_or-zip2, length-zip2, get_or-replicate}
use Rattle.std.specs.Simd.Lanes.{zip2, Each1}
use Rattle.std.specs.Int.{bit_at}
use Rattle.bc_aes.specs.State.{byte_of_bits}
use Rattle.bc_aes.specs.Circuit.{Gate, Circuit, gate_value, values_after, results_of, bit_logic, slice_logic}

abbrev pub Long : List ℕ → Type 0
Long v = length v ≡ 16

-- bit k of byte p of a slice
abbrev pub bit_of : ℕ → ℕ → List ℕ → ℕ
bit_of p k v = bit_at (slice_index v p) k

-- the byte of these bits, bit 0 first
abbrev pub byte_from : List ℕ → ℕ
byte_from bits = byte_of_bits (λ j. slice_index bits j)

pub long : (f : ℕ → ℕ → ℕ) (xs ys : List ℕ) → Long xs → Long ys → Long (zip2 f xs ys)
long f xs ys hx hy = length-zip2 f xs ys (hx ∙ sym hy) ∙ hx

pub lane : (f : ℕ → ℕ → ℕ) (xs ys : List ℕ) (p : ℕ) → p < 16 → Long xs → Long ys → slice_index (zip2 f xs ys) p ≡ f (slice_index xs p) (slice_index ys p)
lane f xs ys p lt hx hy = get_or-zip2 f xs ys p 0 0 0 (omega (arith, hx)) (omega (arith, hy))

-- ---- one gate

gate_long : (b : Bool) (u v : List ℕ) → Long u → Long v → Long (if b then zip2 bit_and u v else zip2 bit_xor u v)
gate_long true u v hu hv = long bit_and u v hu hv
gate_long false u v hu hv = long bit_xor u v hu hv

gate_bit : (p k : ℕ) (b : Bool) (u v : List ℕ) → p < 16 → Long u → Long v
    → bit_of p k (if b then zip2 bit_and u v else zip2 bit_xor u v) ≡ (if b then min (bit_of p k u) (bit_of p k v) else (bit_of p k u + bit_of p k v) % 2)
gate_bit p k true u v lt hu hv = ap (λ (w : ℕ). bit_at w k) (lane bit_and u v p lt hu hv) ∙ bit_at_and (slice_index u p) (slice_index v p) k
gate_bit p k false u v lt hu hv = ap (λ (w : ℕ). bit_at w k) (lane bit_xor u v p lt hu hv) ∙ bit_at_xor (slice_index u p) (slice_index v p) k

-- ---- the values so far

index_long : (values : List (List ℕ)) (i : ℕ) → Each1 Long values → Long (slice_index_or values i (replicate 16 0))
index_long [] i h = refl
index_long (v ∷ vs) zero h = h.0
index_long (v ∷ vs) (suc i) h = index_long vs i h.1

index_bit : (p k : ℕ) (values : List (List ℕ)) (i : ℕ) → p < 16
    → slice_index_or (map (bit_of p k) values) i 0 ≡ bit_of p k (slice_index_or values i (replicate 16 0))
index_bit p k [] i lt = sym (ap (λ (w : ℕ). bit_at w k) (get_or-replicate 16 p 0 0 lt) ∙ bit_at-zero k)
index_bit p k (v ∷ vs) zero lt = refl
index_bit p k (v ∷ vs) (suc i) lt = index_bit p k vs i lt

values_bits : (p k : ℕ) (gates : List Gate) (values : List (List ℕ)) → p < 16 → Each1 Long values
    → map (bit_of p k) (values_after slice_logic gates values) ≡ values_after bit_logic gates (map (bit_of p k) values)
values_bits p k [] values lt h = refl
values_bits p k (g ∷ gates) values lt h =
    let u : List ℕ = slice_index_or values g.left (replicate 16 0) in
    let v : List ℕ = slice_index_or values g.right (replicate 16 0) in
    let hu : Long u = index_long values g.left h in
    let hv : Long v = index_long values g.right h in
    let top : bit_of p k (gate_value slice_logic values g) ≡ gate_value bit_logic (map (bit_of p k) values) g =
    gate_bit p k g.is_and u v lt hu hv
    ∙ ap₂ (λ (x y : ℕ). if g.is_and then min x y else (x + y) % 2) (sym (index_bit p k values g.left lt)) (sym (index_bit p k values g.right lt)) in
    values_bits p k gates (gate_value slice_logic values g ∷ values) lt (gate_long g.is_and u v hu hv, h)
    ∙ ap (λ (w : ℕ). values_after bit_logic gates (w ∷ map (bit_of p k) values)) top

picked_bits : (p k : ℕ) (results : List ℕ) (values : List (List ℕ)) → p < 16
    → map (bit_of p k) (map (λ i. slice_index_or values i (replicate 16 0)) results) ≡ map (λ i. slice_index_or (map (bit_of p k) values) i 0) results
picked_bits p k [] values lt = refl
picked_bits p k (i ∷ is) values lt = ap₂ (λ (w : ℕ) (ws : List ℕ). w ∷ ws) (sym (index_bit p k values i lt)) (picked_bits p k is values lt)

-- ---- a whole circuit, given the inputs and all ones

inputs_long : (inputs : List (List ℕ)) → Each1 Long inputs → Each1 Long (inputs ++ replicate 16 255 ∷ [])
inputs_long [] h = (refl, tt)
inputs_long (v ∷ vs) h = (h.0, inputs_long vs h.1)

inputs_bits : (p k : ℕ) (inputs : List (List ℕ)) → p < 16 → k < 8
    → map (bit_of p k) (inputs ++ replicate 16 255 ∷ []) ≡ map (bit_of p k) inputs ++ 1 ∷ []
inputs_bits p k [] lt kt = ap (λ (w : ℕ). w ∷ []) (ap (λ (w : ℕ). bit_at w k) (get_or-replicate 16 p 255 0 lt) ∙ bit_at_ones 8 k kt)
inputs_bits p k (v ∷ vs) lt kt = ap (λ (ws : List ℕ). bit_of p k v ∷ ws) (inputs_bits p k vs lt kt)

pub results_bits : (circuit : Circuit) (p k : ℕ) (inputs : List (List ℕ)) → p < 16 → k < 8 → Each1 Long inputs
    → map (bit_of p k) (results_of slice_logic circuit inputs) ≡ results_of bit_logic circuit (map (bit_of p k) inputs)
results_bits circuit p k inputs lt kt h =
    picked_bits p k circuit.results (values_after slice_logic circuit.gates (inputs ++ replicate 16 255 ∷ [])) lt
    ∙ ap (λ (values : List ℕ). map (λ i. slice_index_or values i 0) circuit.results)
    (values_bits p k circuit.gates (inputs ++ replicate 16 255 ∷ []) lt (inputs_long inputs h)
    ∙ ap (λ (values : List ℕ). values_after bit_logic circuit.gates values) (inputs_bits p k inputs lt kt))
