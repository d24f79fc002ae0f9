-- Loops over bytes that count up, over the pairs of a section, and over sections: those before are made.
use Rattle.std.proofs.Common.{◌≡◌, ℕ, ◌+◌, ◌<◌, List, [], ◌∷◌, ◌++◌, length, take, slice_set, map, flat_map, refl, sym, ap, ap₂, ◌∙◌, arith, zero-add}
use Rattle.std.specs.List.{range_with_len}
use Rattle.std.proofs.lemmas.List.{map-id, flat_map_more, take_all, take_more_set}
use Rattle.std.proofs.lemmas.List.FromFn.{map-range_with_len_more}
use Rattle.bc_script.specs.declared.op.Op.{Op}
use Rattle.bc_script.specs.GeneratedScript.{generated_pair, generated_section}

range_more : (first n : ℕ) → range_with_len first (n + 1) ≡ range_with_len first n ++ (first + n) ∷ []
range_more first n =
    sym (map-id (range_with_len first (n + 1))) ∙ map-range_with_len_more (λ (j : ℕ). j) first n (first + n) refl
    ∙ ap (λ (l : List ℕ). l ++ (first + n) ∷ []) (map-id (range_with_len first n))

-- one byte more
pub byte_more : (first i byte : ℕ) (bytes : List ℕ) → i < length bytes → byte ≡ first + i → take i bytes ≡ range_with_len first i
    → take (i + 1) (slice_set bytes i byte) ≡ range_with_len first (i + 1)
byte_more first i byte bytes inside is before =
    take_more_set bytes i byte inside ∙ ap₂ (λ (l : List ℕ) (b : ℕ). l ++ b ∷ []) before is ∙ sym (range_more first i)

-- all bytes
pub all_bytes : (first i n : ℕ) (bytes : List ℕ) → length bytes ≡ n → i ≡ n → take i bytes ≡ range_with_len first i → bytes ≡ range_with_len first n
all_bytes first i n bytes long all before =
    sym (take_all n bytes (omega arith)) ∙ ap (λ (k : ℕ). take k bytes) (sym all) ∙ before ∙ ap (range_with_len first) all

-- one pair more
pub pair_more : (n thread j : ℕ) (ops : List Op) → ops ≡ flat_map (generated_pair n thread) (range_with_len 0 j)
    → ops ++ generated_pair n thread j ≡ flat_map (generated_pair n thread) (range_with_len 0 (j + 1))
pair_more n thread j ops before =
    ap (λ (l : List Op). l ++ generated_pair n thread j) before
    ∙ flat_map_more (generated_pair n thread) [] (range_with_len 0 j) j
    ∙ ap (flat_map (generated_pair n thread)) (sym (range_more 0 j ∙ ap (λ (k : ℕ). range_with_len 0 j ++ k ∷ []) (zero-add j)))

-- one section more
pub section_more : (n thread : ℕ) (sections : List (List Op)) → sections ≡ map (generated_section n) (range_with_len 0 thread)
    → sections ++ generated_section n thread ∷ [] ≡ map (generated_section n) (range_with_len 0 (thread + 1))
section_more n thread sections before =
    ap (λ (l : List (List Op)). l ++ generated_section n thread ∷ []) before
    ∙ sym (map-range_with_len_more (generated_section n) 0 thread thread (zero-add thread))
