-- A list's chunks: with one more element, and joined again.
use Rattle.std.proofs.Common.{◌≡◌, Bool, true, false, cond, List, [], ◌∷◌, ◌++◌, refl, ap, ◌∙◌}
use Rattle.std.specs.Prelude.{flat_map}
use Rattle.bc_bio.specs.Chunks.{chunks_with, chunk_by, joins_last, chunks_and}

pub chunks_and-joined : {X : Type 0} (together : X → X → Bool) (chunks : List (List X)) (last : List X) (x : X) → joins_last together last x ≡ true
    → chunks_and together (chunks ++ last ∷ []) x ≡ chunks ++ (last ++ x ∷ []) ∷ []
chunks_and-joined together [] last x joined = ap (λ (b : Bool). cond b ((last ++ x ∷ []) ∷ []) (last ∷ (x ∷ []) ∷ [])) joined
chunks_and-joined together (first ∷ []) last x joined = ap (λ (cs : List (List _)). first ∷ cs) (chunks_and-joined together [] last x joined)
chunks_and-joined together (first ∷ second ∷ chunks) last x joined = ap (λ (cs : List (List _)). first ∷ cs) (chunks_and-joined together (second ∷ chunks) last x joined)

pub chunks_and-apart : {X : Type 0} (together : X → X → Bool) (chunks : List (List X)) (last : List X) (x : X) → joins_last together last x ≡ false
    → chunks_and together (chunks ++ last ∷ []) x ≡ (chunks ++ last ∷ []) ++ (x ∷ []) ∷ []
chunks_and-apart together [] last x apart = ap (λ (b : Bool). cond b ((last ++ x ∷ []) ∷ []) (last ∷ (x ∷ []) ∷ [])) apart
chunks_and-apart together (first ∷ []) last x apart = ap (λ (cs : List (List _)). first ∷ cs) (chunks_and-apart together [] last x apart)
chunks_and-apart together (first ∷ second ∷ chunks) last x apart = ap (λ (cs : List (List _)). first ∷ cs) (chunks_and-apart together (second ∷ chunks) last x apart)

one_chunk : {X : Type 0} (together : X → X → Bool) (x z : X) (zs : List X) (y : X) (a b : Bool) → together x z ≡ a → joins_last together (z ∷ zs) y ≡ b
    → chunks_with together x (cond (joins_last together (z ∷ zs) y) ((z ∷ zs ++ y ∷ []) ∷ []) ((z ∷ zs) ∷ (y ∷ []) ∷ []))
    ≡ chunks_and together (cond (together x z) ((x ∷ z ∷ zs) ∷ []) ((x ∷ []) ∷ (z ∷ zs) ∷ [])) y
one_chunk together x z zs y true true is joined = rw (joined, is, joined) refl
one_chunk together x z zs y true false is joined = rw (joined, is, joined) refl
one_chunk together x z zs y false true is joined = rw (joined, is, joined) refl
one_chunk together x z zs y false false is joined = rw (joined, is, joined) refl

-- an element at the beginning and one at the end, in either order
with_first : {X : Type 0} (together : X → X → Bool) (x : X) (chunks : List (List X)) (y : X)
    → chunks_with together x (chunks_and together chunks y) ≡ chunks_and together (chunks_with together x chunks) y
with_first together x [] y =
    elim (together x y) as (λ (b : Bool). cond b ((x ∷ y ∷ []) ∷ []) ((x ∷ []) ∷ (y ∷ []) ∷ []) ≡ cond b ((x ∷ y ∷ []) ∷ []) ((x ∷ []) ∷ (y ∷ []) ∷ [])) [ true ↦ refl | false ↦ refl ]
with_first together x ([] ∷ []) y = refl
with_first together x ([] ∷ second ∷ chunks) y = refl
with_first together x ((z ∷ zs) ∷ []) y = one_chunk together x z zs y (together x z) (joins_last together (z ∷ zs) y) refl refl
with_first together x ((z ∷ zs) ∷ second ∷ chunks) y =
    elim (together x z) as (λ (a : Bool). cond a ((x ∷ z ∷ zs) ∷ chunks_and together (second ∷ chunks) y) ((x ∷ []) ∷ (z ∷ zs) ∷ chunks_and together (second ∷ chunks) y)
    ≡ chunks_and together (cond a ((x ∷ z ∷ zs) ∷ second ∷ chunks) ((x ∷ []) ∷ (z ∷ zs) ∷ second ∷ chunks)) y) [ true ↦ refl | false ↦ refl ]

-- the chunks of a list with one more element
pub chunk_by-more : {X : Type 0} (together : X → X → Bool) (xs : List X) (x : X) → chunk_by together (xs ++ x ∷ []) ≡ chunks_and together (chunk_by together xs) x
chunk_by-more together [] x = refl
chunk_by-more together (y ∷ ys) x =
    ap (λ (cs : List (List _)). chunks_with together y cs) (chunk_by-more together ys x) ∙ with_first together y (chunk_by together ys) x

-- the chunks joined again are the list
pub chunks_join : {X : Type 0} (together : X → X → Bool) (xs : List X) → flat_map (λ chunk. chunk) (chunk_by together xs) ≡ xs
chunks_join together [] = refl
chunks_join together (x ∷ xs) = first_of together x (chunk_by together xs) ∙ ap (λ (l : List _). x ∷ l) (chunks_join together xs)
  where
    first_of : {X : Type 0} (together : X → X → Bool) (x : X) (chunks : List (List X)) → flat_map (λ chunk. chunk) (chunks_with together x chunks) ≡ x ∷ flat_map (λ chunk. chunk) chunks
    first_of together x [] = refl
    first_of together x ([] ∷ chunks) = refl
    first_of together x ((y ∷ ys) ∷ chunks) =
        elim (together x y) as (λ (b : Bool). flat_map (λ chunk. chunk) (cond b ((x ∷ y ∷ ys) ∷ chunks) ((x ∷ []) ∷ (y ∷ ys) ∷ chunks)) ≡ x ∷ ((y ∷ ys) ++ flat_map (λ chunk. chunk) chunks)) [
          | true ↦ refl
          | false ↦ refl
        ]
