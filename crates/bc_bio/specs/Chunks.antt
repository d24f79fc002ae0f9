-- A list cut where neighbours don't go together, as Rust's `chunk_by`.
use Rattle.std.specs.Prelude.{Bool, false, List, [], ◌∷◌, ◌++◌, IsTrue, if◌then◌else◌}

-- the chunks of x and what follows it, from the chunks of what follows
abbrev pub chunks_with : {X : Type 0} → (X → X → Bool) → X → List (List X) → List (List X)
chunks_with together x ((y ∷ ys) ∷ chunks) =
    if together x y then (x ∷ y ∷ ys) ∷ chunks else (x ∷ []) ∷ (y ∷ ys) ∷ chunks
chunks_with together x chunks = (x ∷ []) ∷ chunks

-- the chunks of a list: neighbours stand in one chunk exactly where they go together
abbrev pub chunk_by : {X : Type 0} → (X → X → Bool) → List X → List (List X)
chunk_by together [] = []
chunk_by together (x ∷ xs) = chunks_with together x (chunk_by together xs)

-- an element goes together with the last one of a list
abbrev pub joins_last : {X : Type 0} → (X → X → Bool) → List X → X → Bool
joins_last together [] x = false
joins_last together (last ∷ []) x = together last x
joins_last together (first ∷ second ∷ others) x = joins_last together (second ∷ others) x

-- the chunks with one more element at the end: in the last chunk, where it goes together with the
-- last one there, and else in a chunk of its own
abbrev pub chunks_and : {X : Type 0} → (X → X → Bool) → List (List X) → X → List (List X)
chunks_and together [] x = (x ∷ []) ∷ []
chunks_and together (last ∷ []) x =
    if joins_last together last x then (last ++ x ∷ []) ∷ [] else last ∷ (x ∷ []) ∷ []
chunks_and together (first ∷ second ∷ chunks) x = first ∷ chunks_and together (second ∷ chunks) x

-- each element goes together with the next one
abbrev pub Linked : {X : Type 0} → (X → X → Bool) → List X → Type 0
Linked together [] = Unit {0}
Linked together (last ∷ []) = Unit {0}
Linked together (first ∷ second ∷ others) = IsTrue (together first second) × Linked together (second ∷ others)
