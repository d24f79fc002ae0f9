-- Lists of bytes, by `All` and by places.
use Rattle.std.proofs.Common.{ℕ, zero, suc, ◌<◌, List, [], ◌∷◌, arith}
use Rattle.std.specs.List.{All, AllByRecursion}
use Rattle.std.proofs.lemmas.List.Elements.{All-from_recursion, recursion_from_All}
use Rattle.hex.specs.Hex.{IsBytes}

by_place : (bytes : List ℕ) → AllByRecursion (λ b. b < 256) bytes → IsBytes bytes
by_place [] all i = omega arith
by_place (b ∷ bytes) all zero = all.0
by_place (b ∷ bytes) all (suc i) = by_place bytes all.1 i

by_recursion : (bytes : List ℕ) → IsBytes bytes → AllByRecursion (λ b. b < 256) bytes
by_recursion [] fits = tt
by_recursion (b ∷ bytes) fits = (fits 0, by_recursion bytes (λ i. fits (suc i)))

pub IsBytes-All : (bytes : List ℕ) → All (λ b. b < 256) bytes → IsBytes bytes
IsBytes-All bytes all = by_place bytes (recursion_from_All (λ b. b < 256) bytes all)

pub All-IsBytes : (bytes : List ℕ) → IsBytes bytes → All (λ b. b < 256) bytes
All-IsBytes bytes fits = All-from_recursion (λ b. b < 256) bytes (by_recursion bytes fits)
