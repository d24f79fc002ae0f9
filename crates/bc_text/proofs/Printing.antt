-- What a loop that prints has printed so far.
use Rattle.std.proofs.Common.{◌≡◌, ℕ, ◌+◌, ◌<◌, List, [], ◌∷◌, ◌++◌, length, take, get_or, map, refl, sym, ap, ◌∙◌, append_assoc, slice_index, ◌/◌, ◌%◌}
use Rattle.std.proofs.lemmas.List.{take_more, map_push, append-nil}
use Rattle.std.proofs.lemmas.List.Concat.{flat_map-append}
use Rattle.hex.specs.Hex.{encode_with, encode_lower, lower_digits}
use Rattle.bc_text.specs.Lines.{TextLine, line_text, lines_text}

pub lines_text-append : (a b : List TextLine) → lines_text (a ++ b) ≡ lines_text a ++ lines_text b
lines_text-append a b = flat_map-append line_text a b

-- one line more
pub lines_text_more : {X : Type 0} (f : X → TextLine) (xs : List X) (i : ℕ) (d : X) (old new : List ℕ) → i < length xs → new ≡ (old ++ lines_text (map f (take i xs))) ++ line_text (f (get_or xs i d))
    → new ≡ old ++ lines_text (map f (take (i + 1) xs))
lines_text_more f xs i d old new lt e =
    let step : lines_text (map f (take (i + 1) xs)) ≡ lines_text (map f (take i xs)) ++ line_text (f (get_or xs i d)) =
    ap (λ (t : List _). lines_text (map f t)) (take_more xs i d lt) ∙ ap lines_text (map_push f (take i xs) (get_or xs i d)) ∙ lines_text-append (map f (take i xs)) (f (get_or xs i d) ∷ [])
    ∙ ap (λ (t : List ℕ). lines_text (map f (take i xs)) ++ t) (append-nil (line_text (f (get_or xs i d)))) in
    e ∙ append_assoc old (lines_text (map f (take i xs))) (line_text (f (get_or xs i d))) ∙ ap (λ (t : List ℕ). old ++ t) (sym step)

-- ---- one byte more, in hexadecimal digits

encode_with-append : (t xs ys : List ℕ) → encode_with t (xs ++ ys) ≡ encode_with t xs ++ encode_with t ys
unfolding encode_with
encode_with-append t [] ys = refl
encode_with-append t (x ∷ xs) ys = ap (λ (r : List ℕ). slice_index t (x / 16) ∷ slice_index t (x % 16) ∷ r) (encode_with-append t xs ys)

pub encode_lower_more : (xs : List ℕ) (i : ℕ) (old new : List ℕ) → i < length xs → new ≡ (old ++ encode_lower (take i xs)) ++ encode_lower (get_or xs i 0 ∷ []) → new ≡ old ++ encode_lower (take (i + 1) xs)
encode_lower_more xs i old new lt e =
    let step : encode_lower (take (i + 1) xs) ≡ encode_lower (take i xs) ++ encode_lower (get_or xs i 0 ∷ []) = ap encode_lower (take_more xs i 0 lt) ∙ encode_with-append lower_digits (take i xs) (get_or xs i 0 ∷ []) in
    e ∙ append_assoc old (encode_lower (take i xs)) (encode_lower (get_or xs i 0 ∷ [])) ∙ ap (λ (t : List ℕ). old ++ t) (sym step)

pub encode_lower_none : (old : List ℕ) → old ≡ old ++ encode_lower []
unfolding encode_with
encode_lower_none old = sym (append-nil old)
