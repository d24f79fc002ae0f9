-- What a loop that prints has printed so far.
use Rattle.std.proofs.Common.{◌≡◌, ℕ, suc, ◌+◌, ◌<◌, List, [], ◌∷◌, ◌++◌, length, take, get_or, map, refl, sym, ap, ◌∙◌, append_assoc, arith}
use Rattle.std.specs.List.{flat_map, enumerate_from}
use Rattle.std.proofs.lemmas.List.{take_more, map_push, append-nil, length-take-le}
use Rattle.std.proofs.lemmas.List.Concat.{flat_map-append}
use Rattle.std.specs.Prelude.{codes}
use Rattle.bc_text.specs.Lines.{TextLine, space, line_feed, fields_text, line_text, lines_text}
use Rattle.bc_profile.specs.declared.skips.Skip.{Skip}
use Rattle.bc_report.specs.ReportText.{skip_field, skip_fields}
use Rattle.bc_text.proofs.Printing.{lines_text-append}
use Rattle.bc_report.specs.SpacedFields.{spaced}

pub enumerate_from-push : {X : Type 0} (n : ℕ) (xs : List X) (y : X) → enumerate_from n (xs ++ y ∷ []) ≡ enumerate_from n xs ++ (n + length xs, y) ∷ []
enumerate_from-push n [] y = let place : n ≡ n + 0 = omega arith in ap (λ (m : ℕ). (m, y) ∷ []) place
enumerate_from-push {X} n (x ∷ xs) y =
    let place : n + 1 + length xs ≡ n + suc (length xs) = omega arith in
    ap (λ (t : List (ℕ × X)). (n, x) ∷ t) (enumerate_from-push (n + 1) xs y ∙ ap (λ (m : ℕ). enumerate_from (n + 1) xs ++ (m, y) ∷ []) place)

-- one part of several lines more
pub parts_more : {X : Type 0} (f : ℕ × X → List TextLine) (xs : List X) (i : ℕ) (d : X) (old new : List ℕ) → i < length xs
    → new ≡ (old ++ lines_text (flat_map f (enumerate_from 0 (take i xs)))) ++ lines_text (f (i, get_or xs i d)) → new ≡ old ++ lines_text (flat_map f (enumerate_from 0 (take (i + 1) xs)))
parts_more {X} f xs i d old new lt e =
    let x = get_or xs i d in
    let before = flat_map f (enumerate_from 0 (take i xs)) in
    let here : 0 + length (take i xs) ≡ i = omega (arith, length-take-le i xs (omega arith)) in
    let all : enumerate_from 0 (take (i + 1) xs) ≡ enumerate_from 0 (take i xs) ++ (i, x) ∷ [] =
    ap (enumerate_from 0) (take_more xs i d lt) ∙ enumerate_from-push 0 (take i xs) x ∙ ap (λ (m : ℕ). enumerate_from 0 (take i xs) ++ (m, x) ∷ []) here in
    let step : lines_text (flat_map f (enumerate_from 0 (take (i + 1) xs))) ≡ lines_text before ++ lines_text (f (i, x)) =
    ap (λ (t : List (ℕ × X)). lines_text (flat_map f t)) all ∙ ap lines_text (flat_map-append f (enumerate_from 0 (take i xs)) ((i, x) ∷ []))
    ∙ lines_text-append before (f (i, x) ++ []) ∙ ap (λ (t : List TextLine). lines_text before ++ lines_text t) (append-nil (f (i, x))) in
    e ∙ append_assoc old (lines_text before) (lines_text (f (i, x))) ∙ ap (λ (t : List ℕ). old ++ t) (sym step)

-- the whole text
pub whole_text : (text with_threads with_shards with_devices : List ℕ) (a : TextLine) (b c d e : List TextLine) → with_threads ≡ line_text a ++ lines_text b → with_shards ≡ with_threads ++ lines_text c
    → with_devices ≡ with_shards ++ lines_text d → text ≡ with_devices ++ lines_text e → text ≡ lines_text (a ∷ (b ++ (c ++ (d ++ e))))
whole_text text t s v a b c d e p q r u =
    let de = lines_text-append d e in
    let cde = lines_text-append c (d ++ e) in
    let bcde = lines_text-append b (c ++ (d ++ e)) in
    u ∙ simp (p, q, r, de, cde, bcde, append_assoc)

-- ---- the fields of a programming's line

spaced-append : (a b : TextLine) → spaced (a ++ b) ≡ spaced a ++ spaced b
spaced-append a b = flat_map-append (λ (field : List ℕ). space ∷ field) a b

fields_text-spaced : (f : List ℕ) (fs : TextLine) → fields_text (f ∷ fs) ≡ f ++ spaced fs
fields_text-spaced f [] = sym (append-nil f)
fields_text-spaced f (g ∷ fs) = ap (λ (t : List ℕ). f ++ space ∷ t) (fields_text-spaced g fs)

-- one slot more
pub spaced_more : {X : Type 0} (f : X → List ℕ) (xs : List X) (i : ℕ) (d : X) (old new : List ℕ) → i < length xs → new ≡ (old ++ spaced (map f (take i xs))) ++ (space ∷ f (get_or xs i d))
    → new ≡ old ++ spaced (map f (take (i + 1) xs))
spaced_more f xs i d old new lt e =
    let step : spaced (map f (take (i + 1) xs)) ≡ spaced (map f (take i xs)) ++ (space ∷ f (get_or xs i d)) =
    ap (λ (t : List _). spaced (map f t)) (take_more xs i d lt) ∙ ap spaced (map_push f (take i xs) (get_or xs i d)) ∙ spaced-append (map f (take i xs)) (f (get_or xs i d) ∷ [])
    ∙ ap (λ (t : List ℕ). spaced (map f (take i xs)) ++ t) (append-nil (space ∷ f (get_or xs i d))) in
    e ∙ append_assoc old (spaced (map f (take i xs))) (space ∷ f (get_or xs i d)) ∙ ap (λ (t : List ℕ). old ++ t) (sym step)

pub no_skips : (old : List ℕ) (skips : List Skip) → length skips ≡ 0 → old ≡ old ++ spaced (skip_fields skips)
no_skips old [] e = sym (append-nil old)
no_skips old (skip ∷ skips) e = absurd (omega arith)

pub some_skips : (old mid new : List ℕ) (skips : List Skip) → (length skips ≡ 0 → ⊥) → mid ≡ old ++ codes " skip" → new ≡ mid ++ spaced (map skip_field skips) → new ≡ old ++ spaced (skip_fields skips)
some_skips old mid new [] some p q = absurd (some refl)
some_skips old mid new (skip ∷ skips) some p q = q ∙ ap (λ (t : List ℕ). t ++ spaced (map skip_field (skip ∷ skips))) p ∙ append_assoc old (codes " skip") (spaced (map skip_field (skip ∷ skips)))

pub program_parts : (word slot key : List ℕ) (skips : TextLine) (old a b c d new : List ℕ) → a ≡ old ++ word → b ≡ a ++ (space ∷ slot) → c ≡ b ++ (space ∷ key) → d ≡ c ++ spaced skips → new ≡ d ++ line_feed ∷ []
    → new ≡ old ++ line_text (word ∷ slot ∷ key ∷ skips)
program_parts word slot key skips old a b c d new p q r s t =
    let text = fields_text-spaced word (slot ∷ key ∷ skips) in
    t ∙ simp (s, r, q, p, text, append_assoc)

-- one part more, as a loop over the parts knows it
pub parts_step : {X : Type 0} (f : ℕ × X → List TextLine) (xs : List X) (i : ℕ) (x y : X) (old mid new : List ℕ) → i < length xs → x ≡ get_or xs i x → y ≡ x
    → mid ≡ old ++ lines_text (flat_map f (enumerate_from 0 (take i xs))) → new ≡ mid ++ lines_text (f (i, y)) → new ≡ old ++ lines_text (flat_map f (enumerate_from 0 (take (i + 1) xs)))
parts_step {X} f xs i x y old mid new within is named so_far more =
    parts_more f xs i x old new within (more ∙ ap (λ (t : List ℕ). t ++ lines_text (f (i, y))) so_far ∙ ap (λ (z : X). (old ++ lines_text (flat_map f (enumerate_from 0 (take i xs)))) ++ lines_text (f (i, z))) (named ∙ is))
