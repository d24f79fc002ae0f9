-- What a loop that prints has printed so far.
use Rattle.std.proofs.Common.{◌≡◌, ℕ, ◌+◌, ◌<◌, List, [], ◌∷◌, ◌++◌, length, take, get_or, refl, sym, ap, ◌∙◌, append_assoc}
use Rattle.std.specs.Prelude.{codes}
use Rattle.std.specs.List.{flat_map}
use Rattle.std.proofs.lemmas.List.{take_more, append-nil}
use Rattle.std.proofs.lemmas.List.Concat.{flat_map-append}
use Rattle.bc_text.specs.Lines.{TextLine, space, line_feed, fields_text, line_text, lines_text}
use Rattle.bc_text.proofs.Printing.{lines_text-append}

-- one part of several lines more
pub parts_more : {X : Type 0} (f : X → List TextLine) (xs : List X) (i : ℕ) (d : X) (old new : List ℕ) → i < length xs
    → new ≡ (old ++ lines_text (flat_map f (take i xs))) ++ lines_text (f (get_or xs i d)) → new ≡ old ++ lines_text (flat_map f (take (i + 1) xs))
parts_more {X} f xs i d old new lt e =
    let x = get_or xs i d in
    let before = flat_map f (take i xs) in
    let step : lines_text (flat_map f (take (i + 1) xs)) ≡ lines_text before ++ lines_text (f x) =
    ap (λ (t : List X). lines_text (flat_map f t)) (take_more xs i d lt) ∙ ap lines_text (flat_map-append f (take i xs) (x ∷ []))
    ∙ lines_text-append before (f x ++ []) ∙ ap (λ (t : List TextLine). lines_text before ++ lines_text t) (append-nil (f x)) in
    e ∙ append_assoc old (lines_text before) (lines_text (f x)) ∙ ap (λ (t : List ℕ). old ++ t) (sym step)

-- one field before others, and what stands after them
in_front : (x y n r : List ℕ) → y ++ n ≡ r → (x ++ space ∷ y) ++ n ≡ x ++ space ∷ r
in_front x y n r e = append_assoc x (space ∷ y) n ∙ ap (λ (t : List ℕ). x ++ space ∷ t) e

four_parts : (old a b c d t u v new : List ℕ) → t ≡ old ++ a → u ≡ t ++ b → v ≡ u ++ c → new ≡ v ++ d → new ≡ old ++ (a ++ (b ++ (c ++ d)))
four_parts old a b c d t u v new p q r s =
    s ∙ ap (λ (x : List ℕ). x ++ d) (r ∙ ap (λ (x : List ℕ). x ++ c) (q ∙ ap (λ (x : List ℕ). x ++ b) p))
    ∙ append_assoc ((old ++ a) ++ b) c d ∙ append_assoc (old ++ a) b (c ++ d) ∙ append_assoc old a (b ++ (c ++ d))

-- a key's line
pub key_parts : (old name mode unit bytes digits t u v new : List ℕ) → t ≡ old ++ codes "key " → u ≡ t ++ name → v ≡ u ++ space ∷ fields_text (mode ∷ unit ∷ bytes ∷ [])
    → new ≡ v ++ space ∷ (digits ++ line_feed ∷ []) → new ≡ old ++ line_text (codes "key" ∷ name ∷ mode ∷ unit ∷ bytes ∷ digits ∷ [])
key_parts old name mode unit bytes digits t u v new p q r s =
    let end : List ℕ = line_feed ∷ [] in
    let last = space ∷ (digits ++ end) in
    let left = in_front mode (unit ++ space ∷ bytes) last _ (in_front unit bytes last _ refl) in
    let right = in_front name _ end _ (in_front mode _ end _ (in_front unit _ end _ (in_front bytes digits end _ refl))) in
    four_parts old (codes "key ") name (space ∷ fields_text (mode ∷ unit ∷ bytes ∷ [])) last t u v new p q r s
    ∙ ap (λ (x : List ℕ). old ++ (codes "key " ++ (name ++ space ∷ x))) left ∙ sym (ap (λ (x : List ℕ). old ++ (codes "key " ++ x)) right)

-- a device's line
pub device_parts : (old first blocks slots xts essiv dun_bytes t u v new : List ℕ) → t ≡ old ++ codes "device " → u ≡ t ++ fields_text (first ∷ blocks ∷ slots ∷ [])
    → v ≡ u ++ space ∷ fields_text (xts ∷ essiv ∷ dun_bytes ∷ []) → new ≡ v ++ line_feed ∷ []
    → new ≡ old ++ line_text (codes "device" ∷ first ∷ blocks ∷ slots ∷ xts ∷ essiv ∷ dun_bytes ∷ [])
device_parts old first blocks slots xts essiv dun_bytes t u v new p q r s =
    let end : List ℕ = line_feed ∷ [] in
    let caps = space ∷ fields_text (xts ∷ essiv ∷ dun_bytes ∷ []) in
    let last : caps ++ end ≡ _ = ap (λ (x : List ℕ). space ∷ x) (in_front xts _ end _ (in_front essiv dun_bytes end _ refl)) in
    let left = in_front first (blocks ++ space ∷ slots) (caps ++ end) _ (in_front blocks slots (caps ++ end) _ refl) in
    let right = in_front first _ end _ (in_front blocks _ end _ (in_front slots _ end _ (in_front xts _ end _ (in_front essiv dun_bytes end _ refl)))) in
    four_parts old (codes "device ") (fields_text (first ∷ blocks ∷ slots ∷ [])) caps end t u v new p q r s
    ∙ ap (λ (x : List ℕ). old ++ (codes "device " ++ x)) (left ∙ ap (λ (x : List ℕ). first ++ space ∷ (blocks ++ space ∷ (slots ++ x))) last ∙ sym right)

-- the first fields of a bio's line
pub bio_parts : (old word key sector units number t u v new : List ℕ) → t ≡ old ++ word → u ≡ t ++ space ∷ key → v ≡ u ++ space ∷ fields_text (sector ∷ units ∷ [])
    → new ≡ v ++ space ∷ number → new ≡ old ++ fields_text (word ∷ key ∷ sector ∷ units ∷ number ∷ [])
bio_parts old word key sector units number t u v new p q r s =
    four_parts old word (space ∷ key) (space ∷ fields_text (sector ∷ units ∷ [])) (space ∷ number) t u v new p q r s
    ∙ ap (λ (x : List ℕ). old ++ (word ++ space ∷ (key ++ space ∷ x))) (in_front sector units (space ∷ number) _ refl)

-- three lines
pub three_lines : (old a b c new : List ℕ) → new ≡ ((old ++ a) ++ b) ++ c → new ≡ old ++ (a ++ (b ++ (c ++ [])))
three_lines old a b c new e = e ∙ append_assoc (old ++ a) b c ∙ append_assoc old a (b ++ c) ∙ ap (λ (t : List ℕ). old ++ (a ++ (b ++ t))) (sym (append-nil c))

-- the first three lines, and those of devices
pub with_devices : (old first new : List ℕ) (a b c : TextLine) (ds : List TextLine) → first ≡ old ++ lines_text (a ∷ b ∷ c ∷ []) → new ≡ first ++ lines_text ds → new ≡ old ++ lines_text (a ∷ b ∷ c ∷ ds)
with_devices old first new a b c ds p q =
    q ∙ ap (λ (x : List ℕ). x ++ lines_text ds) p ∙ append_assoc old (lines_text (a ∷ b ∷ c ∷ [])) (lines_text ds)
    ∙ sym (ap (λ (x : List ℕ). old ++ x) (lines_text-append (a ∷ b ∷ c ∷ []) ds))

-- all parts of a text
pub all_parts : (head keys faults sections text : List ℕ) (a b c d e : List TextLine) → head ≡ lines_text a → keys ≡ head ++ lines_text b → faults ≡ keys ++ lines_text c → sections ≡ faults ++ lines_text d → text ≡ sections ++ lines_text e
    → text ≡ lines_text (a ++ (b ++ (c ++ (d ++ e))))
all_parts head keys faults sections text a b c d e p q r s t =
    let two = q ∙ ap (λ (x : List ℕ). x ++ lines_text b) p ∙ sym (lines_text-append a b) in
    let three = r ∙ ap (λ (x : List ℕ). x ++ lines_text c) two ∙ sym (lines_text-append (a ++ b) c) in
    let four = s ∙ ap (λ (x : List ℕ). x ++ lines_text d) three ∙ sym (lines_text-append ((a ++ b) ++ c) d) in
    t ∙ ap (λ (x : List ℕ). x ++ lines_text e) four ∙ sym (lines_text-append (((a ++ b) ++ c) ++ d) e)
    ∙ ap lines_text (append_assoc ((a ++ b) ++ c) d e ∙ append_assoc (a ++ b) c (d ++ e) ∙ append_assoc a b (c ++ (d ++ e)))
