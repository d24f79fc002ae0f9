-- Lines of one sort that stand one after the other, and what follows them: such lines are read one way.
use Rattle.std.proofs.Common.{◌≡◌, ◌<◌, List, [], ◌∷◌, ◌++◌, length, map, refl, sym, ap, subst, ◌∙◌, arith, length-append}
use Rattle.std.specs.List.{AllByRecursion}
use Rattle.bc_text.specs.Lines.{TextLine}

-- `line_of` writes a value as one line, each valid value in its own way, and no such line may stop the sort
module _ (X : Type 0) (line_of : X → TextLine) (Valid : X → Type 0) (Stop : List TextLine → Type 0)
    (injective : (x y : X) → Valid x → Valid y → line_of x ≡ line_of y → x ≡ y)
    (goes : (x : X) (rest : List TextLine) → Valid x → Stop (line_of x ∷ rest) → ⊥) where
  first : (x y : TextLine) (a b : List TextLine) → x ∷ a ≡ y ∷ b → x ≡ y
  first x y a b e = cc

  others : (x y : TextLine) (a b : List TextLine) → x ∷ a ≡ y ∷ b → a ≡ b
  others x y a b e = cc

  -- two readings are the same
  pub same_reading : (xs ys : List X) (a b : List TextLine) → AllByRecursion Valid xs → AllByRecursion Valid ys → Stop a → Stop b → map line_of xs ++ a ≡ map line_of ys ++ b → (xs ≡ ys) × (a ≡ b)
  same_reading [] [] a b p q sa sb e = (refl, e)
  same_reading [] (y ∷ ys) a b p q sa sb e = absurd (goes y (map line_of ys ++ b) q.0 (subst Stop e sa))
  same_reading (x ∷ xs) [] a b p q sa sb e = absurd (goes x (map line_of xs ++ a) p.0 (subst Stop (sym e) sb))
  same_reading (x ∷ xs) (y ∷ ys) a b p q sa sb e =
      let here : x ≡ y = injective x y p.0 q.0 (first (line_of x) (line_of y) (map line_of xs ++ a) (map line_of ys ++ b) e) in
      let more = same_reading xs ys a b p.1 q.1 sa sb (others (line_of x) (line_of y) (map line_of xs ++ a) (map line_of ys ++ b) e) in
      (ap (λ (z : X). z ∷ xs) here ∙ ap (λ (zs : List X). y ∷ zs) more.0, more.1)

  -- what is read so far is a prefix of every reading, which goes on with the next line
  pub goes_on : (xs ys : List X) (now rest : List TextLine) → AllByRecursion Valid xs → AllByRecursion Valid ys → (Stop now → ⊥) → Stop rest → map line_of xs ++ now ≡ map line_of ys ++ rest
      → (y : X) × (zs : List X) × Valid y × (ys ≡ xs ++ y ∷ zs) × (now ≡ line_of y ∷ (map line_of zs ++ rest))
  goes_on [] [] now rest p q on stop e = absurd (on (subst Stop (sym e) stop))
  goes_on [] (y ∷ ys) now rest p q on stop e = (y, ys, q.0, refl, e)
  goes_on (x ∷ xs) [] now rest p q on stop e = absurd (goes x (map line_of xs ++ now) p.0 (subst Stop (sym e) stop))
  goes_on (x ∷ xs) (y ∷ ys) now rest p q on stop e =
      let here : x ≡ y = injective x y p.0 q.0 (first (line_of x) (line_of y) (map line_of xs ++ now) (map line_of ys ++ rest) e) in
      let r = goes_on xs ys now rest p.1 q.1 on stop (others (line_of x) (line_of y) (map line_of xs ++ now) (map line_of ys ++ rest) e) in
      (r.0, r.1, r.2, ap (λ (z : X). z ∷ ys) (sym here) ∙ ap (λ (zs : List X). x ∷ zs) r.3, r.4)

  -- so a next line that no valid value has belongs to no reading
  pub no_reading : (xs ys : List X) (now next rest : List TextLine) (line : TextLine) → AllByRecursion Valid xs → AllByRecursion Valid ys → (Stop now → ⊥) → Stop rest
      → now ≡ line ∷ next → ((x : X) → Valid x → line ≡ line_of x → ⊥) → map line_of xs ++ now ≡ map line_of ys ++ rest → ⊥
  no_reading xs ys now next rest line p q on stop is none e =
      let r = goes_on xs ys now rest p q on stop e in
      none r.0 r.2 (first line (line_of r.0) next (map line_of r.1 ++ rest) (sym is ∙ r.4))

  -- and every reading has more values than are read so far
  pub is_longer : (xs ys : List X) (now rest : List TextLine) → AllByRecursion Valid xs → AllByRecursion Valid ys → (Stop now → ⊥) → Stop rest → map line_of xs ++ now ≡ map line_of ys ++ rest
      → length xs < length ys
  is_longer xs ys now rest p q on stop e =
      let r = goes_on xs ys now rest p q on stop e in
      omega (arith, ap length r.3, length-append xs (r.0 ∷ r.1))
