-- Texts whose blocks are ciphered, part by part.
use Rattle.std.proofs.Common.{◌≡◌, ℕ, zero, suc, ◌+◌, ◌-◌, ◌*◌, ◌/◌, ◌%◌, ◌≤◌, List, [], ◌++◌, length, take, drop, refl, sym, ap, ap₂, subst, ◌∙◌, arith, inl, inr}
use Rattle.std.specs.Prelude.{slice_range}
use Rattle.std.proofs.lemmas.Bool.{cases_lt}
use Rattle.std.proofs.lemmas.List.{take-take, drop-drop, drop_at, drop_all, take_at, take_all, append-nil, length-append, length-drop, length-take-le, take-append-drop}
use Rattle.std.proofs.lemmas.Slice.{between_is, between-put_mid, take-put_mid_below, drop-put_mid}
use borrow.Rule.Slice.PartMut.{put_mid}
use Rattle.bc_aes.specs.Blocks.{block, EachBlock}

pub kept : (xs ys : List ℕ) (n a b : ℕ) → take n xs ≡ take n ys → b ≤ n → slice_range xs a b ≡ slice_range ys a b
kept xs ys n a b e h =
    between_is xs a b ∙ ap (λ (v : List ℕ). drop a v) (sym (take-take b n xs h) ∙ ap (λ (v : List ℕ). take b v) e ∙ take-take b n ys h)
    ∙ sym (between_is ys a b)

-- ---- a text of two parts

block-left : (xs ys : List ℕ) (i : ℕ) → 16 * i + 16 ≤ length xs → block (xs ++ ys) i ≡ block xs i
block-left xs ys i h =
    kept (xs ++ ys) xs (length xs) (16 * i) (16 * i + 16) (take_at xs ys (length xs) (omega arith) ∙ sym (take_all (length xs) xs (omega arith))) h

block-right : (xs ys : List ℕ) (n i : ℕ) → length xs ≡ 16 * n → n ≤ i → block (xs ++ ys) i ≡ block ys (i - n)
block-right xs ys n i e h =
    let size : 16 * i + 16 - 16 * i ≡ 16 * (i - n) + 16 - 16 * (i - n) = omega arith in
    let place : 16 * i ≡ 16 * n + 16 * (i - n) = omega arith in
    ap₂ (λ (m : ℕ) (v : List ℕ). take m v) size
    (ap (λ (m : ℕ). drop m (xs ++ ys)) place ∙ sym (drop-drop (16 * (i - n)) (16 * n) (xs ++ ys))
    ∙ ap (λ (v : List ℕ). drop (16 * (i - n)) v) (drop_at xs ys (16 * n) e))

pub each_block-append : (cipher : List ℕ → List ℕ) (xs ys xs' ys' : List ℕ) → length xs % 16 ≡ 0 → EachBlock cipher xs xs' → EachBlock cipher ys ys'
    → EachBlock cipher (xs ++ ys) (xs' ++ ys')
each_block-append cipher xs ys xs' ys' whole h k =
    let n : ℕ = length xs / 16 in
    let left : length xs ≡ 16 * n = omega arith in
    let left' : length xs' ≡ 16 * n = h.same_length ∙ left in
    let long : length (xs ++ ys) ≡ length xs + length ys = length-append xs ys in
    record {
      same_length = omega (arith, length-append xs' ys', h.same_length, k.same_length);
      ciphered = λ i lt. elim (cases_lt i n) [
        | inl below ↦ block-left xs' ys' i (omega arith) ∙ h.ciphered i (omega arith) ∙ ap cipher (sym (block-left xs ys i (omega arith)))
        | inr above ↦ block-right xs' ys' n i left' above ∙ k.ciphered (i - n) (omega arith) ∙ ap cipher (sym (block-right xs ys n i left above))
      ];
    }

-- ---- a text whose first part is ciphered

-- the first n bytes of the new text are those of the old one with each block ciphered, and the rest is the old one's
pub record Ciphered (cipher : List ℕ → List ℕ) (n : ℕ) (old new : List ℕ) : Type 0 where
  pub done : EachBlock cipher (take n old) (take n new)
  pub rest : drop n new ≡ drop n old

pub ciphered-none : (cipher : List ℕ → List ℕ) (n : ℕ) (text : List ℕ) → n ≡ 0 → Ciphered cipher n text text
ciphered-none cipher zero text e = record { done = record { same_length = omega arith; ciphered = λ i lt. absurd (omega arith) }; rest = refl }
ciphered-none cipher (suc n) text e = absurd (omega arith)

pub take-add : (n m : ℕ) (xs : List ℕ) → n ≤ length xs → take (n + m) xs ≡ take n xs ++ slice_range xs n (n + m)
take-add n m xs h =
    sym (take-append-drop n (take (n + m) xs)) ∙ ap₂ (λ (v w : List ℕ). v ++ w) (take-take n (n + m) xs (omega arith)) (sym (between_is xs n (n + m)))

-- m more bytes
ciphered-more : (cipher : List ℕ → List ℕ) (n m p : ℕ) (old now next : List ℕ) → p ≡ n + m → n % 16 ≡ 0 → n ≤ length old → length next ≡ length old
    → Ciphered cipher n old now → take n next ≡ take n now → EachBlock cipher (slice_range now n (n + m)) (slice_range next n (n + m))
    → drop (n + m) next ≡ drop (n + m) now → Ciphered cipher p old next
ciphered-more cipher n m p old now next place whole h long before first here after =
    let part : slice_range now n (n + m) ≡ slice_range old n (n + m) = ap (λ (v : List ℕ). take (n + m - n) v) before.rest in
    let last : EachBlock cipher (slice_range old n (n + m)) (slice_range next n (n + m)) =
    subst (λ (v : List ℕ). EachBlock cipher v (slice_range next n (n + m))) part here in
    let start : EachBlock cipher (take n old) (take n next) = subst (λ (v : List ℕ). EachBlock cipher (take n old) v) (sym first) before.done in
    let both : EachBlock cipher (take n old ++ slice_range old n (n + m)) (take n next ++ slice_range next n (n + m)) =
    each_block-append cipher (take n old) (slice_range old n (n + m)) (take n next) (slice_range next n (n + m)) (omega (arith, length-take-le n old h)) start last in
    let all : Ciphered cipher (n + m) old next = record {
      done = subst (λ (v : List ℕ). EachBlock cipher v (take (n + m) next)) (sym (take-add n m old h))
          (subst (λ (v : List ℕ). EachBlock cipher (take n old ++ slice_range old n (n + m)) v) (sym (take-add n m next (omega arith))) both);
      rest = after ∙ sym (drop-drop m n now) ∙ ap (λ (v : List ℕ). drop m v) before.rest ∙ drop-drop m n old;
    } in
    subst (λ (k : ℕ). Ciphered cipher k old next) (sym place) all

-- the next bytes are read as `was`, ciphered, and put back
pub ciphered-put : (cipher : List ℕ → List ℕ) (n m p : ℕ) (old now next was put : List ℕ) → p ≡ n + m → n % 16 ≡ 0 → n ≤ length old → length next ≡ length old
    → Ciphered cipher n old now → was ≡ slice_range now n (n + m) → length put ≡ m → EachBlock cipher was put
    → take n next ≡ take n now → slice_range next n (n + length put) ≡ put → drop (n + length put) next ≡ drop (n + length put) now → Ciphered cipher p old next
ciphered-put cipher n m p old now next was put place whole h long so_far read size each before here after =
    let from : was ≡ slice_range now n (n + length put) = read ∙ ap (λ (k : ℕ). slice_range now n (n + k)) (sym size) in
    ciphered-more cipher n (length put) p old now next (omega arith) whole h long so_far before
    (subst (λ (v : List ℕ). EachBlock cipher (slice_range now n (n + length put)) v) (sym here) (subst (λ (v : List ℕ). EachBlock cipher v put) from each)) after

-- the next bytes are ciphered where they stand
pub ciphered-part : (cipher : List ℕ → List ℕ) (n m p : ℕ) (old now put : List ℕ) → p ≡ n + m → n % 16 ≡ 0 → n + m ≤ length old → length now ≡ length old
    → Ciphered cipher n old now → EachBlock cipher (slice_range now n (n + m)) put → Ciphered cipher p old (put_mid n (n + m - n) now put)
ciphered-part cipher n m p old now put place whole room long so_far each =
    let k : ℕ = n + m - n in
    let size : length put ≡ k = each.same_length ∙ length-take-le k (drop n now) (omega (arith, length-drop n now)) in
    let before : take n (put_mid n k now put) ≡ take n now = take-put_mid_below n k now put n (omega arith) (omega arith) in
    let here : slice_range (put_mid n k now put) n (n + m) ≡ put = between-put_mid n k now put (n + m) (omega arith) size in
    let after : drop (n + m) (put_mid n k now put) ≡ drop (n + m) now = drop-put_mid n k now put (n + m) (omega arith) (omega arith) size in
    let long' : length (put_mid n k now put) ≡ length old =
    omega (arith, long, size, length-append (take n now) (put ++ drop k (drop n now)), length-append put (drop k (drop n now)), length-take-le n now (omega arith), length-drop k (drop n now), length-drop n now) in
    ciphered-more cipher n m p old now (put_mid n k now put) place whole (omega arith) long' so_far before
    (subst (λ (v : List ℕ). EachBlock cipher (slice_range now n (n + m)) v) (sym here) each) after

pub ciphered-all : (cipher : List ℕ → List ℕ) (n : ℕ) (old new : List ℕ) → length old ≤ n → length new ≡ length old → Ciphered cipher n old new → EachBlock cipher old new
ciphered-all cipher n old new h e all =
    subst (λ (v : List ℕ). EachBlock cipher v new) (take_all n old h)
    (subst (λ (v : List ℕ). EachBlock cipher (take n old) v) (take_all n new (omega arith)) all.done)

-- the first n bytes are ciphered, and then the rest
pub each_block-parts : (cipher : List ℕ → List ℕ) (n m : ℕ) (old first last : List ℕ) → n ≤ length old → n % 16 ≡ 0 → m ≡ length (first ++ drop n old) - n
    → EachBlock cipher (take n old) first → EachBlock cipher (take m (drop n (first ++ drop n old))) last
    → EachBlock cipher old (put_mid n m (first ++ drop n old) last)
each_block-parts cipher n m old first last h whole e f g =
    let long : length first ≡ n = f.same_length ∙ length-take-le n old h in
    let rest : drop n (first ++ drop n old) ≡ drop n old = drop_at first (drop n old) n long in
    let left : length (drop n old) ≤ m = omega (arith, length-append first (drop n old)) in
    let all : take m (drop n (first ++ drop n old)) ≡ drop n old = ap (λ (v : List ℕ). take m v) rest ∙ take_all m (drop n old) left in
    let none : drop m (drop n (first ++ drop n old)) ≡ [] = ap (λ (v : List ℕ). drop m v) rest ∙ drop_all m (drop n old) left in
    let joined : put_mid n m (first ++ drop n old) last ≡ first ++ last =
    ap₂ (λ (v w : List ℕ). v ++ (last ++ w)) (take_at first (drop n old) n long) none ∙ ap (λ (w : List ℕ). first ++ w) (append-nil last) in
    subst (λ (v : List ℕ). EachBlock cipher v (put_mid n m (first ++ drop n old) last)) (take-append-drop n old)
    (subst (λ (v : List ℕ). EachBlock cipher (take n old ++ drop n old) v) (sym joined)
    (each_block-append cipher (take n old) (drop n old) first last (omega (arith, length-take-le n old h)) f
    (subst (λ (v : List ℕ). EachBlock cipher v last) all g)))

-- one block by itself
pub one_block : (cipher : List ℕ → List ℕ) (old new : List ℕ) → length old ≡ 16 → length new ≡ 16 → new ≡ cipher old → EachBlock cipher old new
one_block cipher old new h k e =
    let whole : (v : List ℕ) → length v ≡ 16 → block v 0 ≡ v = λ v long. take_all 16 v (omega arith) in
    record {
      same_length = k ∙ sym h;
      ciphered = λ i lt.
          let first : i ≡ 0 = omega arith in
          ap (λ (j : ℕ). block new j) first ∙ whole new k ∙ e ∙ ap cipher (sym (whole old h)) ∙ ap (λ (j : ℕ). cipher (block old j)) (sym first);
    }

-- two ciphers that agree
pub each_block-same : (f g : List ℕ → List ℕ) (old new : List ℕ) → ((b : List ℕ) → f b ≡ g b) → EachBlock f old new → EachBlock g old new
each_block-same f g old new same h = record { same_length = h.same_length; ciphered = λ i lt. h.ciphered i lt ∙ same (block old i) }
