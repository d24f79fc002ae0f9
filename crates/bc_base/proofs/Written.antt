-- The sectors of an image after a write to a part of it.
use Rattle.std.proofs.Common.{◌≡◌, ℕ, ◌+◌, ◌-◌, ◌*◌, ◌<◌, ◌≤◌, true, false, List, ◌++◌, length, take, drop, refl, sym, ap, ◌∙◌, arith, length-take, length-drop}
use Rattle.std.specs.Prelude.{◌&&◌, nat_le, nat_lt}
use Rattle.std.proofs.Math.Logic.{⊎_elim}
use Rattle.std.proofs.lemmas.Bool.{cases_lt}
use Rattle.std.proofs.lemmas.Bool.Decides.{nat_tests}
use Rattle.std.proofs.Math.Seq.{drop-append-add}
use Rattle.std.proofs.lemmas.List.{drop-append-le, take-append-le}
use Rattle.std.proofs.lemmas.Slice.{between_is, take-put_mid_below, drop-put_mid}
use borrow.Rule.Slice.PartMut.{put_mid, post_of}
use Rattle.bc_base.specs.Sectors.{image_sectors, with_bytes}

module _ (xs ys : List ℕ) (first n s : ℕ) (whole : length ys ≡ 512 * n) (within : 512 * first + length ys ≤ length xs) where
  abbrev after : List ℕ
  after = put_mid (512 * first) (length ys) xs ys

  below : s < first → image_sectors after s ≡ with_bytes (image_sectors xs) first ys s
  below lt =
      let outside : (nat_le first s && nat_lt (512 * (s - first)) (length ys)) ≡ false = grind (arith, nat_tests) in
      rw outside
      (between_is after (512 * s) (512 * s + 512)
      ∙ ap (drop (512 * s)) (take-put_mid_below (512 * first) (length ys) xs ys (512 * s + 512) (omega arith) (omega arith))
      ∙ sym (between_is xs (512 * s) (512 * s + 512)))

  above : 512 * first + length ys ≤ 512 * s → image_sectors after s ≡ with_bytes (image_sectors xs) first ys s
  above le =
      let outside : (nat_le first s && nat_lt (512 * (s - first)) (length ys)) ≡ false = grind (arith, nat_tests) in
      rw outside (ap (take (512 * s + 512 - 512 * s)) (drop-put_mid (512 * first) (length ys) xs ys (512 * s) le (omega arith) refl))

  inside : first ≤ s → 512 * s < 512 * first + length ys → image_sectors after s ≡ with_bytes (image_sectors xs) first ys s
  inside le lt =
      let here : (nat_le first s && nat_lt (512 * (s - first)) (length ys)) ≡ true = grind (arith, nat_tests) in
      let front : length (take (512 * first) xs) ≡ 512 * first = omega (arith, length-take (512 * first) xs) in
      let place : 512 * s ≡ length (take (512 * first) xs) + 512 * (s - first) = omega arith in
      let rest = post_of (512 * first) (length ys) xs in
      let dropped : drop (512 * s) after ≡ drop (512 * (s - first)) ys ++ rest =
      ap (λ (k : ℕ). drop k after) place
      ∙ drop-append-add (take (512 * first) xs) (ys ++ rest) (512 * (s - first))
      ∙ drop-append-le (512 * (s - first)) ys rest (omega arith) in
      let sized : 512 * s + 512 - 512 * s ≡ 512 * (s - first) + 512 - 512 * (s - first) = omega arith in
      let long : 512 * s + 512 - 512 * s ≤ length (drop (512 * (s - first)) ys) = omega (arith, length-drop (512 * (s - first)) ys) in
      rw here
      (ap (take (512 * s + 512 - 512 * s)) dropped
      ∙ take-append-le _ (drop (512 * (s - first)) ys) rest long
      ∙ ap (λ (k : ℕ). take k (drop (512 * (s - first)) ys)) sized)

  -- each sector is as the keyed disk leaves it
  pub image_sectors-put_mid : image_sectors (put_mid (512 * first) (length ys) xs ys) s ≡ with_bytes (image_sectors xs) first ys s
  image_sectors-put_mid =
      ⊎_elim below
      (λ (le : first ≤ s). ⊎_elim (inside le) above (cases_lt (512 * s) (512 * first + length ys)))
      (cases_lt s first)

-- some sectors were written
pub image_sectors-written : (xs ys : List ℕ) (first n end : ℕ) → length ys ≡ 512 * n → end ≡ 512 * first + 512 * n → end ≤ length xs
    → image_sectors (put_mid (512 * first) (end - 512 * first) xs ys) ≡ with_bytes (image_sectors xs) first ys
image_sectors-written xs ys first n end size is within =
    let long : end - 512 * first ≡ length ys = omega arith in
    let each : (s : ℕ) → image_sectors (put_mid (512 * first) (length ys) xs ys) s ≡ with_bytes (image_sectors xs) first ys s =
    λ s. image_sectors-put_mid xs ys first n s size (omega arith) in
    ap (λ (m : ℕ). image_sectors (put_mid (512 * first) m xs ys)) long
    ∙ (λ i s. each s i)
