-- The sectors of an image, one after the other, are the image.
use Rattle.std.proofs.Common.{◌≡◌, ℕ, zero, suc, ◌+◌, ◌-◌, ◌*◌, List, ◌++◌, length, take, drop, refl, sym, ap, ◌∙◌, arith}
use Rattle.std.specs.Prelude.{slice_range}
use Rattle.std.proofs.Math.Seq.{take-add}
use Rattle.std.proofs.lemmas.List.{drop-drop, take_all}
use Rattle.bc_base.specs.Sectors.{image_sectors, bytes_at}

pub bytes_at-image_sectors : (image : List ℕ) (first count : ℕ) → bytes_at (image_sectors image) first count ≡ take (512 * count) (drop (512 * first) image)
bytes_at-image_sectors image first zero = refl
bytes_at-image_sectors image first (suc count) =
    let here : 512 * first + 512 - 512 * first ≡ 512 = omega arith in
    let next : 512 * (first + 1) ≡ 512 * first + 512 = omega arith in
    let more : 512 * suc count ≡ 512 + 512 * count = omega arith in
    rw here
    (ap (λ (l : List ℕ). take 512 (drop (512 * first) image) ++ l)
    (bytes_at-image_sectors image (first + 1) count ∙ ap (λ (n : ℕ). take (512 * count) (drop n image)) next ∙ ap (take (512 * count)) (sym (drop-drop 512 (512 * first) image)))
    ∙ sym (take-add 512 (512 * count) (drop (512 * first) image))
    ∙ ap (λ (n : ℕ). take n (drop (512 * first) image)) (sym more))

-- a part of whole sectors
pub part-bytes_at : (image : List ℕ) (first count a b : ℕ) → a ≡ 512 * first → b ≡ a + 512 * count → slice_range image a b ≡ bytes_at (image_sectors image) first count
part-bytes_at image first count a b start end =
    let long : b - a ≡ 512 * count = omega arith in
    ap (λ (n : ℕ). take n (drop a image)) long
    ∙ ap (λ (n : ℕ). take (512 * count) (drop n image)) start
    ∙ sym (bytes_at-image_sectors image first count)

pub image_of-image_sectors : (image : List ℕ) (n : ℕ) → length image ≡ 512 * n → bytes_at (image_sectors image) 0 n ≡ image
image_of-image_sectors image n whole = bytes_at-image_sectors image 0 n ∙ take_all (512 * n) image (omega arith)
