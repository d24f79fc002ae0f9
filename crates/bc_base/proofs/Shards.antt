-- Where the sectors of a shard stand in its store: block after block, and each piece of the shard in a row.
use Rattle.std.proofs.Common.{◌≡◌, ℕ, zero, suc, ◌+◌, ◌-◌, ◌*◌, ◌/◌, ◌%◌, ◌<◌, ◌≤◌, Bool, true, false, true≢false, List, [], ◌++◌, length, take, drop, refl, sym, ap, ap₂, ◌∙◌, subst, arith, cond, length-take, length-drop, length-append, ◌∷◌}
use Rattle.std.specs.Prelude.{◌==◌, ◌&&◌, nat_lt, nat_le, slice_range}
use Rattle.std.proofs.Math.Logic.{⊎_elim}
use Rattle.std.proofs.Math.Nat.{mul-le-mul_left}
use Rattle.std.proofs.lemmas.Bool.{cases_lt, eqb-true, ltb-true}
use Rattle.std.proofs.lemmas.Bool.Decides.{nat_tests}
use Rattle.std.proofs.Math.Seq.{drop-append-add}
use Rattle.std.proofs.lemmas.List.{drop-drop, drop-take, take-take, drop-append-le, take-append-le, take_all}
use Rattle.bc_base.specs.Layout.{block_of, shard_of}
use Rattle.bc_base.specs.Sectors.{Sectors, image_sectors, bytes_at, with_bytes}
use Rattle.bc_base.specs.Memory.{Calls}
use Rattle.bc_base.specs.Stores.{IsPiece}
use Rattle.bc_base.specs.Lists.{At, AllAt}
use Rattle.bc_base.specs.RamStores.{RamData, owns, contents, sector_within, block_at, HasAllBlocks, HasBlocksOf, IsShardOf, HaveAllSectors, IsOneImage}
use Rattle.bc_base.proofs.Lists.{at_one}
use Rattle.bc_base.proofs.Image.{image_of-image_sectors}

-- a sector of a shard, by its block and its place there
pub record LiesIn (shard shards blocks s : ℕ) : Type 0 where
  pub block : block_of s ≡ shard + shards * (block_of s / shards)
  pub inside : block_of s < blocks

pub block_is : (shards b shard : ℕ) → 0 < shards → b % shards ≡ shard → b ≡ shard + shards * (b / shards)
block_is shards b shard some is = omega arith

both_true : (a b : Bool) → (a && b) ≡ true → (a ≡ true) × (b ≡ true)
both_true true true is = (refl, refl)
both_true true false is = absurd (true≢false (sym is))
both_true false b is = absurd (true≢false (sym is))

not_both : (a b : Bool) → (a ≡ true → b ≡ true → ⊥) → (a && b) ≡ false
not_both true true apart = absurd (apart refl refl)
not_both true false apart = refl
not_both false b apart = refl

le_true : (m n : ℕ) → nat_le m n ≡ true → m ≤ n
le_true m n is = grind (arith, nat_tests)

pub lies_in : (store : RamData) (s : ℕ) → 0 < store.shards → owns store s ≡ true → LiesIn store.shard store.shards store.blocks s
lies_in store s some is =
    let both = both_true (shard_of store.shards s == store.shard) (nat_lt (block_of s) store.blocks) is in
    record {
      block = block_is store.shards (block_of s) store.shard some (eqb-true (shard_of store.shards s) store.shard both.0);
      inside = ltb-true (block_of s) store.blocks both.1;
    }

-- a number of which a multiple is the next multiple but one more
next_multiple : (n q r : ℕ) → 0 < n → n * r ≡ n * q + 1 → r ≡ q + 1
next_multiple n q r some is =
    ⊎_elim
    (λ (less : r < q + 1). let l : n * r ≤ n * q = mul-le-mul_left n (omega arith) in absurd (omega arith))
    (λ (more : q + 1 ≤ r). ⊎_elim
    (λ (one : r < q + 2). omega arith)
    (λ (two : q + 2 ≤ r). let l : n * (q + 2) ≤ n * r = mul-le-mul_left n two in let d : n * (q + 2) ≡ n * q + 2 * n = grind arith in absurd (omega arith))
    (cases_lt r (q + 2)))
    (cases_lt r (q + 1))

-- the next sector of a shard stands next
within_next : (shard shards blocks s : ℕ) → 0 < shards → LiesIn shard shards blocks s → LiesIn shard shards blocks (s + 1) → sector_within shards (s + 1) ≡ sector_within shards s + 1
within_next shard shards blocks s some here next =
    ⊎_elim
    (λ (same : s % 8 < 7).
    let block : (s + 1) / 8 ≡ s / 8 = omega arith in
    let place : (s + 1) % 8 ≡ s % 8 + 1 = omega arith in
    ap₂ (λ (b r : ℕ). 8 * (b / shards) + r) block place ∙ let z : 8 * (s / 8 / shards) + (s % 8 + 1) ≡ 8 * (s / 8 / shards) + s % 8 + 1 = omega arith in z)
    (λ (last : 7 ≤ s % 8).
    let block : (s + 1) / 8 ≡ s / 8 + 1 = omega arith in
    let place : (s + 1) % 8 ≡ 0 = omega arith in
    let a = here.block in let b = next.block in
    let up : (s + 1) / 8 / shards ≡ s / 8 / shards + 1 = next_multiple shards (s / 8 / shards) ((s + 1) / 8 / shards) some (omega arith) in
    omega arith)
    (cases_lt (s % 8) 7)

-- the sectors of a piece stand in a row
pub within_row : (shard shards blocks first count : ℕ) → 0 < shards → ((i : ℕ) → i < count → LiesIn shard shards blocks (first + i)) → (i : ℕ) → i < count → sector_within shards (first + i) ≡ sector_within shards first + i
within_row shard shards blocks first count some piece zero less = let z : first + 0 ≡ first = omega arith in ap (sector_within shards) z ∙ let e : sector_within shards first ≡ sector_within shards first + 0 = omega arith in e
within_row shard shards blocks first count some piece (suc i) less =
    let step : first + suc i ≡ first + i + 1 = omega arith in
    let next = within_next shard shards blocks (first + i) some (piece i (omega arith)) (subst (LiesIn shard shards blocks) step (piece (suc i) less)) in
    let before = within_row shard shards blocks first count some piece i (omega arith) in
    ap (sector_within shards) step ∙ next ∙ let e : sector_within shards (first + i) + 1 ≡ sector_within shards first + suc i = omega arith in e

-- two sectors of a shard don't stand at one place
pub within_apart : (shard shards blocks s t : ℕ) → LiesIn shard shards blocks s → LiesIn shard shards blocks t → sector_within shards s ≡ sector_within shards t → s ≡ t
within_apart shard shards blocks s t here there same =
    let block : s / 8 / shards ≡ t / 8 / shards = omega arith in
    let a = here.block in let b = there.block in
    let m = ap (λ (q : ℕ). shard + shards * q) block in
    omega arith

-- a sector of a block
pub sector_in_block : (image : List ℕ) (s : ℕ) → image_sectors image s ≡ take 512 (drop (512 * (s % 8)) (block_at image (s / 8)))
sector_in_block image s =
    let long : 512 * s + 512 - 512 * s ≡ 512 = omega arith in
    let block : 4096 * (s / 8) + 4096 - 4096 * (s / 8) ≡ 512 * (s % 8) + (4096 - 512 * (s % 8)) = omega arith in
    let start : 4096 * (s / 8) + 512 * (s % 8) ≡ 512 * s = omega arith in
    let cut : drop (512 * (s % 8)) (block_at image (s / 8)) ≡ take (4096 - 512 * (s % 8)) (drop (512 * s) image) =
    ap (λ (n : ℕ). drop (512 * (s % 8)) (take n (drop (4096 * (s / 8)) image))) block
    ∙ drop-take (512 * (s % 8)) (4096 - 512 * (s % 8)) (drop (4096 * (s / 8)) image)
    ∙ ap (take (4096 - 512 * (s % 8))) (drop-drop (512 * (s % 8)) (4096 * (s / 8)) image ∙ ap (λ (n : ℕ). drop n image) start) in
    ap (λ (n : ℕ). take n (drop (512 * s) image)) long
    ∙ sym (ap (take 512) cut ∙ take-take 512 (4096 - 512 * (s % 8)) (drop (512 * s) image) (omega arith))

-- sectors at one place of equal blocks
pub same_sectors : (first second : List ℕ) (s t : ℕ) → s % 8 ≡ t % 8 → block_at first (s / 8) ≡ block_at second (t / 8) → image_sectors first s ≡ image_sectors second t
same_sectors first second s t place same =
    sector_in_block first s ∙ ap₂ (λ (r : ℕ) (b : List ℕ). take 512 (drop (512 * r) b)) place same ∙ sym (sector_in_block second t)

-- a run of sectors that are equal one by one
pub bytes_at_same : (f g : Sectors) (a b count : ℕ) → ((i : ℕ) → i < count → f (a + i) ≡ g (b + i)) → bytes_at f a count ≡ bytes_at g b count
bytes_at_same f g a b zero same = refl
bytes_at_same f g a b (suc count) same =
    let first : f a ≡ g b = let x : a ≡ a + 0 = omega arith in let y : b + 0 ≡ b = omega arith in ap f x ∙ same 0 (omega arith) ∙ ap g y in
    ap₂ (λ (l m : List ℕ). l ++ m) first
    (bytes_at_same f g (a + 1) (b + 1) count (λ i less. let x : a + 1 + i ≡ a + (i + 1) = omega arith in let y : b + (i + 1) ≡ b + 1 + i = omega arith in ap f x ∙ same (i + 1) (omega arith) ∙ ap g y))

-- the bytes of a block that were there before more were appended, and of the block that they make
pub block_push_old : (bytes more : List ℕ) (i : ℕ) → 4096 * i + 4096 ≤ length bytes → block_at (bytes ++ more) i ≡ block_at bytes i
block_push_old bytes more i long =
    let n : ℕ = 4096 * i + 4096 - 4096 * i in
    ap (take n) (drop-append-le (4096 * i) bytes more (omega arith))
    ∙ take-append-le n (drop (4096 * i) bytes) more (omega (arith, length-drop (4096 * i) bytes))

pub block_push_new : (bytes more : List ℕ) (i : ℕ) → length bytes ≡ 4096 * i → length more ≡ 4096 → block_at (bytes ++ more) i ≡ more
block_push_new bytes more i place long =
    let start : 4096 * i ≡ length bytes + 0 = omega arith in
    ap (λ (k : ℕ). take (4096 * i + 4096 - 4096 * i) (drop k (bytes ++ more))) start
    ∙ ap (take (4096 * i + 4096 - 4096 * i)) (drop-append-add bytes more 0)
    ∙ take_all (4096 * i + 4096 - 4096 * i) more (omega arith)

pub block_length : (image : List ℕ) (i : ℕ) → 4096 * i + 4096 ≤ length image → length (block_at image i) ≡ 4096
block_length image i long = omega (arith, length-take (4096 * i + 4096 - 4096 * i) (drop (4096 * i) image), length-drop (4096 * i) image)

-- which blocks have been copied, when the next one is past the end
pub below_next : (first step done blocks i : ℕ) → blocks ≤ first + step * done → first + step * i < blocks → i < done
below_next first step done blocks i end less =
    ⊎_elim (λ (l : i < done). l) (λ (ge : done ≤ i). let m : step * done ≤ step * i = mul-le-mul_left step ge in absurd (omega arith)) (cases_lt i done)

-- the bytes of a sector of the shard
pub contents_at : (store : RamData) (s : ℕ) → owns store s ≡ true → contents store s ≡ image_sectors store.bytes (sector_within store.shards s)
contents_at store s mine = ap (λ (b : Bool). cond b (image_sectors store.bytes (sector_within store.shards s)) []) mine

pub holds_shard : (image : List ℕ) (store : RamData) → 0 < store.shards → store.blocks ≡ length image / 4096 → HasBlocksOf image store.shard store.shards store.bytes → (s : ℕ) → owns store s ≡ true → contents store s ≡ image_sectors image s
holds_shard image store some count has s mine =
    let lies = lies_in store s some mine in let i : ℕ = block_of s / store.shards in
    let block = lies.block in let inside = lies.inside in
    let here : sector_within store.shards s / 8 ≡ i = omega arith in
    let place : sector_within store.shards s % 8 ≡ s % 8 = omega arith in
    contents_at store s mine
    ∙ same_sectors store.bytes image (sector_within store.shards s) s place (ap (block_at store.bytes) here ∙ has.same i (omega arith) ∙ ap (block_at image) (sym block))

-- a piece of the shard lies within the bytes
pub piece_within : (store : RamData) (first count : ℕ) → HasAllBlocks store.bytes store.shard store.shards store.blocks → IsPiece (owns store) first count
    → 512 * sector_within store.shards first + 512 * count ≤ length store.bytes
piece_within store first count whole piece =
    let some : 0 < store.shards = let b = whole.below in omega arith in
    let last : ℕ = count - 1 in let one = piece.some in
    let s : ℕ = first + last in
    let lies : LiesIn store.shard store.shards store.blocks s = lies_in store s some (piece.owned last (omega arith)) in
    let row : sector_within store.shards s ≡ sector_within store.shards first + last =
    within_row store.shard store.shards store.blocks first count some (λ i less. lies_in store (first + i) some (piece.owned i less)) last (omega arith) in
    let long : 4096 * (block_of s / store.shards) + 4096 ≤ length store.bytes = whole.long (block_of s / store.shards) (let b = lies.block in let i = lies.inside in omega arith) in
    omega arith

-- what is read of a piece
pub read_is : (store : RamData) (first count : ℕ) → 0 < store.shards → IsPiece (owns store) first count
    → bytes_at (image_sectors store.bytes) (sector_within store.shards first) count ≡ bytes_at (contents store) first count
read_is store first count some piece =
    bytes_at_same (image_sectors store.bytes) (contents store) (sector_within store.shards first) first count (λ i less.
    ap (image_sectors store.bytes) (sym (within_row store.shard store.shards store.blocks first count some (λ j l. lies_in store (first + j) some (piece.owned j l)) i less))
    ∙ sym (contents_at store (first + i) (piece.owned i less)))

-- what a write to a piece leaves
module _ (store : RamData) (bytes : List ℕ) (calls : Calls) (first : ℕ) (from : List ℕ) (some : 0 < store.shards) (whole : length from ≡ 512 * (length from / 512)) (piece : IsPiece (owns store) first (length from / 512))
    (set : (t : ℕ) → image_sectors bytes t ≡ with_bytes (image_sectors store.bytes) (sector_within store.shards first) from t) where
  abbrev count : ℕ
  count = length from / 512

  abbrev place : ℕ
  place = sector_within store.shards first

  row : (i : ℕ) → i < count → sector_within store.shards (first + i) ≡ place + i
  row = within_row store.shard store.shards store.blocks first count some (λ i less. lies_in store (first + i) some (piece.owned i less))

  inside : (s : ℕ) → first ≤ s → s < first + count → owns store s ≡ true → image_sectors bytes (sector_within store.shards s) ≡ with_bytes (contents store) first from s
  inside s ge lt mine =
      let step : first + (s - first) ≡ s = omega arith in
      let here : sector_within store.shards s ≡ place + (s - first) = ap (sector_within store.shards) (sym step) ∙ row (s - first) (omega arith) in
      let test : (nat_le first s && nat_lt (512 * (s - first)) (length from)) ≡ true = grind (arith, nat_tests) in
      let moved : place + (s - first) - place ≡ s - first = omega arith in
      let also : (nat_le place (place + (s - first)) && nat_lt (512 * (place + (s - first) - place)) (length from)) ≡ true = grind (arith, nat_tests) in
      ap (image_sectors bytes) here ∙ set (place + (s - first))
      ∙ ap (λ (b : Bool). cond b (slice_range from (512 * (place + (s - first) - place)) (512 * (place + (s - first) - place) + 512)) (image_sectors store.bytes (place + (s - first)))) also
      ∙ ap (λ (n : ℕ). slice_range from (512 * n) (512 * n + 512)) moved
      ∙ sym (ap (λ (b : Bool). cond b (slice_range from (512 * (s - first)) (512 * (s - first) + 512)) (contents store s)) test)

  not_in_row : (s : ℕ) → LiesIn store.shard store.shards store.blocks s → (first ≤ s → s < first + count → ⊥) → place ≤ sector_within store.shards s → sector_within store.shards s < place + count → ⊥
  not_in_row s lies out ge lt =
      let j : ℕ = sector_within store.shards s - place in
      let there : sector_within store.shards (first + j) ≡ sector_within store.shards s = row j (omega arith) ∙ (let e : place + j ≡ sector_within store.shards s = omega arith in e) in
      let same : s ≡ first + j = within_apart store.shard store.shards store.blocks s (first + j) lies (lies_in store (first + j) some (piece.owned j (omega arith))) (sym there) in
      out (omega arith) (omega arith)

  outside : (s : ℕ) → (first ≤ s → s < first + count → ⊥) → owns store s ≡ true → image_sectors bytes (sector_within store.shards s) ≡ with_bytes (contents store) first from s
  outside s out mine =
      let t : ℕ = sector_within store.shards s in
      let no = not_in_row s (lies_in store s some mine) out in
      let test : (nat_le first s && nat_lt (512 * (s - first)) (length from)) ≡ false = not_both (nat_le first s) (nat_lt (512 * (s - first)) (length from)) (λ a b. out (le_true first s a) (let l = ltb-true (512 * (s - first)) (length from) b in let g = le_true first s a in omega arith)) in
      let also : (nat_le place t && nat_lt (512 * (t - place)) (length from)) ≡ false = not_both (nat_le place t) (nat_lt (512 * (t - place)) (length from)) (λ a b. no (le_true place t a) (let l = ltb-true (512 * (t - place)) (length from) b in let g = le_true place t a in omega arith)) in
      set t
      ∙ ap (λ (b : Bool). cond b (slice_range from (512 * (t - place)) (512 * (t - place) + 512)) (image_sectors store.bytes t)) also
      ∙ sym (contents_at store s mine)
      ∙ sym (ap (λ (b : Bool). cond b (slice_range from (512 * (s - first)) (512 * (s - first) + 512)) (contents store s)) test)

  foreign : (s : ℕ) → owns store s ≡ false → [] ≡ with_bytes (contents store) first from s
  foreign s other =
      let test : (nat_le first s && nat_lt (512 * (s - first)) (length from)) ≡ false = not_both (nat_le first s) (nat_lt (512 * (s - first)) (length from)) (λ a b.
      let ge = le_true first s a in let l = ltb-true (512 * (s - first)) (length from) b in
      let step : first + (s - first) ≡ s = omega arith in
      true≢false (sym (subst (λ (n : ℕ). owns store n ≡ true) step (piece.owned (s - first) (omega arith))) ∙ other)) in
      sym (ap (λ (b : Bool). cond b (image_sectors store.bytes (sector_within store.shards s)) []) other)
      ∙ sym (ap (λ (b : Bool). cond b (slice_range from (512 * (s - first)) (512 * (s - first) + 512)) (contents store s)) test)

  pub write_is : (s : ℕ) → contents (record store { bytes = bytes; calls = calls }) s ≡ with_bytes (contents store) first from s
  write_is s = by (owns store s) refl
    where
      by : (b : Bool) → owns store s ≡ b → cond (owns store s) (image_sectors bytes (sector_within store.shards s)) [] ≡ with_bytes (contents store) first from s
      by true mine = ap (λ (b : Bool). cond b (image_sectors bytes (sector_within store.shards s)) []) mine
          ∙ ⊎_elim (λ (less : s < first). outside s (λ ge lt. omega arith) mine)
          (λ (ge : first ≤ s). ⊎_elim (λ (lt : s < first + count). inside s ge lt mine) (λ (past : first + count ≤ s). outside s (λ ge lt. omega arith) mine) (cases_lt s (first + count)))
          (cases_lt s first)
      by false other = ap (λ (b : Bool). cond b (image_sectors bytes (sector_within store.shards s)) []) other ∙ foreign s other

-- the image that is put together: each sector is that of its own shard's store
pub record IsJoined (stores : List RamData) (image : List ℕ) (blocks : ℕ) : Type 0 where
  pub long : length image ≡ 4096 * blocks
  pub same : (b : ℕ) → b < blocks → AllAt stores (b % length stores) (λ store. block_at image b ≡ block_at store.bytes (b / store.shards))

pub joined_none : (stores : List RamData) → IsJoined stores [] 0
joined_none stores = record { long = omega arith; same = λ b less. absurd (omega arith) }

pub joined_more : (stores : List RamData) (image more : List ℕ) (blocks : ℕ) (store : RamData) → IsJoined stores image blocks → length more ≡ 4096 → At stores (blocks % length stores) store → more ≡ block_at store.bytes (blocks / store.shards)
    → IsJoined stores (image ++ more) (blocks + 1)
joined_more stores image more blocks store is long at bytes = record {
  long = let a = is.long in omega (arith, length-append image more);
  same = λ b less x there. ⊎_elim
      (λ (before : b < blocks). block_push_old image more b (let a = is.long in omega arith) ∙ is.same b before x there)
      (λ (last : blocks ≤ b).
      let now : b ≡ blocks = omega arith in
      let here : At stores (blocks % length stores) x = subst (λ (n : ℕ). At stores (n % length stores) x) now there in
      let one : store ≡ x = at_one stores (blocks % length stores) store x at here in
      block_push_new image more b (let a = is.long in omega arith) long ∙ bytes ∙ ap₂ (λ (s : RamData) (n : ℕ). block_at s.bytes (n / s.shards)) one (sym now))
      (cases_lt b blocks);
}

-- the bytes of a single store that are an image are put together already
joined_one : (store : RamData) (blocks : ℕ) → store.shards ≡ 1 → length store.bytes ≡ 4096 * blocks → IsJoined (store ∷ []) store.bytes blocks
joined_one store blocks one long = record {
  long = long;
  same = λ b less x there.
      let first : b % 1 ≡ 0 = omega arith in
      let is : store ≡ x = at_one (store ∷ []) 0 store x refl (subst (λ (n : ℕ). At (store ∷ []) n x) first there) in
      let place : b ≡ b / 1 = omega arith in
      ap (block_at store.bytes) (place ∙ ap (λ (n : ℕ). b / n) (sym one)) ∙ ap (λ (s : RamData). block_at s.bytes (b / s.shards)) is;
}

pub joined_only : (stores : List RamData) (blocks : ℕ) (store : RamData) → IsOneImage stores blocks → At stores 0 store → IsJoined stores store.bytes blocks
joined_only stores blocks store one at =
    let same : one.0 ≡ store = at_one (one.0 ∷ []) 0 one.0 store refl (subst (λ (l : List RamData). At l 0 store) one.1 at) in
    subst (λ (l : List RamData). IsJoined l store.bytes blocks) (sym one.1)
    (subst (λ (x : RamData). IsJoined (one.0 ∷ []) x.bytes blocks) same (joined_one one.0 blocks one.2 one.3))

-- a block whose first sector is the store's is one of its blocks
pub owns_block : (store : RamData) (block : ℕ) → owns store (8 * block) ≡ true → (block % store.shards ≡ store.shard) × (block < store.blocks)
owns_block store block is =
    let both = both_true (shard_of store.shards (8 * block) == store.shard) (nat_lt (block_of (8 * block)) store.blocks) is in
    let first : block_of (8 * block) ≡ block = omega arith in (
      ap (λ (b : ℕ). b % store.shards) (sym first) ∙ eqb-true (shard_of store.shards (8 * block)) store.shard both.0,
      subst (λ (b : ℕ). b < store.blocks) first (ltb-true (block_of (8 * block)) store.blocks both.1),
    )

pub joined_sectors : (stores : List RamData) (image : List ℕ) (blocks : ℕ) → HaveAllSectors blocks stores → IsJoined stores image blocks → (s : ℕ) → s < 8 * blocks
    → AllAt stores (shard_of (length stores) s) (λ store. (owns store s ≡ true) × (image_sectors image s ≡ contents store s))
joined_sectors stores image blocks all is s less store at =
    let n : ℕ = store.shards in let one = all.some in
    let inside : block_of s < blocks = omega arith in
    let mine : owns store s ≡ true = all.each s less store at in
    let same : block_at image (s / 8) ≡ block_at store.bytes (s / 8 / n) = is.same (block_of s) inside store at in
    let here : sector_within n s / 8 ≡ s / 8 / n = omega arith in
    let place : s % 8 ≡ sector_within n s % 8 = omega arith in (
      mine,
      same_sectors image store.bytes s (sector_within n s) place (same ∙ ap (block_at store.bytes) (sym here)) ∙ sym (contents_at store s mine),
    )

there_is : {A : Type 0} (xs : List A) (place : ℕ) → place < length xs → (x : A) × At xs place x
there_is [] place less = absurd (omega arith)
there_is (x ∷ xs) zero less = (x, refl)
there_is (x ∷ xs) (suc place) less = there_is xs place (omega arith)

-- what was taken apart is put together
pub joined_back : (stores : List RamData) (image whole : List ℕ) (blocks : ℕ) → HaveAllSectors blocks stores → IsJoined stores image blocks → length whole ≡ 4096 * blocks
    → ((shard : ℕ) → AllAt stores shard (IsShardOf whole shard (length stores))) → image ≡ whole
joined_back stores image whole blocks all is long parts =
    let n : ℕ = length stores in let one = all.some in
    let each : (i : ℕ) → i < 8 * blocks → image_sectors image (0 + i) ≡ image_sectors whole (0 + i) = λ i less.
    let s : ℕ = 0 + i in
    let lt : s < 8 * blocks = omega arith in
    let place : shard_of n s < n = omega arith in
    let t = there_is stores (shard_of n s) place in
    let now = joined_sectors stores image blocks all is s lt t.0 t.1 in
    now.1 ∙ (parts (shard_of n s) t.0 t.1).holds s now.0 in
    let l = is.long in
    sym (image_of-image_sectors image (8 * blocks) (omega arith))
    ∙ bytes_at_same (image_sectors image) (image_sectors whole) 0 0 (8 * blocks) each
    ∙ image_of-image_sectors whole (8 * blocks) (omega arith)
