-- A loop over blocks: those before are done, the others are what they were. And the chain of CBC, one block more.
use Rattle.std.proofs.Common.{◌≡◌, ℕ, zero, suc, ◌+◌, ◌-◌, ◌*◌, ◌/◌, ◌≤◌, List, [], ◌++◌, length, take, drop, refl, sym, ap, ap₂, ◌∙◌, arith, add-one}
use Rattle.std.specs.List.{flat_map, range_with_len}
use Rattle.std.proofs.lemmas.List.{drop-drop, take_all, flat_map_more}
use Rattle.std.proofs.lemmas.Slice.{take-put_mid, drop-put_mid}
use borrow.Rule.Slice.PartMut.{put_mid}
use Rattle.bc_aes.specs.Cipher.{encipher}
use Rattle.bc_aes.specs.Blocks.{block}
use Rattle.bc_modes.specs.ByBlocks.{by_blocks, xor_bytes}
use Rattle.bc_modes.specs.CbcEssiv.{chained, link}
use Rattle.bc_modes.proofs.Blocks.{range_with_len-more}

pub record AfterBlocks (at : ℕ → List ℕ) (n : ℕ) (was text : List ℕ) : Type 0 where
  pub done : take (16 * n) text ≡ flat_map at (range_with_len 0 n)
  pub left : drop (16 * n) text ≡ drop (16 * n) was

pub no_blocks : (at : ℕ → List ℕ) (text : List ℕ) → AfterBlocks at 0 text text
no_blocks at text = record { done = refl; left = refl }

-- the next block is still what it was
pub next_block : (at : ℕ → List ℕ) (n : ℕ) (was text : List ℕ) → AfterBlocks at n was text
    → take (16 * n + 16 - 16 * n) (drop (16 * n) text) ≡ block was n
next_block at n was text after = ap (take (16 * n + 16 - 16 * n)) after.left

-- one block more
pub block_more : (at : ℕ → List ℕ) (n : ℕ) (was text part : List ℕ) → 16 * n + 16 ≤ length text → length text ≡ length was
    → length part ≡ 16 → AfterBlocks at n was text → part ≡ at n
    → AfterBlocks at (n + 1) was (put_mid (16 * n) (16 * n + 16 - 16 * n) text part)
block_more at n was text part room l m after e =
    let end : 16 * n + 16 ≡ 16 * (n + 1) = omega arith in
    record {
      done =
          take-put_mid (16 * n) (16 * n + 16 - 16 * n) text part (16 * (n + 1)) (omega arith) (omega arith)
          ∙ ap₂ (λ (xs ys : List ℕ). xs ++ ys) after.done e
          ∙ flat_map_more at [] (range_with_len 0 n) n ∙ ap (flat_map at) (sym (range_with_len-more n));
      left =
          drop-put_mid (16 * n) (16 * n + 16 - 16 * n) text part (16 * (n + 1)) (omega arith) (omega arith) (omega arith)
          ∙ ap (λ k. drop k text) (sym end) ∙ sym (drop-drop 16 (16 * n) text) ∙ ap (drop 16) after.left
          ∙ drop-drop 16 (16 * n) was ∙ ap (λ k. drop k was) end;
    }

-- after the last block the whole text is done
pub all_blocks : (at : ℕ → List ℕ) (n : ℕ) (was text : List ℕ) → length text ≡ 16 * n → length was ≡ 16 * n → AfterBlocks at n was text
    → text ≡ by_blocks was at
all_blocks at n was text l m after =
    let count : n ≡ length was / 16 = omega arith in
    sym (take_all (16 * n) text (omega arith)) ∙ after.done ∙ ap (λ k. flat_map at (range_with_len 0 k)) count

-- what block n of a text is added to before its encipherment
abbrev pub chain : List ℕ → List ℕ → List ℕ → ℕ → List ℕ
chain key start text zero = start
chain key start text (suc n) = chained key start text n

pub chained_is : (key start text : List ℕ) (n : ℕ) → encipher 4 key (xor_bytes (block text n) (chain key start text n)) ≡ chained key start text n
unfolding chained
chained_is key start text zero = refl
chained_is key start text (suc n) = refl

pub chain-more : (key start text : List ℕ) (n : ℕ) → chain key start text (n + 1) ≡ chained key start text n
chain-more key start text n = ap (chain key start text) (add-one n)

pub link-more : (start text : List ℕ) (n : ℕ) → link start text (n + 1) ≡ block text n
link-more start text n = ap (link start text) (add-one n)
