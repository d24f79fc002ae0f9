-- The tables are what the definitions compute.
use Rattle.std.proofs.Common.{◌≡◌, ℕ, ◌<◌, true, false, List, map, length, get_or, refl, sym, ap, ◌∙◌, zero-add, arith}
use Rattle.std.proofs.lemmas.List.{get_or-map}
use Rattle.std.proofs.lemmas.List.FromFn.{get_or-map-range_with_len, get_or-range_with_len}
use Rattle.std.proofs.lemmas.List.Folds.{list_all_at}
use borrow.Author.Tests.{ltb-true, both_ways}
use Rattle.std.specs.Prelude.{nat_lt}
use Rattle.std.specs.List.{range_with_len, list_all}
use Rattle.bc_aes.specs.Field.{times_x, product_by, product, inverse}
use Rattle.bc_aes.specs.State.{affine, inv_affine, sub_byte, inv_sub_byte, mixing_row, inv_mixing_row}
use Rattle.bc_aes.specs.KeyExpansion.{power_of_x}
use Rattle.bc_aes.specs.Columns.{part}
use Rattle.bc_aes.specs.declared.tables.TheConstants.{RCON, SBOX, INV_SBOX, MIXED_ROW_0, MIXED_ROW_1, MIXED_ROW_2, MIXED_ROW_3, UNMIXED_ROW_0, UNMIXED_ROW_1, UNMIXED_ROW_2, UNMIXED_ROW_3}

listed : (f : ℕ → ℕ) (t : List ℕ) → t ≡ map f (range_with_len 0 256) → (n : ℕ) → n < 256 → get_or t n 0 ≡ f n
listed f t e n h = ap (λ (xs : List ℕ). get_or xs n 0) e ∙ get_or-map-range_with_len f 0 256 n n 0 h (omega arith)

sbox_is : SBOX.now ≡ map sub_byte (range_with_len 0 256)
unfolding times_x product_by product inverse affine sub_byte
sbox_is = refl

inv_sbox_is : INV_SBOX.now ≡ map inv_sub_byte (range_with_len 0 256)
unfolding times_x product_by product inverse inv_affine inv_sub_byte
inv_sbox_is = refl

pub sbox_at : (n : ℕ) → n < 256 → get_or SBOX.now n 0 ≡ sub_byte n
sbox_at n h = listed sub_byte SBOX.now sbox_is n h

pub inv_sbox_at : (n : ℕ) → n < 256 → get_or INV_SBOX.now n 0 ≡ inv_sub_byte n
inv_sbox_at n h = listed inv_sub_byte INV_SBOX.now inv_sbox_is n h

mixed_row_0_is : MIXED_ROW_0.now ≡ map (part mixing_row 0) SBOX.now
unfolding times_x product_by product
mixed_row_0_is = refl

pub mixed_row_0_at : (n : ℕ) → n < 256 → get_or MIXED_ROW_0.now n 0 ≡ part mixing_row 0 (sub_byte n)
mixed_row_0_at n h =
    ap (λ (xs : List ℕ). get_or xs n 0) mixed_row_0_is ∙ get_or-map (part mixing_row 0) SBOX.now n 0 0 h ∙ ap (part mixing_row 0) (sbox_at n h)

mixed_row_1_is : MIXED_ROW_1.now ≡ map (part mixing_row 1) SBOX.now
unfolding times_x product_by product
mixed_row_1_is = refl

pub mixed_row_1_at : (n : ℕ) → n < 256 → get_or MIXED_ROW_1.now n 0 ≡ part mixing_row 1 (sub_byte n)
mixed_row_1_at n h =
    ap (λ (xs : List ℕ). get_or xs n 0) mixed_row_1_is ∙ get_or-map (part mixing_row 1) SBOX.now n 0 0 h ∙ ap (part mixing_row 1) (sbox_at n h)

mixed_row_2_is : MIXED_ROW_2.now ≡ map (part mixing_row 2) SBOX.now
unfolding times_x product_by product
mixed_row_2_is = refl

pub mixed_row_2_at : (n : ℕ) → n < 256 → get_or MIXED_ROW_2.now n 0 ≡ part mixing_row 2 (sub_byte n)
mixed_row_2_at n h =
    ap (λ (xs : List ℕ). get_or xs n 0) mixed_row_2_is ∙ get_or-map (part mixing_row 2) SBOX.now n 0 0 h ∙ ap (part mixing_row 2) (sbox_at n h)

mixed_row_3_is : MIXED_ROW_3.now ≡ map (part mixing_row 3) SBOX.now
unfolding times_x product_by product
mixed_row_3_is = refl

pub mixed_row_3_at : (n : ℕ) → n < 256 → get_or MIXED_ROW_3.now n 0 ≡ part mixing_row 3 (sub_byte n)
mixed_row_3_at n h =
    ap (λ (xs : List ℕ). get_or xs n 0) mixed_row_3_is ∙ get_or-map (part mixing_row 3) SBOX.now n 0 0 h ∙ ap (part mixing_row 3) (sbox_at n h)

unmixed_row_0_is : UNMIXED_ROW_0.now ≡ map (part inv_mixing_row 0) INV_SBOX.now
unfolding times_x product_by product
unmixed_row_0_is = refl

pub unmixed_row_0_at : (n : ℕ) → n < 256 → get_or UNMIXED_ROW_0.now n 0 ≡ part inv_mixing_row 0 (inv_sub_byte n)
unmixed_row_0_at n h =
    ap (λ (xs : List ℕ). get_or xs n 0) unmixed_row_0_is ∙ get_or-map (part inv_mixing_row 0) INV_SBOX.now n 0 0 h ∙ ap (part inv_mixing_row 0) (inv_sbox_at n h)

unmixed_row_1_is : UNMIXED_ROW_1.now ≡ map (part inv_mixing_row 1) INV_SBOX.now
unfolding times_x product_by product
unmixed_row_1_is = refl

pub unmixed_row_1_at : (n : ℕ) → n < 256 → get_or UNMIXED_ROW_1.now n 0 ≡ part inv_mixing_row 1 (inv_sub_byte n)
unmixed_row_1_at n h =
    ap (λ (xs : List ℕ). get_or xs n 0) unmixed_row_1_is ∙ get_or-map (part inv_mixing_row 1) INV_SBOX.now n 0 0 h ∙ ap (part inv_mixing_row 1) (inv_sbox_at n h)

unmixed_row_2_is : UNMIXED_ROW_2.now ≡ map (part inv_mixing_row 2) INV_SBOX.now
unfolding times_x product_by product
unmixed_row_2_is = refl

pub unmixed_row_2_at : (n : ℕ) → n < 256 → get_or UNMIXED_ROW_2.now n 0 ≡ part inv_mixing_row 2 (inv_sub_byte n)
unmixed_row_2_at n h =
    ap (λ (xs : List ℕ). get_or xs n 0) unmixed_row_2_is ∙ get_or-map (part inv_mixing_row 2) INV_SBOX.now n 0 0 h ∙ ap (part inv_mixing_row 2) (inv_sbox_at n h)

unmixed_row_3_is : UNMIXED_ROW_3.now ≡ map (part inv_mixing_row 3) INV_SBOX.now
unfolding times_x product_by product
unmixed_row_3_is = refl

pub unmixed_row_3_at : (n : ℕ) → n < 256 → get_or UNMIXED_ROW_3.now n 0 ≡ part inv_mixing_row 3 (inv_sub_byte n)
unmixed_row_3_at n h =
    ap (λ (xs : List ℕ). get_or xs n 0) unmixed_row_3_is ∙ get_or-map (part inv_mixing_row 3) INV_SBOX.now n 0 0 h ∙ ap (part inv_mixing_row 3) (inv_sbox_at n h)

rcon_is : RCON.now ≡ map power_of_x (range_with_len 0 10)
unfolding times_x power_of_x
rcon_is = refl

pub rcon_at : (n : ℕ) → n < 10 → get_or RCON.now n 0 ≡ power_of_x n
rcon_at n h = ap (λ (xs : List ℕ). get_or xs n 0) rcon_is ∙ get_or-map-range_with_len power_of_x 0 10 n n 0 h (omega arith)

-- ---- the S-box and its inverse undo each other

pub small_at : (xs : List ℕ) (i : ℕ) → list_all (λ v. nat_lt v 256) xs ≡ true → i < length xs → get_or xs i 0 < 256
small_at xs i all h =
    elim (nat_lt (get_or xs i 0) 256) as (λ t. nat_lt (get_or xs i 0) 256 ≡ t → get_or xs i 0 < 256) [
      | true ↦ λ e. ltb-true (get_or xs i 0) 256 e
      | false ↦ λ e. absurd (both_ways _ (list_all_at (λ v. nat_lt v 256) xs i 0 h e) all)
    ] refl

sbox_small : list_all (λ v. nat_lt v 256) SBOX.now ≡ true
sbox_small = refl

inv_sbox_small : list_all (λ v. nat_lt v 256) INV_SBOX.now ≡ true
inv_sbox_small = refl

pub sub_byte_lt : (n : ℕ) → n < 256 → sub_byte n < 256
sub_byte_lt n h = let e : get_or SBOX.now n 0 ≡ sub_byte n = sbox_at n h in omega (arith, e, small_at SBOX.now n sbox_small h)

pub inv_sub_byte_lt : (n : ℕ) → n < 256 → inv_sub_byte n < 256
inv_sub_byte_lt n h = let e : get_or INV_SBOX.now n 0 ≡ inv_sub_byte n = inv_sbox_at n h in omega (arith, e, small_at INV_SBOX.now n inv_sbox_small h)

there_and_back : map (λ v. get_or INV_SBOX.now v 0) SBOX.now ≡ range_with_len 0 256
there_and_back = refl

back_and_there : map (λ v. get_or SBOX.now v 0) INV_SBOX.now ≡ range_with_len 0 256
back_and_there = refl

pub inv_sub_byte-sub_byte : (n : ℕ) → n < 256 → inv_sub_byte (sub_byte n) ≡ n
inv_sub_byte-sub_byte n h =
    sym (inv_sbox_at (sub_byte n) (sub_byte_lt n h)) ∙ ap (λ (v : ℕ). get_or INV_SBOX.now v 0) (sym (sbox_at n h))
    ∙ sym (get_or-map (λ v. get_or INV_SBOX.now v 0) SBOX.now n 0 0 h) ∙ ap (λ (xs : List ℕ). get_or xs n 0) there_and_back
    ∙ get_or-range_with_len 0 256 n 0 h ∙ zero-add n

pub sub_byte-inv_sub_byte : (n : ℕ) → n < 256 → sub_byte (inv_sub_byte n) ≡ n
sub_byte-inv_sub_byte n h =
    sym (sbox_at (inv_sub_byte n) (inv_sub_byte_lt n h)) ∙ ap (λ (v : ℕ). get_or SBOX.now v 0) (sym (inv_sbox_at n h))
    ∙ sym (get_or-map (λ v. get_or SBOX.now v 0) INV_SBOX.now n 0 0 h) ∙ ap (λ (xs : List ℕ). get_or xs n 0) back_and_there
    ∙ get_or-range_with_len 0 256 n 0 h ∙ zero-add n

rcon_small : list_all (λ v. nat_lt v 256) RCON.now ≡ true
rcon_small = refl

pub rcon_lt : (n : ℕ) → n < 10 → get_or RCON.now n 0 < 256
rcon_lt n h = small_at RCON.now n rcon_small h
