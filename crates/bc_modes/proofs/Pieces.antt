-- A loop over the pieces of a text, each of eight blocks: those before are done, the others are what they were. And XTS piece
-- after piece.
use Rattle.std.proofs.Common.{◌≡◌, ℕ, ◌+◌, ◌-◌, ◌*◌, ◌≤◌, List, [], ◌++◌, length, take, drop, refl, sym, ap, ap₂, ◌∙◌, arith}
use Rattle.std.proofs.lemmas.List.{drop-drop, length-drop, length-take-le, take_all}
use Rattle.std.proofs.lemmas.Slice.{take-put_mid, drop-put_mid}
use borrow.Rule.Slice.PartMut.{put_mid}
use Rattle.bc_aes.specs.Blocks.{EachBlock}
use Rattle.bc_modes.specs.ByBlocks.{xor_bytes}
use Rattle.bc_modes.specs.Tweak.{tweak_at}
use Rattle.bc_modes.specs.Xts.{tweaked, tweak_bytes}
use Rattle.bc_modes.proofs.Doubling.{tweak_at-zero}
use Rattle.bc_modes.proofs.Along.{along, tweaked_is, along-add, along-take, along_by_pieces}

-- eight tweaks added, eight blocks ciphered, and the eight tweaks added again
pub piece_is : (cipher : List ℕ → List ℕ) (t : ℕ) (text tweaks old new : List ℕ) → length text ≡ 128 → length old ≡ 128
    → tweaks ≡ tweak_bytes t 8 → old ≡ xor_bytes text tweaks → EachBlock cipher old new → xor_bytes new tweaks ≡ tweaked cipher t text
piece_is cipher t text tweaks old new l m e o each =
    ap (xor_bytes new) e ∙ along_by_pieces cipher 8 t text old new m (o ∙ ap (xor_bytes text) e) each ∙ sym (tweaked_is cipher 8 t text l)

-- after n pieces: those are done, and the others are what they were
pub record AfterPieces (done : ℕ → List ℕ) (n : ℕ) (was text : List ℕ) : Type 0 where
  pub so_far : take (n * 128) text ≡ done n
  pub left : drop (n * 128) text ≡ drop (n * 128) was

-- before the first piece
pub no_pieces : (done : ℕ → List ℕ) (text : List ℕ) → done 0 ≡ [] → AfterPieces done 0 text text
no_pieces done text e = record { so_far = sym e; left = refl }

-- the next piece is still what it was
pub next_piece : (done : ℕ → List ℕ) (n : ℕ) (was text : List ℕ) → AfterPieces done n was text
    → take (n * 128 + 128 - n * 128) (drop (n * 128) text) ≡ take 128 (drop (n * 128) was)
next_piece done n was text after =
    let size : n * 128 + 128 - n * 128 ≡ 128 = omega arith in
    ap₂ (λ (k : ℕ) (xs : List ℕ). take k xs) size after.left

-- one piece more
pub piece_more : (done : ℕ → List ℕ) (n : ℕ) (was text piece : List ℕ) → n * 128 + 128 ≤ length text → length text ≡ length was → length piece ≡ 128
    → AfterPieces done n was text → done n ++ piece ≡ done (n + 1)
    → AfterPieces done (n + 1) was (put_mid (n * 128) (n * 128 + 128 - n * 128) text piece)
piece_more done n was text piece room l m after e =
    let end : n * 128 + 128 ≡ (n + 1) * 128 = omega arith in
    record {
      so_far =
          take-put_mid (n * 128) (n * 128 + 128 - n * 128) text piece ((n + 1) * 128) (omega arith) (omega arith)
          ∙ ap (λ xs. xs ++ piece) after.so_far ∙ e;
      left =
          drop-put_mid (n * 128) (n * 128 + 128 - n * 128) text piece ((n + 1) * 128) (omega arith) (omega arith) (omega arith)
          ∙ ap (λ k. drop k text) (sym end) ∙ sym (drop-drop 128 (n * 128) text) ∙ ap (drop 128) after.left
          ∙ drop-drop 128 (n * 128) was ∙ ap (λ k. drop k was) end;
    }

-- after the last piece the whole text is done
pub all_pieces : (done : ℕ → List ℕ) (n : ℕ) (was text : List ℕ) → length text ≡ n * 128 → AfterPieces done n was text → text ≡ done n
all_pieces done n was text l after = sym (take_all (n * 128) text (omega arith)) ∙ after.so_far

-- ---- XTS

-- after n pieces, where the first block has the tweak `first` and the next one t
pub record AfterTweaks (cipher : List ℕ → List ℕ) (first n t : ℕ) (was text : List ℕ) : Type 0 where
  pub pieces : AfterPieces (λ k. along cipher first (8 * k) was) n was text
  pub next : t ≡ tweak_at first (8 * n)

-- before the first piece
pub no_tweaks : (cipher : List ℕ → List ℕ) (first t : ℕ) (text : List ℕ) → t ≡ first → AfterTweaks cipher first 0 t text text
unfolding along
no_tweaks cipher first t text e =
    record { pieces = no_pieces (λ k. along cipher first (8 * k) text) text refl; next = e ∙ sym (tweak_at-zero first) }

module _ (cipher : List ℕ → List ℕ) (first n t : ℕ) (was text piece : List ℕ) where
  abbrev rest : List ℕ
  rest = drop (n * 128) was

  piece_along : n * 128 + 128 ≤ length text → length text ≡ length was → AfterTweaks cipher first n t was text
      → piece ≡ tweaked cipher t (take (n * 128 + 128 - n * 128) (drop (n * 128) text))
      → piece ≡ along cipher (tweak_at first (8 * n)) 8 (drop (16 * (8 * n)) was)
  piece_along room l after e =
      let long : 128 ≤ length rest = omega (arith, length-drop (n * 128) was) in
      let place : n * 128 ≡ 16 * (8 * n) = omega arith in
      e ∙ ap₂ (λ (s : ℕ) (xs : List ℕ). tweaked cipher s xs) after.next (next_piece _ n was text after.pieces)
      ∙ tweaked_is cipher 8 (tweak_at first (8 * n)) (take 128 rest) (length-take-le 128 rest long)
      ∙ along-take cipher 8 (tweak_at first (8 * n)) 128 rest (omega arith)
      ∙ ap (λ k. along cipher (tweak_at first (8 * n)) 8 (drop k was)) place

  -- one piece more
  pub tweaks_on : (next : ℕ) → n * 128 + 128 ≤ length text → length text ≡ length was → length piece ≡ 128
      → AfterTweaks cipher first n t was text
      → piece ≡ tweaked cipher t (take (n * 128 + 128 - n * 128) (drop (n * 128) text)) → next ≡ tweak_at first (8 * (n + 1))
      → AfterTweaks cipher first (n + 1) next was (put_mid (n * 128) (n * 128 + 128 - n * 128) text piece)
  tweaks_on next room l m after e later =
      let count : 8 * n + 8 ≡ 8 * (n + 1) = omega arith in
      record {
        pieces =
            piece_more (λ k. along cipher first (8 * k) was) n was text piece room l m after.pieces
            (ap (λ xs. along cipher first (8 * n) was ++ xs) (piece_along room l after e)
            ∙ sym (along-add cipher (8 * n) 8 first was) ∙ ap (λ k. along cipher first k was) count);
        next = later;
      }

-- after the last piece the whole text is ciphered
pub all_tweaked : (cipher : List ℕ → List ℕ) (first n t : ℕ) (was text : List ℕ) → length text ≡ n * 128 → length was ≡ n * 128
    → AfterTweaks cipher first n t was text → text ≡ tweaked cipher first was
all_tweaked cipher first n t was text l m after =
    all_pieces (λ k. along cipher first (8 * k) was) n was text l after.pieces ∙ sym (tweaked_is cipher (8 * n) first was (omega arith))
