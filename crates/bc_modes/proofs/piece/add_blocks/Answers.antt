use Rattle.std.proofs.Common.{◌≡◌, length, bit_xor, sym, ◌∙◌, arith}
use Rattle.std.proofs.lemmas.List.{ext_get_or}
use Rattle.std.proofs.lemmas.Simd.{get_or-zip2, length-zip2}
use Rattle.bc_modes.proofs.piece.add_blocks.Goals as goal

pub returns : goal.returns
returns c =
    let was = c.args.piece.now in
    let blocks = c.args.blocks.now in
    let l : length was ≡ length blocks = omega arith in
    ext_get_or 0 _ _ (c.loop-i.auto.piece ∙ sym (length-zip2 bit_xor was blocks l))
    (λ k h. c.loop-i.invariant.0 k (omega arith) ∙ sym (get_or-zip2 bit_xor was blocks k 0 0 0 (omega arith) (omega arith)))
