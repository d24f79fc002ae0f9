use Rattle.std.proofs.Common.{◌≡◌, length, bit_xor, sym, ◌∙◌, arith}
use Rattle.std.proofs.lemmas.List.{ext_get_or}
use Rattle.std.proofs.lemmas.Simd.{get_or-zip2, length-zip2}
use Rattle.bc_modes.proofs.essiv.add_block.Goals as goal

pub returns : goal.returns
returns c =
    let was = c.args.block.now in
    let other = c.args.other.now in
    let l : length was ≡ length other = omega arith in
    ext_get_or 0 _ _ (omega (arith, length-zip2 bit_xor was other l))
    (λ k h. c.loop-i.invariant.added k (omega arith) ∙ sym (get_or-zip2 bit_xor was other k 0 0 0 (omega arith) (omega arith)))
