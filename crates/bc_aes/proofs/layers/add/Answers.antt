use Rattle.std.proofs.Common.{◌≡◌, length, refl, arith}
use Rattle.std.specs.Simd.Lanes.{Each1}
use Rattle.bc_aes.specs.Slices.{slices_of}
use Rattle.bc_aes.proofs.SliceLemmas.{block_of-sum}
use Rattle.bc_aes.proofs.layers.add.Goals as goal

pub returns : goal.returns
returns c =
    let long : Each1 (λ s. length s ≡ 16) (slices_of c.args.q) =
    (omega arith, (omega arith, (omega arith, (omega arith, (omega arith, (omega arith, (omega arith, (omega arith, tt)))))))) in
    let key_long : Each1 (λ s. length s ≡ 16) (slices_of c.args.key) =
    (omega arith, (omega arith, (omega arith, (omega arith, (omega arith, (omega arith, (omega arith, (omega arith, tt)))))))) in
    record { adds = record { each = λ k _. block_of-sum (slices_of c.args.q) (slices_of c.args.key) k refl long key_long } }
