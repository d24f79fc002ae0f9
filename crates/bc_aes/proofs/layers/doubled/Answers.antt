use Rattle.std.proofs.Common.{◌≡◌, length, arith}
use Rattle.std.specs.Simd.Lanes.{Each1}
use Rattle.bc_aes.specs.Slices.{slices_of}
use Rattle.bc_aes.proofs.SliceLemmas.{block_of-doubled}
use Rattle.bc_aes.proofs.layers.doubled.Goals as goal

pub returns : goal.returns
returns c =
    let long : Each1 (λ s. length s ≡ 16) (slices_of c.args.q) =
    (omega arith, (omega arith, (omega arith, (omega arith, (omega arith, (omega arith, (omega arith, (omega arith, tt)))))))) in
    record { doubles = record { each = λ k _. block_of-doubled c.args.q k long } }
