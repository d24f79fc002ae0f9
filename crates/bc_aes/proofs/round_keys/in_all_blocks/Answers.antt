use Rattle.std.proofs.Common.{◌≡◌, length}
use Rattle.bc_aes.proofs.RoundKeyLemmas.{spreads-shifted, vector_of-spread}
use Rattle.bc_aes.proofs.round_keys.in_all_blocks.Goals as goal

pub returns : goal.returns
returns c =
    let long : length c.args.block ≡ 16 = c.fits-block.0 in
    record {
      holds = vector_of-spread _ c.args.block long c.fits-block.1 c.spread.ensures.spreads
          (spreads-shifted c.args.block 1 c.spread-2.result long c.spread-2.ensures.spreads)
          (spreads-shifted c.args.block 2 c.spread-3.result long c.spread-3.ensures.spreads)
          (spreads-shifted c.args.block 3 c.spread-4.result long c.spread-4.ensures.spreads)
          (spreads-shifted c.args.block 4 c.spread-5.result long c.spread-5.ensures.spreads)
          (spreads-shifted c.args.block 5 c.spread-6.result long c.spread-6.ensures.spreads)
          (spreads-shifted c.args.block 6 c.spread-7.result long c.spread-7.ensures.spreads)
          (spreads-shifted c.args.block 7 c.spread-8.result long c.spread-8.ensures.spreads);
    }
