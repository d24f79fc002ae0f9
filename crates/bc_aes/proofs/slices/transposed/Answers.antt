use Rattle.std.proofs.Common.{arith}
use Rattle.bc_aes.specs.declared.slices.Slices.{Slices}
use Rattle.bc_aes.proofs.TransposeLemmas.{transposed-rows, AreTransposed, slices-transposed, blocks-transposed}
use Rattle.bc_aes.proofs.slices.transposed.Goals as goal

pub returns : goal.returns
returns c =
    let new : Slices = record {
      s0 = c.exchanged_4.result.0;
      s1 = c.exchanged_4-2.result.0;
      s2 = c.exchanged_4-3.result.0;
      s3 = c.exchanged_4-4.result.0;
      s4 = c.exchanged_4.result.1;
      s5 = c.exchanged_4-2.result.1;
      s6 = c.exchanged_4-3.result.1;
      s7 = c.exchanged_4-4.result.1;
    } in
    let rows : AreTransposed c.args.q new =
    transposed-rows c.exchanged_1.ensures.exchanges c.exchanged_1-2.ensures.exchanges c.exchanged_1-3.ensures.exchanges c.exchanged_1-4.ensures.exchanges
    c.exchanged_2.ensures.exchanges c.exchanged_2-2.ensures.exchanges c.exchanged_2-3.ensures.exchanges c.exchanged_2-4.ensures.exchanges
    c.exchanged_4.ensures.exchanges c.exchanged_4-2.ensures.exchanges c.exchanged_4-3.ensures.exchanges c.exchanged_4-4.ensures.exchanges in
    record {
      into_slices = slices-transposed c.args.q new rows (
        (omega arith, c.exchanged_1.ensures.from_bytes.0),
        (
          (omega arith, c.exchanged_1.ensures.from_bytes.1),
          (
            (omega arith, c.exchanged_1-2.ensures.from_bytes.0),
            (
              (omega arith, c.exchanged_1-2.ensures.from_bytes.1),
              (
                (omega arith, c.exchanged_1-3.ensures.from_bytes.0),
                (
                  (omega arith, c.exchanged_1-3.ensures.from_bytes.1),
                  ((omega arith, c.exchanged_1-4.ensures.from_bytes.0), ((omega arith, c.exchanged_1-4.ensures.from_bytes.1), tt)),
                ),
              ),
            ),
          ),
        ),
      );
      into_blocks = blocks-transposed c.args.q new rows (
        (omega arith, c.exchanged_4.ensures.to_bytes.0),
        (
          (omega arith, c.exchanged_4-2.ensures.to_bytes.0),
          (
            (omega arith, c.exchanged_4-3.ensures.to_bytes.0),
            (
              (omega arith, c.exchanged_4-4.ensures.to_bytes.0),
              (
                (omega arith, c.exchanged_4.ensures.to_bytes.1),
                (
                  (omega arith, c.exchanged_4-2.ensures.to_bytes.1),
                  ((omega arith, c.exchanged_4-3.ensures.to_bytes.1), ((omega arith, c.exchanged_4-4.ensures.to_bytes.1), tt)),
                ),
              ),
            ),
          ),
        ),
      );
    }
