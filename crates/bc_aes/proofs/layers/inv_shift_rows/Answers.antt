use Rattle.std.proofs.Common.{List, ℕ, ap, ◌∙◌}
use Rattle.bc_aes.specs.Slices.{sliced_block}
use Rattle.bc_aes.proofs.SliceLemmas.{eight, block_of-unshifted}
use Rattle.bc_aes.proofs.layers.inv_shift_rows.Goals as goal

pub returns : goal.returns
returns c = record {
  shifts_back = record {
    each = λ k _. ap (λ (slices : List (List ℕ)). sliced_block slices k)
        (eight c.rows_unshifted.ensures c.rows_unshifted-2.ensures c.rows_unshifted-3.ensures c.rows_unshifted-4.ensures
        c.rows_unshifted-5.ensures c.rows_unshifted-6.ensures c.rows_unshifted-7.ensures c.rows_unshifted-8.ensures)
        ∙ block_of-unshifted c.args.q k;
  };
}
