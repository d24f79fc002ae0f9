use Rattle.std.proofs.Common.{List, ℕ, ap, ◌∙◌}
use Rattle.bc_aes.specs.Slices.{sliced_block}
use Rattle.bc_aes.proofs.SliceLemmas.{eight, block_of-shifted}
use Rattle.bc_aes.proofs.layers.shift_rows.Goals as goal

pub returns : goal.returns
returns c = record {
  shifts = record {
    each = λ k _. ap (λ (slices : List (List ℕ)). sliced_block slices k)
        (eight c.rows_shifted.ensures c.rows_shifted-2.ensures c.rows_shifted-3.ensures c.rows_shifted-4.ensures
        c.rows_shifted-5.ensures c.rows_shifted-6.ensures c.rows_shifted-7.ensures c.rows_shifted-8.ensures)
        ∙ block_of-shifted c.args.q k;
  };
}
