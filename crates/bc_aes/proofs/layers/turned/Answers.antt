use Rattle.std.proofs.Common.{List, ℕ, ap, ◌∙◌}
use Rattle.bc_aes.specs.Slices.{sliced_block}
use Rattle.bc_aes.proofs.SliceLemmas.{eight, block_of-turned}
use Rattle.bc_aes.proofs.layers.turned.Goals as goal

pub returns : goal.returns
returns c = record {
  turns = record {
    each = λ k _. ap (λ (slices : List (List ℕ)). sliced_block slices k)
        (eight c.columns_turned.ensures c.columns_turned-2.ensures c.columns_turned-3.ensures c.columns_turned-4.ensures
        c.columns_turned-5.ensures c.columns_turned-6.ensures c.columns_turned-7.ensures c.columns_turned-8.ensures)
        ∙ block_of-turned c.args.q k;
  };
}
