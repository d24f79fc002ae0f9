use Rattle.std.proofs.Common.{List, ℕ, ap, ◌∙◌}
use Rattle.bc_aes.specs.Slices.{sliced_block}
use Rattle.bc_aes.proofs.SliceLemmas.{eight, block_of-turned_twice}
use Rattle.bc_aes.proofs.layers.turned_twice.Goals as goal

pub returns : goal.returns
returns c = record {
  turns = record {
    each = λ k _. ap (λ (slices : List (List ℕ)). sliced_block slices k)
        (eight c.columns_turned_twice.ensures c.columns_turned_twice-2.ensures c.columns_turned_twice-3.ensures c.columns_turned_twice-4.ensures
        c.columns_turned_twice-5.ensures c.columns_turned_twice-6.ensures c.columns_turned_twice-7.ensures c.columns_turned_twice-8.ensures)
        ∙ block_of-turned_twice c.args.q k;
  };
}
