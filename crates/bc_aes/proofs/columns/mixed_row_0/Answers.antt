use Rattle.std.proofs.Common.{◌≡◌, ℕ, ◌/◌, ◌%◌, ap, ◌∙◌, arith, rules}
use Rattle.bc_aes.proofs.TableLemmas.{mixed_row_0_at}
use Rattle.bc_aes.proofs.columns.mixed_row_0.Goals as goal

pub returns : goal.returns
returns c =
    let whole : c.args.word / 1 ≡ c.args.word = omega arith in
    rw (c.byte.ensures.value ∙ ap (λ (n : ℕ). n % 256) whole) (record { adds = mixed_row_0_at _ (search rules) })
