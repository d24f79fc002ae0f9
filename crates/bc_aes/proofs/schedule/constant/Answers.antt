use Rattle.std.proofs.Common.{ℕ, ◌-◌, ◌∷◌, [], get_or, ap, ◌∙◌, arith}
use Rattle.bc_aes.specs.Columns.{column}
use Rattle.bc_aes.specs.declared.tables.TheConstants.{RCON}
use Rattle.bc_aes.proofs.WordLemmas.{column-word_of}
use Rattle.bc_aes.proofs.TableLemmas.{rcon_at, rcon_lt}
use Rattle.bc_aes.proofs.schedule.constant.Goals as goal

pub returns : goal.returns
returns c =
    let n : ℕ = c.args.number - 1 in record {
      holds = ap (λ (w : ℕ). column w) c.from_le_bytes.ensures
          ∙ column-word_of (get_or RCON.now n 0) 0 0 0 (rcon_lt n (omega arith)) (omega arith) (omega arith) (omega arith)
          ∙ ap (λ (b : ℕ). b ∷ 0 ∷ 0 ∷ 0 ∷ []) (rcon_at n (omega arith));
    }
