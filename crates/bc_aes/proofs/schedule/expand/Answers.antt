use Rattle.std.proofs.Common.{◌≡◌, ℕ, List, ◌-◌, ◌/◌, length, get_or, sym, ap, ◌∙◌, arith}
use Rattle.std.proofs.lemmas.List.{take_all}
use Rattle.bc_aes.specs.KeyExpansion.{xor_word, expanded}
use Rattle.bc_aes.specs.Columns.{column, schedule_bytes}
use Rattle.bc_aes.proofs.WordLemmas.{column-xor}
use Rattle.bc_aes.proofs.ScheduleLemmas.{expanded-none, expanded-more, expanded-all}
use Rattle.bc_aes.proofs.schedule.expand.Goals as goal

pub loop-i-init : goal.loop-i-init
loop-i-init c = c.begin.ensures.begins ∙ sym (expanded-none (length c.args.key.now / 4) c.args.key.now)

pub loop-i-preserved : goal.loop-i-preserved
loop-i-preserved c =
    let nk : ℕ = length c.args.key.now / 4 in
    let i : ℕ = c.loop-i.i in
    let before : ℕ = get_or c.loop-i.schedule (i - nk) 0 in
    expanded-more nk c.args.key.now c.loop-i.schedule i _ (omega arith) (omega arith) (omega arith) c.loop-i.invariant
    (column-xor before c.addend.result ∙ ap (λ (w : List ℕ). xor_word (column before) w) c.addend.ensures.adds)

pub returns : goal.returns
returns c =
    let nk : ℕ = length c.args.key.now / 4 in
    let words : ℕ = length c.args.schedule.now in
    let same : c.loop-i.i ≡ words = omega arith in
    record {
      expands = ap (λ (s : List ℕ). schedule_bytes s) (sym (take_all c.loop-i.i c.loop-i.schedule (omega arith)))
          ∙ c.loop-i.invariant ∙ ap (λ (n : ℕ). expanded nk c.args.key.now (n - nk)) same
          ∙ expanded-all nk c.args.key.now words c.requires.schedule_size;
    }
