use Rattle.std.proofs.Common.{◌≡◌, ℕ, List, ◌+◌, ◌-◌, ◌*◌, ◌/◌, length, take, sym, ap, ap₂, ◌∙◌, arith}
use Rattle.std.specs.Prelude.{slice_range}
use Rattle.std.proofs.lemmas.List.{take_all}
use Rattle.bc_aes.specs.KeyExpansion.{xor_word, added_word, expanded}
use Rattle.bc_aes.proofs.ScheduleLemmas.{expanded-none, expanded-all}
use Rattle.bc_aes.proofs.PlainLemmas.{bytes-more}
use Rattle.bc_aes.proofs.plain.expand.Goals as goal

pub loop-i-init : goal.loop-i-init
loop-i-init c =
    let nk : ℕ = length c.args.key.now / 4 in
    let size : 4 * nk ≡ 0 + length c.args.key.now - 0 = omega arith in
    ap (λ (n : ℕ). take n c.put_bytes.new.text) size ∙ c.put_bytes.ensures.here ∙ sym (expanded-none nk c.args.key.now)

pub loop-i-preserved : goal.loop-i-preserved
loop-i-preserved c =
    let nk : ℕ = length c.args.key.now / 4 in
    let i : ℕ = c.loop-i.i in
    let size : 4 ≡ length c.added_column-next.result = omega arith in
    bytes-more nk c.args.key.now c.loop-i.schedule c.put_bytes-in-loop-i.new.text c.added_column-next.result i (omega arith) (omega arith) (omega arith) (omega arith)
    c.loop-i.invariant
    (c.added_column-next.ensures.adds
    ∙ ap₂ (λ (v w : List ℕ). xor_word v w) c.bytes_at-first.ensures.holds
    (c.added_word.ensures.adds ∙ ap (λ (w : List ℕ). added_word nk i w) c.bytes_at-before.ensures.holds))
    c.put_bytes-in-loop-i.ensures.before
    (ap (λ (n : ℕ). slice_range c.put_bytes-in-loop-i.new.text (4 * i) (4 * i + n)) size ∙ c.put_bytes-in-loop-i.ensures.here)

pub returns : goal.returns
returns c =
    let nk : ℕ = length c.args.key.now / 4 in
    let words : ℕ = length c.args.schedule.now / 4 in
    let same : c.loop-i.i ≡ words = omega arith in
    record {
      expands = sym (take_all (4 * c.loop-i.i) c.loop-i.schedule (omega arith)) ∙ c.loop-i.invariant
          ∙ ap (λ (n : ℕ). expanded nk c.args.key.now (n - nk)) same ∙ expanded-all nk c.args.key.now words (omega arith);
    }
