use Rattle.std.proofs.Common.{◌≡◌, List, ℕ, ◌/◌, length, take, sym, ap, ◌∙◌, arith}
use Rattle.bc_aes.specs.KeyExpansion.{key_expansion}
use Rattle.bc_aes.specs.Columns.{schedule_bytes}
use Rattle.bc_aes.proofs.ScheduleLemmas.{key-of_schedule}
use Rattle.bc_aes.proofs.aes256_pieces.Aes256Pieces.new.Goals as goal

pub invariant_of-aes : goal.invariant_of-aes
invariant_of-aes c =
    let words : List ℕ = c.expand.new.schedule in
    let nk : length c.args.key.now / 4 ≡ 8 = omega arith in
    let whole : schedule_bytes words ≡ key_expansion 8 c.args.key.now =
    c.expand.ensures.expands ∙ ap (λ (n : ℕ). key_expansion n c.args.key.now) nk in
    let begins : schedule_bytes (take 8 words) ≡ c.args.key.now = key-of_schedule 8 c.args.key.now words (omega arith) whole in
    record {
      schedule_is = whole ∙ ap (λ (key : List ℕ). key_expansion 8 key) (sym begins);
      sliced_is = c.slice_keys.ensures.slices;
    }

pub returns : goal.returns
returns c =
    let words : List ℕ = c.expand.new.schedule in
    let nk : length c.args.key.now / 4 ≡ 8 = omega arith in
    let whole : schedule_bytes words ≡ key_expansion 8 c.args.key.now =
    c.expand.ensures.expands ∙ ap (λ (n : ℕ). key_expansion n c.args.key.now) nk in
    record { expands = key-of_schedule 8 c.args.key.now words (omega arith) whole }
