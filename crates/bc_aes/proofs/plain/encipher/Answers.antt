use Rattle.std.proofs.Common.{◌≡◌, List, ℕ, ◌+◌, ◌-◌, ◌*◌, ◌/◌, length, ◌∙◌, arith, rules}
use Rattle.std.proofs.lemmas.Grind.{common_steps}
use Rattle.bc_aes.specs.KeyExpansion.{rounds}
use Rattle.bc_aes.proofs.ScheduleLemmas.{encipher-by}
use Rattle.bc_aes.proofs.plain.encipher.Goals as goal

pub returns : goal.returns
returns c =
    let bytes : List ℕ = c.expand.new.schedule in
    let nk : ℕ = length c.args.key.now / 4 in
    let long : length bytes ≡ 4 * length c.args.key.now + 112 = first_of (search rules, grind (arith, common_steps)) in
    let nr : length bytes / 16 - 1 ≡ rounds nk = omega arith in
    record {
      enciphers = c.enciphered.ensures.enciphers ∙ encipher-by nk (length bytes / 16 - 1) bytes c.args.key.now nr c.expand.ensures.expands c.args.block.now;
    }
