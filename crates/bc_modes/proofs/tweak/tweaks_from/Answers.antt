use Rattle.std.proofs.Common.{◌≡◌, ◌*◌, ◌∙◌, take, sym, ap, refl, arith, rules}
use Rattle.std.proofs.lemmas.List.{places, take_all}
use Rattle.std.specs.Int.{w128, to_le_bytes}
use Rattle.bc_modes.specs.Tweak.{tweak_at}
use Rattle.bc_modes.specs.Xts.{tweak_bytes}
use Rattle.bc_modes.proofs.Doubling.{tweak_at-zero, tweak_at-add}
use Rattle.bc_modes.proofs.Along.{tweaks_more}
use Rattle.bc_modes.proofs.tweak.tweaks_from.Goals as goal

pub loop-block-init : goal.loop-block-init
loop-block-init c = record { size = refl; written = refl; next = sym (tweak_at-zero c.args.first) }

pub loop-block-preserved : goal.loop-block-preserved
loop-block-preserved c =
    let invariant = c.loop-block.invariant in
    let bytes = c.copy_from_slice.ensures.after ∙ c.bytes_of.ensures ∙ ap (to_le_bytes w128) invariant.next in
    record {
      size = search (places, rules);
      written = tweaks_more c.args.first c.loop-block.block c.loop-block.tweaks _ (omega arith) invariant.written bytes (omega arith);
      next = c.next_tweak-tweak.ensures ∙ ap (λ t. tweak_at t 1) invariant.next ∙ sym (tweak_at-add c.args.first c.loop-block.block 1);
    }

pub returns-clause-tweaks : goal.returns-clause-tweaks
returns-clause-tweaks c =
    let all : c.loop-block.block ≡ 8 = omega arith in
    let tweaks = c.loop-block.tweaks in
    sym (take_all 128 tweaks (omega arith)) ∙ ap (λ n. take (16 * n) tweaks) (sym all) ∙ c.loop-block.invariant.written
    ∙ ap (tweak_bytes c.args.first) all
