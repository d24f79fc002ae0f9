use Rattle.std.proofs.Common.{◌∙◌, ap, ℕ}
use Rattle.bc_aes.specs.Field.{times_x}
use Rattle.bc_aes.proofs.PlainLemmas.{power_of_x-none, power_of_x-more}
use Rattle.bc_aes.proofs.plain.power_of_x.Goals as goal

pub loop-i-init : goal.loop-i-init
loop-i-init c = power_of_x-none

pub loop-i-preserved : goal.loop-i-preserved
loop-i-preserved c =
    c.times_x-power.ensures.doubles ∙ ap (λ (a : ℕ). times_x a) c.loop-i.invariant ∙ power_of_x-more c.loop-i._i
