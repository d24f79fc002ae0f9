use Rattle.std.proofs.Common.{◌∙◌, arith}
use Rattle.bc_profile.proofs.RowLemmas.{all_written}
use Rattle.bc_profile.proofs.registers.program_again.Goals as goal

pub returns : goal.returns
returns c =
    all_written c.args.rows.now c.loop-slot.registers c.args.keys.now
    (c.loop-slot.auto.registers ∙ c.clear.auto.registers ∙ c.requires.as_many)
    (λ k inside. c.loop-slot.invariant.done k (omega (arith, inside, c.loop-slot-test.false)))
