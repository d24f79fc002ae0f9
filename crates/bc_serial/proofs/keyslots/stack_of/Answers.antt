use Rattle.std.proofs.Common.{sym, subst}
use Rattle.bc_stack.specs.Targets.{IsStack}
use Rattle.bc_serial.proofs.SlotRows.{no_refusal}
use Rattle.bc_serial.proofs.keyslots.stack_of.Goals as goal

pub unreachable-requires : goal.unreachable-requires
unreachable-requires c = no_refusal c.targets.result.now c.blocks-2.result c.in-Err.error (subst (λ t. IsStack t c.blocks-2.result) (sym c.targets.ensures.value) (subst (λ b. IsStack c.args.script.now.targets b) (sym c.blocks-2.ensures.value) c.targets.ensures.rules.devices.stack)) c.in-Err.ensures.refuses c.in_default.not-Memory
