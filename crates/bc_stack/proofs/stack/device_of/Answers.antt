use Rattle.std.proofs.Common.{ℕ, Some, ap, ◌∙◌}
use Rattle.std.specs.Option.{option_map}
use Rattle.bc_stack.specs.Devices.{has_sector}
use Rattle.bc_stack.specs.Pieces.{device_of}
use Rattle.bc_stack.proofs.PieceLaws.{position_none}
use Rattle.bc_stack.proofs.stack.device_of.Goals as goal

pub returns-in-None : goal.returns-in-None
returns-in-None c =
    ap (option_map (device_of c.args.targets.now)) c.unit_at-sector.ensures.unit
    ∙ ap (λ (n : ℕ). Some n) (position_none (has_sector c.unit_at-sector.result.2) c.args.targets.now c.in-None.ensures.place)
