-- The way of a data unit: in the clear, by software, or by the device of its sector.
use Rattle.std.specs.Prelude.{ℕ, Option, Some, None, unwrap_or, if◌then◌else◌}
use Rattle.bc_bio.specs.declared.context.Context.{Context}
use Rattle.bc_stack.specs.Devices.{device_at}
use Rattle.bc_script.specs.Script.{Script}
use Rattle.bc_script.specs.Bios.{is_inline}

-- how a data unit goes to the disk
pub data Way : Type 0 where
  plain : Way
  soft : Way
  inline : ℕ → Way

-- the way of an accepted unit with this context at this sector: by its device where the key is
-- inline
abbrev pub way_of : Script → Option Context → ℕ → Way
way_of script None sector = plain
way_of script (Some context) sector =
    if is_inline script context.key then inline (unwrap_or (device_at script.targets sector) 0) else soft
