-- The bios of a script's operations, and why one is refused.
use Rattle.std.specs.Prelude.{Bool, true, false, ◌||◌, Option, Some, None, if◌then◌else◌}
use Rattle.std.specs.Option.{option_map_or}
use Rattle.bc_key.specs.declared.keys.KeyNo.{KeyNo}
use Rattle.bc_key.specs.KeyList.{key_at}
use Rattle.bc_bio.specs.declared.access.Access.TheVariants as access
use Rattle.bc_bio.specs.declared.context.Context.{Context}
use Rattle.bc_bio.specs.declared.refusal.Refusal.{Refusal}
use Rattle.bc_bio.specs.declared.refusal.Refusal.TheVariants as refusals
use Rattle.bc_bio.specs.declared.extent.Extent.{Extent}
use Rattle.bc_bio.specs.Check.{check_of}
use Rattle.bc_stack.specs.Devices.{all_support}
use Rattle.bc_script.specs.declared.op.Op.{Op}
use Rattle.bc_script.specs.declared.op.Op.TheVariants as ops
use Rattle.bc_script.specs.Script.{Script, keys_of, sectors_in}

-- the bio that an operation submits, if it does
abbrev pub bio_of : Op → Option Extent
bio_of (ops.Write context sector units text) =
    Some (record { access = access.Write; context = context; sector = sector; units = units })
bio_of (ops.Read context sector units) =
    Some (record { access = access.Read; context = context; sector = sector; units = units })
bio_of _ = None

-- a key is inline where there are devices, and all of them support its configuration
abbrev pub is_inline : Script → KeyNo → Bool
is_inline script number =
    option_map_or (λ key. all_support script.targets key.config) (key_at (keys_of script) number) false

-- a bio is supported that has no context, or whose key is inline, or goes to the fallback
abbrev pub context_is_supported : Script → Option Context → Bool
context_is_supported script None = true
context_is_supported script (Some context) = is_inline script context.key || script.fallback

-- a bio that isn't supported is refused as such
abbrev pub unsupported_of : Script → Option Context → Option Refusal
unsupported_of script context = if context_is_supported script context then None else Some refusals.Unsupported

-- why a bio is refused, if it is: it isn't well formed, and else it isn't supported
abbrev pub refusal_of : Script → Extent → Option Refusal
refusal_of script bio =
    option_map_or (λ error. Some (refusals.Bio error)) (check_of (keys_of script) (sectors_in script) bio)
    (unsupported_of script bio.context)
