-- The devices of a stack: which of them a sector lies on, and what all of them support.
-- A stacked device can do with keys what each of its devices can do: Linux's
-- Documentation/block/inline-encryption.rst, "Stacked devices".
use Rattle.std.specs.Prelude.{ℕ, ◌+◌, ◌*◌, Bool, false, ◌&&◌, nat_le, nat_lt, List, [], ◌∷◌, Option, position, fold}
use Rattle.std.specs.List.{list_all}
use Rattle.bc_key.specs.declared.config.Config.{Config}
use Rattle.bc_key.specs.declared.caps.Caps.{Caps}
use Rattle.bc_key.specs.Support.{supports, meet_of}
use Rattle.bc_base.specs.declared.geometry.TheConstants.{BLOCK_SECTORS}
use Rattle.bc_stack.specs.declared.target.Target.{Target}

-- the first block after a target
abbrev pub end_of_target : Target → ℕ
end_of_target target = target.first + target.blocks

-- the target has the block of this sector
abbrev pub has_sector : ℕ → Target → Bool
has_sector sector target =
    nat_le (BLOCK_SECTORS * target.first) sector && nat_lt sector (BLOCK_SECTORS * end_of_target target)

-- the number of the device that has a sector, if one has it
abbrev pub device_at : List Target → ℕ → Option ℕ
device_at targets sector = position (has_sector sector) targets

-- what supports no configuration
abbrev pub no_caps : Caps
no_caps = record { xts = 0; essiv = 0; max_dun_bytes = 0 }

-- the meet of what all targets support, and nothing without targets
abbrev pub caps_of : List Target → Caps
caps_of [] = no_caps
caps_of (target ∷ targets) = fold (λ caps other. meet_of caps other.caps) target.caps targets

-- there are targets, and each of them supports the configuration
abbrev pub all_support : List Target → Config → Bool
all_support [] config = false
all_support (target ∷ targets) config = list_all (λ each. supports each.caps config) (target ∷ targets)
