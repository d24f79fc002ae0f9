-- The windows of a section: which accepted bios are submitted together, and the evictions and
-- resets between them.
use Rattle.std.specs.Prelude.{ℕ, ◌==◌, List, [], ◌∷◌, ◌++◌, length, filter_map, Option, Some, None, is_none, if◌then◌else◌}
use Rattle.std.specs.List.{enumerate_from}
use Rattle.std.specs.Option.{option_map_or}
use Rattle.bc_key.specs.declared.keys.KeyNo.{KeyNo}
use Rattle.bc_bio.specs.declared.extent.Extent.{Extent}
use Rattle.bc_bio.specs.Windows.{TaggedBio}
use Rattle.bc_script.specs.declared.limits.TheConstants.{MAX_PLUGGED}
use Rattle.bc_script.specs.declared.op.Op.{Op}
use Rattle.bc_script.specs.declared.op.Op.TheVariants as ops
use Rattle.bc_script.specs.Script.{Script}
use Rattle.bc_script.specs.Bios.{bio_of, refusal_of}

-- what a section submits, takes out of keyslots and resets, in order
pub data Turn : Type 0 where
  Window : List TaggedBio → Turn
  Evict : KeyNo → Turn
  Reset : ℕ → Turn

-- an operation by what it means for windows: an accepted bio, or one of the other four
pub data Step : Type 0 where
  Accepted : TaggedBio → Step
  Plugs : Step
  Unplugs : Step
  Evicts : KeyNo → Step
  Resets : ℕ → Step

-- the bio of operation number op, where it isn't refused
abbrev pub accepted : Script → ℕ → Extent → Option Step
accepted script op bio =
    if is_none (refusal_of script bio) then Some (Accepted (record { tag = op; bio = bio })) else None

-- what operation number op means for windows; a refused bio means nothing
abbrev pub step_of : Script → ℕ × Op → Option Step
step_of script (op, ops.Evict key) = Some (Evicts key)
step_of script (op, ops.Reset device) = Some (Resets device)
step_of script (op, ops.Plug) = Some Plugs
step_of script (op, ops.Unplug) = Some Unplugs
step_of script (op, operation) = option_map_or (accepted script op) (bio_of operation) None

-- the bios of an open plug are submitted as a window
abbrev pub submitted : Option (List TaggedBio) → List Turn
submitted None = []
submitted (Some bios) = Window bios ∷ []

-- a plug after its bios were submitted: it is as open as before
abbrev pub emptied : Option (List TaggedBio) → Option (List TaggedBio)
emptied None = None
emptied (Some bios) = Some []

-- The turns from here on, where the open plug has these bios, or none is open. A bio outside a plug
-- is a window; in a plug a window ends at an unplug, an eviction, a reset, and before a bio more
-- than fit.
abbrev pub turns_from : Option (List TaggedBio) → List Step → List Turn
turns_from plugged [] = submitted plugged
turns_from None (Accepted bio ∷ steps) = Window (bio ∷ []) ∷ turns_from None steps
turns_from (Some bios) (Accepted bio ∷ steps) =
    if length bios == MAX_PLUGGED then Window bios ∷ turns_from (Some (bio ∷ [])) steps
    else turns_from (Some (bios ++ bio ∷ [])) steps
turns_from plugged (Plugs ∷ steps) = submitted plugged ++ turns_from (Some []) steps
turns_from plugged (Unplugs ∷ steps) = submitted plugged ++ turns_from None steps
turns_from plugged (Evicts key ∷ steps) = submitted plugged ++ (Evict key ∷ turns_from (emptied plugged) steps)
turns_from plugged (Resets device ∷ steps) = submitted plugged ++ (Reset device ∷ turns_from (emptied plugged) steps)

-- the turns of a section
abbrev pub turns_of : Script → List Op → List Turn
turns_of script section = turns_from None (filter_map (step_of script) (enumerate_from 0 section))
