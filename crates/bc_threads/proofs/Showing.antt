-- A disk that was opened for a script, as the script says it: which bios are refused, which keys go inline; and a caller of it,
-- as contracts of the loop over a section's operations see one.
use Rattle.std.proofs.Common.{◌≡◌, ℕ, ◌*◌, ◌<◌, Bool, false, cond, List, [], length, refl, ap, ◌∙◌, Option, Some, None}
use Rattle.std.specs.Prelude.{◌||◌}
use Rattle.std.specs.Option.{option_map_or}
use Rattle.bc_base.specs.declared.geometry.TheConstants.{BLOCK_SECTORS}
use Rattle.bc_base.specs.Sectors.{Sectors}
use Rattle.bc_key.specs.declared.keys.KeyNo.{KeyNo}
use Rattle.bc_key.specs.KeyData.{KeyData}
use Rattle.bc_bio.specs.declared.context.Context.{Context}
use Rattle.bc_bio.specs.declared.extent.Extent.{Extent}
use Rattle.bc_bio.specs.declared.refusal.Refusal.{Refusal}
use Rattle.bc_bio.specs.declared.refusal.Refusal.TheVariants as refusals
use Rattle.bc_bio.specs.Check.{check_of}
use Rattle.bc_stack.specs.declared.target.Target.{Target}
use Rattle.bc_script.specs.Script.{Script, keys_of}
use Rattle.bc_script.specs.Bios.{is_inline, context_is_supported, refusal_of}
use Rattle.bc_compose.specs.OrderedHolds.{slot_count_of}
use Rattle.bc_section.specs.Sections.{DeviceData}
use Rattle.bc_pieces.specs.Pieces.{DeviceFacts}
use Rattle.bc_disk.specs.Disks.{DiskData, goes_inline, keys_in, refusal_on, supports_context}
use Rattle.bc_threads.specs.SharedDevice.{IsOpenFor}

-- what contracts of the loop see of a caller's way to the disk
abbrev pub shown : Script → (ℕ → Sectors) → ℕ → DeviceFacts → DeviceData
shown script base thread facts = record {
  script = script;
  shards = facts.access.shards;
  base = base;
  thread = thread;
  seen = facts.access.seen;
  noted = facts.noted;
  begun = [];
  alone = false;
  spare = 0;
}

-- a caller's way to a disk that was opened for a script
pub record IsWayFor (script : Script) (thread : ℕ) (facts : DeviceFacts) : Type 0 where
  pub keys : facts.access.keys ≡ keys_of script
  pub targets : facts.targets ≡ script.targets
  pub caller : facts.access.caller ≡ thread
  pub slots : (device : ℕ) → device < length script.targets → facts.slots device ≡ slot_count_of script device

-- a key goes inline on the disk where it does by the script
pub inline_of_script : (targets : List Target) (keys : List KeyData) (script : Script) (key : KeyNo) → targets ≡ script.targets → keys ≡ keys_of script → goes_inline targets keys key ≡ is_inline script key
inline_of_script targets keys script key ts ks =
    ap (λ (t : List Target). goes_inline t keys key) ts ∙ ap (λ (k : List KeyData). goes_inline script.targets k key) ks

module _ {S : Type 0} (contents : S → Option Sectors) (script : Script) (disk : DiskData S) (opened : IsOpenFor contents script disk) where
  supports : (context : Option Context) → supports_context disk context ≡ context_is_supported script context
  supports None = refl
  supports (Some context) =
      ap (λ (b : Bool). b || disk.fallback) (inline_of_script disk.targets (keys_in disk) script context.key opened.targets opened.keys)
      ∙ ap (λ (b : Bool). is_inline script context.key || b) opened.fallback

  -- the disk refuses a bio as the script says
  pub refusal_is : (bio : Extent) → refusal_on disk bio ≡ refusal_of script bio
  refusal_is bio =
      ap (λ (k : List KeyData). option_map_or (λ error. Some (refusals.Bio error)) (check_of k (BLOCK_SECTORS * disk.blocks) bio) (cond {A = Option Refusal} (supports_context disk bio.context) None (Some refusals.Unsupported))) opened.keys
      ∙ ap (λ (n : ℕ). option_map_or (λ error. Some (refusals.Bio error)) (check_of (keys_of script) (BLOCK_SECTORS * n) bio) (cond {A = Option Refusal} (supports_context disk bio.context) None (Some refusals.Unsupported))) opened.blocks
      ∙ ap (λ (b : Bool). option_map_or (λ error. Some (refusals.Bio error)) (check_of (keys_of script) (BLOCK_SECTORS * script.blocks) bio) (cond {A = Option Refusal} b None (Some refusals.Unsupported))) (supports bio.context)
