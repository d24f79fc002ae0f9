-- Bios that were made ahead of a section's operations, with all the memory that they take.
use Rattle.std.specs.Prelude.{◌≡◌, ℕ, ◌*◌, ◌<◌, ◌≤◌, List, [], length, Option, Some, None, MatchOption, IsSomeAnd, slice_get, ⊤}
use Rattle.std.specs.List.{enumerate_from}
use Rattle.bc_base.specs.Lists.{At, Each, list_at}
use Rattle.bc_bio.specs.declared.bio.Bio.{Bio}
use Rattle.bc_bio.specs.declared.reply.Reply.{Reply}
use Rattle.bc_bio.specs.BioUnits.{extent_of}
use Rattle.bc_bio.specs.Conditions.{AreFull}
use Rattle.bc_bio.specs.Extent.{unit_sectors}
use Rattle.bc_queue.specs.RequestUnits.{written_bytes}
use Rattle.bc_queue.specs.Plugs.{PlugParts, no_bios}
use Rattle.bc_script.specs.declared.op.Op.{Op}
use Rattle.bc_script.specs.declared.limits.TheConstants.{MAX_PLUGGED}
use Rattle.bc_script.specs.Script.{Script, keys_of}
use Rattle.bc_script.specs.Bios.{bio_of}
use Rattle.bc_script.specs.Plan.{written_at}
use Rattle.bc_threads.specs.declared.outcome.Outcome.{Outcome}

-- the bio is that of operation number `op`: it has its extent, and its units their bytes, of a
-- write those that it writes
pub record IsBioOf (script : Script) (op : ℕ) (operation : Op) (bio : Bio) : Type 0 where
  pub tag : bio.tag ≡ op
  pub extent : bio_of operation ≡ Some (extent_of bio)
  pub full : AreFull (keys_of script) bio
  pub bytes : (i : ℕ) → i < length bio.units → written_bytes bio.access (slice_get bio.units i)
      ≡ written_at operation (512 * unit_sectors (keys_of script) bio.context) i

-- this was made for operation number `op`: its bio, if it has one
abbrev pub IsMadeFor : Script → ℕ → Op → Option Bio → Type 0
IsMadeFor script op operation made =
    MatchOption (bio_of operation) (made ≡ None) (λ extent. IsSomeAnd made (IsBioOf script op operation))

-- where an operation has a bio, it stands at the operation's number
abbrev pub IsPrepared : Script → List (Option Bio) → ℕ × Op → Type 0
IsPrepared script bios (op, operation) =
    MatchOption (bio_of operation) ⊤ (λ extent. (bio : Bio) × At bios op (Some bio) × IsBioOf script op operation bio)

-- a section that is to be carried out: of which script, and whose it is
pub record SectionData : Type 0 where
  pub script : Script
  pub thread : ℕ

-- its operations
abbrev pub operations_of : SectionData → List Op
operations_of section = list_at section.script.threads section.thread

-- Private: what a section keeps, with room for its replies and outcomes.
pub record IsPreparedSection (script : Script) (thread : ℕ) (bios : List (Option Bio)) (plug : PlugParts)
    (replies : List Reply) (room : ℕ) (noted : List (Option Outcome)) (outcomes : List Outcome)
    (outcome_room : ℕ) : Type 0 where
  pub within : thread < length script.threads
  pub prepared : Each (IsPrepared script bios) (enumerate_from 0 (list_at script.threads thread))
  pub plug_is_empty : plug ≡ no_bios
  pub no_replies : replies ≡ []
  pub room_for_replies : MAX_PLUGGED ≤ room
  pub long : length noted ≡ length (list_at script.threads thread)
  pub no_outcomes : outcomes ≡ []
  pub room_for_outcomes : length (list_at script.threads thread) ≤ outcome_room
