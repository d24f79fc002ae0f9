-- A request that was carried out by a disk, in the clear or by software.
use Rattle.std.proofs.Common.{◌≡◌, ℕ, ◌<◌, ◌≤◌, Bool, false, List, [], ◌∷◌, map, refl, sym, ap, subst, ◌∙◌, arith, Option, Some, None}
use Rattle.bc_base.specs.Sectors.{Sectors}
use Rattle.bc_key.specs.declared.keys.KeyNo.{KeyNo}
use Rattle.bc_key.specs.KeyData.{KeyData}
use Rattle.bc_bio.specs.declared.context.Context.{Context}
use Rattle.bc_bio.specs.declared.marked_bio.MarkedBio.{MarkedBio}
use Rattle.bc_bio.specs.Requests.{RequestParts, tagged_bios, tagged_of}
use Rattle.bc_bio.specs.Windows.{IsRequest, count_units}
use Rattle.bc_turn.specs.PassParts.{Pass}
use Rattle.bc_medium.specs.declared.entry.Entry.{Entry}
use Rattle.bc_medium.specs.declared.via.Via.{Via}
use Rattle.bc_medium.specs.declared.via.Via.TheVariants as ways
use Rattle.bc_medium.specs.Medium.{OpeningData}
use Rattle.bc_profile.specs.Passes.{SlotFacts}
use Rattle.bc_stack.specs.declared.target.Target.{Target}
use Rattle.bc_queue.specs.RequestUnits.{named_at}
use Rattle.bc_queue.specs.Carrying.{CarriesOut}
use Rattle.bc_queue.specs.Queues.{HasSpareOfUnits, facts_by}
use Rattle.bc_pieces.specs.Laws.{OneWayIsWhole, PlannedByBios}
use Rattle.bc_disk.specs.Disks.{DiskData, facts_on, goes_inline, keys_in, pass_by}
use Rattle.bc_disk.specs.Submissions.{CarriesRequest, IsInline, IsWayOf, HasEntriesFor, LeavesEntries, bare_bios, inline_pieces}
use Rattle.bc_disk.proofs.Going.{plain_each, under_each}
use Rattle.bc_disk.proofs.Inlining.{entries_for, leaves_entries, none_plain, none_soft}
use Rattle.bc_disk.proofs.OneKey.{IsUnder, plain_first, under_first}
use Rattle.bc_disk.proofs.OneWay.{carries_by}

-- a request that goes in the clear, or by software, has no pieces
plain_pieces : (targets : List Target) (keys : List KeyData) (bios : List MarkedBio) → IsRequest keys (tagged_bios bios) → 1 ≤ count_units (tagged_bios bios) → (named_at keys bios 0).context ≡ None → inline_pieces targets keys (tagged_bios bios) ≡ []
plain_pieces targets keys [] request some is = absurd (omega (arith, some))
plain_pieces targets keys (first ∷ others) request some is = none_plain targets keys (tagged_of first.bio) (tagged_bios others) (plain_first keys first others request some is)

soft_pieces : (targets : List Target) (keys : List KeyData) (bios : List MarkedBio) → IsRequest keys (tagged_bios bios) → 1 ≤ count_units (tagged_bios bios) → (c : Context) → (named_at keys bios 0).context ≡ Some c → goes_inline targets keys c.key ≡ false → inline_pieces targets keys (tagged_bios bios) ≡ []
soft_pieces targets keys [] request some c is soft = absurd (omega (arith, some))
soft_pieces targets keys (first ∷ others) request some c is soft =
    let under = under_first keys first others request some c is in
    none_soft targets keys (tagged_of first.bio) (tagged_bios others) under.context under.is (ap (goes_inline targets keys) under.same ∙ soft)

-- its units go so
plain_way : (targets : List Target) (keys : List KeyData) (sector : ℕ) (o : Option Context) → o ≡ None → IsWayOf targets keys o sector ways.Plain
plain_way targets keys sector o is = subst (λ (x : Option Context). IsWayOf targets keys x sector ways.Plain) (sym is) refl

soft_way : (targets : List Target) (keys : List KeyData) (sector : ℕ) (number : KeyNo) (o : Option Context) → IsUnder number o → goes_inline targets keys number ≡ false → IsWayOf targets keys o sector ways.Soft
soft_way targets keys sector number o under soft =
    subst (λ (x : Option Context). IsWayOf targets keys x sector ways.Soft) (sym under.is)
    (subst (λ (b : Bool). Rattle.bc_disk.specs.Submissions.IsUnderWay b targets sector ways.Soft) (sym (ap (goes_inline targets keys) under.same ∙ soft)) refl)

no_plain : IsInline ways.Plain → ⊥
no_plain is = is

no_soft : IsInline ways.Soft → ⊥
no_soft is = is

module _ {S : Type 0} (contents : S → Option Sectors) (inside disk : DiskData S) (is_disk : inside ≡ disk) (caller caller' : ℕ) (slots slots' : List SlotFacts) (units units' : Pass Entry (OpeningData S)) (before after : RequestParts) where
  one_way_carries : (law : OneWayIsWhole) (via : Via) → (IsInline via → ⊥) → slots' ≡ slots
      → CarriesOut (facts_by contents disk.queue.medium via units) (facts_by contents disk.queue.medium via units') before after 0 (count_units (tagged_bios before.bios))
      → inline_pieces disk.targets (keys_in disk) (tagged_bios before.bios) ≡ []
      → ((n : ℕ) → n < count_units (tagged_bios before.bios) → IsWayOf disk.targets (keys_in disk) (named_at (keys_in disk) before.bios n).context (named_at (keys_in disk) before.bios n).sector via)
      → CarriesRequest (facts_on contents disk (pass_by caller slots units)) (facts_on contents disk (pass_by caller' slots' units')) before after
  one_way_carries law via other same p none go =
      carries_by law via other (facts_on contents disk (pass_by caller slots units)) (facts_on contents disk (pass_by caller' slots' units')) before after p refl refl (ap (map (λ (pass : SlotFacts). pass.seen)) same) none go

  module _ (law : OneWayIsWhole) (same : slots' ≡ slots) (request : IsRequest (keys_in disk) (tagged_bios before.bios)) (some : 1 ≤ count_units (tagged_bios before.bios)) where
    pub plain_carries : (named_at (keys_in disk) before.bios 0).context ≡ None
        → CarriesOut (facts_by contents inside.queue.medium ways.Plain units) (facts_by contents inside.queue.medium ways.Plain units') before after 0 (count_units (tagged_bios before.bios))
        → CarriesRequest (facts_on contents disk (pass_by caller slots units)) (facts_on contents disk (pass_by caller' slots' units')) before after
    plain_carries is p =
        one_way_carries law ways.Plain no_plain same
        (subst (λ (d : DiskData S). CarriesOut (facts_by contents d.queue.medium ways.Plain units) (facts_by contents d.queue.medium ways.Plain units') before after 0 (count_units (tagged_bios before.bios))) is_disk p)
        (plain_pieces disk.targets (keys_in disk) before.bios request some is)
        (λ n below. plain_way disk.targets (keys_in disk) (named_at (keys_in disk) before.bios n).sector (named_at (keys_in disk) before.bios n).context (plain_each (keys_in disk) before.bios request some is n below))

    pub soft_carries : (c : Context) → (named_at (keys_in disk) before.bios 0).context ≡ Some c → goes_inline disk.targets (keys_in disk) c.key ≡ false
        → CarriesOut (facts_by contents disk.queue.medium ways.Soft units) (facts_by contents disk.queue.medium ways.Soft units') before after 0 (count_units (tagged_bios before.bios))
        → CarriesRequest (facts_on contents disk (pass_by caller slots units)) (facts_on contents disk (pass_by caller' slots' units')) before after
    soft_carries c is soft p =
        one_way_carries law ways.Soft no_soft same p
        (soft_pieces disk.targets (keys_in disk) before.bios request some c is soft)
        (λ n below. soft_way disk.targets (keys_in disk) (named_at (keys_in disk) before.bios n).sector c.key (named_at (keys_in disk) before.bios n).context (under_each (keys_in disk) before.bios request some c is n below) soft)

  -- and leaves its room
  pub leaves_by : (by_bios : PlannedByBios) (via : Via)
      → CarriesOut (facts_by contents inside.queue.medium via units) (facts_by contents inside.queue.medium via units') before after 0 (count_units (tagged_bios before.bios))
      → LeavesEntries (facts_on contents disk (pass_by caller slots units)) (facts_on contents disk (pass_by caller' slots' units')) (bare_bios before.bios)
  leaves_by by_bios via p =
      subst (λ (d : DiskData S). LeavesEntries (facts_on contents d (pass_by caller slots units)) (facts_on contents d (pass_by caller' slots' units')) (bare_bios before.bios)) is_disk
      (leaves_entries by_bios before.bios (facts_on contents inside (pass_by caller slots units)) (facts_on contents inside (pass_by caller' slots' units')) p.spare)

-- the room for the bios, as the fields are
pub spare_in : {S : Type 0} (contents : S → Option Sectors) (inside disk : DiskData S) → inside ≡ disk → (caller : ℕ) (slots : List SlotFacts) (units : Pass Entry (OpeningData S)) (bios : List MarkedBio) → PlannedByBios
    → HasEntriesFor (facts_on contents disk (pass_by caller slots units)) (bare_bios bios) → HasSpareOfUnits inside.queue units bios 0 (count_units (tagged_bios bios))
spare_in {S} contents inside disk is_disk caller slots units bios by_bios has =
    subst (λ (d : DiskData S). HasSpareOfUnits d.queue units bios 0 (count_units (tagged_bios bios))) (sym is_disk) (entries_for by_bios bios (facts_on contents disk (pass_by caller slots units)) has)
