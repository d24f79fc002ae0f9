-- A request that was carried out inline.
use Rattle.std.proofs.Common.{◌≡◌, ℕ, ◌+◌, ◌*◌, ◌<◌, ◌≤◌, Bool, true, List, [], ◌∷◌, not, sym, ap, subst, ◌∙◌, arith, Option, Some}
use Rattle.std.specs.List.{AllZip, range_with_len}
use Rattle.bc_base.specs.Lists.{Each}
use Rattle.bc_base.specs.Sectors.{Sectors}
use Rattle.bc_base.proofs.Lists.{each_both}
use Rattle.bc_key.specs.declared.keys.KeyNo.{KeyNo}
use Rattle.bc_key.specs.KeyData.{KeyData}
use Rattle.bc_bio.specs.declared.context.Context.{Context}
use Rattle.bc_bio.specs.declared.marked_bio.MarkedBio.{MarkedBio}
use Rattle.bc_bio.specs.Requests.{RequestParts, is_over, tagged_bios, tagged_of}
use Rattle.bc_bio.specs.Windows.{IsRequest, NamedUnit, count_units}
use Rattle.bc_turn.specs.PassParts.{Pass}
use Rattle.bc_medium.specs.declared.entry.Entry.{Entry}
use Rattle.bc_medium.specs.declared.unit_at.UnitAt.{UnitAt}
use Rattle.bc_medium.specs.declared.via.Via.{Via}
use Rattle.bc_medium.specs.Medium.{OpeningData}
use Rattle.bc_profile.specs.Passes.{SlotFacts}
use Rattle.bc_stack.specs.declared.target.Target.{Target}
use Rattle.bc_queue.specs.RequestUnits.{attempted_in, named_at}
use Rattle.bc_queue.proofs.Lists.{each_filter, each_range}
use Rattle.bc_queue.proofs.Queues.{zip_right}
use Rattle.bc_pieces.specs.AttemptedRequest.{CarriesWhole, IsCarriedItsWay}
use Rattle.bc_pieces.specs.Laws.{PlannedByBios}
use Rattle.bc_pieces.specs.ManyCallers.{IsReady, devices_of}
use Rattle.bc_pieces.specs.Pieces.{DeviceFacts, pieces_in, pieces_on}
use Rattle.bc_pieces.specs.PieceEffects.{GoesByDevice, HasHoldBetween, IsHoldOf, events_on}
use Rattle.bc_pieces.proofs.Telling.{each_more}
use Rattle.bc_disk.specs.Disks.{DiskData, events_left, facts_on, goes_inline, keys_in, pass_by}
use Rattle.bc_disk.specs.Inline.{HasRoomOn}
use Rattle.bc_disk.specs.Submissions.{CarriesRequest, GoesItsWay, HasEntriesFor, HasItsHold, IsInlineAt, IsUnderWay, IsWayOf, LeavesEntries, bare_bios, inline_events, inline_pieces}
use Rattle.bc_disk.proofs.EventRoom.{has_events, left_after}
use Rattle.bc_disk.proofs.Going.{under_each}
use Rattle.bc_disk.proofs.Inlining.{all_inline, entries_for, leaves_entries}
use Rattle.bc_disk.proofs.OneKey.{IsUnder, under_first}
use Rattle.bc_disk.proofs.PieceSums.{few_events, pieces_shard}

-- the pieces of a request that goes inline are those of its units
inline_is : (targets : List Target) (keys : List KeyData) (bios : List MarkedBio) (room : ℕ) → IsRequest keys (tagged_bios bios) → 1 ≤ count_units (tagged_bios bios) → (c : Context) → (named_at keys bios 0).context ≡ Some c → goes_inline targets keys c.key ≡ true
    → inline_pieces targets keys (tagged_bios bios) ≡ pieces_in keys targets (record { bios = bios; spare = room })
inline_is targets keys [] room request some c is inline = absurd (omega (arith, some))
inline_is targets keys (first ∷ others) room request some c is inline =
    let under = under_first keys first others request some c is in
    all_inline targets keys (tagged_of first.bio) (tagged_bios others) under.context under.is (ap (goes_inline targets keys) under.same ∙ inline)

-- an entry under such a key goes its way, by the device of its sector
at_device_of : (targets : List Target) (sector : ℕ) (via : Via) (device slot event : ℕ) → via ≡ Rattle.bc_medium.specs.declared.via.Via.TheVariants.Inline device slot event → Rattle.bc_stack.specs.Devices.device_at targets sector ≡ Some device → IsInlineAt targets sector via
at_device_of targets sector via device slot event is at = subst (IsInlineAt targets sector) (sym is) at

way_under : (targets : List Target) (keys : List KeyData) (number : KeyNo) (sector : ℕ) (via : Via) (o : Option Context) → goes_inline targets keys number ≡ true → IsUnder number o → IsInlineAt targets sector via → IsWayOf targets keys o sector via
way_under targets keys number sector via o inline under there =
    subst (λ (x : Option Context). IsWayOf targets keys x sector via) (sym under.is)
    (subst (λ (b : Bool). IsUnderWay b targets sector via) (sym (ap (goes_inline targets keys) under.same ∙ inline)) there)

module _ (old new : DeviceFacts) (before after : RequestParts) (w : CarriesWhole old new before after (pieces_in old.access.keys old.targets before)) where
  made_under : (number : KeyNo) → ((n : ℕ) → n < count_units (tagged_bios before.bios) → IsUnder number (named_at old.access.keys before.bios n).context) → Each (λ e. IsUnder number e.at.context) w.tells.made
  made_under number under =
      let On : ℕ → Type 0 = λ n. IsUnder number (named_at old.access.keys before.bios n).context in
      let count = count_units (tagged_bios before.bios) in
      zip_right On (IsCarriedItsWay old.access new.access.seen before.bios after.bios) (λ (e : Entry). IsUnder number e.at.context) (attempted_in after.bios 0 count) w.tells.made
      (λ n e is c. subst (λ (u : UnitAt). IsUnder number u.context) (sym c.entry.unit) is)
      (each_filter On (λ n. not (is_over after.bios n)) (range_with_len 0 count) (each_range On 0 count (λ n least less. under n (omega (arith, less))))) w.units.carried

  pub inline_carries : (number : KeyNo) → goes_inline old.targets old.access.keys number ≡ true → ((n : ℕ) → n < count_units (tagged_bios before.bios) → IsUnder number (named_at old.access.keys before.bios n).context)
      → inline_pieces old.targets old.access.keys (tagged_bios before.bios) ≡ pieces_in old.access.keys old.targets before → CarriesRequest old new before after
  inline_carries number inline under pieces = record {
    adds = record {
      same = w.tells.same;
      made = w.tells.made;
      holds = w.tells.holds;
      one_for_each = subst (λ (ps : List (List NamedUnit)). AllZip (IsHoldOf old.targets) ps w.tells.holds) (sym pieces) w.tells.one_for_each;
      grows = w.tells.grows;
      ways = each_both (GoesByDevice old.targets) (λ (e : Entry). IsUnder number e.at.context) (GoesItsWay old.targets old.access.keys)
          (λ e by u. way_under old.targets old.access.keys number e.at.sector e.via e.at.context inline u (at_device_of old.targets e.at.sector e.via by.0 by.1 by.2 by.3 by.4)) w.tells.made w.tells.ways (made_under number under);
      notes = w.tells.notes;
      held = each_more (HasHoldBetween old.slots old.noted new.noted) (HasItsHold old.slots old.noted new.noted) (λ e h inline'. h) w.tells.made w.tells.held;
      rises = w.tells.rises;
    };
    whole = w.whole;
    bios = w.units.bios;
    room = w.units.room;
  }

  pub inline_leaves : PlannedByBios → LeavesEntries old new (bare_bios before.bios)
  inline_leaves by_bios =
      leaves_entries by_bios before.bios old new
      (λ shard.
      let less = w.tells.spare shard in
      let same = pieces_shard old.access.keys old.targets before old.access.shards shard in
      omega (arith, less, same))

module _ {S : Type 0} (contents : S → Option Sectors) (inside disk : DiskData S) (is_disk : inside ≡ disk) (caller : ℕ) (slots : List SlotFacts) (units : Pass Entry (OpeningData S)) (before : RequestParts)
    (request : IsRequest (keys_in disk) (tagged_bios before.bios)) (some : 1 ≤ count_units (tagged_bios before.bios)) (c : Context) (is : (named_at (keys_in disk) before.bios 0).context ≡ Some c) (inline : goes_inline disk.targets (keys_in disk) c.key ≡ true) where
  are_pieces : inline_pieces disk.targets (keys_in disk) (tagged_bios before.bios) ≡ pieces_in (keys_in disk) disk.targets before
  are_pieces = inline_is disk.targets (keys_in disk) before.bios before.spare request some c is inline

  -- the room that the disk asks is that of the request's pieces
  pub room_on : PlannedByBios → HasEntriesFor (facts_on contents disk (pass_by caller slots units)) (bare_bios before.bios)
      → ((device : ℕ) → inline_events disk (tagged_bios before.bios) device ≤ events_left disk (pass_by caller slots units) device)
      → HasRoomOn (devices_of disk.queue disk.targets) slots units (pieces_in (keys_in disk) disk.targets before)
  room_on by_bios entries events = record {
    entries = λ shard.
        let has = entries_for by_bios before.bios (facts_on contents disk (pass_by caller slots units)) entries shard in
        let same = pieces_shard (keys_in disk) disk.targets before (Rattle.bc_medium.specs.Medium.shards_of disk.queue.medium) shard in
        omega (arith, has, same);
    events = λ device there.
        let most = events device in
        let same = ap (λ (ps : List (List NamedUnit)). pieces_on disk.targets device ps) are_pieces in
        has_events disk caller slots units device (2 * pieces_on disk.targets device (pieces_in (keys_in disk) disk.targets before)) (omega (arith, there)) (omega (arith, most, same));
  }

  -- the same, as the fields are
  pub room_in : PlannedByBios → HasEntriesFor (facts_on contents disk (pass_by caller slots units)) (bare_bios before.bios)
      → ((device : ℕ) → inline_events disk (tagged_bios before.bios) device ≤ events_left disk (pass_by caller slots units) device)
      → HasRoomOn (devices_of inside.queue inside.targets) slots units (pieces_in (keys_in inside) inside.targets before)
  room_in by_bios entries events = subst (λ (d : DiskData S). HasRoomOn (devices_of d.queue d.targets) slots units (pieces_in (keys_in d) d.targets before)) (sym is_disk) (room_on by_bios entries events)

  module _ (caller' : ℕ) (slots' : List SlotFacts) (units' : Pass Entry (OpeningData S)) (after : RequestParts)
      (w : CarriesWhole (facts_on contents disk (pass_by caller slots units)) (facts_on contents disk (pass_by caller' slots' units')) before after (pieces_in (keys_in disk) disk.targets before)) where
    pub inline_request : CarriesRequest (facts_on contents disk (pass_by caller slots units)) (facts_on contents disk (pass_by caller' slots' units')) before after
    inline_request =
        inline_carries (facts_on contents disk (pass_by caller slots units)) (facts_on contents disk (pass_by caller' slots' units')) before after w c.key inline
        (λ n below. under_each (keys_in disk) before.bios request some c is n below) are_pieces

    pub inline_entries : PlannedByBios → LeavesEntries (facts_on contents disk (pass_by caller slots units)) (facts_on contents disk (pass_by caller' slots' units')) (bare_bios before.bios)
    inline_entries by_bios = inline_leaves (facts_on contents disk (pass_by caller slots units)) (facts_on contents disk (pass_by caller' slots' units')) before after w by_bios

    pub inline_left : IsReady disk.queue caller slots units → IsReady disk.queue caller' slots' units' → (device : ℕ) → events_left disk (pass_by caller slots units) device ≤ events_left disk (pass_by caller' slots' units') device + inline_events disk (tagged_bios before.bios) device
    inline_left ready ready' device =
        let same = ap (λ (ps : List (List NamedUnit)). 2 * pieces_on disk.targets device ps) are_pieces in
        let few = few_events disk.targets device (pieces_in (keys_in disk) disk.targets before) w.tells.holds w.tells.one_for_each in
        left_after disk caller caller' slots slots' units units' ready ready' w.tells.same.caller device (inline_events disk (tagged_bios before.bios) device) (events_on w.tells.holds device) (w.tells.notes device) (omega (arith, same, few))

-- what was carried out, as the contract sees the disk
pub whole_on : {S : Type 0} (contents : S → Option Sectors) (inside disk : DiskData S) → inside ≡ disk → (caller caller' : ℕ) (slots slots' : List SlotFacts) (units units' : Pass Entry (OpeningData S)) (before after : RequestParts)
    → CarriesWhole (facts_on contents inside (pass_by caller slots units)) (facts_on contents inside (pass_by caller' slots' units')) before after (pieces_in (keys_in inside) inside.targets before)
    → CarriesWhole (facts_on contents disk (pass_by caller slots units)) (facts_on contents disk (pass_by caller' slots' units')) before after (pieces_in (keys_in disk) disk.targets before)
whole_on {S} contents inside disk is_disk caller caller' slots slots' units units' before after w =
    subst (λ (d : DiskData S). CarriesWhole (facts_on contents d (pass_by caller slots units)) (facts_on contents d (pass_by caller' slots' units')) before after (pieces_in (keys_in d) d.targets before)) is_disk w
