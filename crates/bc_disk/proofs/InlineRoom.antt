-- The room for the pieces of a request that go inline, from one to the next.
use Rattle.std.proofs.Common.{◌≡◌, ℕ, ◌+◌, ◌*◌, ◌≤◌, Bool, true, List, [], ◌∷◌, cond, length, sym, ap, subst, arith, Option}
use Rattle.std.specs.Prelude.{sum_by}
use Rattle.std.proofs.lemmas.List.Sums.{sum_by-cons}
use Rattle.bc_base.specs.Sectors.{Sectors}
use Rattle.bc_key.specs.KeyData.{KeyData}
use Rattle.bc_bio.specs.Requests.{RequestParts, tagged_bios}
use Rattle.bc_bio.specs.Windows.{NamedUnit, count_units}
use Rattle.bc_turn.specs.PassParts.{Pass}
use Rattle.bc_medium.specs.declared.entry.Entry.{Entry}
use Rattle.bc_medium.specs.Medium.{OpeningData, shards_of}
use Rattle.bc_profile.specs.Passes.{SlotFacts}
use Rattle.bc_queue.specs.RequestUnits.{planned_part, count_units_on}
use Rattle.bc_queue.specs.Queues.{HasEvents, HasSpareOfUnits, QueueData}
use Rattle.bc_pieces.specs.ManyCallers.{IsReady, QueueDevicesData, facts_over}
use Rattle.bc_pieces.specs.Pieces.{CarriesPiece, IsOnDevice, at_device, is_piece_on, named_on, piece_part, pieces_on}
use Rattle.bc_pieces.proofs.Units.{part_on, piece_on}
use Rattle.bc_disk.specs.Inline.{HasRoomOn}
use Rattle.bc_disk.proofs.EventRoom.{spare_after}
use Rattle.bc_disk.proofs.PieceSums.{one_piece, pieces_cons}

module _ {S : Type 0} (devices : QueueDevicesData S) (device : ℕ) (keys : List KeyData) (request : RequestParts) (first count : ℕ) (keyed : devices.queue.medium.keys.keys ≡ keys) (some : 1 ≤ count)
    (within : first + count ≤ count_units (tagged_bios request.bios)) (on : IsOnDevice keys devices.targets request first device) where
  is_on : is_piece_on devices.targets device (piece_part keys request first count) ≡ true
  is_on = piece_on keys devices.targets request first count device some within on

  one_here : pieces_on devices.targets device (piece_part keys request first count ∷ []) ≡ 1
  one_here = ap (λ (b : Bool). length (cond b (piece_part keys request first count ∷ []) [])) is_on

  entries_more : (shard : ℕ) (rest : List (List NamedUnit)) → sum_by (named_on (shards_of devices.queue.medium) shard) (piece_part keys request first count ∷ rest)
      ≡ count_units_on (shards_of devices.queue.medium) shard (planned_part devices.queue.medium.keys.keys request.bios first count) + sum_by (named_on (shards_of devices.queue.medium) shard) rest
  entries_more shard rest =
      let sum = sum_by-cons (named_on (shards_of devices.queue.medium) shard) (piece_part keys request first count) rest in
      let part = part_on keys request (shards_of devices.queue.medium) shard first count within in
      let same = ap (λ ks. count_units_on (shards_of devices.queue.medium) shard (planned_part ks request.bios first count)) keyed in
      omega (arith, sum, part, same)

  -- what the first piece asks
  pub first_events : (queue : QueueData S) (slots : List SlotFacts) (units : Pass Entry (OpeningData S)) (rest : List (List NamedUnit)) → queue ≡ devices.queue → HasRoomOn devices slots units (piece_part keys request first count ∷ rest) → HasEvents queue slots device 2
  first_events queue slots units rest same has =
      subst (λ q. HasEvents q slots device 2) (sym same)
      (λ controller at pass here.
      let more = pieces_cons devices.targets device (piece_part keys request first count) rest in
      let one = one_here in
      let spare = has.events device (omega (arith, more, one)) controller at pass here in
      omega (arith, spare, more, one))

  pub first_entries : (queue : QueueData S) (slots : List SlotFacts) (units : Pass Entry (OpeningData S)) (rest : List (List NamedUnit)) → queue ≡ devices.queue → HasRoomOn devices slots units (piece_part keys request first count ∷ rest) → HasSpareOfUnits queue units request.bios first count
  first_entries queue slots units rest same has =
      subst (λ q. HasSpareOfUnits q units request.bios first count) (sym same)
      (λ shard.
      let room = has.entries shard in
      let more = entries_more shard rest in
      omega (arith, room, more))

  -- and what it leaves
  pub room_left : (contents : S → Option Sectors) (caller caller' : ℕ) (slots slots' : List SlotFacts) (units units' : Pass Entry (OpeningData S)) (after : RequestParts) → IsReady devices.queue caller slots units → IsReady devices.queue caller' slots' units'
      → CarriesPiece (facts_over contents devices slots units) (facts_over contents devices slots' units') request after first device count
      → (rest : List (List NamedUnit)) → HasRoomOn devices slots units (piece_part keys request first count ∷ rest) → HasRoomOn devices slots' units' rest
  room_left contents caller caller' slots slots' units units' after ready ready' p rest has = record {
    entries = λ shard.
        let room = has.entries shard in
        let more = entries_more shard rest in
        let spent = p.carries.spare shard in
        omega (arith, room, more, spent);
    events = λ other there.
        let more = pieces_cons devices.targets other (piece_part keys request first count) rest in
        let one = one_piece devices.targets device p.under.key.0 p.slot p.made (piece_part keys request first count) p.one_hold is_on other in
        spare_after devices.queue caller caller' slots slots' units units' ready ready' p.same.caller other (2 * pieces_on devices.targets other rest) (2 * pieces_on devices.targets other (piece_part keys request first count ∷ rest))
        (at_device device p.made other) (p.notes other) (omega (arith, more, one)) (has.events other (omega (arith, more, there)));
  }
