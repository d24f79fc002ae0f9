-- A request as a whole, as its pieces carried it out: which of its units were attempted, by which entries.
use Rattle.std.specs.Prelude.{◌≡◌, ℕ, List, [], None}
use Rattle.std.specs.List.{AllZip}
use Rattle.bc_base.specs.Lists.{Each}
use Rattle.bc_bio.specs.declared.marked_bio.MarkedBio.{MarkedBio}
use Rattle.bc_bio.specs.Windows.{NamedUnit, count_units}
use Rattle.bc_bio.specs.Requests.{RequestParts, tagged_bios, unit_in}
use Rattle.bc_medium.specs.declared.entry.Entry.{Entry}
use Rattle.bc_medium.specs.declared.via.Via.{Via}
use Rattle.bc_medium.specs.Growth.{Attempts}
use Rattle.bc_queue.specs.RequestUnits.{planned_part, faults_of, with_faults, attempted_in, failed_among}
use Rattle.bc_queue.specs.Carrying.{AccessFacts, IsCarried, IsLeft}
use Rattle.bc_queue.specs.Laws.{TagsDiffer}
use Rattle.bc_pieces.specs.Pieces.{DeviceFacts}
use Rattle.bc_pieces.specs.PieceEffects.{AddsByDevice}
use Rattle.bc_pieces.specs.Becoming.{Becomes, MarksFirst}

-- the same caller's way, where a unit goes so
abbrev pub by_way : Via → AccessFacts → AccessFacts
by_way via facts = record facts { via = via }

-- unit number n of a request was attempted, and this is its entry, which says by itself which way it went
abbrev pub IsCarriedItsWay : AccessFacts → List (List Entry) → List MarkedBio → List MarkedBio → ℕ → Entry → Type 0
IsCarriedItsWay facts seen old new n e = IsCarried (by_way e.via facts) seen old new n e

-- So many units of a request, from this number on, were carried out in order, each of them its own way: those that were
-- attempted, each once, have these entries. A fault marked its own bio alone, and the later units of that bio were
-- passed over; all other units are as they were.
pub record CarriesUnits (old new : AccessFacts) (before after : RequestParts) (first count : ℕ) (made : List Entry)
    : Type 0 where
  pub carried : AllZip (IsCarriedItsWay old new.seen before.bios after.bios) (attempted_in after.bios first count) made
  pub faults : faults_of after.bios ≡ with_faults (tagged_bios before.bios) (faults_of before.bios)
      (failed_among (attempted_in after.bios first count) made)
  pub others : (n : ℕ) → IsLeft after.bios first count n → unit_in after.bios n ≡ unit_in before.bios n
  pub bios : tagged_bios after.bios ≡ tagged_bios before.bios
  pub room : after.spare ≡ before.spare

-- no bio of a request has met a fault
abbrev pub HasNoFault : List MarkedBio → Type 0
HasNoFault bios = Each (λ marked. marked.fault ≡ None) bios

-- What a request has become that was carried out as a whole, where none of its bios had met a fault: each bio is what
-- its mark says. Where no two bios have one tag, the entries are those of its units that are to be attempted, each
-- once, in their order, and a bio's mark is the number of the first of its units whose entry failed.
pub record IsWholeRequest (old new : AccessFacts) (before after : RequestParts) (made : List Entry) : Type 0 where
  pub attempts : TagsDiffer (tagged_bios before.bios)
      → Attempts old.caller [] (planned_part old.keys before.bios 0 (count_units (tagged_bios before.bios))) made
  pub marks : TagsDiffer (tagged_bios before.bios) → AllZip (MarksFirst old.caller made) before.bios after.bios
  pub becomes : AllZip (Becomes old new.seen) before.bios after.bios

-- A request was carried out as a whole, by its pieces.
pub record CarriesWhole (old new : DeviceFacts) (before after : RequestParts) (pieces : List (List NamedUnit))
    : Type 0 where
  pub tells : AddsByDevice old new pieces
  pub units : CarriesUnits old.access new.access before after 0 (count_units (tagged_bios before.bios)) tells.made
  pub whole : HasNoFault before.bios → IsWholeRequest old.access new.access before after tells.made
