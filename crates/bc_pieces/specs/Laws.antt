-- Laws of requests that were carried out: parts of one request are one part, its units are those of its bios, what
-- became of a bio stays so, and a request whose units all went one way was carried out as a whole.
use Rattle.std.specs.Prelude.{◌≡◌, ℕ, ◌+◌, List, ◌++◌, flat_map}
use Rattle.bc_base.specs.Lists.{list_at}
use Rattle.bc_base.specs.Story.{StartsWith}
use Rattle.bc_bio.specs.declared.marked_bio.MarkedBio.{MarkedBio}
use Rattle.bc_key.specs.KeyData.{KeyData}
use Rattle.bc_bio.specs.Requests.{RequestParts, tagged_bios}
use Rattle.bc_bio.specs.Windows.{count_units}
use Rattle.bc_medium.specs.declared.entry.Entry.{Entry}
use Rattle.bc_medium.specs.declared.via.Via.{Via}
use Rattle.bc_queue.specs.RequestUnits.{planned_part}
use Rattle.bc_queue.specs.Carrying.{AccessFacts, CarriesOut, HasSameWay}
use Rattle.bc_pieces.specs.AttemptedRequest.{by_way, CarriesUnits, HasNoFault, IsWholeRequest}
use Rattle.bc_pieces.specs.Becoming.{Becomes, planned_units}

-- two parts of a request, one after the other, are one part
abbrev pub PartsAppend : Type 0
PartsAppend =
    (old mid new : AccessFacts) (before now after : RequestParts) (first count more : ℕ) (es fs : List Entry)
    → ((via : Via) → HasSameWay (by_way via old) (by_way via mid))
    → ((shard : ℕ) → StartsWith (list_at new.seen shard) (list_at mid.seen shard))
    → CarriesUnits old mid before now first count es → CarriesUnits mid new now after (first + count) more fs
    → CarriesUnits old new before after first (count + more) (es ++ fs)

-- what became of a bio, and what its caller knows of it, stays so along all longer orders
abbrev pub BecomesStays : Type 0
BecomesStays =
    (facts : AccessFacts) (old new : List (List Entry)) (was is : MarkedBio)
    → ((shard : ℕ) → StartsWith (list_at new shard) (list_at old shard)) → Becomes facts old was is
    → Becomes facts new was is

-- the units of a request are those of its bios, one bio after the other
abbrev pub PlannedByBios : Type 0
PlannedByBios =
    (keys : List KeyData) (bios : List MarkedBio)
    → planned_part keys bios 0 (count_units (tagged_bios bios))
    ≡ flat_map (λ marked. planned_units keys marked.bio) bios

-- a request whose units were all carried out one way is carried out as a whole
abbrev pub OneWayIsWhole : Type 0
OneWayIsWhole =
    (old new : AccessFacts) (before after : RequestParts)
    (carries : CarriesOut old new before after 0 (count_units (tagged_bios before.bios)))
    → HasNoFault before.bios → IsWholeRequest old new before after carries.made
