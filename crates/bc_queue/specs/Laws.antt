-- Laws of requests that were carried out: by the names of their units, which the orders have.
use Rattle.std.specs.Prelude.{◌≡◌, ℕ, ◌+◌, ◌<◌, ◌≤◌, not, List, [], ◌++◌}
use Rattle.bc_base.specs.Lists.{At}
use Rattle.bc_key.specs.KeyData.{KeyData}
use Rattle.bc_bio.specs.declared.marked_bio.MarkedBio.{MarkedBio}
use Rattle.bc_bio.specs.Windows.{TaggedBio, count_units}
use Rattle.bc_bio.specs.Requests.{RequestParts, tagged_bios, is_over}
use Rattle.bc_medium.specs.declared.entry.Entry.{Entry}
use Rattle.bc_medium.specs.declared.unit_name.UnitName.{UnitName}
use Rattle.bc_medium.specs.LawfulOrders.{unit_name_of, is_attempted}
use Rattle.bc_medium.specs.Growth.{Attempts, failed_names}
use Rattle.bc_queue.specs.RequestUnits.{planned_at, planned_part}
use Rattle.bc_queue.specs.Carrying.{AccessFacts, CarriesOut}

-- no two bios of a request have one tag
abbrev pub TagsDiffer : List TaggedBio → Type 0
TagsDiffer bios =
    (i j : ℕ) (first second : TaggedBio) → At bios i first → At bios j second → first.tag ≡ second.tag → i ≡ j

-- faults of units with these names leave the same units of a request to be attempted as its own marks do
abbrev pub MarkSame : List KeyData → ℕ → List UnitName → List MarkedBio → Type 0
MarkSame keys caller met bios =
    (n : ℕ) → n < count_units (tagged_bios bios)
    → is_attempted met (unit_name_of caller (planned_at keys bios n)) ≡ not (is_over bios n)

-- what was carried out of a request, by names: the entries are the attempted ones of these units, in their order, and
-- the names of those that failed are marked with the others
pub record IsAttempted (old new : AccessFacts) (before after : RequestParts) (first count : ℕ) (made : List Entry)
    (met : List UnitName) : Type 0 where
  pub attempts : Attempts old.caller met (planned_part old.keys before.bios first count) made
  pub marks : MarkSame old.keys old.caller (met ++ failed_names made) after.bios

-- where no two bios have one tag, a request that was carried out was so by the names of its units
abbrev pub AttemptedByNames : Type 0
AttemptedByNames =
    (old new : AccessFacts) (before after : RequestParts) (first count : ℕ) (met : List UnitName)
    (carries : CarriesOut old new before after first count) → first + count ≤ count_units (tagged_bios before.bios)
    → TagsDiffer (tagged_bios before.bios) → MarkSame old.keys old.caller met before.bios
    → IsAttempted old new before after first count carries.made met
