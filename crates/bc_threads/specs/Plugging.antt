-- Private: the bios of a window, taken from where they were prepared and plugged; and its replies,
-- noted.
use Rattle.std.specs.Prelude.{◌≡◌, ℕ, ◌==◌, false, List, map, slice_get, Option, Some}
use Rattle.std.specs.List.{AllZip, list_any}
use Rattle.bc_base.specs.Lists.{At}
use Rattle.bc_key.specs.KeyData.{KeyData}
use Rattle.bc_bio.specs.declared.bio.Bio.{Bio}
use Rattle.bc_bio.specs.declared.reply.Reply.{Reply}
use Rattle.bc_bio.specs.BioUnits.{extent_of}
use Rattle.bc_bio.specs.Conditions.{IsPlaced}
use Rattle.bc_bio.specs.Requests.{tagged_of, unmarked}
use Rattle.bc_queue.specs.Plugs.{AreRequests, IsOfWindow, IsPlug, PlugParts, bios_in}
use Rattle.bc_threads.specs.declared.outcome.Outcome.{Outcome}
use Rattle.bc_threads.specs.declared.outcome.Outcome.TheVariants as outcomes

-- a bio that can be placed stands at this place
abbrev pub HasBioAt : List KeyData → List (Option Bio) → ℕ → Type 0
HasBioAt keys bios o = (bio : Bio) × At bios o (Some bio) × IsPlaced keys (extent_of bio)

-- the bios that stood at these places are plugged, and nothing else
pub record IsPlugged (keys : List KeyData) (bios : List (Option Bio)) (window : List ℕ)
    (plug : PlugParts) : Type 0 where
  pub taken : List Bio
  pub each : AllZip (λ o bio. At bios o (Some bio)) window taken
  pub plugged : bios_in plug.requests ≡ map unmarked taken
  pub plug_is : IsPlug plug
  pub requests : AreRequests keys plug.requests
  pub window_is : IsOfWindow keys plug.requests (map tagged_of taken)

-- what stands at other places than these stays
abbrev pub SameBeside : {A : Type 0} → List ℕ → List A → List A → Type 0
SameBeside window old new = (o : ℕ) → list_any (λ w. w == o) window ≡ false → slice_get new o ≡ slice_get old o

-- each operation of a window has its reply among the outcomes
abbrev pub AreNoted : List (Option Outcome) → List ℕ → List Reply → Type 0
AreNoted answers window replies =
    AllZip (λ o reply. slice_get answers o ≡ Some (Some (outcomes.Replied reply))) window replies
