-- Inside a window: it begins, a bio of it begins, and a unit of a bio is reached and attempted.
use Rattle.std.proofs.Common.{◌≡◌, ℕ, Option, None, List, [], ◌∷◌, ◌++◌, refl, sym, ap, subst}
use Rattle.std.specs.Prelude.{option_map, IfSome}
use Rattle.std.proofs.lemmas.List.{append-nil}
use Rattle.bc_base.specs.Lists.{list_at}
use Rattle.bc_bio.specs.declared.extent.Extent.{Extent}
use Rattle.bc_bio.specs.Windows.{TaggedBio}
use Rattle.bc_medium.specs.declared.entry.Entry.{Entry}
use Rattle.bc_script.specs.Script.{Script}
use Rattle.bc_serial.specs.declared.open_hold.OpenHold.{OpenHold}
use Rattle.bc_serial.specs.Standing.{CourseData}
use Rattle.bc_serial.specs.InTurn.{under_hold, StillHolds, InTurn, first_units_of}
use Rattle.bc_serial.proofs.Splitting.{open_by, open_begin, open_first}
pub use Rattle.bc_serial.proofs.TurningUnits.{unit_reached, unit_attempted}

-- ---- a window begins

-- nothing that counts changed
pub in_turn_same : (start old new : CourseData) (bios : List TaggedBio) (made : List Entry) → InTurn start old bios made
    → new ≡ record old { shards = new.shards; left = new.left } → InTurn start new bios made
in_turn_same start old new bios made t same =
    subst (λ (c : CourseData). InTurn start c bios made) (sym same) (record {
      script_is = t.script_is;
      thread_is = t.thread_is;
      begun_is = t.begun_is;
      same_devices = t.same_devices;
      uses = t.uses;
      rises = t.rises;
      none_later = t.none_later;
      opened = t.opened;
      still = t.still;
    })

-- no bio was gone over yet
pub window_begins : (start : CourseData) → start.opened ≡ None → InTurn start start [] []
window_begins start none = record {
  script_is = refl;
  thread_is = refl;
  begun_is = refl;
  same_devices = refl;
  uses = record { journals = λ device lt. sym (append-nil (list_at start.journals device)); holds = tt };
  rises = tt;
  none_later = tt;
  opened = ap (option_map under_hold) none;
  still = subst (λ (o : Option OpenHold). IfSome o (StillHolds start)) (sym none) tt;
}

-- ---- a bio begins

open_begins : (script : Script) (op : ℕ) (bio : Extent) (tail : List TaggedBio) → open_by script (tail ++ first_units_of op bio 0 ∷ []) ≡ open_by script tail
open_begins script op bio [] = open_first script op bio
open_begins script op bio (t ∷ ts) = open_begin script op bio t ts
