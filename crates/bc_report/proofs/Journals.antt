-- The uses, journals and holds of one caller, computed from the definitions for scripts written out by hand.
use Rattle.std.proofs.Common.{◌≡◌, ℕ, true, false, Bool, List, [], ◌∷◌, ◌++◌, map, replicate, Some, Option, refl}
use Rattle.std.specs.List.{range_with_len, enumerate_from}
use Rattle.bc_key.specs.declared.config.Mode.TheVariants.{Aes256Xts}
use Rattle.bc_key.specs.declared.config.DataUnit.{DataUnit}
use Rattle.bc_key.specs.declared.config.DataUnit.TheVariants.{Bytes512}
use Rattle.bc_bio.specs.declared.access.Access.TheVariants as access
use Rattle.bc_bio.specs.declared.context.Context.{Context}
use Rattle.bc_bio.specs.Windows.{TaggedBio}
use Rattle.bc_stack.specs.declared.target.Target.{Target}
use Rattle.bc_medium.specs.declared.unit_name.UnitName.{UnitName}
use Rattle.bc_medium.specs.declared.via.Via.TheVariants as vias
use Rattle.bc_profile.specs.declared.event.Event.{Event}
use Rattle.bc_profile.specs.declared.event.Event.TheVariants.{Program, Idle, Evict, Reset}
use Rattle.bc_script.specs.declared.named_key.NamedKey.{NamedKey}
use Rattle.bc_script.specs.declared.op.Op.{Op}
use Rattle.bc_script.specs.declared.op.Op.TheVariants as ops
use Rattle.bc_script.specs.declared.op.Text.TheVariants.{Fill}
use Rattle.bc_script.specs.Script.{Script}
use Rattle.bc_script.specs.Windows.{Turn, turns_of}
use Rattle.bc_script.specs.Windows as turns
use Rattle.bc_report.specs.SerialRun.{serial_journal, NamesHoldUnder}

-- an XTS key with numbers of eight bytes, whose bytes go up from this one
abbrev pub key_from : List ℕ → DataUnit → ℕ → NamedKey
key_from name unit byte = record {
  name = name;
  key = record { config = record { mode = Aes256Xts; unit = unit; dun_bytes = 8 }; raw = range_with_len byte 64 };
}

-- keys a, b and c, of 512-byte units
abbrev pub three_keys : List NamedKey
three_keys = key_from (97 ∷ []) Bytes512 0 ∷ key_from (98 ∷ []) Bytes512 64 ∷ key_from (99 ∷ []) Bytes512 128 ∷ []

abbrev pub under : ℕ → ℕ → Option Context
under key number = Some (record { key = record { 0 = key }; dun = number })

-- a device of XTS, with a mask of data units
abbrev pub device : ℕ → ℕ → ℕ → ℕ → Target
device first blocks slots xts = record { first = first; blocks = blocks; slots = slots; caps = record { xts = xts; essiv = 0; max_dun_bytes = 8 } }

-- a script of one section
abbrev pub script_of : ℕ → Bool → List Target → List Op → Script
script_of blocks fallback targets section = record {
  blocks = blocks;
  fallback = fallback;
  targets = targets;
  keys = three_keys;
  faults = [];
  threads = section ∷ [];
}

abbrev pub write : ℕ → ℕ → ℕ → ℕ → Op
write key sector units number = ops.Write (under key number) sector units (Fill 7)

abbrev pub evict : ℕ → Op
evict key = ops.Evict (record { 0 = key })

abbrev pub program : ℕ → ℕ → Event
program slot key = Program slot key []

-- a unit of thread 0
abbrev pub name : ℕ → ℕ → UnitName
name op unit = record { thread = 0; op = op; unit = unit }

-- ---- reprogramming: two slots, writes under a, b, c, a

abbrev with_slots : ℕ → List Op → Script
with_slots slots section = script_of 1 false (device 0 1 slots 1 ∷ []) section

abbrev reprogrammed : Script
reprogrammed = with_slots 2 (write 0 0 1 0 ∷ write 1 0 1 0 ∷ write 2 0 1 0 ∷ write 0 0 1 0 ∷ [])

reprogramming : serial_journal reprogrammed (0, device 0 1 2 1)
    ≡ program 0 0 ∷ Idle 0 ∷ program 1 1 ∷ Idle 1 ∷ program 0 2 ∷ Idle 0 ∷ program 1 0 ∷ Idle 1 ∷ []
reprogramming = refl

-- the four entries name events 0, 2, 4 and 6
first_entry : NamesHoldUnder reprogrammed (Some 0) (name 0 0) (vias.Inline 0 0 0)
first_entry = refl

second_entry : NamesHoldUnder reprogrammed (Some 1) (name 1 0) (vias.Inline 0 1 2)
second_entry = refl

third_entry : NamesHoldUnder reprogrammed (Some 2) (name 2 0) (vias.Inline 0 0 4)
third_entry = refl

fourth_entry : NamesHoldUnder reprogrammed (Some 0) (name 3 0) (vias.Inline 0 1 6)
fourth_entry = refl

-- ---- least recently idle: a, b, a, c

least_recently_idle : serial_journal (with_slots 2 (write 0 0 1 0 ∷ write 1 0 1 0 ∷ write 0 0 1 0 ∷ write 2 0 1 0 ∷ [])) (0, device 0 1 2 1)
    ≡ program 0 0 ∷ Idle 0 ∷ program 1 1 ∷ Idle 1 ∷ Idle 0 ∷ program 1 2 ∷ Idle 1 ∷ []
least_recently_idle = refl

-- ---- a plug of two bios, which run on or don't

abbrev plugged : ℕ → Script
plugged number = with_slots 1 (ops.Plug ∷ write 0 0 1 7 ∷ write 0 1 1 number ∷ ops.Unplug ∷ [])

merged_plug : serial_journal (plugged 8) (0, device 0 1 1 1) ≡ program 0 0 ∷ Idle 0 ∷ []
merged_plug = refl

merged_first : NamesHoldUnder (plugged 8) (Some 0) (name 1 0) (vias.Inline 0 0 0)
merged_first = refl

merged_second : NamesHoldUnder (plugged 8) (Some 0) (name 2 0) (vias.Inline 0 0 0)
merged_second = refl

not_merged : serial_journal (plugged 9) (0, device 0 1 1 1) ≡ program 0 0 ∷ Idle 0 ∷ Idle 0 ∷ []
not_merged = refl

-- ---- evictions and resets

-- key b is in no slot
evictions : serial_journal (with_slots 1 (write 0 0 1 0 ∷ evict 0 ∷ evict 1 ∷ [])) (0, device 0 1 1 1) ≡ program 0 0 ∷ Idle 0 ∷ Evict 0 0 ∷ []
evictions = refl

abbrev with_reset : Script
with_reset = with_slots 1 (write 0 0 1 0 ∷ ops.Reset 0 ∷ ops.Read (under 0 0) 0 1 ∷ [])

reset : serial_journal with_reset (0, device 0 1 1 1) ≡ program 0 0 ∷ Idle 0 ∷ Reset ∷ Idle 0 ∷ []
reset = refl

before_the_reset : NamesHoldUnder with_reset (Some 0) (name 0 0) (vias.Inline 0 0 0)
before_the_reset = refl

after_the_reset : NamesHoldUnder with_reset (Some 0) (name 2 0) (vias.Inline 0 0 0)
after_the_reset = refl

-- an eviction and a reset inside a plug end its windows; the two bios after the reset are one request
abbrev cut_plug : Script
cut_plug = with_slots 1 (ops.Plug ∷ write 0 0 1 7 ∷ evict 0 ∷ write 0 1 1 8 ∷ ops.Reset 0 ∷ write 0 2 1 9 ∷ write 0 3 1 10 ∷ ops.Unplug ∷ [])

evicted_in_a_plug : serial_journal cut_plug (0, device 0 1 1 1)
    ≡ program 0 0 ∷ Idle 0 ∷ Evict 0 0 ∷ program 0 0 ∷ Idle 0 ∷ Reset ∷ Idle 0 ∷ []
evicted_in_a_plug = refl

-- ---- a bio that is cut at the border of two devices

abbrev pub two : Script
two = script_of 2 true (device 0 1 1 1 ∷ device 1 1 1 1 ∷ []) (write 0 6 4 0 ∷ [])

two_devices : map (serial_journal two) (enumerate_from 0 two.targets) ≡ (program 0 0 ∷ Idle 0 ∷ []) ∷ (program 0 0 ∷ Idle 0 ∷ []) ∷ []
two_devices = refl

-- a reset is of its own device
abbrev pub with_reset_of_1 : Script
with_reset_of_1 = script_of 2 true (device 0 1 1 1 ∷ device 1 1 1 1 ∷ []) (write 0 6 4 0 ∷ ops.Reset 1 ∷ [])

reset_of_1 : map (serial_journal with_reset_of_1) (enumerate_from 0 with_reset_of_1.targets) ≡ (program 0 0 ∷ Idle 0 ∷ []) ∷ (program 0 0 ∷ Idle 0 ∷ Reset ∷ []) ∷ []
reset_of_1 = refl

-- sections follow one another, on a device of one slot
two_sections : serial_journal
    (record { blocks = 1; fallback = false; targets = device 0 1 1 1 ∷ []; keys = three_keys; faults = []; threads = (write 0 0 1 0 ∷ []) ∷ (write 1 0 1 0 ∷ write 1 0 1 0 ∷ []) ∷ [] })
    (0, device 0 1 1 1)
    ≡ program 0 0 ∷ Idle 0 ∷ program 0 1 ∷ Idle 0 ∷ Idle 0 ∷ []
two_sections = refl

-- ---- windows

abbrev written : ℕ → ℕ → ℕ → TaggedBio
written op sector number = record { tag = op; bio = record { access = access.Write; context = under 0 number; sector = sector; units = 1 } }

-- bios outside a plug are windows of their own, those of a plug are one
plug_is_a_window : turns_of reprogrammed (write 0 0 1 0 ∷ ops.Plug ∷ write 0 1 1 1 ∷ write 0 2 1 2 ∷ ops.Unplug ∷ write 0 3 1 3 ∷ [])
    ≡ turns.Window (written 0 0 0 ∷ []) ∷ turns.Window (written 2 1 1 ∷ written 3 2 2 ∷ []) ∷ turns.Window (written 5 3 3 ∷ []) ∷ []
plug_is_a_window = refl

-- an eviction and a reset end a window, and the plug stays open
plug_is_cut : turns_of reprogrammed (ops.Plug ∷ write 0 0 1 0 ∷ evict 1 ∷ write 0 1 1 1 ∷ ops.Reset 0 ∷ write 0 2 1 2 ∷ write 0 3 1 3 ∷ ops.Unplug ∷ [])
    ≡ turns.Window (written 1 0 0 ∷ []) ∷ turns.Evict (record { 0 = 1 }) ∷ turns.Window (written 3 1 1 ∷ []) ∷ turns.Reset 0
    ∷ turns.Window (written 5 2 2 ∷ written 6 3 3 ∷ []) ∷ []
plug_is_cut = refl

-- a refused bio is in no window: the disk has eight sectors
refused_in_a_plug : turns_of reprogrammed (ops.Plug ∷ write 0 0 1 0 ∷ write 0 8 1 0 ∷ write 0 1 1 1 ∷ ops.Unplug ∷ [])
    ≡ turns.Window (written 1 0 0 ∷ written 3 1 1 ∷ []) ∷ []
refused_in_a_plug = refl

-- the bios of so many operations, each of one unit at sector 0 under number 0
abbrev window_of : ℕ → ℕ → List TaggedBio
window_of first many = map (λ op. written op 0 0) (range_with_len first many)

-- a plug of 64 bios is one window, and one of 65 two
full_plug : turns_of reprogrammed (ops.Plug ∷ replicate 64 (write 0 0 1 0) ++ ops.Unplug ∷ []) ≡ turns.Window (window_of 1 64) ∷ []
full_plug = refl

one_bio_more : turns_of reprogrammed (ops.Plug ∷ replicate 65 (write 0 0 1 0) ++ ops.Unplug ∷ []) ≡ turns.Window (window_of 1 64) ∷ turns.Window (window_of 65 1) ∷ []
one_bio_more = refl
