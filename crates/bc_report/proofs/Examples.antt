-- The texts of reports, by the definition alone.
use Rattle.std.proofs.Common.{◌≡◌, ℕ, [], ◌∷◌, refl}
use Rattle.std.specs.Prelude.{codes}
use Rattle.std.specs.Fmt.{digits}
use Rattle.hex.specs.Hex.{encode_with}
use Rattle.bc_profile.specs.declared.event.Event.TheVariants as events
use Rattle.bc_medium.specs.declared.via.Via.{Via}
use Rattle.bc_medium.specs.declared.via.Via.TheVariants as vias
use Rattle.bc_report.specs.declared.answer.Answer.TheVariants as answers
use Rattle.bc_report.specs.declared.line.Line.{Line}
use Rattle.bc_report.specs.Report.{Report}
use Rattle.bc_report.specs.ReportText.{report_text}

abbrev entry : ℕ → ℕ → ℕ → Via → Line
entry thread op unit via = record { thread = thread; op = op; unit = unit; via = via }

-- a run of no section on one shard: 23 bytes
abbrev empty_script : Report
empty_script = record { threads = []; shards = [] ∷ []; devices = [] }

empty-script : report_text empty_script ≡ codes "report 1\nshard 0 0\nend\n"
unfolding digits encode_with
empty-script = refl

-- a fault ends its own bio alone
abbrev faults_in_a_plug : Report
faults_in_a_plug = record {
  threads = (answers.Plug ∷ answers.Wrote ∷ answers.Fault 0 ∷ answers.Wrote ∷ answers.Unplug ∷ answers.ReadFill 0 ∷ answers.ReadFill 51 ∷ []) ∷ [];
  shards =
      (entry 0 1 0 vias.Soft ∷ entry 0 1 1 vias.Soft ∷ entry 0 2 0 vias.Soft ∷ entry 0 3 0 vias.Soft ∷ entry 0 5 0 vias.Plain ∷ entry 0 6 0 vias.Soft ∷ []) ∷ [];
  devices = [];
}

faults-in-a-plug : report_text faults_in_a_plug
    ≡ codes "report 1\nthread 0\nplug\ndone\nfault 0\ndone\nunplug\ndone fill 00\ndone fill 33\nshard 0 6\n0 1 0 soft\n0 1 1 soft\n0 2 0 soft\n0 3 0 soft\n0 5 0 plain\n0 6 0 soft\nend\n"
unfolding digits encode_with
faults-in-a-plug = refl

-- a bio that is cut at the border of two devices, on two shards
abbrev two_devices : Report
two_devices = record {
  threads = (answers.Wrote ∷ []) ∷ [];
  shards =
      (entry 0 0 0 (vias.Inline 0 0 0) ∷ entry 0 0 1 (vias.Inline 0 0 0) ∷ []) ∷ (entry 0 0 2 (vias.Inline 1 0 0) ∷ entry 0 0 3 (vias.Inline 1 0 0) ∷ []) ∷ [];
  devices = (events.Program 0 0 [] ∷ events.Idle 0 ∷ []) ∷ (events.Program 0 0 [] ∷ events.Idle 0 ∷ []) ∷ [];
}

two-devices : report_text two_devices
    ≡ codes "report 1\nthread 0\ndone\nshard 0 2\n0 0 0 inline 0 0 0\n0 0 1 inline 0 0 0\nshard 1 2\n0 0 2 inline 1 0 0\n0 0 3 inline 1 0 0\ndevice 0 2\nprogram 0 0\nidle 0\ndevice 1 2\nprogram 0 0\nidle 0\nend\n"
unfolding digits encode_with
two-devices = refl

-- an eviction of a key that another thread holds
abbrev busy_eviction : Report
busy_eviction = record {
  threads = (answers.Wrote ∷ answers.ReadFill 17 ∷ []) ∷ (answers.Busy 0 0 1 ∷ []) ∷ [];
  shards = (entry 0 0 0 (vias.Inline 0 0 0) ∷ entry 0 1 0 (vias.Inline 0 0 0) ∷ []) ∷ [];
  devices = (events.Program 0 0 [] ∷ events.Busy 0 0 1 ∷ events.Idle 0 ∷ events.Idle 0 ∷ []) ∷ [];
}

busy-eviction : report_text busy_eviction
    ≡ codes "report 1\nthread 0\ndone\ndone fill 11\nthread 1\nbusy 0 0 1\nshard 0 2\n0 0 0 inline 0 0 0\n0 1 0 inline 0 0 0\ndevice 0 4\nprogram 0 0\nbusy 0 0 1\nidle 0\nidle 0\nend\n"
unfolding digits encode_with
busy-eviction = refl

-- a programming that passes over a held slot
abbrev skipped_slot : Report
skipped_slot = record {
  threads = [];
  shards = [];
  devices =
      (events.Program 0 0 [] ∷ events.Idle 0 ∷ events.Program 1 1 [] ∷ events.Idle 1 ∷ events.Program 1 2 (record { slot = 0; refs = 1 } ∷ []) ∷ events.Idle 0 ∷ events.Idle 1 ∷ []) ∷ [];
}

skipped-slot : report_text skipped_slot ≡ codes "report 1\ndevice 0 7\nprogram 0 0\nidle 0\nprogram 1 1\nidle 1\nprogram 1 2 skip 0:1\nidle 0\nidle 1\nend\n"
unfolding digits encode_with
skipped-slot = refl
