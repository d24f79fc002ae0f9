-- A lawful run of a script from an image, with a number of shards: what a report and the image that
-- is left must meet.
use Rattle.std.specs.Prelude.{◌≡◌, ℕ, List}
use Rattle.std.specs.List.{AllZip}
use Rattle.bc_medium.specs.LawfulOrders.{LawfulOrders}
use Rattle.bc_medium.specs.Outcome.{final_image}
use Rattle.bc_profile.specs.declared.event.Event.{Event}
use Rattle.bc_profile.specs.SlotJournal.{IsLawful, AllIdle}
use Rattle.bc_stack.specs.declared.target.Target.{Target}
use Rattle.bc_script.specs.Script.{Script}
use Rattle.bc_script.specs.Plan.{plan_of}
use Rattle.bc_report.specs.RunOf.{orders_of, run_of}
use Rattle.bc_report.specs.Answers.{HasAnswers}
use Rattle.bc_report.specs.Evictions.{evictions_of, EvictionsHold, BusyAnswersHold}
use Rattle.bc_report.specs.Programmings.{ProgrammingsHold}
use Rattle.bc_report.specs.Holders.{HaveHolders}
use Rattle.bc_report.specs.Counts.{CountsHold}
use Rattle.bc_report.specs.Ways.{HaveWays}
use Rattle.bc_report.specs.Report.{Report}

-- each device has a lawful journal
abbrev pub HaveLawfulJournals : List Target → List (List Event) → Type 0
HaveLawfulJournals targets devices = AllZip (λ target events. IsLawful target.slots events) targets devices

-- at the end of each journal every slot is idle
abbrev pub EndIdle : List Target → List (List Event) → Type 0
EndIdle targets devices = AllZip (λ target events. AllIdle target.slots events) targets devices

-- a report and an image that is left are those of a run of the script over this image, with so many
-- shards: all points of a lawful run but who held a slot that was found with references, and that
-- every slot is idle at the end
pub record LawfulButHolders (script : Script) (image : List ℕ) (shards : ℕ) (report : Report) (left : List ℕ)
    : Type 0 where
  -- the shard lists are lawful orders
  pub orders : LawfulOrders shards (plan_of script) script.faults (orders_of report)
  -- the answers are the outcome's, or the refusal of the bio
  pub answers : HasAnswers script (run_of script image report) report.threads
  -- the final image is the outcome's
  pub image_left : left ≡ final_image (run_of script image report)
  -- each entry has the plan's way
  pub ways : HaveWays script (run_of script image report) report.shards
  -- each device's journal is lawful
  pub journals : HaveLawfulJournals script.targets report.devices
  -- each inline entry names a programming of its own key, and a thread's entries name events in
  -- order
  pub programmings : ProgrammingsHold (run_of script image report) (plan_of script) report (evictions_of script report)
  -- what evictions are answered, and how many events they make
  pub evictions : EvictionsHold script (evictions_of script report) report.devices
  -- each `busy` answer has its event
  pub busy_answers : BusyAnswersHold (evictions_of script report) report.devices
  -- how many events there are
  pub counts : CountsHold script report.devices

-- the other points: each refusal and each skip has threads that may have held the slot, and every
-- slot is idle at the end
pub record HoldersAreKnown (script : Script) (report : Report) : Type 0 where
  pub holders : HaveHolders script report.devices
  pub all_idle : EndIdle script.targets report.devices

-- a lawful run: all its points
pub record LawfulRun (script : Script) (image : List ℕ) (shards : ℕ) (report : Report) (left : List ℕ)
    : Type 0 where
  pub but_holders : LawfulButHolders script image shards report left
  pub holders : HoldersAreKnown script report
