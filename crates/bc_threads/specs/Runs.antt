-- Private: the parts of a run of a script by a thread for each of its sections.
use Rattle.std.specs.Prelude.{◌≡◌, ℕ, ◌*◌, ◌<◌, ◌≤◌, List, [], length, map, Option, Some, None}
use Rattle.bc_base.specs.Lists.{AllAt, list_at}
use Rattle.bc_base.specs.RamStores.{RamData, contents}
use Rattle.bc_base.specs.Sectors.{Sectors}
use Rattle.bc_script.specs.Script.{Script, IsScript, keys_of}
use Rattle.bc_report.specs.declared.answer.Answer.{Answer}
use Rattle.bc_stack.specs.Targets.{StackParts}
use Rattle.bc_section.specs.Openings.{AreOpenings}
use Rattle.bc_section.specs.SectionProgress.{CarriesSection}
use Rattle.bc_disk.specs.Disks.{DiskData, IsPassOf, PassData}
use Rattle.bc_disk.specs.Openings.{IsOpened}
use Rattle.bc_threads.specs.declared.outcome.Outcome.{Outcome}
use Rattle.bc_threads.specs.Outcomes.{answer_in}
use Rattle.bc_threads.specs.PreparedBios.{SectionData}
use Rattle.bc_threads.specs.Quotas.{event_rows, unit_rows}
use Rattle.bc_threads.specs.SharedDevice.{device_on}

-- what a store in memory tells of its sectors: all of them
abbrev pub contents_told : RamData → Option Sectors
contents_told store = Some (contents store)

-- the devices of a script, as a stack
abbrev pub stack_of : Script → StackParts
stack_of script = record { targets = script.targets; blocks = script.blocks }

-- a disk was opened for a script over an image on so many shards, with a pass for each thread
pub record IsOpenedFor (script : Script) (image : List ℕ) (shards : ℕ) (disk : DiskData RamData)
    (passes : List (PassData RamData)) : Type 0 where
  pub rules : IsScript script
  pub some : 1 ≤ shards
  pub few : shards ≤ 64
  pub whole : length image ≡ 4096 * script.blocks
  pub stores : List RamData
  pub openings : AreOpenings script image shards stores
  pub opened : IsOpened contents_told (keys_of script) (stack_of script) script.fallback script.blocks stores
      (unit_rows script shards) (event_rows script) disk passes

-- the section of a thread was carried out by its pass, with these answers
pub record IsSectionCarriedOut (script : Script) (disk : DiskData RamData) (thread : ℕ) (answers : List Answer)
    (old new : PassData RamData) : Type 0 where
  pub pass_of : IsPassOf disk new
  pub caller : new.caller ≡ thread
  pub carries : CarriesSection (device_on contents_told script thread disk old)
      (device_on contents_told script thread disk new) (list_at script.threads thread) answers

-- the sections of all threads were; where there are none, the pass of the one caller is as it was
pub record AreCarriedOut (script : Script) (disk : DiskData RamData) (old new : List (PassData RamData))
    (answers : List (List Answer)) : Type 0 where
  pub answered : length answers ≡ length script.threads
  pub pass_for_each : length new ≡ length old
  pub each : (thread : ℕ) → thread < length script.threads → AllAt old thread (λ before. AllAt new thread (λ after.
      IsSectionCarriedOut script disk thread (list_at answers thread) before after))
  pub none : script.threads ≡ [] → new ≡ old

-- jobs by their passes and sections: each thread's pass and section
pub record AreJobs (script : Script) (passes : List (PassData RamData))
    (jobs : List (PassData RamData × Option SectionData)) : Type 0 where
  pub same_passes : map (λ job. job.0) jobs ≡ passes
  pub sections : (thread : ℕ) → AllAt jobs thread (λ job. job.1 ≡ Some (record { script = script; thread = thread }))

-- how a report says the outcomes of a job; one that wasn't done has none
abbrev pub answers_in : Option (List Outcome) → List Answer
answers_in None = []
answers_in (Some outcomes) = map answer_in outcomes
