-- Sections that are carried out at once, one thread each.
use Rattle.std.specs.Prelude.{◌≡◌, List, map, Option, None, IsSomeAnd, IfSome}
use Rattle.std.specs.List.{enumerate_from}
use Rattle.bc_base.specs.Sectors.{Sectors}
use Rattle.bc_section.specs.SectionProgress.{CarriesSection}
use Rattle.bc_disk.specs.Disks.{DiskData, IsPassOf, PassData}
use Rattle.bc_threads.specs.declared.outcome.Outcome.{Outcome}
use Rattle.bc_threads.specs.Outcomes.{answer_in}
use Rattle.bc_threads.specs.PreparedBios.{SectionData, operations_of}
use Rattle.bc_threads.specs.SharedDevice.{HasRoomFor, IsNew, IsOpenFor, device_on}

module _ {S : Type 0} (contents : S → Option Sectors) where
  -- a section can be carried out on the disk by this pass
  pub record MayWork (disk : DiskData S) (pass : PassData S) (section : SectionData) : Type 0 where
    pub opened : IsOpenFor contents section.script disk
    pub pass_of : IsPassOf disk pass
    pub caller : pass.caller ≡ section.thread
    pub new : IsNew contents disk section.thread pass
    pub room : HasRoomFor contents section.script disk pass (enumerate_from 0 (operations_of section))

  -- a section was carried out by a pass, with these outcomes
  pub record HasWorked (disk : DiskData S) (old new : PassData S) (section : SectionData) (outcomes : List Outcome)
      : Type 0 where
    pub pass_of : IsPassOf disk new
    pub caller : new.caller ≡ old.caller
    pub carries : CarriesSection (device_on contents section.script section.thread disk old)
        (device_on contents section.script section.thread disk new) (operations_of section)
        (map answer_in outcomes)

  -- a job is to be done: it has a section that can be carried out by its pass
  abbrev pub IsReadyJob : DiskData S → PassData S → Option SectionData → Type 0
  IsReadyJob disk pass section = IsSomeAnd section (MayWork disk pass)

  -- a job was done: its section is carried out
  pub record IsDone (disk : DiskData S) (old new : PassData S) (before after : Option SectionData)
      (outcomes : Option (List Outcome)) : Type 0 where
    pub taken : after ≡ None
    pub worked : IfSome before (λ section. IsSomeAnd outcomes (HasWorked disk old new section))
