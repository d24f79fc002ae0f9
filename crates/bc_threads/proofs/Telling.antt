-- Each operation of a window has its answer, where its reply has been noted.
use Rattle.std.proofs.Common.{◌∙◌, ℕ, List, [], ◌∷◌, ap, Option, Some}
use Rattle.std.specs.Option.{option_map}
use Rattle.std.specs.List.{AllByRecursion, AllZip}
use Rattle.bc_base.specs.Sectors.{Sectors}
use Rattle.bc_key.specs.KeyData.{KeyData}
use Rattle.bc_bio.specs.declared.bio.Bio.{Bio}
use Rattle.bc_bio.specs.declared.reply.Reply.{Reply}
use Rattle.bc_bio.specs.Laws.{UnrefusedIsAccepted}
use Rattle.bc_script.specs.declared.op.Op.{Op}
use Rattle.bc_script.specs.Script.{Script}
use Rattle.bc_report.specs.Report.{IsAnswer}
use Rattle.bc_section.specs.SectionProgress.{Settled, answers_by}
use Rattle.bc_section.proofs.Lists.{at_map}
use Rattle.bc_pieces.specs.Becoming.{planned_units}
use Rattle.bc_disk.specs.Disks.{DiskData, PassData, facts_on}
use Rattle.bc_disk.specs.Submissions.{RepliesTo}
use Rattle.bc_threads.specs.declared.outcome.Outcome.{Outcome}
use Rattle.bc_threads.specs.declared.outcome.Outcome.TheVariants as outcomes
use Rattle.bc_threads.specs.Outcomes.{answer_in, answer_of_reply}
use Rattle.bc_threads.specs.Plugging.{AreNoted}
use Rattle.bc_threads.specs.SharedDevice.{IsOpenFor, base_on, device_on}
use Rattle.bc_threads.proofs.Replying.{is_reply}
use Rattle.bc_threads.proofs.Showing.{IsWayFor}
use Rattle.bc_threads.proofs.WindowBios.{IsWindowBio, units_are}
use Rattle.bc_threads.proofs.Windowing.{opens_with}

module _ {S : Type 0} (contents : S → Option Sectors) (script : Script) (section : List Op) (thread : ℕ) (disk : DiskData S) (old new : PassData S)
    (opened : IsOpenFor contents script disk) (way : IsWayFor script thread (facts_on contents disk old)) (laws : UnrefusedIsAccepted) (answers : List (Option Outcome)) where
  pub settled : (window : List ℕ) (taken : List Bio) (replies : List Reply) → AllZip (IsWindowBio script section) window taken
      → AllZip (RepliesTo (facts_on contents disk old).access (facts_on contents disk new).access.seen) taken replies → AreNoted answers window replies
      → AllByRecursion (λ reply. IsAnswer (answer_of_reply reply)) replies → AllByRecursion (Settled (device_on contents script thread disk new) section (answers_by answer_in answers)) window
  settled [] taken replies all told noted ranges = tt
  settled (o ∷ os) [] replies all told noted ranges = absurd all
  settled (o ∷ os) (bio ∷ taken) [] all told noted ranges = absurd told
  settled (o ∷ os) (bio ∷ taken) (reply ∷ replies) all told noted ranges = (
    record {
      operation = all.0.operation;
      answer = answer_of_reply reply;
      asked = all.0.asked;
      told = at_map (option_map answer_in) answers o (Some (outcomes.Replied reply)) noted.0;
      replied = is_reply script (base_on contents disk) thread (facts_on contents disk old).access (facts_on contents disk new).access.seen way.keys way.caller
          o all.0.operation bio reply all.0.of.extent all.0.accepted
          (ap (λ (keys : List KeyData). planned_units keys bio) way.keys ∙ units_are script section opened.rules laws o bio all.0)
          (opens_with contents script section disk opened laws old) told.0;
      range = ranges.0;
    },
    settled os taken replies all.1 told.1 noted.1 ranges.1,
  )
