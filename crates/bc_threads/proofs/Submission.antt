-- A window was submitted: all that the loop over a section's operations is given of it.
use Rattle.std.proofs.Common.{◌≡◌, ◌∙◌, ℕ, ◌<◌, ◌++◌, false, List, [], refl, sym, ap, subst, arith, Option}
use Rattle.std.specs.Prelude.{IsTrue}
use Rattle.std.specs.List.{AllByRecursion, AllZip}
use Rattle.std.proofs.lemmas.Bool.{true≢false}
use Rattle.bc_base.specs.Sectors.{Sectors}
use Rattle.bc_bio.specs.declared.bio.Bio.{Bio}
use Rattle.bc_bio.specs.declared.reply.Reply.{Reply}
use Rattle.bc_bio.specs.Laws.{UnitsHaveSizes, UnrefusedIsAccepted}
use Rattle.bc_profile.specs.Laws.{HoldsNameProgrammings, ProgrammingsStay}
use Rattle.bc_script.specs.declared.op.Op.{Op}
use Rattle.bc_script.specs.Script.{Script}
use Rattle.bc_report.specs.Report.{IsAnswer}
use Rattle.bc_compose.specs.OrderedHolds.{Pairs}
use Rattle.bc_section.specs.SectionProgress.{MayBePlugged, Settled, Submitted, answers_by, numbered}
use Rattle.bc_pieces.specs.PieceEffects.{IsHoldOf, events_on}
use Rattle.bc_disk.specs.Disks.{DiskData, PassData, facts_on}
use Rattle.bc_disk.specs.Submissions.{RepliesTo, Submits, window_pieces}
use Rattle.bc_threads.specs.declared.outcome.Outcome.{Outcome}
use Rattle.bc_threads.specs.Outcomes.{answer_in, answer_of_reply}
use Rattle.bc_threads.specs.Plugging.{AreNoted}
use Rattle.bc_threads.specs.SharedDevice.{IsOpenFor, device_on}
use Rattle.bc_threads.proofs.HoldOfEach.{held_are}
use Rattle.bc_threads.proofs.Keyed.{bounds_are}
use Rattle.bc_threads.proofs.Showing.{IsWayFor}
use Rattle.bc_threads.proofs.Submitting.{attempts_are, grows_are, notes_are}
use Rattle.bc_threads.proofs.Telling.{settled}
use Rattle.bc_threads.proofs.WindowBios.{IsWindowBio}
use Rattle.bc_threads.proofs.Windowing.{planned_are, ways_are}

pub not_alone : {A : Type 0} → IsTrue false → A
not_alone is = absurd (true≢false (sym is))

module _ {S : Type 0} (contents : S → Option Sectors) (script : Script) (section : List Op) (thread : ℕ) (disk : DiskData S) (old new : PassData S)
    (opened : IsOpenFor contents script disk) (way : IsWayFor script thread (facts_on contents disk old)) (laws : UnrefusedIsAccepted) (window : List ℕ) (taken bare : List Bio) (same : bare ≡ taken) (replies : List Reply)
    (submits : Submits (facts_on contents disk old) (facts_on contents disk new) bare replies) (all : AllZip (IsWindowBio script section) window taken) where
  pub submitted : UnitsHaveSizes → HoldsNameProgrammings → ProgrammingsStay → Pairs (λ first second. first < second) window → AllByRecursion (MayBePlugged script section) window
      → Submitted (device_on contents script thread disk old) (device_on contents script thread disk new) (numbered section window)
  submitted sizes names stays order may =
      let facts = facts_on contents disk old in let later = facts_on contents disk new in
      record {
        made = submits.adds.made;
        events = events_on submits.adds.holds;
        same = refl;
        spare = omega arith;
        grows = grows_are script section thread facts later way bare replies submits;
        alone = λ is. not_alone is;
        attempts = attempts_are script section thread facts later way bare replies submits window taken same order all (planned_are contents script section disk opened laws window taken all);
        ways = ways_are script thread facts submits.adds.made way submits.adds.ways;
        notes = notes_are script section thread facts later way bare replies submits;
        bounds = bounds_are script opened.rules laws sizes section window taken facts.targets facts.access.keys way.targets way.keys may all submits.adds.holds
            (subst (λ (bios : List Bio). AllZip (IsHoldOf facts.targets) (window_pieces facts.targets facts.access.keys bios) submits.adds.holds) same submits.adds.one_for_each);
        held = held_are script thread facts later way names stays submits.adds.made submits.adds.ways submits.adds.held submits.adds.rises;
        uses = λ is. not_alone is;
      }

  -- and each of its operations has its answer
  pub told : (answers : List (Option Outcome)) (before noted : List Reply) → before ≡ [] → noted ≡ before ++ replies → AreNoted answers window noted → AllByRecursion (λ reply. IsAnswer (answer_of_reply reply)) noted
      → AllByRecursion (Settled (device_on contents script thread disk new) section (answers_by answer_in answers)) window
  told answers before noted none is are fits =
      let these : noted ≡ replies = is ∙ ap (λ (l : List Reply). l ++ replies) none in
      settled contents script section thread disk old new opened way laws answers window taken replies all
      (subst (λ (bios : List Bio). AllZip (RepliesTo (facts_on contents disk old).access (facts_on contents disk new).access.seen) bios replies) same submits.replies)
      (subst (AreNoted answers window) these are) (subst (AllByRecursion (λ reply. IsAnswer (answer_of_reply reply))) these fits)
