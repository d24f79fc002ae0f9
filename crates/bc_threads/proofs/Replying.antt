-- What a thread's bio is answered is what the thread knows of its units.
use Rattle.std.proofs.Common.{◌≡◌, ◌∙◌, ℕ, List, [], ◌∷◌, ◌++◌, map, refl, sym, ap, subst, Option, Some, None}
use Rattle.std.specs.Prelude.{flat_map, MatchOption}
use Rattle.std.specs.Option.{option_map_or}
use Rattle.bc_base.specs.Sectors.{Sectors}
use Rattle.bc_key.specs.KeyData.{KeyData}
use Rattle.bc_bio.specs.declared.access.Access.{Access}
use Rattle.bc_bio.specs.declared.access.Access.TheVariants.{Read, Write}
use Rattle.bc_bio.specs.declared.bio.Bio.{Bio}
use Rattle.bc_bio.specs.declared.extent.Extent.{Extent}
use Rattle.bc_bio.specs.declared.marked_bio.MarkedBio.{MarkedBio}
use Rattle.bc_bio.specs.declared.refusal.Refusal.{Refusal}
use Rattle.bc_bio.specs.declared.reply.Reply.{Reply}
use Rattle.bc_bio.specs.declared.reply.Reply.TheVariants as replies
use Rattle.bc_bio.specs.declared.unit.Unit.TheVariants.{Full}
use Rattle.bc_bio.specs.BioUnits.{extent_of}
use Rattle.bc_bio.specs.PlannedUnit.{PlannedUnit}
use Rattle.bc_bio.specs.Requests.{reply_of, unmarked}
use Rattle.bc_bio.specs.Windows.{TaggedBio}
use Rattle.bc_medium.specs.declared.entry.Entry.{Entry}
use Rattle.bc_medium.specs.Growth.{Knows}
use Rattle.bc_medium.specs.KeyedDisk.{UnitAnswer, Faulted, Written, Text}
use Rattle.bc_medium.specs.Outcome.{BioAnswer, Wrote, Bytes, Fault}
use Rattle.bc_script.specs.declared.op.Op.{Op}
use Rattle.bc_script.specs.Script.{Script, keys_of}
use Rattle.bc_script.specs.Bios.{bio_of, refusal_of}
use Rattle.bc_script.specs.Plan.{units_of}
use Rattle.bc_report.specs.declared.answer.Answer.{Answer}
use Rattle.bc_report.specs.declared.answer.Answer.TheVariants as answers
use Rattle.bc_report.specs.Answers.{answer_of_outcome, read_answer, IsOwnWord}
use Rattle.bc_compose.specs.SectionDone.{IsBioAnswer, IsReply}
use Rattle.bc_section.proofs.Lists.{zip_more}
use Rattle.bc_queue.specs.Carrying.{AccessFacts}
use Rattle.bc_pieces.specs.Becoming.{Becomes, KnowsDone, KnowsFault, KnowsUnit, OpensWith, planned_in, planned_units}
use Rattle.bc_disk.specs.Submissions.{RepliesTo}
use Rattle.bc_threads.specs.Outcomes.{answer_of_reply, bytes_of_unit, done_answer}
use Rattle.bc_base.proofs.Members.{all_of}

bytes_of_texts : (texts : List (List ℕ)) → flat_map bytes_of_unit (map (λ text. Full text) texts) ≡ flat_map (λ text. text) texts
bytes_of_texts [] = refl
bytes_of_texts (text ∷ texts) = ap (λ (l : List ℕ). text ++ l) (bytes_of_texts texts)

module _ (script : Script) (base : ℕ → Sectors) (thread : ℕ) (facts : AccessFacts) (seen : List (List Entry)) (same_keys : facts.keys ≡ keys_of script) (same_caller : facts.caller ≡ thread) where
  knows : (u : PlannedUnit) (answer : UnitAnswer) → KnowsUnit facts seen base u answer → Knows (keys_of script) facts.shards base thread seen u answer
  knows u answer is =
      subst (λ (keys : List KeyData). Knows keys facts.shards base thread seen u answer) same_keys
      (subst (λ (caller : ℕ). Knows facts.keys facts.shards base caller seen u answer) same_caller is)

  abbrev IsOutcome : Access → List PlannedUnit → Answer → Type 0
  IsOutcome access units answer = (outcome : BioAnswer) × IsBioAnswer script facts.shards base thread seen access units outcome × (answer ≡ answer_of_outcome outcome)

  done : (access : Access) (old new : Bio) → KnowsDone facts seen base old new access → IsOutcome access (planned_units facts.keys old) (done_answer access new)
  done Write old new is = (Wrote, (refl, all_of (λ u. KnowsUnit facts seen base u Written) (λ u. Knows (keys_of script) facts.shards base thread seen u Written) (planned_units facts.keys old) (λ u k. knows u Written k) is), refl)
  done Read old new is = (
    Bytes (flat_map (λ text. text) is.0),
    (refl, is.0, zip_more (λ u text. KnowsUnit facts seen base u (Text text)) (λ u text. Knows (keys_of script) facts.shards base thread seen u (Text text)) (planned_units facts.keys old) is.0 (λ u text k. knows u (Text text) k) is.1, refl),
    ap read_answer (ap (flat_map bytes_of_unit) is.2 ∙ bytes_of_texts is.0),
  )

  fault : (access : Access) (old : Bio) (unit : ℕ) → KnowsFault facts seen base old unit → IsOutcome access (planned_units facts.keys old) (answers.Fault unit)
  fault access old unit is = (Fault unit, (unit, planned_in facts.keys old unit, is.0, refl, knows (planned_in facts.keys old unit) Faulted is.1), refl)

  replied : (bio : Bio) (after : MarkedBio) → OpensWith facts base → Becomes facts seen (unmarked bio) after → IsOutcome bio.access (planned_units facts.keys bio) (answer_of_reply (reply_of after))
  replied bio after opens becomes = go after.fault refl
    where
      same_access : after.bio.access ≡ bio.access
      same_access = ap (λ (t : TaggedBio). t.bio.access) becomes.same

      go : (f : Option ℕ) → after.fault ≡ f → IsOutcome bio.access (planned_units facts.keys bio) (answer_of_reply (reply_of after))
      go None is =
          subst (λ (f : Option ℕ). IsOutcome bio.access (planned_units facts.keys bio) (answer_of_reply (option_map_or (λ unit. replies.Fault unit after.bio) f (replies.Done after.bio)))) (sym is)
          (subst (λ (a : Access). IsOutcome bio.access (planned_units facts.keys bio) (done_answer a after.bio)) (sym same_access)
          (done bio.access bio after.bio (subst (λ (f : Option ℕ). MatchOption f (KnowsDone facts seen base bio after.bio bio.access) (KnowsFault facts seen base bio)) is (becomes.known base opens))))
      go (Some unit) is =
          subst (λ (f : Option ℕ). IsOutcome bio.access (planned_units facts.keys bio) (answer_of_reply (option_map_or (λ unit. replies.Fault unit after.bio) f (replies.Done after.bio)))) (sym is)
          (fault bio.access bio unit (subst (λ (f : Option ℕ). MatchOption f (KnowsDone facts seen base bio after.bio bio.access) (KnowsFault facts seen base bio)) is (becomes.known base opens)))

  -- the reply to an accepted bio, by its operation
  pub is_reply : (o : ℕ) (operation : Op) (bio : Bio) (reply : Reply) → bio_of operation ≡ Some (extent_of bio) → refusal_of script (extent_of bio) ≡ None → planned_units facts.keys bio ≡ units_of script (o, operation)
      → OpensWith facts base → RepliesTo facts seen bio reply → IsReply script facts.shards base thread seen (o, operation) (answer_of_reply reply)
  is_reply o operation bio reply extent accepted units opens told =
      subst (λ (e : Option Extent). MatchOption e (IsOwnWord operation (answer_of_reply reply)) (λ bio. MatchOption (refusal_of script bio) (IsOutcome bio.access (units_of script (o, operation)) (answer_of_reply reply)) (λ refusal. answer_of_reply reply ≡ answers.Refused refusal))) (sym extent)
      (subst (λ (r : Option Refusal). MatchOption r (IsOutcome bio.access (units_of script (o, operation)) (answer_of_reply reply)) (λ refusal. answer_of_reply reply ≡ answers.Refused refusal)) (sym accepted)
      (subst (λ (us : List PlannedUnit). IsOutcome bio.access us (answer_of_reply reply)) units
      (subst (λ (r : Reply). IsOutcome bio.access (planned_units facts.keys bio) (answer_of_reply r)) (sym told.2) (replied bio told.0 opens told.1))))
