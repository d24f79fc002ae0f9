-- What the submission of a window tells, by its operations: its entries are their attempted units, and its events the thread's.
use Rattle.std.proofs.Common.{◌≡◌, ◌∙◌, ℕ, zero, suc, ◌<◌, List, [], ◌∷◌, map, refl, sym, ap, subst, arith}
use Rattle.std.specs.Prelude.{flat_map}
use Rattle.std.specs.List.{AllByRecursion, AllZip}
use Rattle.std.proofs.lemmas.Option.{none-some, same_Some}
use Rattle.bc_base.specs.Lists.{At}
use Rattle.bc_bio.specs.declared.bio.Bio.{Bio}
use Rattle.bc_bio.specs.declared.reply.Reply.{Reply}
use Rattle.bc_bio.specs.PlannedUnit.{PlannedUnit}
use Rattle.bc_bio.specs.Requests.{tagged_of}
use Rattle.bc_bio.specs.Windows.{TaggedBio}
use Rattle.bc_medium.specs.Growth.{Attempts, Grows}
use Rattle.bc_queue.specs.Laws.{TagsDiffer}
use Rattle.bc_script.specs.declared.op.Op.{Op}
use Rattle.bc_script.specs.Script.{Script}
use Rattle.bc_script.specs.Plan.{units_of}
use Rattle.bc_compose.specs.OrderedHolds.{Notes, Pairs}
use Rattle.bc_section.specs.SectionProgress.{numbered}
use Rattle.bc_pieces.specs.Becoming.{planned_units}
use Rattle.bc_pieces.specs.Pieces.{DeviceFacts}
use Rattle.bc_pieces.specs.PieceEffects.{events_on}
use Rattle.bc_disk.specs.Submissions.{Submits}
use Rattle.bc_threads.proofs.Events.{notes_of_each}
use Rattle.bc_threads.proofs.Showing.{IsWayFor}
use Rattle.bc_threads.proofs.WindowBios.{IsWindowBio}

module _ (script : Script) (section : List Op) where
  later : (o : ℕ) (os : List ℕ) (taken : List Bio) → AllByRecursion (λ x. o < x) os → AllZip (IsWindowBio script section) os taken → (j : ℕ) (second : TaggedBio) → At (map tagged_of taken) j second → o < second.tag
  later o [] [] less all j second at' = absurd (none-some second at')
  later o [] (bio ∷ taken) less all j second at' = absurd all
  later o (x ∷ os) [] less all j second at' = absurd all
  later o (x ∷ os) (bio ∷ taken) less all zero second at' =
      let tag = ap (λ (t : TaggedBio). t.tag) (same_Some (tagged_of bio) second at') in let is = all.0.of.tag in let lt = less.0 in omega (arith, tag, is, lt)
  later o (x ∷ os) (bio ∷ taken) less all (suc j) second at' = later o os taken less.1 all.1 j second at'

  -- no two bios of a window have one tag
  pub tags_differ : (window : List ℕ) (taken : List Bio) → Pairs (λ first second. first < second) window → AllZip (IsWindowBio script section) window taken → TagsDiffer (map tagged_of taken)
  tags_differ [] [] order all i j first second at' at'' same = absurd (none-some first at')
  tags_differ [] (bio ∷ taken) order all i j first second at' at'' same = absurd all
  tags_differ (o ∷ os) [] order all i j first second at' at'' same = absurd all
  tags_differ (o ∷ os) (bio ∷ taken) order all zero zero first second at' at'' same = refl
  tags_differ (o ∷ os) (bio ∷ taken) order all zero (suc j) first second at' at'' same =
      let tag = ap (λ (t : TaggedBio). t.tag) (same_Some (tagged_of bio) first at') in let is = all.0.of.tag in let lt = later o os taken order.0 all.1 j second at'' in absurd (omega (arith, tag, is, lt, same))
  tags_differ (o ∷ os) (bio ∷ taken) order all (suc i) zero first second at' at'' same =
      let tag = ap (λ (t : TaggedBio). t.tag) (same_Some (tagged_of bio) second at'') in let is = all.0.of.tag in let lt = later o os taken order.0 all.1 i first at' in absurd (omega (arith, tag, is, lt, same))
  tags_differ (o ∷ os) (bio ∷ taken) order all (suc i) (suc j) first second at' at'' same = ap suc (tags_differ os taken order.1 all.1 i j first second at' at'' same)

  module _ (thread : ℕ) (old new : DeviceFacts) (way : IsWayFor script thread old) (bare : List Bio) (replies : List Reply) (submits : Submits old new bare replies) where
    pub attempts_are : (window : List ℕ) (taken : List Bio) → bare ≡ taken → Pairs (λ first second. first < second) window → AllZip (IsWindowBio script section) window taken
        → flat_map (planned_units old.access.keys) taken ≡ flat_map (units_of script) (numbered section window) → Attempts thread [] (flat_map (units_of script) (numbered section window)) submits.adds.made
    attempts_are window taken same order all units =
        subst (λ (us : List PlannedUnit). Attempts thread [] us submits.adds.made) (ap (λ (l : List Bio). flat_map (planned_units old.access.keys) l) same ∙ units)
        (subst (λ (caller : ℕ). Attempts caller [] (flat_map (planned_units old.access.keys) bare) submits.adds.made) way.caller
        (submits.attempts (subst (λ (l : List Bio). TagsDiffer (map tagged_of l)) (sym same) (tags_differ window taken order all))))

    pub grows_are : Grows old.access.shards thread old.access.seen new.access.seen submits.adds.made
    grows_are = subst (λ (caller : ℕ). Grows old.access.shards caller old.access.seen new.access.seen submits.adds.made) way.caller submits.adds.grows

    pub notes_are : Notes thread old.noted new.noted (events_on submits.adds.holds)
    notes_are = notes_of_each old.access.caller thread old.noted new.noted (events_on submits.adds.holds) way.caller submits.adds.notes
