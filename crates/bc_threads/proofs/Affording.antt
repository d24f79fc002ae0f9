-- What a thread can still carry out on a disk, after some of its operations.
use Rattle.std.proofs.Common.{◌≡◌, ℕ, ◌+◌, ◌<◌, ◌≤◌, Bool, false, List, [], ◌∷◌, ◌++◌, length, refl, sym, ap, ◌∙◌, arith, Option, Some, None}
use Rattle.std.specs.Prelude.{◌==◌, ◌||◌, filter, flat_map, slice_get, IsSomeAnd, MatchOption, ⊤}
use Rattle.std.specs.List.{AllByRecursion, list_any}
use Rattle.std.specs.Option.{option_map_or}
use Rattle.std.proofs.lemmas.Bool.{ne_eqb}
use Rattle.std.proofs.lemmas.List.{length-append}
use Rattle.std.proofs.lemmas.List.Concat.{flat_map-append}
use Rattle.std.proofs.lemmas.List.Elements.{filter-append}
use Rattle.std.proofs.lemmas.List.Sums.{sum_by-append}
use Rattle.bc_base.specs.Lists.{At}
use Rattle.bc_base.specs.Sectors.{Sectors}
use Rattle.bc_bio.specs.declared.bio.Bio.{Bio}
use Rattle.bc_bio.specs.declared.extent.Extent.{Extent}
use Rattle.bc_bio.specs.declared.reply.Reply.{Reply}
use Rattle.bc_bio.specs.PlannedUnit.{PlannedUnit}
use Rattle.bc_medium.specs.Medium.{shards_of}
use Rattle.bc_medium.specs.Layout.{shard_of}
use Rattle.bc_queue.specs.RequestUnits.{count_units_on}
use Rattle.bc_queue.specs.Plugs.{PlugParts, no_bios}
use Rattle.bc_script.specs.declared.op.Op.{Op}
use Rattle.bc_script.specs.Script.{Script}
use Rattle.bc_script.specs.Bios.{bio_of}
use Rattle.bc_script.specs.Plan.{units_of}
use Rattle.bc_compose.specs.OrderedHolds.{Pairs}
use Rattle.bc_section.specs.SectionProgress.{IsAcceptedBio, MayBePlugged, numbered}
use Rattle.bc_disk.specs.Disks.{DiskData, IsPassOf, PassData, events_left, facts_on}
use Rattle.bc_threads.specs.Demand.{entries_asked, events_asked, events_of_one}
use Rattle.bc_threads.specs.PreparedBios.{IsBioOf, IsPrepared}
use Rattle.bc_threads.specs.Plugging.{SameBeside}
use Rattle.bc_threads.specs.SharedDevice.{CanCarryOut}

each_after : {A : Type 0} (P : A → Type 0) (xs ys : List A) → AllByRecursion P (xs ++ ys) → AllByRecursion P ys
each_after P [] ys all = all
each_after P (x ∷ xs) ys all = each_after P xs ys all.1

each_drop : {A : Type 0} (P : A → Type 0) (xs : List A) (x : A) (ys : List A) → AllByRecursion P (xs ++ x ∷ ys) → AllByRecursion P (xs ++ ys)
each_drop P [] x ys all = all.1
each_drop P (z ∷ xs) x ys all = (all.0, each_drop P xs x ys all.1)

pub each_there : {A : Type 0} (P : A → Type 0) (xs : List A) (x : A) (ys : List A) → AllByRecursion P (xs ++ x ∷ ys) → P x
each_there P [] x ys all = all.0
each_there P (z ∷ xs) x ys all = each_there P xs x ys all.1

pairs_after : {A : Type 0} (R : A → A → Type 0) (xs ys : List A) → Pairs R (xs ++ ys) → Pairs R ys
pairs_after R [] ys all = all
pairs_after R (x ∷ xs) ys all = pairs_after R xs ys all.1

pairs_drop : {A : Type 0} (R : A → A → Type 0) (xs : List A) (x : A) (ys : List A) → Pairs R (xs ++ x ∷ ys) → Pairs R (xs ++ ys)
pairs_drop R [] x ys all = all.1
pairs_drop R (z ∷ xs) x ys all = (each_drop (R z) xs x ys all.0, pairs_drop R xs x ys all.1)

module _ (script : Script) (shards : ℕ) where
  pub units_append : (shard : ℕ) (us vs : List PlannedUnit) → count_units_on shards shard (us ++ vs) ≡ count_units_on shards shard us + count_units_on shards shard vs
  units_append shard us vs =
      ap (λ (l : List PlannedUnit). length l) (filter-append (λ u. shard_of shards u.sector == shard) us vs)
      ∙ length-append (filter (λ u. shard_of shards u.sector == shard) us) (filter (λ u. shard_of shards u.sector == shard) vs)

  pub entries_append : (shard : ℕ) (acts after : List (ℕ × Op)) → entries_asked script shards (acts ++ after) shard ≡ entries_asked script shards acts shard + entries_asked script shards after shard
  entries_append shard acts after =
      ap (count_units_on shards shard) (flat_map-append (units_of script) acts after) ∙ units_append shard (flat_map (units_of script) acts) (flat_map (units_of script) after)

pub events_append : (script : Script) (device : ℕ) (acts after : List (ℕ × Op)) → events_asked script (acts ++ after) device ≡ events_asked script acts device + events_asked script after device
events_append script device acts after = sum_by-append (events_of_one script device) acts after

pub asked_within : (script : Script) (device n : ℕ) (section : List Op) (window : List ℕ) (rest : List (ℕ × Op)) {m : ℕ} → m ≤ events_asked script (numbered section window) device → events_asked script (numbered section window ++ rest) device ≤ n → m ≤ n
asked_within script device n section window rest le all = let split = events_append script device (numbered section window) rest in omega (arith, le, all, split)

-- what was prepared stays so where its place is the same
pub prepared_same : (script : Script) (bios bios' : List (Option Bio)) (act : ℕ × Op) → slice_get bios' act.0 ≡ slice_get bios act.0 → IsPrepared script bios act → IsPrepared script bios' act
prepared_same script bios bios' act same is =
    (elim (bio_of act.1) as (λ (o : Option Extent). MatchOption o ⊤ (λ extent. (bio : Bio) × At bios act.0 (Some bio) × IsBioOf script act.0 act.1 bio) → MatchOption o ⊤ (λ extent. (bio : Bio) × At bios' act.0 (Some bio) × IsBioOf script act.0 act.1 bio)) [
      | None ↦ λ h. tt
      | Some extent ↦ λ h. (h.0, same ∙ h.1, h.2)
    ]) is

prepared_without : (script : Script) (bios bios' : List (Option Bio)) (before : List (ℕ × Op)) (x : ℕ × Op) (after : List (ℕ × Op)) → ((o : ℕ) → (x.0 ≡ o → ⊥) → slice_get bios' o ≡ slice_get bios o)
    → Pairs (λ first second. first.0 < second.0) (before ++ x ∷ after) → AllByRecursion (IsPrepared script bios) (before ++ x ∷ after) → AllByRecursion (IsPrepared script bios') (before ++ after)
prepared_without script bios bios' [] x after same order all = go after order.0 all.1
  where
    go : (after : List (ℕ × Op)) → AllByRecursion (λ (second : ℕ × Op). x.0 < second.0) after → AllByRecursion (IsPrepared script bios) after → AllByRecursion (IsPrepared script bios') after
    go [] order all = tt
    go (y ∷ ys) order all = (prepared_same script bios bios' y (same y.0 (λ e. let lt = order.0 in omega (arith, e, lt))) all.0, go ys order.1 all.1)
prepared_without script bios bios' (b ∷ before) x after same order all =
    let lt = each_there (λ (second : ℕ × Op). b.0 < second.0) before x after order.0 in
    (prepared_same script bios bios' b (same b.0 (λ e. omega (arith, e, lt))) all.0, prepared_without script bios bios' before x after same order.1 all.1)

module _ {S : Type 0} (contents : S → Option Sectors) (script : Script) (thread : ℕ) (disk : DiskData S) (plug : PlugParts) (replies : List Reply) (room : ℕ) where
  -- operations were acted on, and no more was used than they ask
  pub after_acts : (old new : PassData S) (bios bios' : List (Option Bio)) (acts after : List (ℕ × Op)) → CanCarryOut contents script thread disk old bios plug replies room (acts ++ after)
      → IsPassOf disk new → new.units.caller ≡ old.units.caller
      → ((shard : ℕ) → (facts_on contents disk old).access.spare shard ≤ (facts_on contents disk new).access.spare shard + entries_asked script (shards_of disk.queue.medium) acts shard)
      → ((device : ℕ) → device < length script.targets → events_left disk old device ≤ events_left disk new device + events_asked script acts device)
      → AllByRecursion (IsPrepared script bios') after → CanCarryOut contents script thread disk new bios' plug replies room after
  after_acts old new bios bios' acts after can pass_of caller entries events prepared = record {
    opened = can.opened;
    pass_of = pass_of;
    thread_is = sym pass_of.pass.number ∙ caller ∙ can.pass_of.pass.number ∙ can.thread_is;
    plug_is_empty = can.plug_is_empty;
    no_replies = can.no_replies;
    room_for_replies = can.room_for_replies;
    ascend = pairs_after (λ first second. first.0 < second.0) acts after can.ascend;
    prepared = prepared;
    room_for = record {
      entries = λ shard within.
          let split = entries_append script (shards_of disk.queue.medium) shard acts after in let had = can.room_for.entries shard within in let used = entries shard in omega (arith, split, had, used);
      events = λ device within.
          let split = events_append script device acts after in let had = can.room_for.events device within in let used = events device within in omega (arith, split, had, used);
    };
  }

  pub prepared_after : (pass : PassData S) (bios : List (Option Bio)) (acts after : List (ℕ × Op)) → CanCarryOut contents script thread disk pass bios plug replies room (acts ++ after) → AllByRecursion (IsPrepared script bios) after
  prepared_after pass bios acts after can = each_after (IsPrepared script bios) acts after can.prepared

  -- an operation is passed over, and its bio taken
  pub without_one : (pass : PassData S) (bios bios' : List (Option Bio)) (before : List (ℕ × Op)) (x : ℕ × Op) (after : List (ℕ × Op)) → CanCarryOut contents script thread disk pass bios plug replies room (before ++ x ∷ after)
      → ((o : ℕ) → (x.0 ≡ o → ⊥) → slice_get bios' o ≡ slice_get bios o) → CanCarryOut contents script thread disk pass bios' plug replies room (before ++ after)
  without_one pass bios bios' before x after can same = record {
    opened = can.opened;
    pass_of = can.pass_of;
    thread_is = can.thread_is;
    plug_is_empty = can.plug_is_empty;
    no_replies = can.no_replies;
    room_for_replies = can.room_for_replies;
    ascend = pairs_drop (λ first second. first.0 < second.0) before x after can.ascend;
    prepared = prepared_without script bios bios' before x after same can.ascend can.prepared;
    room_for = record {
      entries = λ shard within.
          let shards = shards_of disk.queue.medium in
          let a = entries_append script shards shard before (x ∷ after) in let b = entries_append script shards shard before after in
          let c = entries_append script shards shard (x ∷ []) after in let had = can.room_for.entries shard within in omega (arith, a, b, c, had);
      events = λ device within.
          let a = events_append script device before (x ∷ after) in let b = events_append script device before after in
          let c = events_append script device (x ∷ []) after in let had = can.room_for.events device within in omega (arith, a, b, c, had);
    };
  }

-- what a thread can carry out, where its plug and its list of replies are as empty as before
pub with_room : {S : Type 0} (contents : S → Option Sectors) (script : Script) (thread : ℕ) (disk : DiskData S) (pass : PassData S) (bios : List (Option Bio)) (plug plug' : PlugParts) (replies replies' : List Reply) (room room' : ℕ) (operations : List (ℕ × Op))
    → CanCarryOut contents script thread disk pass bios plug replies room operations → plug' ≡ no_bios → replies' ≡ [] → room' ≡ room → CanCarryOut contents script thread disk pass bios plug' replies' room' operations
with_room contents script thread disk pass bios plug plug' replies replies' room room' operations can no_plug no_replies same = record {
  opened = can.opened;
  pass_of = can.pass_of;
  thread_is = can.thread_is;
  plug_is_empty = no_plug;
  no_replies = no_replies;
  room_for_replies = let had = can.room_for_replies in omega (arith, had, same);
  ascend = can.ascend;
  prepared = can.prepared;
  room_for = can.room_for;
}

-- what is prepared after a window stays so, where only bios of the window were taken
pub prepared_behind : (script : Script) (section : List Op) (bios bios' : List (Option Bio)) (window : List ℕ) (after : List (ℕ × Op)) → AllByRecursion (MayBePlugged script section) window
    → Pairs (λ first second. first.0 < second.0) (numbered section window ++ after) → AllByRecursion (IsPrepared script bios) (numbered section window ++ after) → SameBeside window bios bios' → AllByRecursion (IsPrepared script bios') after
prepared_behind script section bios bios' window after may order prepared same = go after (behind window may order) (each_after (IsPrepared script bios) (numbered section window) after prepared)
  where
    -- none of these is one of the window's
    behind : (window : List ℕ) → AllByRecursion (MayBePlugged script section) window → Pairs (λ first second. first.0 < second.0) (numbered section window ++ after) → AllByRecursion (λ (act : ℕ × Op). list_any (λ w. w == act.0) window ≡ false) after
    behind [] may order = each_true after
      where
        each_true : (after : List (ℕ × Op)) → AllByRecursion (λ (act : ℕ × Op). false ≡ false) after
        each_true [] = tt
        each_true (x ∷ xs) = (refl, each_true xs)
    behind (o ∷ os) may order = of_op (slice_get section o) may.0 order (λ later. behind os may.1 later)
      where
        both : (after : List (ℕ × Op)) → AllByRecursion (λ (act : ℕ × Op). o < act.0) after → AllByRecursion (λ (act : ℕ × Op). list_any (λ w. w == act.0) os ≡ false) after → AllByRecursion (λ (act : ℕ × Op). list_any (λ w. w == act.0) (o ∷ os) ≡ false) after
        both [] less none = tt
        both (x ∷ xs) less none = (ap (λ (b : Bool). b || list_any (λ w. w == x.0) os) (ne_eqb o x.0 (λ e. let lt = less.0 in omega (arith, e, lt))) ∙ none.0, both xs less.1 none.1)

        of_op : (p : Option Op) → IsSomeAnd p (IsAcceptedBio script) → Pairs (λ first second. first.0 < second.0) (option_map_or (λ operation. (o, operation) ∷ numbered section os) p (numbered section os) ++ after)
            → (Pairs (λ first second. first.0 < second.0) (numbered section os ++ after) → AllByRecursion (λ (act : ℕ × Op). list_any (λ w. w == act.0) os ≡ false) after) → AllByRecursion (λ (act : ℕ × Op). list_any (λ w. w == act.0) (o ∷ os) ≡ false) after
        of_op None is order rest = absurd is
        of_op (Some operation) is order rest = both after (each_after (λ (act : ℕ × Op). o < act.0) (numbered section os) after order.0) (rest order.1)

    go : (after : List (ℕ × Op)) → AllByRecursion (λ (act : ℕ × Op). list_any (λ w. w == act.0) window ≡ false) after → AllByRecursion (IsPrepared script bios) after → AllByRecursion (IsPrepared script bios') after
    go [] none all = tt
    go (x ∷ xs) none all = (prepared_same script bios bios' x (same x.0 none.0) all.0, go xs none.1 all.1)
