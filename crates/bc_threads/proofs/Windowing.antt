-- What a window asks of the disk, and what its submission tells, part by part.
use Rattle.std.proofs.Common.{◌≡◌, ◌∙◌, ℕ, zero, suc, ◌+◌, ◌<◌, ◌≤◌, Bool, cond, List, [], ◌∷◌, ◌++◌, length, map, refl, sym, ap, subst, arith, Option, Some, None}
use Rattle.std.specs.Prelude.{◌==◌, filter, flat_map, IsSome, unwrap_or}
use Rattle.std.specs.List.{AllByRecursion, AllZip}
use Rattle.std.proofs.Math.Logic.{⊎_elim}
use Rattle.std.proofs.lemmas.Bool.{true≢false, ne_eqb, cases_lt}
use Rattle.bc_base.specs.Lists.{At, Each}
use Rattle.bc_base.specs.Sectors.{Sectors}
use Rattle.bc_key.specs.KeyData.{KeyData}
use Rattle.bc_bio.specs.declared.bio.Bio.{Bio}
use Rattle.bc_bio.specs.declared.reply.Reply.{Reply}
use Rattle.bc_bio.specs.Laws.{UnrefusedIsAccepted}
use Rattle.bc_bio.specs.PlannedUnit.{PlannedUnit}
use Rattle.bc_bio.specs.Requests.{tagged_bios, tagged_of, unmarked}
use Rattle.bc_bio.specs.Windows.{TaggedBio}
use Rattle.bc_medium.specs.declared.entry.Entry.{Entry}
use Rattle.bc_medium.specs.Medium.{shards_of}
use Rattle.bc_medium.specs.Layout.{shard_of}
use Rattle.bc_queue.specs.Plugs.{IsOfWindow, PlugParts, bios_in}
use Rattle.bc_queue.specs.Queues.{opening_of}
use Rattle.bc_queue.specs.RequestUnits.{count_units_on}
use Rattle.bc_script.specs.declared.op.Op.{Op}
use Rattle.bc_script.specs.Script.{Script, IsScript, IsScriptOp, keys_of}
use Rattle.bc_script.specs.Plan.{units_of}
use Rattle.bc_compose.specs.SectionDone.{SaysItsWay}
use Rattle.bc_section.specs.SectionProgress.{MayBePlugged, numbered}
use Rattle.bc_pieces.specs.Becoming.{OpensWith, planned_units}
use Rattle.bc_pieces.specs.Pieces.{DeviceFacts}
use Rattle.bc_disk.specs.Disks.{DiskData, PassData, facts_on, keys_in}
use Rattle.bc_disk.specs.Submissions.{AreTaken, GoesItsWay, HasEntriesFor, LeavesEntries, RepliesTo, Submits, bare_bios}
use Rattle.bc_threads.specs.Demand.{entries_asked}
use Rattle.bc_threads.specs.Plugging.{HasBioAt, IsPlugged}
use Rattle.bc_threads.specs.PreparedBios.{IsPrepared}
use Rattle.bc_threads.specs.SharedDevice.{IsOpenFor, base_on}
use Rattle.bc_threads.proofs.Affording.{entries_append}
use Rattle.bc_threads.proofs.Noting.{zip_length}
use Rattle.bc_threads.proofs.Showing.{IsWayFor}
use Rattle.bc_threads.proofs.Ways.{says_its_way}
use Rattle.bc_threads.proofs.WindowBios.{IsWindowBio, all_units_are, bios_there, is_placed, is_taken}
use Rattle.bc_base.proofs.Members.{all_of}

-- the bios of a window stand where they were prepared, and can be placed
pub window_there : (script : Script) (section : List Op) (bios : List (Option Bio)) (keys : List KeyData) → keys ≡ keys_of script → IsScript script → UnrefusedIsAccepted → AllByRecursion (IsScriptOp script) section
    → (window : List ℕ) (rest : List (ℕ × Op)) → AllByRecursion (MayBePlugged script section) window → AllByRecursion (IsPrepared script bios) (numbered section window ++ rest) → AllByRecursion (HasBioAt keys bios) window
window_there script section bios keys same rules laws ops window rest may prepared =
    subst (λ (k : List KeyData). AllByRecursion (HasBioAt k bios) window) (sym same)
    (all_of (λ o. (bio : Bio) × At bios o (Some bio) × IsWindowBio script section o bio) (HasBioAt (keys_of script) bios) window
    (λ o there. (there.0, there.1, is_placed script section rules laws o there.0 there.2)) (bios_there script section bios ops window rest may prepared))

-- ---- what is plugged

tagged_unmarked : (taken : List Bio) → tagged_bios (map unmarked taken) ≡ map tagged_of taken
tagged_unmarked [] = refl
tagged_unmarked (bio ∷ taken) = ap (λ (l : List TaggedBio). tagged_of bio ∷ l) (tagged_unmarked taken)

bare_unmarked : (taken : List Bio) → bare_bios (map unmarked taken) ≡ taken
bare_unmarked [] = refl
bare_unmarked (bio ∷ taken) = ap (λ (l : List Bio). bio ∷ l) (bare_unmarked taken)

module _ (keys : List KeyData) (bios : List (Option Bio)) (window : List ℕ) (plug : PlugParts) (is : IsPlugged keys bios window plug) where
  pub bare_are : bare_bios (bios_in plug.requests) ≡ is.taken
  bare_are = ap bare_bios is.plugged ∙ bare_unmarked is.taken

  pub window_is : (keys' : List KeyData) → keys ≡ keys' → IsOfWindow keys' plug.requests (tagged_bios (bios_in plug.requests))
  window_is keys' same =
      subst (λ (k : List KeyData). IsOfWindow k plug.requests (tagged_bios (bios_in plug.requests))) same
      (subst (IsOfWindow keys plug.requests) (sym (ap tagged_bios is.plugged ∙ tagged_unmarked is.taken)) is.window_is)

module _ {S : Type 0} (contents : S → Option Sectors) (script : Script) (section : List Op) (disk : DiskData S) (opened : IsOpenFor contents script disk) (laws : UnrefusedIsAccepted) where
  pub all_taken : (window : List ℕ) (taken : List Bio) → AllZip (IsWindowBio script section) window taken → AreTaken disk (map unmarked taken)
  all_taken [] [] all = tt
  all_taken [] (bio ∷ taken) all = absurd all
  all_taken (o ∷ os) [] all = absurd all
  all_taken (o ∷ os) (bio ∷ taken) all = ((refl, is_taken script section opened.rules laws contents disk opened o bio all.0), all_taken os taken all.1)

  -- the units of its bios are those of its operations
  pub planned_are : (window : List ℕ) (taken : List Bio) → AllZip (IsWindowBio script section) window taken → flat_map (planned_units (keys_in disk)) taken ≡ flat_map (units_of script) (numbered section window)
  planned_are window taken all =
      ap (λ (keys : List KeyData). flat_map (planned_units keys) taken) opened.keys ∙ all_units_are script section opened.rules laws window taken all

  -- none of them lies in a shard that isn't there
  none_past : (shard : ℕ) → shards_of disk.queue.medium ≤ shard → (us : List PlannedUnit) → count_units_on (shards_of disk.queue.medium) shard us ≡ 0
  none_past shard past us = ap (λ (l : List PlannedUnit). length l) (none us)
    where
      below : (n m : ℕ) → 1 ≤ m → shard_of m n < m
      below n m some = omega (arith, some)

      none : (us : List PlannedUnit) → filter (λ u. shard_of (shards_of disk.queue.medium) u.sector == shard) us ≡ []
      none [] = refl
      none (u ∷ us) =
          ap (λ (b : Bool). cond {A = List PlannedUnit} b (u ∷ filter (λ u. shard_of (shards_of disk.queue.medium) u.sector == shard) us) (filter (λ u. shard_of (shards_of disk.queue.medium) u.sector == shard) us))
          (ne_eqb (shard_of (shards_of disk.queue.medium) u.sector) shard (λ e. let lt = below u.sector (shards_of disk.queue.medium) opened.some_shards in omega (arith, e, lt, past)))
          ∙ none us

  pub has_entries : (pass : PassData S) (window : List ℕ) (taken : List Bio) (rest : List (ℕ × Op)) → AllZip (IsWindowBio script section) window taken
      → ((shard : ℕ) → shard < shards_of disk.queue.medium → entries_asked script (shards_of disk.queue.medium) (numbered section window ++ rest) shard ≤ (facts_on contents disk pass).access.spare shard)
      → HasEntriesFor (facts_on contents disk pass) taken
  has_entries pass window taken rest all room shard = ⊎_elim
      (λ (within : shard < shards_of disk.queue.medium).
      let split = entries_append script (shards_of disk.queue.medium) shard (numbered section window) rest in let had = room shard within in
      let same = ap (count_units_on (shards_of disk.queue.medium) shard) (planned_are window taken all) in omega (arith, split, had, same))
      (λ (past : shards_of disk.queue.medium ≤ shard). let none = none_past shard past (flat_map (planned_units (keys_in disk)) taken) in omega (arith, none))
      (cases_lt shard (shards_of disk.queue.medium))

  -- no more entries are used than its operations ask
  pub leaves : (old new : PassData S) (window : List ℕ) (taken bare : List Bio) → bare ≡ taken → AllZip (IsWindowBio script section) window taken → LeavesEntries (facts_on contents disk old) (facts_on contents disk new) bare
      → (shard : ℕ) → (facts_on contents disk old).access.spare shard ≤ (facts_on contents disk new).access.spare shard + entries_asked script (shards_of disk.queue.medium) (numbered section window) shard
  leaves old new window taken bare same all le shard =
      let used = le shard in
      let units = ap (count_units_on (shards_of disk.queue.medium) shard) (ap (λ (l : List Bio). flat_map (planned_units (keys_in disk)) l) same ∙ planned_are window taken all) in omega (arith, used, units)

  -- the sectors at the opening are reported
  pub opens_with : (pass : PassData S) → OpensWith (facts_on contents disk pass).access (base_on contents disk)
  opens_with pass sector = told (opening_of contents disk.queue.medium (shard_of (shards_of disk.queue.medium) sector)) (opened.tells (shard_of (shards_of disk.queue.medium) sector) (below sector (shards_of disk.queue.medium) opened.some_shards))
    where
      below : (n m : ℕ) → 1 ≤ m → shard_of m n < m
      below n m some = omega (arith, some)

      told : (o : Option Sectors) → IsSome o → o ≡ Some (unwrap_or o (λ sector. []))
      told None is = absurd (true≢false (sym is))
      told (Some sectors) is = refl

-- each operation of a window stands in the section
pub all_within : (script : Script) (section : List Op) (n : ℕ) → n ≡ length section → (window : List ℕ) → AllByRecursion (MayBePlugged script section) window → AllByRecursion (λ o. o < n) window
all_within script section n same window may = all_of (MayBePlugged script section) (λ o. o < n) window (λ o m. let lt = within section o m in omega (arith, lt, same)) may
  where
    within : (section : List Op) (o : ℕ) → MayBePlugged script section o → o < length section
    within [] o may = absurd may
    within (x ∷ xs) zero may = omega arith
    within (x ∷ xs) (suc o) may = let r = within xs o may in omega (arith, r)

-- as many replies as operations
pub many_replies : (old new : DeviceFacts) (bios : List (Option Bio)) (window : List ℕ) (taken : List Bio) (bare : List Bio) (replies before all : List Reply) → AllZip (λ o bio. At bios o (Some bio)) window taken → bare ≡ taken
    → Submits old new bare replies → before ≡ [] → all ≡ before ++ replies → length all ≡ length window
many_replies old new bios window taken bare replies before all each same submits none is =
    ap (λ (l : List Reply). length l) (is ∙ ap (λ (l : List Reply). l ++ replies) none)
    ∙ sym (zip_length (RepliesTo old.access new.access.seen) bare replies submits.replies)
    ∙ ap (λ (l : List Bio). length l) same ∙ sym (zip_length (λ o bio. At bios o (Some bio)) window taken each)

-- the entries go the ways of the script
pub ways_are : (script : Script) (thread : ℕ) (facts : DeviceFacts) (made : List Entry) → IsWayFor script thread facts → Each (GoesItsWay facts.targets facts.access.keys) made → Each (SaysItsWay script) made
ways_are script thread facts made way all = all_of (GoesItsWay facts.targets facts.access.keys) (SaysItsWay script) made (says_its_way facts.targets facts.access.keys script way.targets way.keys) all
