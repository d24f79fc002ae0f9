-- A section can be carried out by the pass of its thread, where the disk was opened for its script.
use Rattle.std.proofs.Common.{◌≡◌, ℕ, zero, suc, ◌*◌, ◌<◌, List, [], ◌∷◌, length, refl, sym, ap, subst, ◌∙◌, arith}
use Rattle.std.specs.Prelude.{IsSome, replicate, slice_index_or}
use Rattle.std.specs.Option.{option_and_then, option_map_or}
use Rattle.std.proofs.lemmas.List.{length-map}
use Rattle.std.proofs.lemmas.List.FromFn.{get_or-map-range_with_len}
use Rattle.bc_base.specs.Lists.{At, list_at}
use Rattle.bc_base.specs.RamStores.{RamData}
use Rattle.bc_base.specs.Story.{own}
use Rattle.bc_medium.specs.Entries.{caller_of}
use Rattle.bc_medium.specs.Medium.{shards_of}
use Rattle.bc_profile.specs.Passes.{slots_in}
use Rattle.bc_profile.specs.Story.{author_of}
use Rattle.bc_script.specs.declared.op.Op.{Op}
use Rattle.bc_script.specs.Script.{Script}
use Rattle.bc_section.proofs.Lists.{at_exists, list_at_map}
use Rattle.bc_disk.specs.Disks.{DiskData, PassData}
use Rattle.bc_disk.specs.Openings.{quota_at}
use Rattle.bc_threads.specs.Jobs.{MayWork}
use Rattle.bc_threads.specs.Quotas.{event_row, event_rows, sections_of, unit_quota, unit_row, unit_rows}
use Rattle.bc_threads.specs.Runs.{IsOpenedFor, contents_told}
use Rattle.bc_threads.specs.SharedDevice.{IsOpenFor}
use Rattle.bc_threads.proofs.Asking.{entries_most, events_most}

at_list : (xs : List (List Op)) (t : ℕ) → t < length xs → At xs t (list_at xs t)
at_list [] t lt = absurd (omega arith)
at_list (x ∷ xs) zero lt = refl
at_list (x ∷ xs) (suc t) lt = at_list xs t (omega arith)

section_at : (threads : List (List Op)) (t : ℕ) → t < length threads → At (sections_of threads) t (list_at threads t)
section_at [] t lt = absurd (omega arith)
section_at (x ∷ xs) t lt = at_list (x ∷ xs) t lt

read_replicate : (n k place : ℕ) → place < n → slice_index_or (replicate n k) place 0 ≡ k
read_replicate zero k place lt = absurd (omega arith)
read_replicate (suc n) k zero lt = refl
read_replicate (suc n) k (suc place) lt = read_replicate n k place (omega arith)

pub unit_quota_at : (script : Script) (n t shard : ℕ) → t < length script.threads → shard < n → quota_at (unit_rows script n) t shard ≡ unit_quota script n shard (list_at script.threads t)
unit_quota_at script n t shard lt inside =
    ap (λ (row : List ℕ). slice_index_or row shard 0) (list_at_map (unit_row script n) (sections_of script.threads) t (list_at script.threads t) (section_at script.threads t lt))
    ∙ get_or-map-range_with_len (λ shard. unit_quota script n shard (list_at script.threads t)) 0 n shard shard 0 inside (omega arith)

pub event_quota_at : (script : Script) (t device : ℕ) → t < length script.threads → device < length script.targets → quota_at (event_rows script) t device ≡ 2 * length (list_at script.threads t)
event_quota_at script t device lt inside =
    ap (λ (row : List ℕ). slice_index_or row device 0) (list_at_map (event_row script) (sections_of script.threads) t (list_at script.threads t) (section_at script.threads t lt))
    ∙ read_replicate (length script.targets) (2 * length (list_at script.threads t)) device inside

module _ (script : Script) (image : List ℕ) (n : ℕ) (disk : DiskData RamData) (passes : List (PassData RamData)) (is : IsOpenedFor script image n disk passes) where
  pub shards_are : shards_of disk.queue.medium ≡ n
  shards_are = sym (length-map disk.queue.medium.turns.cells (λ cell. cell.base.store)) ∙ ap length is.opened.stores_are ∙ is.openings.count

  pub open_for : IsOpenFor contents_told script disk
  open_for = record {
    rules = is.rules;
    keys = is.opened.keys_are;
    targets = is.opened.targets_are;
    fallback = is.opened.fallback_is;
    blocks = is.opened.blocks_are;
    some_shards = let same = shards_are in let some = is.some in omega arith;
    tells = λ shard inside.
        let cell = at_exists disk.queue.medium.turns.cells shard inside in
        subst (λ o. IsSome (option_and_then (λ cell. contents_told cell.base.store) o)) (sym cell.1) refl;
    slots = λ pass device inside.
        let target = at_exists script.targets device inside in
        let controller = at_exists disk.queue.controllers device (let count = is.opened.one_for_each in let same = ap length is.opened.targets_are in omega arith) in
        ap (λ o. option_map_or (λ controller. slots_in controller.profile) o 0) controller.1
        ∙ is.opened.slots_are device target.0 target.1 controller.0 controller.1
        ∙ sym (ap (λ o. option_map_or (λ target. target.slots) o 0) target.1);
  }

  -- the section of a thread can be carried out by the thread's pass
  pub may_work : (t : ℕ) → t < length script.threads → (pass : PassData RamData) → At passes t pass → MayWork contents_told disk pass (record { script = script; thread = t })
  may_work t lt pass at =
      let new = is.opened.are_new t pass at in record {
        opened = open_for;
        pass_of = new.pass_of;
        caller = new.caller_is;
        new = record {
          no_entries = λ shard. ap (own caller_of t) (new.no_entries shard);
          no_events = λ device. ap (own author_of t) (new.no_events device);
        };
        room = record {
          entries = λ shard inside.
              let most = entries_most script (shards_of disk.queue.medium) shard 0 (list_at script.threads t) in
              let same = ap (λ m. unit_quota script m shard (list_at script.threads t)) shards_are in
              let left = new.entries_left shard inside in
              let quota = unit_quota_at script n t shard lt (let m = shards_are in omega arith) in
              omega arith;
          events = λ device inside.
              let most = events_most script device 0 (list_at script.threads t) in
              let left = new.events_left device (let same = ap length is.opened.targets_are in omega arith) in
              let quota = event_quota_at script t device lt inside in
              omega arith;
        };
      }
