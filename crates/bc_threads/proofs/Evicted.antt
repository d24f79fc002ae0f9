-- An eviction and a reset by a thread that shares a disk, over what the disk's calls tell.
use Rattle.std.proofs.Common.{◌≡◌, ℕ, ◌+◌, ◌≤◌, Bool, true, false, cond, List, [], ◌∷◌, refl, sym, ap, subst, ◌∙◌, arith, Option, None}
use Rattle.std.proofs.lemmas.List.Sums.{sum_by-cons}
use Rattle.bc_base.specs.Sectors.{Sectors}
use Rattle.bc_key.specs.declared.keys.KeyNo.{KeyNo}
use Rattle.bc_bio.specs.declared.bio.Bio.{Bio}
use Rattle.bc_bio.specs.declared.reply.Reply.{Reply}
use Rattle.bc_queue.specs.Plugs.{PlugParts}
use Rattle.bc_script.specs.declared.op.Op.{Op}
use Rattle.bc_script.specs.declared.op.Op.TheVariants as ops
use Rattle.bc_script.specs.Script.{Script}
use Rattle.bc_script.specs.Bios.{is_inline}
use Rattle.bc_report.specs.declared.answer.Answer.{Answer}
use Rattle.bc_section.specs.SectionProgress.{Evicted, HasReset}
use Rattle.bc_disk.specs.declared.eviction.Busy.{Busy}
use Rattle.bc_disk.specs.Disks.{DiskData, IsPassOf, PassData, events_left, facts_on, goes_inline, keys_in}
use Rattle.bc_disk.specs.Evictions.{AsksEach, Resets, asks}
use Rattle.bc_threads.specs.Demand.{events_of_one}
use Rattle.bc_threads.specs.SharedDevice.{CanCarryOut, base_on, device_on}
use Rattle.bc_threads.proofs.Affording.{after_acts, prepared_after}
use Rattle.bc_threads.proofs.Evicting.{answer_by, evicted_inline, evicted_soft, has_reset}
use Rattle.bc_threads.proofs.Showing.{IsWayFor, inline_of_script}

module _ {S : Type 0} (contents : S → Option Sectors) (script : Script) (thread : ℕ) (disk : DiskData S) (old new : PassData S)
    (bios : List (Option Bio)) (plug : PlugParts) (replies : List Reply) (room : ℕ) (operations : List (ℕ × Op))
    (can : CanCarryOut contents script thread disk old bios plug replies room operations) where
  pub way : IsWayFor script thread (facts_on contents disk old)
  way = record {
    keys = can.opened.keys;
    targets = can.opened.targets;
    caller = can.pass_of.pass.number ∙ can.thread_is;
    slots = λ device within. can.opened.slots old device within;
  }

  module _ (op : ℕ) (key : KeyNo) (refused : Option Busy)
      (asked : goes_inline disk.targets (keys_in disk) key ≡ true → AsksEach (facts_on contents disk old) (facts_on contents disk new) key.0 refused)
      (soft : goes_inline disk.targets (keys_in disk) key ≡ false → (refused ≡ None) × (new ≡ old)) where
    same_inline : goes_inline disk.targets (keys_in disk) key ≡ is_inline script key
    same_inline = inline_of_script disk.targets (keys_in disk) script key can.opened.targets can.opened.keys

    pub evicted : (answer : Answer) → answer ≡ answer_by refused → Evicted (device_on contents script thread disk old) (device_on contents script thread disk new) op key answer
    evicted answer is = subst (λ (a : Answer). Evicted (device_on contents script thread disk old) (device_on contents script thread disk new) op key a) (sym is) (by_way (goes_inline disk.targets (keys_in disk) key) refl)
      where
        by_way : (b : Bool) → goes_inline disk.targets (keys_in disk) key ≡ b → Evicted (device_on contents script thread disk old) (device_on contents script thread disk new) op key (answer_by refused)
        by_way true goes = evicted_inline script thread (base_on contents disk) (facts_on contents disk old) (facts_on contents disk new) way op key refused (asked goes) (sym same_inline ∙ goes)
        by_way false not_ =
            let s = soft not_ in
            subst (λ (p : PassData S). Evicted (device_on contents script thread disk old) (device_on contents script thread disk p) op key (answer_by refused)) (sym s.1)
            (subst (λ (r : Option Busy). Evicted (device_on contents script thread disk old) (device_on contents script thread disk old) op key (answer_by r)) (sym s.0)
            (evicted_soft script thread (base_on contents disk) (facts_on contents disk old) op key (sym same_inline ∙ not_)))

    access_same : (facts_on contents disk new).access ≡ (facts_on contents disk old).access
    access_same = by_way (goes_inline disk.targets (keys_in disk) key) refl
      where
        by_way : (b : Bool) → goes_inline disk.targets (keys_in disk) key ≡ b → (facts_on contents disk new).access ≡ (facts_on contents disk old).access
        by_way true goes = (asked goes).adds.access
        by_way false not_ = ap (λ (p : PassData S). (facts_on contents disk p).access) (soft not_).1

    pub evict_room : IsPassOf disk new → ((device : ℕ) → events_left disk old device ≤ events_left disk new device + asks disk key)
        → (after : List (ℕ × Op)) → CanCarryOut contents script thread disk old bios plug replies room ((op, ops.Evict key) ∷ after) → CanCarryOut contents script thread disk new bios plug replies room after
    evict_room pass_of events after could =
        after_acts contents script thread disk plug replies room old new bios bios ((op, ops.Evict key) ∷ []) after could pass_of
        (ap (λ a. a.caller) access_same)
        (λ shard. let same : (facts_on contents disk new).access.spare shard ≡ (facts_on contents disk old).access.spare shard = ap (λ a. a.spare shard) access_same in omega (arith, same))
        (λ device within.
        let le = events device in let one = sum_by-cons (events_of_one script device) (op, ops.Evict key) [] in
        let same : asks disk key ≡ events_of_one script device (op, ops.Evict key) = ap (λ (b : Bool). cond {A = ℕ} b 1 0) same_inline in omega (arith, le, one, same))
        (prepared_after contents script thread disk plug replies room old bios ((op, ops.Evict key) ∷ []) after could)

  pub was_reset : (op device : ℕ) → Resets (facts_on contents disk old) (facts_on contents disk new) device
      → HasReset (device_on contents script thread disk old) (device_on contents script thread disk new) op device
  was_reset op device resets = has_reset script thread (base_on contents disk) (facts_on contents disk old) (facts_on contents disk new) way op device resets
