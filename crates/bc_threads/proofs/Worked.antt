-- A section can be carried out by its thread's pass, and was.
use Rattle.std.proofs.Common.{◌≡◌, ◌∙◌, ℕ, zero, suc, ◌+◌, ◌<◌, List, [], ◌∷◌, length, map, get_or, sym, ap, subst, arith, Option, Some}
use Rattle.std.specs.List.{AllByRecursion, enumerate_from}
use Rattle.bc_base.specs.Lists.{list_at}
use Rattle.bc_base.specs.Sectors.{Sectors}
use Rattle.bc_bio.specs.declared.bio.Bio.{Bio}
use Rattle.bc_bio.specs.declared.reply.Reply.{Reply}
use Rattle.bc_queue.specs.Plugs.{PlugParts}
use Rattle.bc_script.specs.declared.op.Op.{Op}
use Rattle.bc_script.specs.Script.{Script}
use Rattle.bc_compose.specs.OrderedHolds.{Pairs}
use Rattle.bc_section.specs.SectionProgress.{CarriesSection}
use Rattle.bc_disk.specs.Disks.{DiskData, IsPassOf, PassData}
use Rattle.bc_threads.specs.declared.outcome.Outcome.{Outcome}
use Rattle.bc_threads.specs.Outcomes.{answer_in}
use Rattle.bc_threads.specs.PreparedBios.{IsPreparedSection, SectionData}
use Rattle.bc_threads.specs.SharedDevice.{CanCarryOut, device_on}
use Rattle.bc_threads.specs.Jobs.{HasWorked, MayWork}
use Rattle.bc_threads.proofs.Outcomes.{same_out}

-- the operations of a thread, by its number
pub ops_at : (threads : List (List Op)) (i : ℕ) (ops : List Op) → i < length threads → ops ≡ get_or threads i ops → ops ≡ list_at threads i
ops_at [] i ops lt is = absurd (omega (arith, lt))
ops_at (t ∷ threads) zero ops lt is = is
ops_at (t ∷ threads) (suc i) ops lt is = ops_at threads i ops (omega (arith, lt)) is

-- and as they are read there
pub read_at : (threads read : List (List Op)) (i from : ℕ) (ops : List Op) → i < length threads → read ≡ threads → from ≡ i → ops ≡ get_or read from ops → ops ≡ list_at threads i
read_at threads read i from ops within same here is =
    ops_at threads i ops within (is ∙ ap (λ (l : List (List Op)). get_or l from ops) same ∙ ap (λ (k : ℕ). get_or threads k ops) here)

-- the numbers of operations ascend
later : (n m : ℕ) (ops : List Op) → n < m → AllByRecursion (λ second. n < second.0) (enumerate_from m ops)
later n m [] lt = tt
later n m (x ∷ ops) lt = (lt, later n (m + 1) ops (omega (arith, lt)))

ascends : (n : ℕ) (ops : List Op) → Pairs (λ first second. first.0 < second.0) (enumerate_from n ops)
ascends n [] = tt
ascends n (x ∷ ops) = (later n (n + 1) ops (omega arith), ascends (n + 1) ops)

module _ {S : Type 0} (contents : S → Option Sectors) (script : Script) (thread : ℕ) (disk : DiskData S) (pass : PassData S) (may : MayWork contents disk pass (record { script = script; thread = thread })) where
  pub can_carry_out : (bios : List (Option Bio)) (plug : PlugParts) (replies : List Reply) (room : ℕ) (noted : List (Option Outcome)) (outcomes : List Outcome) (outcome_room : ℕ) → IsPreparedSection script thread bios plug replies room noted outcomes outcome_room
      → CanCarryOut contents script thread disk pass bios plug replies room (enumerate_from 0 (list_at script.threads thread))
  can_carry_out bios plug replies room noted outcomes outcome_room is = record {
    opened = may.opened;
    pass_of = may.pass_of;
    thread_is = may.caller;
    plug_is_empty = is.plug_is_empty;
    no_replies = is.no_replies;
    room_for_replies = is.room_for_replies;
    ascend = ascends 0 (list_at script.threads thread);
    prepared = is.prepared;
    room_for = may.room;
  }

  pub has_worked : {R : Type 0} (ops : List Op) → ops ≡ list_at script.threads thread
      → (script' : Script) (thread' : ℕ) (disk' : DiskData S) (now : PassData S) (ref ref' : R) (bios : List (Option Bio)) (plug : PlugParts) (replies : List Reply) (room : ℕ) (told : List Outcome)
      → ◌≡◌ {A = DiskData S × Script × ℕ × R} (disk', script', thread', ref') (disk, script, thread, ref) → CanCarryOut contents script' thread' disk' now bios plug replies room []
      → CarriesSection (device_on contents script thread disk pass) (device_on contents script' thread' disk' now) ops (map answer_in told)
      → HasWorked contents disk pass now (record { script = script; thread = thread }) told
  has_worked {R = R} ops these script' thread' disk' now ref ref' bios plug replies room told lent can carries =
      let disk_is : disk' ≡ disk = ap (λ (l : DiskData S × Script × ℕ × R). l.0) lent in
      let script_is : script' ≡ script = ap (λ (l : DiskData S × Script × ℕ × R). l.1) lent in
      let thread_is : thread' ≡ thread = ap (λ (l : DiskData S × Script × ℕ × R). l.2) lent in
      record {
        pass_of = subst (λ (d : DiskData S). IsPassOf d now) disk_is can.pass_of;
        caller = can.thread_is ∙ thread_is ∙ sym may.caller;
        carries =
            subst (λ (l : List Op). CarriesSection (device_on contents script thread disk pass) (device_on contents script thread disk now) l (map answer_in told)) these
            (subst (λ (t : ℕ). CarriesSection (device_on contents script thread disk pass) (device_on contents script t disk now) ops (map answer_in told)) thread_is
            (subst (λ (s : Script). CarriesSection (device_on contents script thread disk pass) (device_on contents s thread' disk now) ops (map answer_in told)) script_is
            (subst (λ (d : DiskData S). CarriesSection (device_on contents script thread disk pass) (device_on contents script' thread' d now) ops (map answer_in told)) disk_is carries)));
      }

  -- the outcomes were taken out of where they were noted, and the pass was given back
  pub gives_back : (section : SectionData) → section ≡ record { script = script; thread = thread } → (now new : PassData S) (told outcomes : List Outcome) (noted : List (Option Outcome))
      → noted ≡ map (λ outcome. Some outcome) told → map (λ outcome. Some outcome) outcomes ≡ noted → now ≡ new
      → HasWorked contents disk pass now (record { script = script; thread = thread }) told → HasWorked contents disk pass new section outcomes
  gives_back section view now new told outcomes noted is out same worked =
      subst (λ (p : PassData S). HasWorked contents disk pass p section outcomes) same
      (subst (λ (s : SectionData). HasWorked contents disk pass now s outcomes) (sym view)
      (subst (λ (l : List Outcome). HasWorked contents disk pass now (record { script = script; thread = thread }) l) (sym (same_out outcomes told (out ∙ is))) worked))
