-- The parts of a device in a disk and in a pass.
use Rattle.std.proofs.Common.{◌≡◌, ℕ, ◌-◌, ◌<◌, List, length, get_or, subst, sym, ap, ◌∙◌, arith, Option}
use Rattle.std.specs.Prelude.{slice_get}
use Rattle.std.specs.Option.{option_map_or}
use Rattle.bc_base.specs.Lists.{At}
use Rattle.bc_base.proofs.Lists.{at_read}
use Rattle.bc_profile.specs.Passes.{IsOf, ProfileData, SlotFacts, base_in, made_by, quota_of}
use Rattle.bc_ufs.specs.Controllers.{ControllerData}
use Rattle.bc_queue.proofs.Queues.{zip_at}
use Rattle.bc_disk.specs.Disks.{DiskData, IsPassOf, PassData, events_left}
use Rattle.bc_base.proofs.Members.{zip_length}

module _ {S : Type 0} (inside disk : DiskData S) (within pass : PassData S) (number device : ℕ) (is_disk : inside ≡ disk) (is_pass : within ≡ pass) (of : IsPassOf disk pass)
    (count : length inside.queue.controllers ≡ length inside.targets) (is_number : number ≡ device) (less : device < length disk.targets) where
  one_each : length pass.slots ≡ length disk.queue.controllers
  one_each = zip_length (λ (x : ControllerData) (p : SlotFacts). IsOf x.profile p) disk.queue.controllers pass.slots of.pass.each

  device_within : device < length disk.queue.controllers
  device_within =
      let controllers = ap (λ (d : DiskData S). length d.queue.controllers) is_disk in
      let targets = ap (λ (d : DiskData S). length d.targets) is_disk in
      omega (arith, controllers, targets, count, less)

  pub number_within : number < length within.slots
  number_within =
      let slots = ap (λ (p : PassData S). length p.slots) is_pass in
      omega (arith, one_each, device_within, slots, is_number)

  module _ (read : List ControllerData) (controller : ControllerData) (profile : ProfileData) (slot : SlotFacts) (is_read : read ≡ inside.queue.controllers) (is_controller : controller ≡ get_or read number controller)
      (is_slot : slot ≡ get_or within.slots number slot) (is_profile : profile ≡ controller.profile) where
    controller_at : At disk.queue.controllers device controller
    controller_at = at_read disk.queue.controllers device controller device_within
        (is_controller ∙ ap (λ (l : List ControllerData). get_or l number controller) (is_read ∙ ap (λ (d : DiskData S). d.queue.controllers) is_disk) ∙ ap (λ (k : ℕ). get_or disk.queue.controllers k controller) is_number)

    slot_at : At pass.slots device slot
    slot_at = at_read pass.slots device slot (omega (arith, one_each, device_within))
        (is_slot ∙ ap (λ (p : PassData S). get_or p.slots number slot) is_pass ∙ ap (λ (k : ℕ). get_or pass.slots k slot) is_number)

    pub slot_is_of : IsOf profile slot
    slot_is_of = subst (λ (f : ProfileData). IsOf f slot) (sym is_profile) (zip_at (λ (x : ControllerData) (p : SlotFacts). IsOf x.profile p) disk.queue.controllers pass.slots device controller slot of.pass.each controller_at slot_at)

    pub left_is : (left : ℕ) → left ≡ quota_of (base_in profile) slot.caller - length (made_by slot) → left ≡ events_left disk pass device
    left_is left is =
        is ∙ ap (λ (f : ProfileData). quota_of (base_in f) slot.caller - length (made_by slot)) is_profile
        ∙ sym (ap (λ (o : Option SlotFacts). option_map_or (λ (s : SlotFacts). quota_of (base_in controller.profile) s.caller - length (made_by s)) o 0) slot_at)
        ∙ sym (ap (λ (o : Option ControllerData). option_map_or (λ (x : ControllerData). option_map_or (λ (s : SlotFacts). quota_of (base_in x.profile) s.caller - length (made_by s)) (slice_get pass.slots device) 0) o 0) controller_at)
