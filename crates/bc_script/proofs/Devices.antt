-- Devices, one after the other.
use Rattle.std.proofs.Common.{◌≡◌, ℕ, suc, ◌<◌, ◌≤◌, ◌+◌, ◌-◌, Bool, true, false, ◌||◌, nat_eq, List, [], ◌∷◌, ◌++◌, length, slice_get, Some, length-append, refl, sym, ap, subst, ◌∙◌, arith, eqb-true, eq-eqb}
use Rattle.std.specs.List.{AllByRecursion}
use Rattle.std.proofs.lemmas.Bool.{false_from_ne_true}
use Rattle.std.proofs.lemmas.List.Sums.{sum_by-cons, sum_by-append}
use Rattle.std.proofs.lemmas.List.Elements.{All-from_recursion}
use Rattle.bc_stack.specs.declared.target.Target.{Target}
use Rattle.bc_stack.specs.Devices.{end_of_target}
use Rattle.bc_stack.specs.Targets.{HasSlots, LieBetween, CoverAll}
use Rattle.bc_script.specs.Script.{IsDevice, AreDevices, max_devices}
use Rattle.bc_script.specs.Progress.{blocks_of, DevicesFollow}
use Rattle.bc_script.proofs.Onto.{AllByRecursion-append}
use Rattle.bc_script.proofs.Faults.{at_middle}

-- ---- the blocks of devices

-- devices end where their blocks do
pub end_of_lie : (first end : ℕ) (devices : List Target) → LieBetween first end devices → end ≡ first + blocks_of devices
end_of_lie first end [] lie = let same : first ≡ end = lie in omega arith
end_of_lie first end (d ∷ ds) lie =
    let at = lie.0 in
    let rest = end_of_lie (end_of_target d) end ds lie.2 in
    let sum = sum_by-cons (λ (t : Target). t.blocks) d ds in
    omega arith

-- one more device, which begins at the end
lie_push : (first end : ℕ) (devices : List Target) (device : Target) → LieBetween first end devices → device.first ≡ end → 1 ≤ device.blocks → LieBetween first (end + device.blocks) (devices ++ device ∷ [])
lie_push first end [] device lie at some = (at ∙ sym lie, some, ap (λ (n : ℕ). n + device.blocks) at)
lie_push first end (d ∷ ds) device lie at some = (lie.0, lie.1, lie_push (end_of_target d) end ds device lie.2 at some)

-- a device begins at the end of those before it
first_of_next : (first end : ℕ) (before more : List Target) (device : Target) → LieBetween first end (before ++ device ∷ more) → device.first ≡ first + blocks_of before
first_of_next first end [] more device lie = let at = lie.0 in omega arith
first_of_next first end (d ∷ ds) more device lie =
    let at = lie.0 in
    let rest = first_of_next (end_of_target d) end ds more device lie.2 in
    let sum = sum_by-cons (λ (t : Target). t.blocks) d ds in
    omega arith

-- the last device ends where all of them do
last_end : (first end : ℕ) (d : Target) (ds : List Target) (last : Target) → LieBetween first end (d ∷ ds) → slice_get (d ∷ ds) (length ds) ≡ Some last → end ≡ last.first + last.blocks
last_end first end d [] last lie at =
    let same : d ≡ last = same_Some d last at in
    let end_is : d.first + d.blocks ≡ end = lie.2 in
    subst (λ (t : Target). end ≡ t.first + t.blocks) same (sym end_is)
  where
    same_Some : (x y : Target) → Some x ≡ Some y → x ≡ y
    same_Some x y e = cc
last_end first end d (e ∷ es) last lie at = last_end (end_of_target d) end e es last lie.2 at

-- ---- devices that have been read

-- the end of the last device
pub end_is : (devices items : List Target) (last : Target) → items ≡ devices → DevicesFollow devices → Some last ≡ slice_get items (length items - 1) → last.first + last.blocks ≡ blocks_of devices
end_is devices items last same follow at = of_last devices follow.lie (sym (at ∙ ap (λ (ts : List Target). slice_get ts (length ts - 1)) same))
  where
    of_last : (devices : List Target) → LieBetween 0 (blocks_of devices) devices → slice_get devices (length devices - 1) ≡ Some last → last.first + last.blocks ≡ blocks_of devices
    of_last [] lie at = absurd cc
    of_last (d ∷ ds) lie at =
        let place : length ds ≡ length (d ∷ ds) - 1 = omega arith in
        sym (last_end 0 (blocks_of (d ∷ ds)) d ds last lie (ap (λ (n : ℕ). slice_get (d ∷ ds) n) place ∙ at))

pub no_devices : DevicesFollow []
no_devices = record { count = omega arith; lie = refl; each = tt }

-- one more device
pub follow_push : (devices : List Target) (device : Target) → DevicesFollow devices → IsDevice device → device.first ≡ blocks_of devices → length devices < max_devices → DevicesFollow (devices ++ device ∷ [])
follow_push devices device follow valid at room =
    let sum : blocks_of (devices ++ device ∷ []) ≡ blocks_of devices + device.blocks = sum_by-append (λ (t : Target). t.blocks) devices (device ∷ []) ∙ omega arith in
    record {
      count = omega (arith, length-append devices (device ∷ []));
      lie = subst (λ (n : ℕ). LieBetween 0 n (devices ++ device ∷ [])) (sym sum) (lie_push 0 (blocks_of devices) devices device follow.lie at valid.some_blocks);
      each = AllByRecursion-append IsDevice devices (device ∷ []) follow.each (valid, tt);
    }

some : (n : ℕ) → nat_eq (suc n) 0 ≡ false
some n = false_from_ne_true (nat_eq (suc n) 0) (λ e. let none = eqb-true (suc n) 0 e in omega arith)

-- the devices cover the disk where their blocks are the disk's
pub covers : (devices : List Target) (blocks : ℕ) → DevicesFollow devices → (nat_eq (length devices) 0 || nat_eq (blocks_of devices) blocks) ≡ true → CoverAll blocks devices
covers [] blocks follow test = tt
covers (d ∷ ds) blocks follow test =
    let same : nat_eq (blocks_of (d ∷ ds)) blocks ≡ true = sym (ap (λ (b : Bool). b || nat_eq (blocks_of (d ∷ ds)) blocks) (some (length ds))) ∙ test in
    subst (λ (n : ℕ). LieBetween 0 n (d ∷ ds)) (eqb-true (blocks_of (d ∷ ds)) blocks same) follow.lie

pub is_covered : (devices : List Target) (blocks : ℕ) → CoverAll blocks devices → (nat_eq (length devices) 0 || nat_eq (blocks_of devices) blocks) ≡ true
is_covered [] blocks cover = refl
is_covered (d ∷ ds) blocks cover =
    let end = end_of_lie 0 blocks (d ∷ ds) cover in
    ap (λ (b : Bool). b || nat_eq (blocks_of (d ∷ ds)) blocks) (some (length ds)) ∙ eq-eqb (blocks_of (d ∷ ds)) blocks (omega arith)

-- devices that follow one another and cover the disk are a script's
pub are_devices : (devices : List Target) (blocks : ℕ) → DevicesFollow devices → CoverAll blocks devices → AreDevices devices blocks
are_devices devices blocks follow cover = record {
  stack = record { few = follow.count; cover = cover; slots = All-from_recursion HasSlots devices (slots devices follow.each) };
  each = follow.each;
}
  where
    slots : (devices : List Target) → AllByRecursion IsDevice devices → AllByRecursion HasSlots devices
    slots [] each = tt
    slots (d ∷ ds) each = (each.0.slots, slots ds each.1)

-- ---- the devices of a script, one after the other

-- a device that follows the others, where there was room for it
pub record IsNextDevice (devices : List Target) (device : Target) : Type 0 where
  pub valid : IsDevice device
  pub first : device.first ≡ blocks_of devices
  pub room : length devices < max_devices

pub next_device : (devices more : List Target) (device : Target) (blocks : ℕ) → AreDevices (devices ++ device ∷ more) blocks → IsNextDevice devices device
next_device devices more device blocks are =
    let few = are.stack.few in
    let at = first_of_next 0 blocks devices more device (lies devices are.stack.cover) in
    record { valid = at_middle IsDevice devices more device are.each; first = omega arith; room = omega (arith, length-append devices (device ∷ more)) }
  where
    lies : (devices : List Target) → CoverAll blocks (devices ++ device ∷ more) → LieBetween 0 blocks (devices ++ device ∷ more)
    lies [] cover = cover
    lies (d ∷ ds) cover = cover
