-- A key that was taken out of each device stands in no slot.
use Rattle.std.proofs.Common.{◌≡◌, ◌∙◌, ℕ, zero, suc, ◌+◌, List, [], ◌∷◌, ◌++◌, map, take, append-nil, sym, ap, subst, arith, Option, None}
use Rattle.std.specs.Prelude.{slice_set}
use Rattle.std.specs.List.{AllByRecursion}
use Rattle.std.specs.Option.{option_map_or}
use Rattle.bc_base.specs.Lists.{Each, list_at}
use Rattle.bc_modes.specs.Capabilities.{Capabilities}
use Rattle.bc_stack.specs.declared.target.Target.{Target}
use Rattle.bc_stack.specs.Targets.{StackParts}
use Rattle.bc_profile.specs.declared.event.Event.{Event}
use Rattle.bc_profile.specs.SlotJournal.{InNoSlot, slots_after}
use Rattle.bc_profile.specs.Solo.{SoloData}
use Rattle.bc_script.specs.Script.{Script}
use Rattle.bc_compose.specs.OrderedHolds.{slot_count_of}
use Rattle.bc_serial.specs.Keyslots.{SlotCipherData, HaveNotKey, IsKeyslots, IsRidOf, giving_back, journal_in}
use Rattle.bc_section.proofs.Lists.{all_slice, at_exists, list_at_map}

-- the elements so far, with one more
pub each_next : {A : Type 0} (P : A → Type 0) (xs : List A) (i : ℕ) (y : A) → AllByRecursion P (take i xs) → P y → AllByRecursion P (take (i + 1) (slice_set xs i y))
each_next P [] i y all is = subst (λ n. AllByRecursion P (take n [])) (let e : suc i ≡ i + 1 = omega arith in e) tt
each_next P (x ∷ xs) zero y all is = (is, tt)
each_next P (x ∷ xs) (suc i) y all is =
    subst (λ n. AllByRecursion P (take n (x ∷ slice_set xs i y))) (let e : suc (i + 1) ≡ suc i + 1 = omega arith in e) (all.0, each_next P xs i y all.1 is)

pub none_has_key : (script : Script) (stack : StackParts) (caps : List Capabilities) (devices : List SoloData) (ciphers : List (List (Option SlotCipherData))) (begun : List SoloData) (key : ℕ)
    → IsKeyslots script stack caps devices ciphers begun None → Each (IsRidOf key) devices → HaveNotKey script (map journal_in devices) key
none_has_key script stack caps devices ciphers begun key is rid device within =
    let target = at_exists script.targets device within in
    let solo = at_exists devices device (let n = is.count in omega (arith, within, n)) in
    let of = is.each device target.0 target.1 solo.0 solo.1 in
    let gone : InNoSlot (slots_after solo.0.count solo.0.journal) key = all_slice (IsRidOf key) devices device solo.0 rid solo.1 in
    let journal : list_at (map journal_in devices) device ≡ solo.0.journal =
    list_at_map journal_in devices device solo.0 solo.1 ∙ ap (λ (held : Option ℕ). solo.0.journal ++ giving_back held) of.held ∙ append-nil solo.0.journal in
    let count : solo.0.count ≡ slot_count_of script device = of.count ∙ sym (ap (λ (o : Option Target). option_map_or (λ t. t.slots) o 0) target.1) in
    subst (λ (l : List Event). InNoSlot (slots_after (slot_count_of script device) l) key) (sym journal)
    (subst (λ (n : ℕ). InNoSlot (slots_after n solo.0.journal) key) count gone)
