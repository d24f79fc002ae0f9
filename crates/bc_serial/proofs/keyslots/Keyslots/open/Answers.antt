use Rattle.std.proofs.Common.{◌≡◌, ◌∙◌, List, length, map, take, sym, ap, subst, arith, [], None}
use Rattle.std.proofs.lemmas.List.{take_all}
use Rattle.bc_modes.specs.Capabilities.{capabilities_of}
use Rattle.bc_profile.specs.declared.event.Event.{Event}
use Rattle.bc_stack.specs.declared.target.Target.{Target}
use Rattle.bc_serial.specs.Keyslots.{KeyslotsData, IsKeyslots, journal_in}
use Rattle.bc_serial.proofs.OpenedSlots.{opened_device, no_ciphers_of, opens, unused}
use Rattle.bc_serial.proofs.keyslots.Keyslots.open.Goals as goal

pub invariant_of-result : goal.invariant_of-result
invariant_of-result c =
    let script = c.args.script.now in
    let all : take c.loop-target.target-index script.targets ≡ script.targets =
    take_all c.loop-target.target-index script.targets (let end = c.loop-target.auto.target-index-end in omega (arith, c.loop-target-test.false, end, ap length c.targets-target-items.ensures.value)) in
    let devices = c.loop-target.invariant.devices ∙ ap (map (opened_device script)) all in
    subst (λ b. IsKeyslots script c.in_ok-stack_of.field-0 c.loop-target.caps.items c.loop-target.devices.items (map (λ v. v.items) c.loop-target.ciphers.items) b None) (sym (ap (λ v. v.items) c.of-begun.ensures))
    (opens script c.in_ok-stack_of.field-0 c.loop-target.caps.items c.loop-target.devices.items (map (λ v. v.items) c.loop-target.ciphers.items) c.targets.ensures.rules c.in_ok-stack_of.ensures
    (c.loop-target.invariant.caps ∙ ap (map (λ (t : Target). capabilities_of t.caps)) all) devices (c.loop-target.invariant.ciphers ∙ ap (map no_ciphers_of) all))

pub returns : goal.returns
returns c =
    let script = c.args.script.now in
    let all : take c.loop-target.target-index script.targets ≡ script.targets =
    take_all c.loop-target.target-index script.targets (let end = c.loop-target.auto.target-index-end in omega (arith, c.loop-target-test.false, end, ap length c.targets-target-items.ensures.value)) in
    let none = unused script c.loop-target.devices.items (c.loop-target.invariant.devices ∙ ap (map (opened_device script)) all) in
    let here : KeyslotsData = record { script = script; journals = map journal_in c.loop-target.devices.items; begun = map journal_in c.of-begun.result.value.items; opened = None } in
    ap (λ (l : List (List Event)). record here { journals = l }) none
    ∙ ap (λ (l : List (List Event)). record here { journals = map (λ (target : Target). []) script.targets; begun = l }) (ap (λ v. map journal_in v.items) c.of-begun.ensures ∙ none)
