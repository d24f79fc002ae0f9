use Rattle.std.proofs.Common.{rules, ◌≡◌, [], ◌∷◌, length, map, ap, ◌∙◌, arith, length-append}
use Rattle.std.proofs.lemmas.List.{length-map}
use Rattle.bc_disk.proofs.Splits.{all_closed, close_step}
use Rattle.bc_disk.proofs.split.Split.close.Goals as goal

pub loop-device-preserved : goal.loop-device-preserved
loop-device-preserved g c =
    let i = c.loop-device.invariant in let pop = c.in-Some.ensures.items in let push = c.push_reserved.ensures.items in
    let step = close_step (λ journal. journal.items) c.args.disk.now.value c.args.passes.now.value.items c.loop-device.devices.items c.pop.new.self.items c.in-Some.device c.loop-device.journals.items c.push_reserved.new.self.items c.in-Ok.journal pop push i.journals i.devices c.in-Ok.ensures.closed in
    let a = ap length pop ∙ length-append c.pop.new.self.items (c.in-Some.device ∷ []) in let b = ap length push ∙ length-append c.loop-device.journals.items (c.in-Ok.journal ∷ []) in let count = i.count in
    record {
      count = omega (arith, a, b, count);
      journals = step.0;
      devices = step.1;
      journals_room = search rules;
      devices_room = search rules;
    }

pub returns-in-Ok-close-clause-closed : goal.returns-in-Ok-close-clause-closed
returns-in-Ok-close-clause-closed g c =
    let i = c.loop-device.invariant in let count = i.count in
    let none : c.loop-device.devices.items ≡ [] = search rules in
    let zero = ap length none in let mapped = length-map c.loop-device.journals.items (λ journal. journal.items) in
    all_closed g.S.Store.owns g.S.Store.contents g.S.Store.calls g.S.Store.faults c.args.disk.now.value c.args.passes.now.value.items c.self.inside.medium c.self.inside.units.items c.in-Ok-close.stores.items (λ order. order.items) c.in-Ok-close.shards.items (map (λ journal. journal.items) c.loop-device.journals.items)
    (ap (λ s. s.medium) c.self.view_is ∙ c.requires.left.medium) (ap (λ s. s.units) c.self.view_is ∙ c.requires.left.units) c.in-Ok-close.ensures.length c.in-Ok-close.ensures.ends (omega (arith, count, zero, mapped)) i.journals
