use Rattle.std.proofs.Common.{rules, ◌≡◌, ◌+◌, ◌<◌, ◌≤◌, ◌++◌, [], ◌∷◌, length, map, ap, ap₂, sym, ◌∙◌, subst, arith, refl, vec_capacity, vec_len, length-append}
use Rattle.std.specs.List.{fold}
use Rattle.std.proofs.lemmas.List.{reverse-reverse, length-map}
use mathlib.Core.List.{reverse}
use Rattle.bc_base.specs.Lists.{Each}
use Rattle.bc_base.proofs.Lists.{each_back, each_front, each_reverse}
use Rattle.bc_disk.specs.Dealing.{dealt}
use Rattle.bc_disk.proofs.Splits.{all_dealt, slots_step, units_step, length_dealt}
use Rattle.bc_disk.proofs.split.split_passes.Goals as goal
use Rattle.bc_medium.proofs.Openings.{each_weaken}

pub loop-pass-init : goal.loop-pass-init
loop-pass-init g c =
    let round = c.turn_round.ensures.items in
    let back = ap reverse round ∙ reverse-reverse c.args.passes.items in
    let many = c.turn_round.ensures.length in
    let e : vec_len c.args.passes ≡ length c.args.passes.items = search rules in
    let f : vec_len c.turn_round.new.items ≡ length c.turn_round.new.items.items = search rules in
    record {
      slots = ap (λ l. fold dealt (map (λ list. list.items) c.args.slots.now.items) (map (λ pass. pass.slots) l)) back;
      units = ap₂ (λ us l. us ++ map (λ pass. pass.units) l) c.requires.no_units back;
      one_for_each = subst (Each (λ pass. length pass.slots ≡ length c.args.slots.now.items)) (sym round) (each_reverse (λ pass. length pass.slots ≡ length c.args.slots.now.items) c.args.passes.items c.requires.one_for_each);
      long = refl;
      slots_room = each_weaken (λ list. vec_len list + length c.args.passes.items ≤ vec_capacity list) (λ list. vec_len list + length c.turn_round.new.items.items ≤ vec_capacity list) c.args.slots.now.items (λ list l. omega (arith, l, many, e, f)) c.requires.slots_room;
      units_room = (let none : vec_len c.args.units.now ≡ length c.args.units.now.items = search rules in let z = ap length c.requires.no_units in let r = c.requires.units_room in omega (arith, none, z, r, many, e, f));
    }

pub loop-pass-preserved : goal.loop-pass-preserved
loop-pass-preserved g c =
    let i = c.loop-pass.invariant in let pop = c.in-Some.ensures.items in
    let row : c.pass.inside.queue.slots.items ≡ c.in-Some.pass.slots = ap (λ p. p.slots) c.pass.view_is in
    let seat : c.pass.inside.queue.units ≡ c.in-Some.pass.units = ap (λ p. p.units) c.pass.view_is in
    let a = ap length pop ∙ length-append c.pop.new.self.items (c.in-Some.pass ∷ []) in
    let deals = c.deal.ensures.dealt in let push = c.push_reserved.ensures.items in
    let len = c.push_reserved.ensures.len in let cap = c.push_reserved.ensures.capacity in let room = i.units_room in
    record {
      slots = slots_step (λ list. list.items) c.loop-pass.slots.items _ c.loop-pass.passes.items c.pop.new.self.items c.in-Some.pass c.pass.inside.queue.slots.items _ pop deals row i.slots;
      units = units_step c.loop-pass.units.items _ _ c.loop-pass.passes.items c.pop.new.self.items c.in-Some.pass c.pass.inside.queue.units pop push seat i.units;
      one_for_each = each_front (λ pass. length pass.slots ≡ length c.args.slots.now.items) c.pop.new.self.items (c.in-Some.pass ∷ []) (subst (Each (λ pass. length pass.slots ≡ length c.args.slots.now.items)) pop i.one_for_each);
      long = sym (length-map c.deal.new.lists.items (λ list. list.items)) ∙ ap length deals ∙ length_dealt (map (λ list. list.items) c.loop-pass.slots.items) c.pass.inside.queue.slots.items ∙ length-map c.loop-pass.slots.items (λ list. list.items) ∙ i.long;
      slots_room = c.deal.ensures.room (length c.pop.new.self.items) (each_weaken (λ list. vec_len list + length c.loop-pass.passes.items ≤ vec_capacity list) (λ list. vec_len list + 1 + length c.pop.new.self.items ≤ vec_capacity list) c.loop-pass.slots.items (λ list l. omega (arith, l, a)) i.slots_room);
      units_room = omega (arith, len, cap, room, a);
    }

pub deal-requires-clause-one_for_each : goal.deal-requires-clause-one_for_each
deal-requires-clause-one_for_each g c =
    let i = c.loop-pass.invariant in let pop = c.in-Some.ensures.items in
    ap (λ p. length p.slots) c.pass.view_is ∙ (each_back (λ pass. length pass.slots ≡ length c.args.slots.now.items) c.pop.new.self.items (c.in-Some.pass ∷ []) (subst (Each (λ pass. length pass.slots ≡ length c.args.slots.now.items)) pop i.one_for_each)).0 ∙ sym i.long

pub deal-requires-clause-room : goal.deal-requires-clause-room
deal-requires-clause-room g c =
    let a = ap length c.in-Some.ensures.items ∙ length-append c.pop.new.self.items (c.in-Some.pass ∷ []) in
    each_weaken (λ list. vec_len list + length c.loop-pass.passes.items ≤ vec_capacity list) (λ list. vec_len list < vec_capacity list) c.loop-pass.slots.items (λ list l. omega (arith, l, a)) c.loop-pass.invariant.slots_room

pub returns-clause-slots : goal.returns-clause-slots
returns-clause-slots g c =
    let none : c.loop-pass.passes.items ≡ [] = search rules in
    all_dealt (map (λ list. list.items) c.loop-pass.slots.items) (map (λ list. list.items) c.args.slots.now.items) (length c.args.slots.now.items) c.args.passes.items c.requires.no_slots c.requires.one_for_each
    (ap (λ l. fold dealt (map (λ list. list.items) c.loop-pass.slots.items) (map (λ pass. pass.slots) (reverse l))) (sym none) ∙ c.loop-pass.invariant.slots)
