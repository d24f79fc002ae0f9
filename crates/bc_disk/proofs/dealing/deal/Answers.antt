use Rattle.std.proofs.Common.{rules, ◌≡◌, ◌+◌, ◌-◌, ◌<◌, ◌≤◌, [], ◌∷◌, length, map, ap, sym, ◌∙◌, arith, refl, vec_capacity, vec_len, length-append}
use Rattle.bc_base.proofs.Lists.{at_read, at_one}
use Rattle.bc_disk.specs.Dealing.{dealt}
use Rattle.bc_disk.proofs.Deals.{dealt_none, dealt_last, room_step, room_whole, room_all, last_below, length_set}
use Rattle.bc_disk.proofs.dealing.deal.Goals as goal
use Rattle.bc_medium.proofs.Openings.{each_weaken}

pub loop-pass-init : goal.loop-pass-init
loop-pass-init c = record {
  dealt = refl;
  place = c.len-place.ensures ∙ (let e : vec_len c.args.lists.now ≡ length c.args.lists.now.items = search rules in e) ∙ sym c.requires.one_for_each;
  long = refl;
  inside = (let e : vec_len c.args.lists.now ≡ length c.args.lists.now.items = search rules in let a = c.len-place.ensures in omega arith);
  room = λ more e. room_whole (λ list. vec_len list + 1 + more ≤ vec_capacity list) (λ list. vec_len list + more ≤ vec_capacity list) c.args.lists.now.items c.len-place.result (let e : vec_len c.args.lists.now ≡ length c.args.lists.now.items = search rules in c.len-place.ensures ∙ e) e;
}

pub overflow_sub-place : goal.overflow_sub-place
overflow_sub-place c = let i = c.loop-pass.invariant.place in let a = ap length c.in-Some.ensures.items ∙ length-append c.pop.new.self.items (c.in-Some.pass ∷ []) in omega arith

pub index_mut-requires : goal.index_mut-requires
index_mut-requires c = let i = c.loop-pass.invariant.place in let j = c.loop-pass.invariant.inside in let e : vec_len c.loop-pass.lists ≡ length c.loop-pass.lists.items = search rules in let a = ap length c.in-Some.ensures.items ∙ length-append c.pop.new.self.items (c.in-Some.pass ∷ []) in omega arith

pub push_reserved-requires : goal.push_reserved-requires
push_reserved-requires c =
    let i = c.loop-pass.invariant.place in let j = c.loop-pass.invariant.inside in let a = ap length c.in-Some.ensures.items ∙ length-append c.pop.new.self.items (c.in-Some.pass ∷ []) in
    let at = at_read c.loop-pass.lists.items (c.loop-pass.place - 1) c.index_mut.result.now (omega arith) c.index_mut.ensures.value in
    let e = each_weaken (λ list. vec_len list < vec_capacity list) (λ list. vec_len list + 1 + 0 ≤ vec_capacity list) c.args.lists.now.items (λ list l. omega (arith, l)) c.requires.room in
    let le = last_below (λ list. vec_len list + 1 + 0 ≤ vec_capacity list) c.loop-pass.lists.items c.loop-pass.place c.index_mut.result.now (omega arith) (c.loop-pass.invariant.room 0 e).0 at in
    omega (arith, le)

pub loop-pass-preserved : goal.loop-pass-preserved
loop-pass-preserved c =
    let i = c.loop-pass.invariant.place in let j = c.loop-pass.invariant.inside in let a = ap length c.in-Some.ensures.items ∙ length-append c.pop.new.self.items (c.in-Some.pass ∷ []) in
    let at = at_read c.loop-pass.lists.items (c.loop-pass.place - 1) c.index_mut.result.now (omega arith) c.index_mut.ensures.value in
    let long = length_set c.loop-pass.lists.items (c.loop-pass.place - 1) c.push_reserved.new.self in
    let grown = c.push_reserved.ensures.len in let same = c.push_reserved.ensures.capacity in
    record {
      dealt = dealt_last (λ list. list.items) c.loop-pass.lists.items c.loop-pass.row.items c.pop.new.self.items c.in-Some.pass c.loop-pass.place c.index_mut.result.now c.push_reserved.new.self _ i c.in-Some.ensures.items at c.push_reserved.ensures.items c.loop-pass.invariant.dealt;
      place = omega arith;
      long = long ∙ c.loop-pass.invariant.long;
      inside = omega arith;
      room = λ more e. room_step (λ list. vec_len list + 1 + more ≤ vec_capacity list) (λ list. vec_len list + more ≤ vec_capacity list) c.loop-pass.lists.items c.loop-pass.place c.push_reserved.new.self (omega arith)
          (λ old was fits. let is = ap (λ list. vec_len list) (at_one c.loop-pass.lists.items (c.loop-pass.place - 1) old c.index_mut.result.now was at) in let is2 = ap (λ list. vec_capacity list) (at_one c.loop-pass.lists.items (c.loop-pass.place - 1) old c.index_mut.result.now was at) in omega (arith, is, is2, fits, grown, same))
          (c.loop-pass.invariant.room more e);
    }

pub returns-clause-dealt : goal.returns-clause-dealt
returns-clause-dealt c = let none : c.loop-pass.row.items ≡ [] = search rules in sym (ap (dealt (map (λ list. list.items) c.loop-pass.lists.items)) none ∙ dealt_none (map (λ list. list.items) c.loop-pass.lists.items)) ∙ c.loop-pass.invariant.dealt

pub returns-clause-room : goal.returns-clause-room
returns-clause-room c = λ more e. let n : length c.loop-pass.row.items ≡ 0 = search rules in room_all (λ list. vec_len list + 1 + more ≤ vec_capacity list) (λ list. vec_len list + more ≤ vec_capacity list) c.loop-pass.lists.items c.loop-pass.place (c.loop-pass.invariant.place ∙ n) (c.loop-pass.invariant.room more e)
