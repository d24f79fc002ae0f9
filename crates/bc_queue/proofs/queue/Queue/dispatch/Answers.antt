use Rattle.std.proofs.Common.{◌≡◌, ℕ, ◌+◌, ◌<◌, List, Option, Some, refl, subst, sym, ap, ◌∙◌}
use Rattle.std.specs.Prelude.{IsSomeAnd}
use Rattle.bc_medium.specs.declared.via.Via.TheVariants as ways
use Rattle.bc_medium.specs.Medium.{Belongs}
use Rattle.bc_queue.specs.RequestUnits.{named_at}
use Rattle.bc_queue.specs.Carrying.{CarriesOut}
use Rattle.bc_queue.specs.Queues.{facts_by, HasPut, IsHolding}
use Rattle.bc_queue.proofs.Queues.{each_of, each_free, one_hold, all_keyed}
use Rattle.bc_queue.proofs.queue.Queue.dispatch.Goals as goal

pub carry_out_under-requires-clause-key : goal.carry_out_under-requires-clause-key
carry_out_under-requires-clause-key g c n from below =
    subst (λ (k : ℕ). IsSomeAnd (named_at c.args.self.now.medium.keys.keys c.args.request.now.bios n).context (λ d. d.key.0 ≡ k)) (sym c.get-hold.ensures.got.key_is) (c.first_unit-tag.ensures.under n from below)

pub put-requires-clause-holding : goal.put-requires-clause-holding
put-requires-clause-holding g c =
    subst (λ s. IsHolding c.args.self.now s c.args.device c.get-hold.result) (sym c.carry_out_under.ensures.slots) c.get-hold.ensures.got.holding

pub returns-clause-pass : goal.returns-clause-pass
returns-clause-pass g c =
    let put : HasPut c.args.self.now c.get-hold.new.pass.slots.items c.put.new.pass.slots.items c.args.device c.get-hold.result = subst (λ s. HasPut c.args.self.now s c.put.new.pass.slots.items c.args.device c.get-hold.result) c.carry_out_under.ensures.slots c.put.ensures.put in record {
      belongs = subst (λ u. Belongs c.args.self.now.medium u) (sym c.put.ensures.units) c.carry_out_under.ensures.belongs;
      number = ap (λ u. u.caller) c.put.ensures.units ∙ c.carry_out_under.ensures.number ∙ sym c.put.ensures.caller;
      each = each_of c.args.self.now c.args.pass.now.slots.items c.get-hold.new.pass.slots.items c.put.new.pass.slots.items c.args.device c.first_unit-tag.result.1.key.0 c.get-hold.result c.requires.pass.each c.get-hold.ensures.got put;
    }

pub returns-clause-free : goal.returns-clause-free
returns-clause-free g c =
    let put : HasPut c.args.self.now c.get-hold.new.pass.slots.items c.put.new.pass.slots.items c.args.device c.get-hold.result = subst (λ s. HasPut c.args.self.now s c.put.new.pass.slots.items c.args.device c.get-hold.result) c.carry_out_under.ensures.slots c.put.ensures.put in
    each_free c.args.self.now c.args.pass.now.slots.items c.get-hold.new.pass.slots.items c.put.new.pass.slots.items c.args.device c.first_unit-tag.result.1.key.0 c.get-hold.result c.requires.free c.get-hold.ensures.got put

pub returns-clause-dispatches : goal.returns-clause-dispatches
returns-clause-dispatches g c =
    let put : HasPut c.args.self.now c.get-hold.new.pass.slots.items c.put.new.pass.slots.items c.args.device c.get-hold.result = subst (λ s. HasPut c.args.self.now s c.put.new.pass.slots.items c.args.device c.get-hold.result) c.carry_out_under.ensures.slots c.put.ensures.put in
    let facts = facts_by g.S.Store.contents c.args.self.now.medium (ways.Inline c.args.device c.get-hold.result.slot c.get-hold.result.epoch) in
    let carries : CarriesOut (facts c.args.pass.now.units) (facts c.put.new.pass.units) c.args.request.now c.carry_out_under.new.request c.args.first c.args.count =
    subst (λ u. CarriesOut (facts c.args.pass.now.units) (facts u) c.args.request.now c.carry_out_under.new.request c.args.first c.args.count) (sym c.put.ensures.units)
    (subst (λ u. CarriesOut (facts u) (facts c.carry_out_under.new.pass.units) c.args.request.now c.carry_out_under.new.request c.args.first c.args.count) c.get-hold.ensures.units c.carry_out_under.ensures.carries) in record {
      under = c.first_unit-tag.result.1;
      first_context = c.first_unit-tag.ensures.context;
      slot = c.get-hold.result.slot;
      epoch = c.get-hold.result.epoch;
      one_hold = one_hold c.args.self.now c.args.pass.now.slots.items c.get-hold.new.pass.slots.items c.put.new.pass.slots.items c.args.device c.first_unit-tag.result.1.key.0 c.get-hold.result c.get-hold.ensures.got put;
      carries = carries;
      keyed = all_keyed (facts c.args.pass.now.units) (facts c.put.new.pass.units).seen c.args.request.now.bios c.carry_out_under.new.request.bios c.args.first c.args.count c.first_unit-tag.result.1.key.0 carries.made c.first_unit-tag.ensures.under carries.carried;
    }
