use Rattle.std.proofs.Common.{◌≡◌, ℕ, ◌+◌, ◌<◌, ◌≤◌, List, refl, sym, ap, subst, ◌∙◌}
use Rattle.bc_key.specs.KeyData.{KeyData}
use Rattle.bc_medium.specs.Layout.{shard_of}
use Rattle.bc_queue.specs.RequestUnits.{named_at}
use Rattle.bc_queue.specs.Carrying.{AccessFacts, ArePerformable, IsPerformableUnit}
use Rattle.bc_queue.proofs.Walk.{done_none, done_more, next_performable, next_spare, same_named_at}
use Rattle.bc_queue.proofs.request_units.carry_out.Goals as goal

pub loop-done-init : goal.loop-done-init
loop-done-init g c = (refl, c.requires.ready, done_none (g.A.UnitAccess.facts c.args.access.now c.args.pass.now) c.args.request.now c.args.first)

pub carry_out_one-requires-clause-unit : goal.carry_out_one-requires-clause-unit
carry_out_one-requires-clause-unit g c =
    let old = g.A.UnitAccess.facts c.args.access.now c.args.pass.now in
    let can : ArePerformable old.keys (g.A.UnitAccess.takes c.args.access.now) c.args.request.now.bios c.args.first c.args.count = subst (λ (ks : List KeyData). ArePerformable ks (g.A.UnitAccess.takes c.args.access.now) c.args.request.now.bios c.args.first c.args.count) (sym c.requires.keys) c.requires.units in
    let next = next_performable old (g.A.UnitAccess.facts c.loop-done.access c.loop-done.pass) c.args.request.now c.loop-done.request c.args.first c.loop-done.done c.args.count (g.A.UnitAccess.takes c.args.access.now) c.loop-done.invariant.2 c.loop-done-test.true can in
    subst (λ a. IsPerformableUnit c.args.keys.now.keys (g.A.UnitAccess.takes a) c.loop-done.request.bios (c.args.first + c.loop-done.done)) (sym c.loop-done.invariant.0)
    (subst (λ (ks : List KeyData). IsPerformableUnit ks (g.A.UnitAccess.takes c.args.access.now) c.loop-done.request.bios (c.args.first + c.loop-done.done)) c.requires.keys next)

pub carry_out_one-requires-clause-spare : goal.carry_out_one-requires-clause-spare
carry_out_one-requires-clause-spare g c =
    let old = g.A.UnitAccess.facts c.args.access.now c.args.pass.now in
    let mid = g.A.UnitAccess.facts c.loop-done.access c.loop-done.pass in
    let done = c.loop-done.invariant.2 in
    let n : ℕ = c.args.first + c.loop-done.done in
    let next : 1 ≤ mid.spare (shard_of old.shards (named_at old.keys c.args.request.now.bios n).sector) = next_spare old mid c.args.request.now c.loop-done.request c.args.first c.loop-done.done c.args.count done c.loop-done-test.true c.requires.spare in
    let sector : (named_at c.args.keys.now.keys c.loop-done.request.bios n).sector ≡ (named_at old.keys c.args.request.now.bios n).sector =
    ap (λ u. u.sector) (same_named_at c.args.keys.now.keys c.args.request.now.bios c.loop-done.request.bios n done.bios) ∙ ap (λ (ks : List KeyData). (named_at ks c.args.request.now.bios n).sector) (sym c.requires.keys) in
    let shards : mid.shards ≡ old.shards = ap (λ (f : AccessFacts). f.shards) done.same in
    subst (λ k. 1 ≤ mid.spare (shard_of k (named_at c.args.keys.now.keys c.loop-done.request.bios n).sector)) (sym shards)
    (subst (λ k. 1 ≤ mid.spare (shard_of old.shards k)) (sym sector) next)

pub loop-done-preserved : goal.loop-done-preserved
loop-done-preserved g c = (
  c.carry_out_one.ensures.same ∙ c.loop-done.invariant.0,
  c.carry_out_one.ensures.ready,
  done_more c.order_laws.ensures.answers_stay (g.A.UnitAccess.facts c.args.access.now c.args.pass.now) (g.A.UnitAccess.facts c.loop-done.access c.loop-done.pass) (g.A.UnitAccess.facts c.carry_out_one.new.access c.carry_out_one.new.pass)
      c.args.request.now c.loop-done.request c.carry_out_one.new.request c.args.first c.loop-done.done c.loop-done.invariant.2 c.carry_out_one.ensures.carries,
)
