use Rattle.std.proofs.Common.{rules, ◌≡◌, ◌+◌, ◌-◌, ◌<◌, map, length, sym, ◌∙◌, subst, arith}
use Rattle.bc_base.specs.Lists.{AllAt}
use Rattle.bc_medium.specs.Medium.{quota_of, own_at, IsMedium}
use Rattle.bc_medium.proofs.Openings.{spare_at, mapped_read, row_long}
use Rattle.bc_medium.proofs.medium.Medium.spare.Goals as goal

pub index-quota-requires : goal.index-quota-requires
index-quota-requires g c =
    let is = subst (λ m. IsMedium m.keys.keys c.self.inside.shards (map (λ r. r.items) c.self.inside.quotas.items) m.turns) c.self.view_is c.self.invariant in
    let gr = mapped_read (λ r. r.items) c.self.inside.quotas.items c.from.result c.index-row.result.now c.index-row.ensures in let i = c.from.ensures ∙ c.number.ensures in
    let l = row_long c.args.self.now c.args.pass.now c.self.inside.shards (map (λ r. r.items) c.self.inside.quotas.items) c.index-row.result.now.items c.from.result is c.requires.pass i gr in
    let e = c.from-2.ensures in let s = c.requires.shard in let inside : c.from-2.result < length c.index-row.result.now.items = omega arith in search rules

pub overflow_sub-result : goal.overflow_sub-result
overflow_sub-result g c =
    let is = subst (λ m. IsMedium m.keys.keys c.self.inside.shards (map (λ r. r.items) c.self.inside.quotas.items) m.turns) c.self.view_is c.self.invariant in
    let gr = mapped_read (λ r. r.items) c.self.inside.quotas.items c.from.result c.index-row.result.now c.index-row.ensures in let i = c.from.ensures ∙ c.number.ensures in
    let s = spare_at c.args.self.now c.args.pass.now c.self.inside.shards (map (λ r. r.items) c.self.inside.quotas.items) c.index-row.result.now.items c.from.result c.from-2.result c.args.shard c.index-quota.result.now c.made-made.result is c.requires.pass i c.from-2.ensures c.requires.shard gr c.index-quota.ensures c.made-made.ensures in
    let a = s.0 in let e = c.from-3.ensures in omega arith

pub overflow_cast-result : goal.overflow_cast-result
overflow_cast-result g c =
    let is = subst (λ m. IsMedium m.keys.keys c.self.inside.shards (map (λ r. r.items) c.self.inside.quotas.items) m.turns) c.self.view_is c.self.invariant in
    let gr = mapped_read (λ r. r.items) c.self.inside.quotas.items c.from.result c.index-row.result.now c.index-row.ensures in let i = c.from.ensures ∙ c.number.ensures in
    let s = spare_at c.args.self.now c.args.pass.now c.self.inside.shards (map (λ r. r.items) c.self.inside.quotas.items) c.index-row.result.now.items c.from.result c.from-2.result c.args.shard c.index-quota.result.now c.made-made.result is c.requires.pass i c.from-2.ensures c.requires.shard gr c.index-quota.ensures c.made-made.ensures in
    let a = s.1 in let e = c.from-3.ensures in omega arith

pub returns : goal.returns
returns g c =
    let is = subst (λ m. IsMedium m.keys.keys c.self.inside.shards (map (λ r. r.items) c.self.inside.quotas.items) m.turns) c.self.view_is c.self.invariant in
    let gr = mapped_read (λ r. r.items) c.self.inside.quotas.items c.from.result c.index-row.result.now c.index-row.ensures in let i = c.from.ensures ∙ c.number.ensures in
    let s = spare_at c.args.self.now c.args.pass.now c.self.inside.shards (map (λ r. r.items) c.self.inside.quotas.items) c.index-row.result.now.items c.from.result c.from-2.result c.args.shard c.index-quota.result.now c.made-made.result is c.requires.pass i c.from-2.ensures c.requires.shard gr c.index-quota.ensures c.made-made.ensures in
    subst (λ x. AllAt c.args.self.now.turns.cells c.args.shard (λ cell. (x - c.made-made.result) + own_at c.args.pass.now c.args.shard ≡ quota_of cell.base.quotas c.args.pass.now.caller)) (sym c.from-3.ensures) s.2
