use Rattle.std.proofs.Common.{rules, ◌+◌, ◌<◌, ◌++◌, ◌∷◌, [], map, length, ap, sym, ◌∙◌, arith}
use Rattle.std.proofs.lemmas.List.{length-map}
use Rattle.bc_base.proofs.Lists.{each_at, at_read}
use Rattle.bc_medium.proofs.Openings.{mapped_read, column_step}
use Rattle.bc_medium.proofs.medium.shard_quotas.Goals as goal

pub overflow_add-room : goal.overflow_add-room
overflow_add-room c =
    let inside : c.loop-k.k < length c.args.quotas.now.items = search rules in
    let long = length-map c.args.quotas.now.items (λ r. r.items) in
    let in_row = each_at (λ r. c.args.shard < length r.items) c.args.quotas.now.items c.loop-k.k c.index-row.result.now c.requires.rows (at_read c.args.quotas.now.items c.loop-k.k c.index-row.result.now inside c.index-row.ensures) in
    let s = column_step (map (λ r. r.items) c.args.quotas.now.items) c.loop-k.k c.args.shard c.index-row.result.now.items c.index-quota.result.now (omega arith) (mapped_read (λ r. r.items) c.args.quotas.now.items c.loop-k.k c.index-row.result.now c.index-row.ensures) in_row c.index-quota.ensures in
    let a = s.1 in let b = s.2 in let f = c.requires.fits in let i = c.loop-k.invariant.1 in omega arith

pub loop-k-preserved : goal.loop-k-preserved
loop-k-preserved c =
    let inside : c.loop-k.k < length c.args.quotas.now.items = search rules in
    let long = length-map c.args.quotas.now.items (λ r. r.items) in
    let in_row = each_at (λ r. c.args.shard < length r.items) c.args.quotas.now.items c.loop-k.k c.index-row.result.now c.requires.rows (at_read c.args.quotas.now.items c.loop-k.k c.index-row.result.now inside c.index-row.ensures) in
    let s = column_step (map (λ r. r.items) c.args.quotas.now.items) c.loop-k.k c.args.shard c.index-row.result.now.items c.index-quota.result.now (omega arith) (mapped_read (λ r. r.items) c.args.quotas.now.items c.loop-k.k c.index-row.result.now c.index-row.ensures) in_row c.index-quota.ensures in
    (c.in_ok-push.ensures.items ∙ ap (λ l. l ++ c.index-quota.result.now ∷ []) c.loop-k.invariant.0 ∙ sym s.0, ap (λ n. n + c.index-quota.result.now) c.loop-k.invariant.1 ∙ sym s.1)
