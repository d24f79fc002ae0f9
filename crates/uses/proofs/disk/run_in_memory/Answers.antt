use Rattle.std.proofs.Common.{◌*◌, ◌≤◌, map, length, sum, refl, subst, arith}
use Rattle.bc_medium.specs.Medium.{quotas_of_shard}
use Rattle.uses.proofs.Disks.{even_fit, no_calls_yet, stores_own}
use Rattle.uses.proofs.disk.run_in_memory.Goals as goal

pub run_callers-requires-clause-fits : goal.run_callers-requires-clause-fits
run_callers-requires-clause-fits g c κs within = λ shard less.
    let most = even_fit (λ row. row.items) c.args.shards c.args.quota shard c.in_ok-quotas.quotas.items c.in_ok-quotas.ensures.rows in
    let here : sum (quotas_of_shard shard (map (λ row. row.items) c.in_ok-quotas.quotas.items)) ≤ length c.args.scripts.now * c.args.quota = subst (λ n. sum (quotas_of_shard shard (map (λ row. row.items) c.in_ok-quotas.quotas.items)) ≤ n * c.args.quota) c.in_ok-quotas.ensures.length most in
    let small = c.requires.quotas in omega arith

pub run_callers-requires-clause-calls : goal.run_callers-requires-clause-calls
run_callers-requires-clause-calls g c κs within = no_calls_yet c.args.image.now c.args.shards 0 c.in_ok-stores.stores.items c.in_ok-stores.ensures.stores

pub run_callers-requires-clause-sectors : goal.run_callers-requires-clause-sectors
run_callers-requires-clause-sectors g c κs within = stores_own c.args.image.now c.args.shards _ c.in_ok-stores.stores.items c.in_ok-stores.ensures.length c.requires.whole.0 refl c.in_ok-stores.ensures.stores
