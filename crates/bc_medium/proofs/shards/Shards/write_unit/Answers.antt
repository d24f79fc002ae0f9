use Rattle.std.proofs.Common.{rules, ◌≡◌, ◌/◌, ◌%◌, ◌≤◌, length, Some, true, false, refl, ap, sym, ◌∙◌}
use Rattle.bc_bio.specs.declared.access.Access.TheVariants.{Write}
use Rattle.bc_medium.specs.Layout.{shard_of}
use Rattle.bc_medium.specs.Entries.{written_entry, failed_entry}
use Rattle.bc_medium.specs.ShardOrder.{Appends}
use Rattle.bc_medium.specs.KeyedDisk.{Written, Faulted}
use Rattle.bc_medium.proofs.Chosen.{chosen, changed, planned_at, adds}
use Rattle.bc_medium.proofs.Told.{answers_one}
use Rattle.bc_medium.proofs.shards.Shards.write_unit.Goals as goal

pub write-outcome-requires-clause-spare : goal.write-outcome-requires-clause-spare
write-outcome-requires-clause-spare g c =
    let n : c.len.result ≡ length c.self.inside.shards.items = search rules in let some : 1 ≤ length c.self.inside.shards.items = let i = c.self.invariant.0 in search rules in
    let i : c.from.result ≡ shard_of (length c.self.inside.shards.items) c.args.at.sector = c.from.ensures ∙ ap (λ m. c.args.at.sector / 8 % m) n in
    c.requires.spare _ (chosen c.args.self.now c.self.inside.shards.items c.from.result c.args.at.sector c.index_mut.result.now c.self.view_is i some c.index_mut.ensures.value)

pub write-outcome-requires-clause-piece : goal.write-outcome-requires-clause-piece
write-outcome-requires-clause-piece g c =
    let n : c.len.result ≡ length c.self.inside.shards.items = search rules in let some : 1 ≤ length c.self.inside.shards.items = let i = c.self.invariant.0 in search rules in
    let i : c.from.result ≡ shard_of (length c.self.inside.shards.items) c.args.at.sector = c.from.ensures ∙ ap (λ m. c.args.at.sector / 8 % m) n in
    c.requires.sectors _ (chosen c.args.self.now c.self.inside.shards.items c.from.result c.args.at.sector c.index_mut.result.now c.self.view_is i some c.index_mut.ensures.value)

pub returns-in-Ok-clause-ok : goal.returns-in-Ok-clause-ok
returns-in-Ok-clause-ok g c =
    let n : c.len.result ≡ length c.self.inside.shards.items = search rules in let some : 1 ≤ length c.self.inside.shards.items = let i = c.self.invariant.0 in search rules in
    let i : c.from.result ≡ shard_of (length c.self.inside.shards.items) c.args.at.sector = c.from.ensures ∙ ap (λ m. c.args.at.sector / 8 % m) n in
    (ap (λ m. c.args.at.sector / 8 % m) n ∙ ap (λ l. shard_of (length l) c.args.at.sector) c.self.view_is, changed c.args.self.now c.self.inside.shards.items c.from.result c.args.at.sector c.index_mut.result.now (c.args.at.sector / 8 % c.len.result) c.write-outcome.new.self (λ s s'. (c.in-Ok.index ≡ length s.entries) × Appends (Some c.args.keys.now.keys) s s' (written_entry c.args.at c.args.via c.args.plain.items)) c.self.view_is i some c.index_mut.ensures.value (sym c.from.ensures) c.in-Ok.ensures.ok)

pub returns-in-Err-clause-fault : goal.returns-in-Err-clause-fault
returns-in-Err-clause-fault g c =
    let n : c.len.result ≡ length c.self.inside.shards.items = search rules in let some : 1 ≤ length c.self.inside.shards.items = let i = c.self.invariant.0 in search rules in
    let i : c.from.result ≡ shard_of (length c.self.inside.shards.items) c.args.at.sector = c.from.ensures ∙ ap (λ m. c.args.at.sector / 8 % m) n in
    (c.in-Err.ensures.back, ap (λ m. c.args.at.sector / 8 % m) n ∙ ap (λ l. shard_of (length l) c.args.at.sector) c.self.view_is, changed c.args.self.now c.self.inside.shards.items c.from.result c.args.at.sector c.index_mut.result.now (c.args.at.sector / 8 % c.len.result) c.write-outcome.new.self (λ s s'. (c.in-Err.index ≡ length s.entries) × Appends (Some c.args.keys.now.keys) s s' (failed_entry Write c.args.at c.args.via)) c.self.view_is i some c.index_mut.ensures.value (sym c.from.ensures) c.in-Err.ensures.fault)

pub returns-in-Ok-clause-planned : goal.returns-in-Ok-clause-planned
returns-in-Ok-clause-planned g c =
    let n : c.len.result ≡ length c.self.inside.shards.items = search rules in let some : 1 ≤ length c.self.inside.shards.items = let i = c.self.invariant.0 in search rules in
    let i : c.from.result ≡ shard_of (length c.self.inside.shards.items) c.args.at.sector = c.from.ensures ∙ ap (λ m. c.args.at.sector / 8 % m) n in
    planned_at g.S.Store.calls c.args.self.now _ c.index_mut.result.now (false ≡ true) (chosen c.args.self.now c.self.inside.shards.items c.from.result c.args.at.sector c.index_mut.result.now c.self.view_is i some c.index_mut.ensures.value) c.in-Ok.ensures.planned

pub returns-in-Err-clause-planned : goal.returns-in-Err-clause-planned
returns-in-Err-clause-planned g c =
    let n : c.len.result ≡ length c.self.inside.shards.items = search rules in let some : 1 ≤ length c.self.inside.shards.items = let i = c.self.invariant.0 in search rules in
    let i : c.from.result ≡ shard_of (length c.self.inside.shards.items) c.args.at.sector = c.from.ensures ∙ ap (λ m. c.args.at.sector / 8 % m) n in
    planned_at g.S.Store.calls c.args.self.now _ c.index_mut.result.now (true ≡ true) (chosen c.args.self.now c.self.inside.shards.items c.from.result c.args.at.sector c.index_mut.result.now c.self.view_is i some c.index_mut.ensures.value) c.in-Err.ensures.planned

pub returns-in-Ok-clause-performs : goal.returns-in-Ok-clause-performs
returns-in-Ok-clause-performs g c =
    let ok = returns-in-Ok-clause-ok g c in
    adds c.args.self.now _ _ (λ s. Some c.args.keys.now.keys) (written_entry c.args.at c.args.via c.args.plain.items) ok.1.0 ok.1.1 ok.0 ok.1.2 ok.1.3 ok.1.4.0 ok.1.4.1

pub returns-in-Err-clause-performs_fault : goal.returns-in-Err-clause-performs_fault
returns-in-Err-clause-performs_fault g c =
    let fault = returns-in-Err-clause-fault g c in
    adds c.args.self.now _ _ (λ s. Some c.args.keys.now.keys) (failed_entry Write c.args.at c.args.via) fault.2.0 fault.2.1 fault.1 fault.2.2 fault.2.3 fault.2.4.0 fault.2.4.1

pub returns-in-Ok-clause-answer : goal.returns-in-Ok-clause-answer
returns-in-Ok-clause-answer g c =
    let ok = returns-in-Ok-clause-ok g c in
    answers_one g.S.Store.contents c.args.keys.now.keys (Some c.args.keys.now.keys) c.args.self.now _ _ (written_entry c.args.at c.args.via c.args.plain.items) Written ok.1.0 ok.1.1 ok.1.2 ok.1.3 ok.1.4.0 ok.1.4.1 (λ disk is. refl)

pub returns-in-Err-clause-answer_fault : goal.returns-in-Err-clause-answer_fault
returns-in-Err-clause-answer_fault g c = λ keys.
    let fault = returns-in-Err-clause-fault g c in
    answers_one g.S.Store.contents keys (Some c.args.keys.now.keys) c.args.self.now _ _ (failed_entry Write c.args.at c.args.via) Faulted fault.2.0 fault.2.1 fault.2.2 fault.2.3 fault.2.4.0 fault.2.4.1 (λ disk is. refl)
