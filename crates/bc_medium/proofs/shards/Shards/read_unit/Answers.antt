use Rattle.std.proofs.Common.{rules, ◌≡◌, ◌/◌, ◌%◌, ◌≤◌, length, true, false, refl, ap, sym, ◌∙◌, subst}
use Rattle.bc_bio.specs.declared.access.Access.TheVariants.{Read}
use Rattle.bc_medium.specs.Layout.{shard_of}
use Rattle.bc_medium.specs.Entries.{read_entry, failed_entry, Stand}
use Rattle.bc_base.specs.Lists.{At}
use Rattle.bc_base.proofs.Lists.{at_one}
use Rattle.bc_medium.specs.ShardOrder.{ShardData, Appends, keys_or_none}
use Rattle.bc_medium.specs.KeyedDisk.{Faulted, Text, deciphered}
use Rattle.bc_medium.proofs.Chosen.{chosen, changed, planned_at, adds}
use Rattle.bc_medium.proofs.Told.{answers_one, read_answer, has_keys}
use Rattle.bc_medium.proofs.shards.Shards.read_unit.Goals as goal

pub read-outcome-requires-clause-spare : goal.read-outcome-requires-clause-spare
read-outcome-requires-clause-spare g c =
    let n : c.len.result ≡ length c.self.inside.shards.items = search rules in let some : 1 ≤ length c.self.inside.shards.items = let i = c.self.invariant.0 in search rules in
    let i : c.from.result ≡ shard_of (length c.self.inside.shards.items) c.args.at.sector = c.from.ensures ∙ ap (λ m. c.args.at.sector / 8 % m) n in
    c.requires.spare _ (chosen c.args.self.now c.self.inside.shards.items c.from.result c.args.at.sector c.index_mut.result.now c.self.view_is i some c.index_mut.ensures.value)

pub read-outcome-requires-clause-piece : goal.read-outcome-requires-clause-piece
read-outcome-requires-clause-piece g c =
    let n : c.len.result ≡ length c.self.inside.shards.items = search rules in let some : 1 ≤ length c.self.inside.shards.items = let i = c.self.invariant.0 in search rules in
    let i : c.from.result ≡ shard_of (length c.self.inside.shards.items) c.args.at.sector = c.from.ensures ∙ ap (λ m. c.args.at.sector / 8 % m) n in
    c.requires.sectors _ (chosen c.args.self.now c.self.inside.shards.items c.from.result c.args.at.sector c.index_mut.result.now c.self.view_is i some c.index_mut.ensures.value)

pub returns-in-Ok-clause-ok : goal.returns-in-Ok-clause-ok
returns-in-Ok-clause-ok g c =
    let n : c.len.result ≡ length c.self.inside.shards.items = search rules in let some : 1 ≤ length c.self.inside.shards.items = let i = c.self.invariant.0 in search rules in
    let i : c.from.result ≡ shard_of (length c.self.inside.shards.items) c.args.at.sector = c.from.ensures ∙ ap (λ m. c.args.at.sector / 8 % m) n in
    (ap (λ m. c.args.at.sector / 8 % m) n ∙ ap (λ l. shard_of (length l) c.args.at.sector) c.self.view_is, changed c.args.self.now c.self.inside.shards.items c.from.result c.args.at.sector c.index_mut.result.now (c.args.at.sector / 8 % c.len.result) c.read-outcome.new.self (λ s s'. (c.in-Ok.index ≡ length s.entries) × Appends s.keys s s' (read_entry c.args.at c.args.via) × Stand (keys_or_none s.keys) (g.S.Store.contents s.start) s.entries c.args.at.sector c.read-outcome.new.raw) c.self.view_is i some c.index_mut.ensures.value (sym c.from.ensures) (c.in-Ok.ensures.ok.0, c.in-Ok.ensures.ok.1, c.in-Ok.ensures.stands))

pub returns-in-Err-clause-fault : goal.returns-in-Err-clause-fault
returns-in-Err-clause-fault g c =
    let n : c.len.result ≡ length c.self.inside.shards.items = search rules in let some : 1 ≤ length c.self.inside.shards.items = let i = c.self.invariant.0 in search rules in
    let i : c.from.result ≡ shard_of (length c.self.inside.shards.items) c.args.at.sector = c.from.ensures ∙ ap (λ m. c.args.at.sector / 8 % m) n in
    (ap (λ m. c.args.at.sector / 8 % m) n ∙ ap (λ l. shard_of (length l) c.args.at.sector) c.self.view_is, changed c.args.self.now c.self.inside.shards.items c.from.result c.args.at.sector c.index_mut.result.now (c.args.at.sector / 8 % c.len.result) c.read-outcome.new.self (λ s s'. (c.in-Err.index ≡ length s.entries) × Appends s.keys s s' (failed_entry Read c.args.at c.args.via)) c.self.view_is i some c.index_mut.ensures.value (sym c.from.ensures) c.in-Err.ensures.fault)

pub returns-in-Ok-clause-planned : goal.returns-in-Ok-clause-planned
returns-in-Ok-clause-planned g c =
    let n : c.len.result ≡ length c.self.inside.shards.items = search rules in let some : 1 ≤ length c.self.inside.shards.items = let i = c.self.invariant.0 in search rules in
    let i : c.from.result ≡ shard_of (length c.self.inside.shards.items) c.args.at.sector = c.from.ensures ∙ ap (λ m. c.args.at.sector / 8 % m) n in
    planned_at g.S.Store.calls c.args.self.now _ c.index_mut.result.now (false ≡ true) (chosen c.args.self.now c.self.inside.shards.items c.from.result c.args.at.sector c.index_mut.result.now c.self.view_is i some c.index_mut.ensures.value) c.in-Ok.ensures.planned

pub returns-in-Err-clause-planned : goal.returns-in-Err-clause-planned
returns-in-Err-clause-planned g c =
    let n : c.len.result ≡ length c.self.inside.shards.items = search rules in let some : 1 ≤ length c.self.inside.shards.items = let i = c.self.invariant.0 in search rules in
    let i : c.from.result ≡ shard_of (length c.self.inside.shards.items) c.args.at.sector = c.from.ensures ∙ ap (λ m. c.args.at.sector / 8 % m) n in
    planned_at g.S.Store.calls c.args.self.now _ c.index_mut.result.now (true ≡ true) (chosen c.args.self.now c.self.inside.shards.items c.from.result c.args.at.sector c.index_mut.result.now c.self.view_is i some c.index_mut.ensures.value) c.in-Err.ensures.planned

pub returns-in-Ok-clause-performs : goal.returns-in-Ok-clause-performs
returns-in-Ok-clause-performs g c =
    let ok = returns-in-Ok-clause-ok g c in
    adds c.args.self.now _ _ (λ s. s.keys) (read_entry c.args.at c.args.via) ok.1.0 ok.1.1 ok.0 ok.1.2 ok.1.3 ok.1.4.0 ok.1.4.1

pub returns-in-Err-clause-performs_fault : goal.returns-in-Err-clause-performs_fault
returns-in-Err-clause-performs_fault g c =
    let fault = returns-in-Err-clause-fault g c in
    adds c.args.self.now _ _ (λ s. s.keys) (failed_entry Read c.args.at c.args.via) fault.1.0 fault.1.1 fault.0 fault.1.2 fault.1.3 fault.1.4.0 fault.1.4.1

pub returns-in-Ok-clause-answer : goal.returns-in-Ok-clause-answer
returns-in-Ok-clause-answer g c = λ keys have long.
    let ok = returns-in-Ok-clause-ok g c in
    let n : c.len.result ≡ length c.self.inside.shards.items = search rules in let some : 1 ≤ length c.self.inside.shards.items = let i = c.self.invariant.0 in search rules in
    let i : c.from.result ≡ shard_of (length c.self.inside.shards.items) c.args.at.sector = c.from.ensures ∙ ap (λ m. c.args.at.sector / 8 % m) n in
    let here = chosen c.args.self.now c.self.inside.shards.items c.from.result c.args.at.sector c.index_mut.result.now c.self.view_is i some c.index_mut.ensures.value in
    let same : c.index_mut.result.now ≡ ok.1.0 = at_one c.args.self.now _ c.index_mut.result.now ok.1.0 (subst (λ k. At c.args.self.now k c.index_mut.result.now) (sym ok.0) here) ok.1.2 in
    let stand = subst (λ (z : ShardData g.row.S.Denot). Stand keys (g.S.Store.contents z.start) z.entries c.args.at.sector c.read-outcome.new.raw) same (c.in-Ok.ensures.stand keys (has_keys g.S.Store.contents keys c.args.self.now _ c.index_mut.result.now have here)) in
    answers_one g.S.Store.contents keys ok.1.0.keys c.args.self.now _ _ (read_entry c.args.at c.args.via) (Text (deciphered keys c.args.at.context c.read-outcome.new.raw)) ok.1.0 ok.1.1 ok.1.2 ok.1.3 ok.1.4.0 ok.1.4.1
    (read_answer keys (g.S.Store.contents ok.1.0.start) ok.1.0.entries c.args.at c.args.via c.read-outcome.new.raw stand long)

pub returns-in-Err-clause-answer_fault : goal.returns-in-Err-clause-answer_fault
returns-in-Err-clause-answer_fault g c = λ keys.
    let fault = returns-in-Err-clause-fault g c in
    answers_one g.S.Store.contents keys fault.1.0.keys c.args.self.now _ _ (failed_entry Read c.args.at c.args.via) Faulted fault.1.0 fault.1.1 fault.1.2 fault.1.3 fault.1.4.0 fault.1.4.1 (λ disk is. refl)
