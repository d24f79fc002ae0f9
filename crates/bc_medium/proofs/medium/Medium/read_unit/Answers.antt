use Rattle.std.proofs.Common.{rules, ◌≡◌, ◌↔◌, true, false, take, Some, refl, ap, sym, subst}
use Rattle.std.specs.Prelude.{IfSome, Contains}
use Rattle.bc_base.specs.Lists.{Each, AllAt, list_at}
use Rattle.bc_bio.specs.declared.access.Access.TheVariants.{Read}
use Rattle.bc_bio.specs.Extent.{unit_sectors}
use Rattle.bc_turn.specs.PassParts.{IsOf, GoesOn}
use Rattle.bc_medium.specs.KeyedDisk.{Faulted, Text, deciphered}
use Rattle.bc_medium.specs.Entries.{read_entry, failed_entry, caller_of, unit_name, IsToldAt, Stand}
use Rattle.bc_medium.specs.ShardOrder.{IsOrder}
use Rattle.bc_medium.specs.Medium.{Keeps, seen_by}
use Rattle.bc_medium.proofs.Told.{told_one, read_answer}
use Rattle.bc_medium.proofs.Access.{either_way, ready, visit, piece_of, at_cell, stood_before}
use Rattle.bc_medium.proofs.medium.Medium.read_unit.Goals as goal

pub read-outcome-requires-clause-spare : goal.read-outcome-requires-clause-spare
read-outcome-requires-clause-spare g c =
    let same = subst (λ m. Each (λ d. d.base.keys ≡ m.keys.keys) m.turns.cells) c.self.view_is c.self.invariant.same_keys in
    let r = ready g.S.Store.owns g.S.Store.contents g.S.Store.calls g.S.Store.faults c.args.self.now c.args.pass.now c.take-value.new.pass c.shard_of-shard.result c.args.at.sector (unit_sectors c.args.self.now.keys.keys c.args.at.context) c.take-value.result c.requires.pass same c.shard_of-shard.ensures.shard c.requires.spare c.requires.sectors c.take-value.ensures.took in
    r.spare

pub read-outcome-requires-clause-piece : goal.read-outcome-requires-clause-piece
read-outcome-requires-clause-piece g c =
    let same = subst (λ m. Each (λ d. d.base.keys ≡ m.keys.keys) m.turns.cells) c.self.view_is c.self.invariant.same_keys in
    let r = ready g.S.Store.owns g.S.Store.contents g.S.Store.calls g.S.Store.faults c.args.self.now c.args.pass.now c.take-value.new.pass c.shard_of-shard.result c.args.at.sector (unit_sectors c.args.self.now.keys.keys c.args.at.context) c.take-value.result c.requires.pass same c.shard_of-shard.ensures.shard c.requires.spare c.requires.sectors c.take-value.ensures.took in
    piece_of (g.S.Store.owns c.take-value.result.store) c.args.at.sector (unit_sectors c.args.self.now.keys.keys c.args.at.context) c.args.raw.now c.requires.length r.owned

pub give-requires-clause-held : goal.give-requires-clause-held
give-requires-clause-held g c =
    let same = subst (λ m. Each (λ d. d.base.keys ≡ m.keys.keys) m.turns.cells) c.self.view_is c.self.invariant.same_keys in
    let r = ready g.S.Store.owns g.S.Store.contents g.S.Store.calls g.S.Store.faults c.args.self.now c.args.pass.now c.take-value.new.pass c.shard_of-shard.result c.args.at.sector (unit_sectors c.args.self.now.keys.keys c.args.at.context) c.take-value.result c.requires.pass same c.shard_of-shard.ensures.shard c.requires.spare c.requires.sectors c.take-value.ensures.took in
    either_way c.read-outcome.result _ _ (AllAt c.take-value.new.pass.parts c.shard_of-shard.result (λ q. (q.holds ≡ true) × GoesOn (λ v. v.entries) (Keeps g.S.Store.owns g.S.Store.contents g.S.Store.calls g.S.Store.faults) caller_of q c.read-outcome.new.self))
    (λ x e. (visit g.S.Store.owns g.S.Store.contents g.S.Store.calls g.S.Store.faults c.args.self.now c.args.pass.now c.take-value.new.pass c.shard_of-shard.result c.args.at.sector (unit_sectors c.args.self.now.keys.keys c.args.at.context) c.take-value.result c.read-outcome.new.self (read_entry c.args.at c.args.via) r c.requires.pass c.requires.caller c.take-value.ensures.took (subst (λ ks. IsOrder g.S.Store.owns g.S.Store.contents g.S.Store.calls g.S.Store.faults r.cell.base.store (Some ks) c.read-outcome.new.self.store c.read-outcome.new.self.entries) r.keys (c.read-outcome.ensures.order r.cell.base.store (Some r.cell.base.keys) r.keeps.order)) e.1 e.2 c.read-outcome.ensures.small).may_give)
    (λ x e. (visit g.S.Store.owns g.S.Store.contents g.S.Store.calls g.S.Store.faults c.args.self.now c.args.pass.now c.take-value.new.pass c.shard_of-shard.result c.args.at.sector (unit_sectors c.args.self.now.keys.keys c.args.at.context) c.take-value.result c.read-outcome.new.self (failed_entry Read c.args.at c.args.via) r c.requires.pass c.requires.caller c.take-value.ensures.took (subst (λ ks. IsOrder g.S.Store.owns g.S.Store.contents g.S.Store.calls g.S.Store.faults r.cell.base.store (Some ks) c.read-outcome.new.self.store c.read-outcome.new.self.entries) r.keys (c.read-outcome.ensures.order r.cell.base.store (Some r.cell.base.keys) r.keeps.order)) e.1 e.2 c.read-outcome.ensures.small).may_give) c.read-outcome.ensures.ok c.read-outcome.ensures.fault

pub returns-in-Ok-clause-pass : goal.returns-in-Ok-clause-pass
returns-in-Ok-clause-pass g c =
    let same = subst (λ m. Each (λ d. d.base.keys ≡ m.keys.keys) m.turns.cells) c.self.view_is c.self.invariant.same_keys in
    let r = ready g.S.Store.owns g.S.Store.contents g.S.Store.calls g.S.Store.faults c.args.self.now c.args.pass.now c.take-value.new.pass c.shard_of-shard.result c.args.at.sector (unit_sectors c.args.self.now.keys.keys c.args.at.context) c.take-value.result c.requires.pass same c.shard_of-shard.ensures.shard c.requires.spare c.requires.sectors c.take-value.ensures.took in
    let s = (visit g.S.Store.owns g.S.Store.contents g.S.Store.calls g.S.Store.faults c.args.self.now c.args.pass.now c.take-value.new.pass c.shard_of-shard.result c.args.at.sector (unit_sectors c.args.self.now.keys.keys c.args.at.context) c.take-value.result c.read-outcome.new.self (read_entry c.args.at c.args.via) r c.requires.pass c.requires.caller c.take-value.ensures.took (subst (λ ks. IsOrder g.S.Store.owns g.S.Store.contents g.S.Store.calls g.S.Store.faults r.cell.base.store (Some ks) c.read-outcome.new.self.store c.read-outcome.new.self.entries) r.keys (c.in-Ok.ensures.order r.cell.base.store (Some r.cell.base.keys) r.keeps.order)) c.in-Ok.ensures.ok.1 c.in-Ok.ensures.ok.2 c.in-Ok.ensures.small).after c.give.new.pass (subst (λ t. IsOf t c.give.new.pass) (ap (λ m. m.turns) c.self.view_is) c.give.ensures.pass) c.give.ensures.gave in
    s.belongs

pub returns-in-Ok-clause-caller : goal.returns-in-Ok-clause-caller
returns-in-Ok-clause-caller g c =
    let same = subst (λ m. Each (λ d. d.base.keys ≡ m.keys.keys) m.turns.cells) c.self.view_is c.self.invariant.same_keys in
    let r = ready g.S.Store.owns g.S.Store.contents g.S.Store.calls g.S.Store.faults c.args.self.now c.args.pass.now c.take-value.new.pass c.shard_of-shard.result c.args.at.sector (unit_sectors c.args.self.now.keys.keys c.args.at.context) c.take-value.result c.requires.pass same c.shard_of-shard.ensures.shard c.requires.spare c.requires.sectors c.take-value.ensures.took in
    let s = (visit g.S.Store.owns g.S.Store.contents g.S.Store.calls g.S.Store.faults c.args.self.now c.args.pass.now c.take-value.new.pass c.shard_of-shard.result c.args.at.sector (unit_sectors c.args.self.now.keys.keys c.args.at.context) c.take-value.result c.read-outcome.new.self (read_entry c.args.at c.args.via) r c.requires.pass c.requires.caller c.take-value.ensures.took (subst (λ ks. IsOrder g.S.Store.owns g.S.Store.contents g.S.Store.calls g.S.Store.faults r.cell.base.store (Some ks) c.read-outcome.new.self.store c.read-outcome.new.self.entries) r.keys (c.in-Ok.ensures.order r.cell.base.store (Some r.cell.base.keys) r.keeps.order)) c.in-Ok.ensures.ok.1 c.in-Ok.ensures.ok.2 c.in-Ok.ensures.small).after c.give.new.pass (subst (λ t. IsOf t c.give.new.pass) (ap (λ m. m.turns) c.self.view_is) c.give.ensures.pass) c.give.ensures.gave in
    s.same_caller

pub returns-in-Ok-clause-performs : goal.returns-in-Ok-clause-performs
returns-in-Ok-clause-performs g c =
    let same = subst (λ m. Each (λ d. d.base.keys ≡ m.keys.keys) m.turns.cells) c.self.view_is c.self.invariant.same_keys in
    let r = ready g.S.Store.owns g.S.Store.contents g.S.Store.calls g.S.Store.faults c.args.self.now c.args.pass.now c.take-value.new.pass c.shard_of-shard.result c.args.at.sector (unit_sectors c.args.self.now.keys.keys c.args.at.context) c.take-value.result c.requires.pass same c.shard_of-shard.ensures.shard c.requires.spare c.requires.sectors c.take-value.ensures.took in
    let s = (visit g.S.Store.owns g.S.Store.contents g.S.Store.calls g.S.Store.faults c.args.self.now c.args.pass.now c.take-value.new.pass c.shard_of-shard.result c.args.at.sector (unit_sectors c.args.self.now.keys.keys c.args.at.context) c.take-value.result c.read-outcome.new.self (read_entry c.args.at c.args.via) r c.requires.pass c.requires.caller c.take-value.ensures.took (subst (λ ks. IsOrder g.S.Store.owns g.S.Store.contents g.S.Store.calls g.S.Store.faults r.cell.base.store (Some ks) c.read-outcome.new.self.store c.read-outcome.new.self.entries) r.keys (c.in-Ok.ensures.order r.cell.base.store (Some r.cell.base.keys) r.keeps.order)) c.in-Ok.ensures.ok.1 c.in-Ok.ensures.ok.2 c.in-Ok.ensures.small).after c.give.new.pass (subst (λ t. IsOf t c.give.new.pass) (ap (λ m. m.turns) c.self.view_is) c.give.ensures.pass) c.give.ensures.gave in
    (c.take-value.result.entries, record { shard = c.shard_of-shard.ensures.shard; index = c.in-Ok.ensures.ok.0; appended = s.appended })

pub returns-in-Ok-clause-stood : goal.returns-in-Ok-clause-stood
returns-in-Ok-clause-stood g c =
    let same = subst (λ m. Each (λ d. d.base.keys ≡ m.keys.keys) m.turns.cells) c.self.view_is c.self.invariant.same_keys in
    let r = ready g.S.Store.owns g.S.Store.contents g.S.Store.calls g.S.Store.faults c.args.self.now c.args.pass.now c.take-value.new.pass c.shard_of-shard.result c.args.at.sector (unit_sectors c.args.self.now.keys.keys c.args.at.context) c.take-value.result c.requires.pass same c.shard_of-shard.ensures.shard c.requires.spare c.requires.sectors c.take-value.ensures.took in
    let s = (visit g.S.Store.owns g.S.Store.contents g.S.Store.calls g.S.Store.faults c.args.self.now c.args.pass.now c.take-value.new.pass c.shard_of-shard.result c.args.at.sector (unit_sectors c.args.self.now.keys.keys c.args.at.context) c.take-value.result c.read-outcome.new.self (read_entry c.args.at c.args.via) r c.requires.pass c.requires.caller c.take-value.ensures.took (subst (λ ks. IsOrder g.S.Store.owns g.S.Store.contents g.S.Store.calls g.S.Store.faults r.cell.base.store (Some ks) c.read-outcome.new.self.store c.read-outcome.new.self.entries) r.keys (c.in-Ok.ensures.order r.cell.base.store (Some r.cell.base.keys) r.keeps.order)) c.in-Ok.ensures.ok.1 c.in-Ok.ensures.ok.2 c.in-Ok.ensures.small).after c.give.new.pass (subst (λ t. IsOf t c.give.new.pass) (ap (λ m. m.turns) c.self.view_is) c.give.ensures.pass) c.give.ensures.gave in
    let stand : Stand c.args.self.now.keys.keys (g.S.Store.contents r.cell.base.store) c.take-value.result.entries c.args.at.sector c.read-outcome.new.raw = c.in-Ok.ensures.stands r.cell.base.store (Some r.cell.base.keys) c.args.self.now.keys.keys r.keys r.keeps.order in
    at_cell c.args.self.now.turns.cells c.shard_of-shard.result r.cell (λ b. Stand c.args.self.now.keys.keys (g.S.Store.contents b.store) (take c.in-Ok.index (list_at (seen_by c.give.new.pass) c.shard_of-shard.result)) c.args.at.sector c.read-outcome.new.raw) r.cell_at
    (stood_before c.args.self.now.keys.keys (g.S.Store.contents r.cell.base.store) c.take-value.result.entries (list_at (seen_by c.give.new.pass) c.shard_of-shard.result) (read_entry c.args.at c.args.via) c.in-Ok.index c.args.at.sector c.read-outcome.new.raw s.appended.ends c.in-Ok.ensures.ok.0 stand)

pub returns-in-Ok-clause-answer : goal.returns-in-Ok-clause-answer
returns-in-Ok-clause-answer g c =
    let same = subst (λ m. Each (λ d. d.base.keys ≡ m.keys.keys) m.turns.cells) c.self.view_is c.self.invariant.same_keys in
    let r = ready g.S.Store.owns g.S.Store.contents g.S.Store.calls g.S.Store.faults c.args.self.now c.args.pass.now c.take-value.new.pass c.shard_of-shard.result c.args.at.sector (unit_sectors c.args.self.now.keys.keys c.args.at.context) c.take-value.result c.requires.pass same c.shard_of-shard.ensures.shard c.requires.spare c.requires.sectors c.take-value.ensures.took in
    let s = (visit g.S.Store.owns g.S.Store.contents g.S.Store.calls g.S.Store.faults c.args.self.now c.args.pass.now c.take-value.new.pass c.shard_of-shard.result c.args.at.sector (unit_sectors c.args.self.now.keys.keys c.args.at.context) c.take-value.result c.read-outcome.new.self (read_entry c.args.at c.args.via) r c.requires.pass c.requires.caller c.take-value.ensures.took (subst (λ ks. IsOrder g.S.Store.owns g.S.Store.contents g.S.Store.calls g.S.Store.faults r.cell.base.store (Some ks) c.read-outcome.new.self.store c.read-outcome.new.self.entries) r.keys (c.in-Ok.ensures.order r.cell.base.store (Some r.cell.base.keys) r.keeps.order)) c.in-Ok.ensures.ok.1 c.in-Ok.ensures.ok.2 c.in-Ok.ensures.small).after c.give.new.pass (subst (λ t. IsOf t c.give.new.pass) (ap (λ m. m.turns) c.self.view_is) c.give.ensures.pass) c.give.ensures.gave in
    let stand : Stand c.args.self.now.keys.keys (g.S.Store.contents r.cell.base.store) c.take-value.result.entries c.args.at.sector c.read-outcome.new.raw = c.in-Ok.ensures.stands r.cell.base.store (Some r.cell.base.keys) c.args.self.now.keys.keys r.keys r.keeps.order in
    at_cell c.args.self.now.turns.cells c.shard_of-shard.result r.cell (λ b. IsToldAt c.args.self.now.keys.keys (g.S.Store.contents b.store) (list_at (seen_by c.give.new.pass) c.shard_of-shard.result) c.in-Ok.index (unit_name c.args.at) (Text (deciphered c.args.self.now.keys.keys c.args.at.context c.read-outcome.new.raw))) r.cell_at
    (told_one c.args.self.now.keys.keys (g.S.Store.contents r.cell.base.store) c.take-value.result.entries (list_at (seen_by c.give.new.pass) c.shard_of-shard.result) (read_entry c.args.at c.args.via) c.in-Ok.index (Text (deciphered c.args.self.now.keys.keys c.args.at.context c.read-outcome.new.raw)) s.appended.ends c.in-Ok.ensures.ok.0
    (read_answer c.args.self.now.keys.keys (g.S.Store.contents r.cell.base.store) c.take-value.result.entries c.args.at c.args.via c.read-outcome.new.raw stand (search rules)))

pub returns-in-Ok-clause-planned : goal.returns-in-Ok-clause-planned
returns-in-Ok-clause-planned g c =
    let same = subst (λ m. Each (λ d. d.base.keys ≡ m.keys.keys) m.turns.cells) c.self.view_is c.self.invariant.same_keys in
    let r = ready g.S.Store.owns g.S.Store.contents g.S.Store.calls g.S.Store.faults c.args.self.now c.args.pass.now c.take-value.new.pass c.shard_of-shard.result c.args.at.sector (unit_sectors c.args.self.now.keys.keys c.args.at.context) c.take-value.result c.requires.pass same c.shard_of-shard.ensures.shard c.requires.spare c.requires.sectors c.take-value.ensures.took in
    at_cell c.args.self.now.turns.cells c.shard_of-shard.result r.cell (λ b. IfSome (g.S.Store.calls b.store) (λ t. (false ≡ true) ↔ Contains t.plan c.in-Ok.index)) r.cell_at
    (subst (λ n. IfSome (g.S.Store.calls r.cell.base.store) (λ t. (false ≡ true) ↔ Contains t.plan n)) (sym c.in-Ok.ensures.ok.0) (c.in-Ok.ensures.planned r.cell.base.store (Some r.cell.base.keys) r.keeps.order))

pub returns-in-Err-clause-pass : goal.returns-in-Err-clause-pass
returns-in-Err-clause-pass g c =
    let same = subst (λ m. Each (λ d. d.base.keys ≡ m.keys.keys) m.turns.cells) c.self.view_is c.self.invariant.same_keys in
    let r = ready g.S.Store.owns g.S.Store.contents g.S.Store.calls g.S.Store.faults c.args.self.now c.args.pass.now c.take-value.new.pass c.shard_of-shard.result c.args.at.sector (unit_sectors c.args.self.now.keys.keys c.args.at.context) c.take-value.result c.requires.pass same c.shard_of-shard.ensures.shard c.requires.spare c.requires.sectors c.take-value.ensures.took in
    let s = (visit g.S.Store.owns g.S.Store.contents g.S.Store.calls g.S.Store.faults c.args.self.now c.args.pass.now c.take-value.new.pass c.shard_of-shard.result c.args.at.sector (unit_sectors c.args.self.now.keys.keys c.args.at.context) c.take-value.result c.read-outcome.new.self (failed_entry Read c.args.at c.args.via) r c.requires.pass c.requires.caller c.take-value.ensures.took (subst (λ ks. IsOrder g.S.Store.owns g.S.Store.contents g.S.Store.calls g.S.Store.faults r.cell.base.store (Some ks) c.read-outcome.new.self.store c.read-outcome.new.self.entries) r.keys (c.in-Err.ensures.order r.cell.base.store (Some r.cell.base.keys) r.keeps.order)) c.in-Err.ensures.fault.1 c.in-Err.ensures.fault.2 c.in-Err.ensures.small).after c.give.new.pass (subst (λ t. IsOf t c.give.new.pass) (ap (λ m. m.turns) c.self.view_is) c.give.ensures.pass) c.give.ensures.gave in
    s.belongs

pub returns-in-Err-clause-caller : goal.returns-in-Err-clause-caller
returns-in-Err-clause-caller g c =
    let same = subst (λ m. Each (λ d. d.base.keys ≡ m.keys.keys) m.turns.cells) c.self.view_is c.self.invariant.same_keys in
    let r = ready g.S.Store.owns g.S.Store.contents g.S.Store.calls g.S.Store.faults c.args.self.now c.args.pass.now c.take-value.new.pass c.shard_of-shard.result c.args.at.sector (unit_sectors c.args.self.now.keys.keys c.args.at.context) c.take-value.result c.requires.pass same c.shard_of-shard.ensures.shard c.requires.spare c.requires.sectors c.take-value.ensures.took in
    let s = (visit g.S.Store.owns g.S.Store.contents g.S.Store.calls g.S.Store.faults c.args.self.now c.args.pass.now c.take-value.new.pass c.shard_of-shard.result c.args.at.sector (unit_sectors c.args.self.now.keys.keys c.args.at.context) c.take-value.result c.read-outcome.new.self (failed_entry Read c.args.at c.args.via) r c.requires.pass c.requires.caller c.take-value.ensures.took (subst (λ ks. IsOrder g.S.Store.owns g.S.Store.contents g.S.Store.calls g.S.Store.faults r.cell.base.store (Some ks) c.read-outcome.new.self.store c.read-outcome.new.self.entries) r.keys (c.in-Err.ensures.order r.cell.base.store (Some r.cell.base.keys) r.keeps.order)) c.in-Err.ensures.fault.1 c.in-Err.ensures.fault.2 c.in-Err.ensures.small).after c.give.new.pass (subst (λ t. IsOf t c.give.new.pass) (ap (λ m. m.turns) c.self.view_is) c.give.ensures.pass) c.give.ensures.gave in
    s.same_caller

pub returns-in-Err-clause-performs_fault : goal.returns-in-Err-clause-performs_fault
returns-in-Err-clause-performs_fault g c =
    let same = subst (λ m. Each (λ d. d.base.keys ≡ m.keys.keys) m.turns.cells) c.self.view_is c.self.invariant.same_keys in
    let r = ready g.S.Store.owns g.S.Store.contents g.S.Store.calls g.S.Store.faults c.args.self.now c.args.pass.now c.take-value.new.pass c.shard_of-shard.result c.args.at.sector (unit_sectors c.args.self.now.keys.keys c.args.at.context) c.take-value.result c.requires.pass same c.shard_of-shard.ensures.shard c.requires.spare c.requires.sectors c.take-value.ensures.took in
    let s = (visit g.S.Store.owns g.S.Store.contents g.S.Store.calls g.S.Store.faults c.args.self.now c.args.pass.now c.take-value.new.pass c.shard_of-shard.result c.args.at.sector (unit_sectors c.args.self.now.keys.keys c.args.at.context) c.take-value.result c.read-outcome.new.self (failed_entry Read c.args.at c.args.via) r c.requires.pass c.requires.caller c.take-value.ensures.took (subst (λ ks. IsOrder g.S.Store.owns g.S.Store.contents g.S.Store.calls g.S.Store.faults r.cell.base.store (Some ks) c.read-outcome.new.self.store c.read-outcome.new.self.entries) r.keys (c.in-Err.ensures.order r.cell.base.store (Some r.cell.base.keys) r.keeps.order)) c.in-Err.ensures.fault.1 c.in-Err.ensures.fault.2 c.in-Err.ensures.small).after c.give.new.pass (subst (λ t. IsOf t c.give.new.pass) (ap (λ m. m.turns) c.self.view_is) c.give.ensures.pass) c.give.ensures.gave in
    (c.take-value.result.entries, record { shard = c.shard_of-shard.ensures.shard; index = c.in-Err.ensures.fault.0; appended = s.appended })

pub returns-in-Err-clause-answer_fault : goal.returns-in-Err-clause-answer_fault
returns-in-Err-clause-answer_fault g c =
    let same = subst (λ m. Each (λ d. d.base.keys ≡ m.keys.keys) m.turns.cells) c.self.view_is c.self.invariant.same_keys in
    let r = ready g.S.Store.owns g.S.Store.contents g.S.Store.calls g.S.Store.faults c.args.self.now c.args.pass.now c.take-value.new.pass c.shard_of-shard.result c.args.at.sector (unit_sectors c.args.self.now.keys.keys c.args.at.context) c.take-value.result c.requires.pass same c.shard_of-shard.ensures.shard c.requires.spare c.requires.sectors c.take-value.ensures.took in
    let s = (visit g.S.Store.owns g.S.Store.contents g.S.Store.calls g.S.Store.faults c.args.self.now c.args.pass.now c.take-value.new.pass c.shard_of-shard.result c.args.at.sector (unit_sectors c.args.self.now.keys.keys c.args.at.context) c.take-value.result c.read-outcome.new.self (failed_entry Read c.args.at c.args.via) r c.requires.pass c.requires.caller c.take-value.ensures.took (subst (λ ks. IsOrder g.S.Store.owns g.S.Store.contents g.S.Store.calls g.S.Store.faults r.cell.base.store (Some ks) c.read-outcome.new.self.store c.read-outcome.new.self.entries) r.keys (c.in-Err.ensures.order r.cell.base.store (Some r.cell.base.keys) r.keeps.order)) c.in-Err.ensures.fault.1 c.in-Err.ensures.fault.2 c.in-Err.ensures.small).after c.give.new.pass (subst (λ t. IsOf t c.give.new.pass) (ap (λ m. m.turns) c.self.view_is) c.give.ensures.pass) c.give.ensures.gave in
    λ cell at. told_one c.args.self.now.keys.keys (g.S.Store.contents cell.base.store) c.take-value.result.entries (list_at (seen_by c.give.new.pass) c.shard_of-shard.result) (failed_entry Read c.args.at c.args.via) c.in-Err.index Faulted s.appended.ends c.in-Err.ensures.fault.0 (λ disk is. refl)

pub returns-in-Err-clause-planned_fault : goal.returns-in-Err-clause-planned_fault
returns-in-Err-clause-planned_fault g c =
    let same = subst (λ m. Each (λ d. d.base.keys ≡ m.keys.keys) m.turns.cells) c.self.view_is c.self.invariant.same_keys in
    let r = ready g.S.Store.owns g.S.Store.contents g.S.Store.calls g.S.Store.faults c.args.self.now c.args.pass.now c.take-value.new.pass c.shard_of-shard.result c.args.at.sector (unit_sectors c.args.self.now.keys.keys c.args.at.context) c.take-value.result c.requires.pass same c.shard_of-shard.ensures.shard c.requires.spare c.requires.sectors c.take-value.ensures.took in
    at_cell c.args.self.now.turns.cells c.shard_of-shard.result r.cell (λ b. IfSome (g.S.Store.calls b.store) (λ t. (true ≡ true) ↔ Contains t.plan c.in-Err.index)) r.cell_at
    (subst (λ n. IfSome (g.S.Store.calls r.cell.base.store) (λ t. (true ≡ true) ↔ Contains t.plan n)) (sym c.in-Err.ensures.fault.0) (c.in-Err.ensures.planned r.cell.base.store (Some r.cell.base.keys) r.keeps.order))
