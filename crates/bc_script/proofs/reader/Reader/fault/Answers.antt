use Rattle.std.proofs.Common.{ℕ, List, length, ◌∙◌, sym, ap}
use Rattle.std.proofs.lemmas.Result.{err_from_is_err_and}
use Rattle.bc_script.specs.Lent.{fault_lent}
use Rattle.bc_script.specs.Progress.{Progress, forms_read}
use Rattle.bc_script.specs.Statements.{follows_faults}
use Rattle.bc_script.proofs.Refusals.{fault_access_refused, fault_out_of_order, fault_not_whole, too_many_faults}
use Rattle.bc_script.proofs.reader.Reader.fault.Goals as goal

pub returns-in_err-access : goal.returns-in_err-access
returns-in_err-access c =
    let p = err_from_is_err_and c.from_residual-in_err-access.result c.from_residual-in_err-access.ensures.1 in
    rw (p.1, p.2) (fault_access_refused (forms_read c.args.self.now) (fault_lent c.args.form) c.in_err-access.field-0.0 c.in_ok-shard.ensures.passes c.in_err-access.ensures)

pub returns-then-not-is_after : goal.returns-then-not-is_after
returns-then-not-is_after c =
    rw (sym c.self.view_is)
    (fault_out_of_order _ (fault_lent c.args.form) c.in_ok-shard.shard c.in_ok-access.access c.is_after.result c.self.invariant.rules c.in_ok-shard.ensures c.in_ok-access.ensures (c.is_after.ensures ∙ ap (λ (faults : List (ℕ × ℕ)). follows_faults faults (c.in_ok-shard.shard, c.in_ok-access.access)) c.as_slice.ensures.value)
    c.if-not-is_after.true)

pub returns-then-not-are_whole : goal.returns-then-not-are_whole
returns-then-not-are_whole c =
    let is = c.are_whole.ensures.rules in
    let after = c.is_after.ensures ∙ ap (λ (faults : List (ℕ × ℕ)). follows_faults faults (c.in_ok-shard.shard, c.in_ok-access.access)) c.as_slice.ensures.value ∙ ap (λ (p : Progress). follows_faults p.faults (c.in_ok-shard.shard, c.in_ok-access.access)) c.self.view_is in
    fault_not_whole c.args.self.now (fault_lent c.args.form) c.in_ok-shard.shard c.in_ok-access.access c.is_after.result is c.in_ok-shard.ensures c.in_ok-access.ensures after
    c.are_whole.result c.if-not-is_after.false c.are_whole.ensures.test c.if-not-are_whole.true

pub returns-then-len-ge-MAX_FAULTS : goal.returns-then-len-ge-MAX_FAULTS
returns-then-len-ge-MAX_FAULTS c =
    let is = c.are_whole.ensures.rules in
    let after = c.is_after.ensures ∙ ap (λ (faults : List (ℕ × ℕ)). follows_faults faults (c.in_ok-shard.shard, c.in_ok-access.access)) c.as_slice.ensures.value ∙ ap (λ (p : Progress). follows_faults p.faults (c.in_ok-shard.shard, c.in_ok-access.access)) c.self.view_is in
    too_many_faults c.args.self.now (fault_lent c.args.form) c.in_ok-shard.shard c.in_ok-access.access c.is_after.result is c.in_ok-shard.ensures c.in_ok-access.ensures after
    c.are_whole.result c.if-not-is_after.false c.are_whole.ensures.test c.len.result c.if-not-are_whole.false (c.len.ensures ∙ c.self.inside.faults.ok.0 ∙ ap (λ (p : Progress). length p.faults) c.self.view_is) c.if-len-ge-MAX_FAULTS.true
