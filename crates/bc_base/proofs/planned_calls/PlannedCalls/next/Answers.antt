use Rattle.std.proofs.Common.{true≢false, sym, ◌∙◌, subst, arith}
use Rattle.std.specs.Prelude.{Contains}
use Rattle.bc_base.proofs.Plans.{IsNext-none, IsNext-later}
use Rattle.bc_base.proofs.planned_calls.PlannedCalls.next.Goals as goal

pub invariant_of-self-else-fails : goal.invariant_of-self-else-fails
invariant_of-self-else-fails c =
    let s = c.self.inside in let n = c.saturating_add-self-inside.ensures in
    IsNext-later s.plan.items s.calls c.saturating_add-self-inside.result s.next c.self.invariant
    (λ is. true≢false (sym (c.is_next-fails.ensures.1 is) ∙ c.if-fails.false)) (let r = c.self.ranges in omega arith) (omega arith)

pub returns-clause-fails : goal.returns-clause-fails
returns-clause-fails c =
    let s = c.self.inside in (
      λ fails. absurd (true≢false (sym fails)),
      λ has. absurd (IsNext-none s.plan.items s.calls s.next c.self.invariant (λ is. true≢false (sym (c.is_next-fails.ensures.1 is) ∙ c.if-fails.false))
          (subst (λ d. Contains d.fails d.calls) (sym c.self.view_is) has)),
    )
