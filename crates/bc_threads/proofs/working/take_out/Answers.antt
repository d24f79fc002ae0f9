use Rattle.std.proofs.Common.{◌∙◌, ◌+◌, List, [], ◌∷◌, ◌++◌, sym, subst, arith, Option}
use Rattle.bc_threads.specs.declared.outcome.Outcome.{Outcome}
use Rattle.bc_threads.proofs.Outcomes.{AreOut, one_out}
use Rattle.bc_threads.proofs.working.take_out.Goals as goal

pub take_outcome-requires : goal.take_outcome-requires
take_outcome-requires c =
    let is = c.loop-op.invariant.out in let there = c.requires.told c.loop-op.op (omega (arith, c.loop-op-test.true)) in
    record { there = (there.0, is.rest c.loop-op.op (omega arith) ∙ there.1) }

pub loop-op-preserved : goal.loop-op-preserved
loop-op-preserved c = record {
  out = subst (λ (l : List Outcome). AreOut c.args.noted.now c.take_outcome.new.noted (c.loop-op.op + 1) l) (sym c.push_reserved.ensures.items)
      (subst (λ (l : List (Option Outcome)). AreOut c.args.noted.now l (c.loop-op.op + 1) (c.loop-op.outcomes.items ++ c.take_outcome.result ∷ [])) (sym c.take_outcome.ensures.rest)
      (one_out c.args.noted.now c.loop-op.noted c.loop-op.op c.loop-op.outcomes.items c.take_outcome.result c.loop-op.invariant.out c.take_outcome.ensures.taken));
  room = c.push_reserved.ensures.capacity ∙ c.loop-op.invariant.room;
}
