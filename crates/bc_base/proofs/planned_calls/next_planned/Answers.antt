use Rattle.std.proofs.Common.{◌≡◌, ◌+◌, ◌++◌, ◌∷◌, [], get_or, take, sym, subst, add-one, arith, List, Option, ℕ}
use Rattle.std.proofs.Math.Seq.{take-suc}
use Rattle.std.proofs.lemmas.List.{take_all}
use Rattle.bc_base.specs.RamStores.{PlansNext}
use Rattle.bc_base.proofs.Plans.{IsNext-push}
use Rattle.bc_base.proofs.planned_calls.next_planned.Goals as goal

pub loop-number-preserved : goal.loop-number-preserved
loop-number-preserved c =
    let plan = c.args.plan.now in let i = c.loop-number.number-index in
    let more : take (i + 1) plan ≡ take i plan ++ get_or plan i 0 ∷ [] = rw add-one (take-suc plan i 0 c.loop-number-test.true) in
    subst (λ (l : List ℕ). PlansNext l c.args.from c.nearer-next.result) (sym more)
    (subst (λ (next : Option ℕ). PlansNext (take i plan ++ get_or plan i 0 ∷ []) c.args.from next) (sym c.nearer-next.ensures)
    (IsNext-push (take i plan) (get_or plan i 0) c.args.from c.loop-number.next c.loop-number.invariant))

pub returns : goal.returns
returns c =
    subst (λ (l : List ℕ). PlansNext l c.args.from c.loop-number.next) (take_all c.loop-number.number-index c.args.plan.now (omega arith)) c.loop-number.invariant
