use Rattle.std.proofs.Common.{◌≡◌, true, subst, sym, arith}
use Rattle.bc_script.specs.declared.sort.Sort.TheVariants as sorts
use Rattle.bc_script.specs.Order.{may_follow}
use Rattle.bc_script.specs.Progress.{Progress}
use Rattle.bc_script.specs.Statements.{FitsOp}
use Rattle.bc_script.proofs.Readings.{few_lines, may_plug, reading_op}
use Rattle.bc_script.proofs.reader.Reader.add_operation.Goals as goal

pub plugs-plugged-requires : goal.plugs-plugged-requires
plugs-plugged-requires c =
    let here = c.self.inside in
    let fits = subst (λ (p : Progress). FitsOp p c.args.op) (sym c.self.view_is) c.requires.fits in
    may_plug _ here.lines here.ops here.units here.plugged c.self.invariant c.args.op fits

pub overflow_add-self-3 : goal.overflow_add-self-3
overflow_add-self-3 c = omega (arith, few_lines _ c.self.inside.lines c.self.inside.ops c.self.inside.units c.self.inside.plugged c.self.invariant)

pub invariant_of-self-2 : goal.invariant_of-self-2
invariant_of-self-2 c =
    let here = c.self.inside in
    let back = sym c.self.view_is in
    let follows = subst (λ (p : Progress). may_follow p.last sorts.Operation ≡ true) back c.requires.follows in
    let fits = subst (λ (p : Progress). FitsOp p c.args.op) back c.requires.fits in
    rw c.in_ok-add_op.ensures.ok
    (reading_op _ here.lines here.ops here.units here.plugged c.self.invariant c.args.op c.units-units.result c.plugs-plugged.result follows fits c.units-units.ensures c.plugs-plugged.ensures)
