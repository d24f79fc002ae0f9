use Rattle.std.proofs.Common.{◌≡◌, true, subst, sym, arith}
use Rattle.bc_script.specs.declared.sort.Sort.TheVariants as sorts
use Rattle.bc_script.specs.Order.{may_follow}
use Rattle.bc_script.specs.Progress.{Progress}
use Rattle.bc_script.specs.Statements.{FitsDevice}
use Rattle.bc_script.proofs.Readings.{few_lines, reading_device}
use Rattle.bc_script.proofs.reader.Reader.add_device.Goals as goal

pub overflow_add-self : goal.overflow_add-self
overflow_add-self c = omega (arith, few_lines _ c.self.inside.lines c.self.inside.ops c.self.inside.units c.self.inside.plugged c.self.invariant)

pub invariant_of-self-2 : goal.invariant_of-self-2
invariant_of-self-2 c =
    let here = c.self.inside in
    let back = sym c.self.view_is in
    let follows = subst (λ (p : Progress). may_follow p.last sorts.Device ≡ true) back c.requires.follows in
    let fits = subst (λ (p : Progress). FitsDevice p c.args.device) back c.requires.fits in
    rw c.in_ok-push.ensures.items
    (reading_device _ here.lines here.ops here.units here.plugged c.self.invariant c.args.device follows fits)
