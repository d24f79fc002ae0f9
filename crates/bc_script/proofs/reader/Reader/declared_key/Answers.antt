use Rattle.std.proofs.Common.{refl, sym}
use Rattle.bc_script.proofs.Refusals.{declared, undeclared}
use Rattle.bc_script.proofs.reader.Reader.declared_key.Goals as goal

pub returns-in-Some : goal.returns-in-Some
returns-in-Some c =
    rw (sym c.self.view_is) (record { named = c.in-Some.ensures; passes = declared _ c.args.name.now c.in-Some.key c.self.invariant.rules c.in-Some.ensures })

pub returns-in-None : goal.returns-in-None
returns-in-None c = rw (sym c.self.view_is) ((undeclared _ c.args.name.now c.self.invariant.rules c.in-None.ensures, refl))
