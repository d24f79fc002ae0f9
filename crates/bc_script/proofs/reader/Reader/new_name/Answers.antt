use Rattle.std.proofs.Common.{refl, sym}
use Rattle.bc_script.proofs.Refusals.{name_taken}
use Rattle.bc_script.proofs.Sayings.{new_name_is}
use Rattle.bc_script.proofs.reader.Reader.new_name.Goals as goal

pub returns-then-is_some : goal.returns-then-is_some
returns-then-is_some c =
    rw (sym c.self.view_is) ((name_taken _ c.args.name.now c.number_of.result c.is_some.result c.self.invariant.rules c.number_of.ensures c.is_some.ensures c.if-is_some.true, refl))

pub returns-in-Some : goal.returns-in-Some
returns-in-Some c =
    rw (sym c.self.view_is)
    (new_name_is _ c.args.name.now c.in-Some.name c.number_of.result c.is_some.result c.self.invariant.rules c.number_of.ensures c.is_some.ensures c.if-is_some.false (c.in-Some.ensures.exactly.0 refl) c.in-Some.ensures.value)
