use Rattle.std.proofs.Common.{◌∙◌, sym}
use Rattle.bc_script.proofs.NamedKeys.{number_found}
use Rattle.bc_script.proofs.named_keys.NamedKeys.number_of.Goals as goal

pub returns : goal.returns
returns c = rw (sym c.self.view_is) (number_found c.self.inside.keys.items c.self.inside.numbers c.self.invariant c.args.name.now c.copied.result (c.copied.ensures ∙ c.get.ensures.value))
