use Rattle.std.proofs.Common.{sym, subst, ◌∙◌}
use Rattle.bc_script.specs.Script.{IsScript}
use Rattle.bc_script.proofs.GeneratedRules.{is_script, parts_are}
use Rattle.bc_script.proofs.generator.generate.Goals as goal

pub new-requires-2 : goal.new-requires-2
new-requires-2 c =
    let parts = parts_are c.args.n c.args.slots c.from_vec.result c.from_vec-2.result c.new.result c.from_vec-3.result
    (c.from_vec.ensures ∙ c.in_ok-targets.ensures) (c.from_vec-2.ensures ∙ c.in_ok-keys.ensures) c.new.ensures
    (c.from_vec-3.ensures ∙ c.in_ok-threads.ensures) in
    subst IsScript (sym parts) (is_script c.args.n c.args.slots c.requires.n.1 c.requires.slots.0 c.requires.slots.1)
