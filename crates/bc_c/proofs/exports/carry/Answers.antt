use Rattle.std.proofs.Common.{ap, ◌∙◌}
use Rattle.bc_key.specs.DataUnits.{bytes_of}
use Rattle.bc_c.proofs.Calls.{are_carried}
use Rattle.bc_c.proofs.exports.carry.Goals as goal

pub returns-clause-carries : goal.returns-clause-carries
returns-clause-carries c = λ done.
    are_carried c.args.way c.args.mode c.args.unit c.args.raw.now _ c.args.texts.now _ c.of_key-cipher.result c.in-Ok.key _ _
    c.in-Ok.ensures.mode c.in-Ok.ensures.unit c.in-Ok.ensures.raw c.of_key-cipher.ensures c.from_words-first.ensures
    (c.bytes-size.ensures ∙ ap (λ config. bytes_of config.unit) c.config.ensures.config) c.carry_units.ensures
