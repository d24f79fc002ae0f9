use Rattle.std.proofs.Common.{◌∙◌, ap}
use Rattle.bc_script.specs.declared.op.Text.TheVariants.{Fill}
use Rattle.bc_threads.proofs.Preparing.{made_of_read, made_of_write, units_with}
use Rattle.bc_threads.proofs.prepared.bio_of.Goals as goal

pub returns-in_ok-units-in-Write : goal.returns-in_ok-units-in-Write
returns-in_ok-units-in-Write c =
    made_of_write c.args.script.now c.args.op c.args.operation.now c.in-Write.context c.in-Write.sector c.in-Write.units c.in-Write.text c.in_ok-units-in-Write.units c.in-Write.is
    (c.in_ok-units-in-Write.ensures ∙ ap (λ n. units_with c.in-Write.text n c.in-Write.units) c.unit_bytes-size.ensures) c.requires.rules

pub returns-in_ok-units-in-Read : goal.returns-in_ok-units-in-Read
returns-in_ok-units-in-Read c =
    made_of_read c.args.script.now c.args.op c.args.operation.now c.in-Read.context c.in-Read.sector c.in-Read.units c.in_ok-units-in-Read.units c.in-Read.is
    (c.in_ok-units-in-Read.ensures ∙ ap (λ n. units_with (Fill 0) n c.in-Read.units) c.unit_bytes-size-in-Read.ensures)
