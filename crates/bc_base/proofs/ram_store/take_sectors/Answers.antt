use Rattle.std.proofs.Common.{◌*◌, ◌+◌, ◌/◌, length, arith, ◌∙◌}
use Rattle.bc_base.proofs.Image.{part-bytes_at}
use Rattle.bc_base.proofs.ram_store.take_sectors.Goals as goal

pub returns : goal.returns
returns c =
    let w = c.requires.whole in
    c.copy_from_slice.ensures.after
    ∙ part-bytes_at c.args.image.now c.args.place (length c.args.into.now / 512) (512 * c.args.place) (512 * c.args.place + length c.args.into.now) (omega arith) (omega arith)
