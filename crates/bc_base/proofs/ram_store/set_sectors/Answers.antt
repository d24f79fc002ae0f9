use Rattle.std.proofs.Common.{◌+◌, ◌-◌, ◌*◌, ◌/◌, length, ap, arith, ◌∙◌}
use borrow.Rule.Slice.PartMut.{put_mid}
use Rattle.bc_base.specs.Sectors.{Sectors, image_sectors}
use Rattle.bc_base.proofs.Written.{image_sectors-written}
use Rattle.bc_base.proofs.ram_store.set_sectors.Goals as goal

pub returns-clause-sectors : goal.returns-clause-sectors
returns-clause-sectors c = λ s.
    let w = c.requires.whole in let i = c.requires.inside in
    let e = image_sectors-written c.args.image.now c.args.from.now c.args.place (length c.args.from.now / 512) (512 * c.args.place + length c.args.from.now) w (omega arith) i in
    ap (λ l. image_sectors (put_mid (512 * c.args.place) (512 * c.args.place + length c.args.from.now - 512 * c.args.place) c.args.image.now l) s) c.copy_from_slice.ensures.after ∙ ap (λ (d : Sectors). d s) e
