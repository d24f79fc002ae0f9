use Rattle.bc_bio.specs.Requests.{tagged_bios}
use Rattle.bc_bio.specs.Windows.{count_units}
use Rattle.bc_disk.proofs.SoftWay.{soft_units}
use Rattle.bc_disk.proofs.disk.Disk.carry_out_soft.Goals as goal

pub carry_out-requires-clause-units : goal.carry_out-requires-clause-units
carry_out-requires-clause-units g c =
    soft_units g.S.Store.owns _ c.args.self.now c.self.inside.ciphers.items c.self.view_is c.self.invariant.3
    c.args.request.now.bios (count_units (tagged_bios c.args.request.now.bios)) c.units-units.result c.keys.result.now c.new-access.result c.medium.result.now c.as_slice.result.now
    c.units-units.ensures c.keys.ensures c.new-access.ensures c.medium.ensures c.as_slice.ensures.value c.requires.units
