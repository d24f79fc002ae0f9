use Rattle.std.proofs.Common.{◌∙◌, sym, ap}
use Rattle.std.specs.Prelude.{slice_set}
use Rattle.bc_serial.specs.Keyslots.{IsRidOf, evicted}
use Rattle.bc_serial.proofs.KeptSlots.{one_evicted}
use Rattle.bc_serial.proofs.TakenOut.{each_next}
use Rattle.bc_serial.proofs.keyslots.evict_from.Goals as goal

pub loop-device-preserved : goal.loop-device-preserved
loop-device-preserved c =
    let i = c.loop-device.device-index in record {
      records = ap (slice_set c.loop-device.devices i) (c.evict.ensures.records ∙ ap (evicted c.args.key.0) (sym c.device-item.is))
          ∙ one_evicted c.args.key.0 i c.args.devices.now c.loop-device.devices c.device-item.result c.loop-device-test.true c.loop-device.invariant.records c.device-item.is;
      gone = each_next (IsRidOf c.args.key.0) c.loop-device.devices i c.evict.new.self c.loop-device.invariant.gone c.evict.ensures.gone;
    }
