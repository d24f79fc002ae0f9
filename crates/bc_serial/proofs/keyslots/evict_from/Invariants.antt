use Rattle.std.proofs.Common.{◌≡◌, ◌++◌, map, take, drop}
use Rattle.bc_base.specs.Lists.{Each}
use Rattle.bc_serial.specs.Keyslots.{IsRidOf, evicted}
use Rattle.bc_serial.proofs.keyslots.evict_from.Given as goal

abbrev pub invariant-loop-device : goal.invariant-loop-device
invariant-loop-device l = record {
  records : l.devices ≡ map (evicted l.key.0) (take l.device-index l.fn.devices) ++ drop l.device-index l.fn.devices;
  gone : Each (IsRidOf l.key.0) (take l.device-index l.devices);
}
