use Rattle.std.proofs.Common.{◌≡◌, map, take, replicate, None}
use Rattle.bc_modes.specs.Capabilities.{capabilities_of}
use Rattle.bc_profile.specs.Solo.{opened_solo}
use Rattle.bc_serial.specs.Keyslots.{rows_of, max_events}
use Rattle.bc_serial.proofs.keyslots.Keyslots.open.Given as goal

abbrev pub invariant-loop-target : goal.invariant-loop-target
invariant-loop-target l = record {
  caps : l.caps.items ≡ map (λ t. capabilities_of t.caps) (take l.target-index l.script.targets);
  devices : l.devices.items ≡ map (λ t. opened_solo t.slots (rows_of l.script t) max_events) (take l.target-index l.script.targets);
  ciphers : map (λ c. c.items) l.ciphers.items ≡ map (λ t. replicate t.slots None) (take l.target-index l.script.targets);
}
