use Rattle.std.proofs.Common.{◌-◌, drop, List, ◌++◌}
use Rattle.bc_bio.specs.Windows.{NamedUnit}
use Rattle.bc_stack.specs.Pieces.{pieces_of}
use Rattle.bc_pieces.specs.Pieces.{HasCarried, pieces_in, request_units}
use Rattle.bc_pieces.proofs.request_pieces.carry_out_pieces.Given as goal

abbrev pub invariant-loop-first : goal.invariant-loop-first
invariant-loop-first g l = record {
  ready : g.A.DeviceAccess.is_ready l.access l.pass;
  carried : HasCarried g.A.DeviceAccess.exact l.keys.keys l.stack.targets (g.A.DeviceAccess.facts l.access l.fn.pass) (g.A.DeviceAccess.facts l.access l.pass) l.fn.request l.request l.first;
  room : g.A.DeviceAccess.affords l.access l.pass (pieces_of l.stack.targets (drop l.first (request_units l.keys.keys l.fn.request)));
  leaves : (rest : List (List NamedUnit)) → g.A.DeviceAccess.affords l.access l.fn.pass (pieces_in l.keys.keys l.stack.targets l.fn.request ++ rest) → g.A.DeviceAccess.affords l.access l.pass (pieces_of l.stack.targets (drop l.first (request_units l.keys.keys l.fn.request)) ++ rest);
}

abbrev pub decreases-loop-first : goal.decreases-loop-first
decreases-loop-first g l = l.units - l.first
