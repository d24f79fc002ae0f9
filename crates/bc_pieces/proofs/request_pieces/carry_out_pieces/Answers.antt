use Rattle.std.proofs.Common.{◌≡◌, ◌+◌, ◌≤◌, Some, List, drop, sym, ap, subst, arith, ◌++◌}
use Rattle.std.specs.Prelude.{slice_get}
use Rattle.std.specs.Option.{option_map}
use Rattle.bc_bio.specs.Windows.{NamedUnit, count_units, units_of_request}
use Rattle.bc_bio.specs.Requests.{tagged_bios}
use Rattle.bc_stack.specs.declared.target.Target.{Target}
use Rattle.bc_stack.specs.Pieces.{device_of, pieces_of}
use Rattle.bc_pieces.specs.Pieces.{IsOnDevice, request_units, pieces_in}
use Rattle.bc_pieces.proofs.Walk.{carried_none, carried_more, carried_all, drop_all, is_device, next_piece, on_device, still_performable}
use Rattle.bc_pieces.proofs.Whole.{carries_whole, pieces_reach}
use Rattle.bc_pieces.proofs.request_pieces.carry_out_pieces.Goals as goal
use Rattle.bc_stack.proofs.PieceLaws.{length-units_of_request}

pub loop-first-init : goal.loop-first-init
loop-first-init g c = record {
  ready = c.requires.ready;
  carried = carried_none g.A.DeviceAccess.exact c.args.keys.now.keys c.args.stack.now.targets (g.A.DeviceAccess.facts c.args.access.now c.args.pass.now) c.args.request.now c.requires.keys c.requires.targets;
  room = c.requires.room;
  leaves = λ rest has. has;
}

pub carry_out-requires-clause-on_device : goal.carry_out-requires-clause-on_device
carry_out-requires-clause-on_device g c n least below =
    let cut = c.cut_at_borders-device in
    let len = length-units_of_request c.args.keys.now.keys (tagged_bios c.loop-first.request.bios) in
    subst (λ (ts : List Target). IsOnDevice c.args.keys.now.keys ts c.loop-first.request n cut.result.0) (sym c.loop-first.invariant.carried.targets_are)
    (on_device c.args.stack.now.targets (request_units c.args.keys.now.keys c.loop-first.request) c.loop-first.first cut.result.1 cut.result.0 n (pieces_of c.args.stack.now.targets (drop cut.result.1 (drop c.loop-first.first (request_units c.args.keys.now.keys c.loop-first.request)))) cut.ensures.piece cut.ensures.device (omega (arith, len, cut.ensures.most)) least below)

pub carry_out-requires-clause-units : goal.carry_out-requires-clause-units
carry_out-requires-clause-units g c n least below =
    let cut = c.cut_at_borders-device in
    let keys = c.args.keys.now.keys in
    let carried = c.loop-first.invariant.carried in
    let len = length-units_of_request keys (tagged_bios c.loop-first.request.bios) in
    let many = ap count_units carried.bios in
    let same = ap (units_of_request keys) carried.bios in
    let now = on_device c.args.stack.now.targets (request_units keys c.loop-first.request) c.loop-first.first cut.result.1 cut.result.0 n (pieces_of c.args.stack.now.targets (drop cut.result.1 (drop c.loop-first.first (request_units c.args.keys.now.keys c.loop-first.request)))) cut.ensures.piece cut.ensures.device (omega (arith, len, cut.ensures.most)) least below in
    let was : IsOnDevice keys c.args.stack.now.targets c.args.request.now n cut.result.0 = subst (λ (us : List NamedUnit). option_map (device_of c.args.stack.now.targets) (slice_get us n) ≡ Some cut.result.0) same now in
    still_performable keys (g.A.DeviceAccess.takes c.args.access.now cut.result.0) c.args.request.now c.loop-first.request n carried.bios (carried.left n least)
    (c.requires.units.taken n cut.result.0 (omega (arith, many, below, cut.ensures.most)) was)

pub loop-first-preserved : goal.loop-first-preserved
loop-first-preserved g c =
    let cut = c.cut_at_borders-device in
    let keys = c.args.keys.now.keys in
    let targets = c.args.stack.now.targets in
    let carried = c.loop-first.invariant.carried in
    let exact = g.A.DeviceAccess.exact in
    let many = ap count_units carried.bios in
    let there = is_device targets (request_units keys c.args.request.now) c.loop-first.first cut.result.0 (subst (λ (us : List NamedUnit). option_map (device_of targets) (slice_get us c.loop-first.first) ≡ Some cut.result.0) (ap (units_of_request keys) carried.bios) cut.ensures.device)
    (c.requires.units.located c.loop-first.first (omega (arith, many, cut.ensures.some, cut.ensures.most))) in
    let next = next_piece exact keys targets c.args.request.now c.loop-first.request c.loop-first.first cut.result.1 carried.bios cut.ensures.piece in record {
      ready = c.carry_out.ensures.ready;
      carried = carried_more exact keys targets (g.A.DeviceAccess.facts c.args.access.now c.args.pass.now) (g.A.DeviceAccess.facts c.args.access.now c.loop-first.pass) (g.A.DeviceAccess.facts c.args.access.now c.carry_out.new.pass)
          c.args.request.now c.loop-first.request c.carry_out.new.request c.loop-first.first cut.result.0 cut.result.1 carried cut.ensures.piece there cut.ensures.device cut.ensures.some cut.ensures.most c.carry_out.ensures.carries c.carry_out.ensures.exact;
      room = c.carry_out.ensures.room (pieces_of targets (drop (c.loop-first.first + cut.result.1) (request_units keys c.args.request.now)))
          (subst (λ (ps : List (List NamedUnit)). g.A.DeviceAccess.affords c.args.access.now c.loop-first.pass ps) next c.loop-first.invariant.room);
      leaves = λ rest has. c.carry_out.ensures.room (pieces_of targets (drop (c.loop-first.first + cut.result.1) (request_units keys c.args.request.now)) ++ rest)
          (subst (λ (ps : List (List NamedUnit)). g.A.DeviceAccess.affords c.args.access.now c.loop-first.pass (ps ++ rest)) next (c.loop-first.invariant.leaves rest has));
    }

pub returns-clause-carries : goal.returns-clause-carries
returns-clause-carries g c =
    let past = c.loop-first-test.false in
    carried_all g.A.DeviceAccess.exact c.args.keys.now.keys c.args.stack.now.targets (g.A.DeviceAccess.facts c.args.access.now c.args.pass.now) (g.A.DeviceAccess.facts c.args.access.now c.loop-first.pass) c.args.request.now c.loop-first.request c.loop-first.first c.loop-first.invariant.carried
    (omega (arith, past, c.units-units.ensures))

whole_pieces : goal.returns-clause-whole
whole_pieces g c =
    let past = c.loop-first-test.false in
    let old = g.A.DeviceAccess.facts c.args.access.now c.args.pass.now in
    let new = g.A.DeviceAccess.facts c.args.access.now c.loop-first.pass in
    let all : count_units (tagged_bios c.args.request.now.bios) ≤ c.loop-first.first = omega (arith, past, c.units-units.ensures) in
    carries_whole c.order_laws.ensures.answers_stay c.request_laws.ensures.by_names c.hold_laws.ensures.names c.hold_laws.ensures.later g.A.DeviceAccess.exact c.args.keys.now.keys c.args.stack.now.targets old new c.args.request.now c.loop-first.request (pieces_in c.args.keys.now.keys c.args.stack.now.targets c.args.request.now) c.requires.keys c.requires.targets
    (carried_all g.A.DeviceAccess.exact c.args.keys.now.keys c.args.stack.now.targets old new c.args.request.now c.loop-first.request c.loop-first.first c.loop-first.invariant.carried all)
    (pieces_reach g.A.DeviceAccess.exact c.args.keys.now.keys c.args.stack.now.targets old new c.args.request.now c.loop-first.request c.loop-first.first c.loop-first.invariant.carried all)

pub returns-clause-tells : goal.returns-clause-tells
returns-clause-tells g c = (whole_pieces g c).tells

pub returns-clause-whole : goal.returns-clause-whole
returns-clause-whole g c = whole_pieces g c

pub returns-clause-bios : goal.returns-clause-bios
returns-clause-bios g c = c.loop-first.invariant.carried.bios

pub returns-clause-room : goal.returns-clause-room
returns-clause-room g c rest has =
    let past = c.loop-first-test.false in
    let units = length-units_of_request c.args.keys.now.keys (tagged_bios c.args.request.now.bios) in
    let none = drop_all (request_units c.args.keys.now.keys c.args.request.now) c.loop-first.first (omega (arith, past, units, c.units-units.ensures)) in
    subst (λ (us : List NamedUnit). g.A.DeviceAccess.affords c.args.access.now c.loop-first.pass (pieces_of c.args.stack.now.targets us ++ rest)) none (c.loop-first.invariant.leaves rest has)
