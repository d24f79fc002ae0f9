use Rattle.std.proofs.Common.{arith}
use Rattle.bc_speed.specs.Units.{cipher_of_unit}
use Rattle.bc_speed.proofs.Loops.{no_units, room_for, unit_more, all_units}
use Rattle.bc_speed.proofs.units.carry_units.Goals as goal

pub loop-unit-init : goal.loop-unit-init
loop-unit-init c = no_units _ _ _

pub loop-unit-preserved : goal.loop-unit-preserved
loop-unit-preserved c =
    let n = c.loop-unit.unit in
    unit_more (cipher_of_unit c.args.way c.args.cipher.now) c.args.size n c.number.result c.args.texts.now c.loop-unit.texts
    c.carry_unit.new.text (room_for n c.args.units c.args.size _ c.loop-unit-test.true (omega arith)) (omega arith) (omega arith) c.number.ensures c.loop-unit.invariant c.carry_unit.ensures

pub returns : goal.returns
returns c =
    all_units (cipher_of_unit c.args.way c.args.cipher.now) c.args.size c.loop-unit.unit c.args.units c.args.texts.now c.loop-unit.texts
    (omega arith) (omega arith) c.loop-unit.invariant
