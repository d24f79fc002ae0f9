use Rattle.std.proofs.Common.{◌+◌, arith}
use Rattle.bc_c.specs.Units.{converted_unit}
use Rattle.bc_c.proofs.Loops.{no_units, room_for, unit_more, all_units}
use Rattle.bc_c.proofs.units.carry_units.Goals as goal

pub loop-i-init : goal.loop-i-init
loop-i-init c = no_units _ _ _

pub loop-i-preserved : goal.loop-i-preserved
loop-i-preserved c =
    let i = c.loop-i.i in
    unit_more (converted_unit c.args.way c.args.cipher.now.mode c.args.cipher.now.raw) c.args.first.now c.args.size i c.number.result
    c.args.texts.now c.loop-i.texts c.carry_unit.new.text (room_for i c.args.units c.args.size _ c.loop-i-test.true (omega arith))
    (omega arith) (omega arith) c.number.ensures c.loop-i.invariant c.carry_unit.ensures

pub returns : goal.returns
returns c =
    all_units (λ i. converted_unit c.args.way c.args.cipher.now.mode c.args.cipher.now.raw (c.args.first.now + i)) c.args.size c.loop-i.i
    c.args.units c.args.texts.now c.loop-i.texts (omega arith) (omega arith) c.loop-i.invariant
