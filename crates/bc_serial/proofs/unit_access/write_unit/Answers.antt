use Rattle.bc_serial.proofs.Placing.{attempted_write, attempted_write_fault}
use Rattle.bc_serial.proofs.unit_access.write_unit.Goals as goal

pub returns-in-Ok : goal.returns-in-Ok
returns-in-Ok c =
    attempted_write c.args.keys.now.keys c.args.shards.now c.write_unit.new.self c.args.at c.args.via c.args.plain.items c.in-Ok.field-0
    c.in-Ok.ensures.ok c.in-Ok.ensures.performs c.in-Ok.ensures.answer

pub returns-in-Err : goal.returns-in-Err
returns-in-Err c =
    attempted_write_fault c.args.keys.now.keys c.args.shards.now c.write_unit.new.self c.args.at c.args.via c.args.plain.items c.in-Err.field-0.0.place
    c.in-Err.ensures.fault.2 c.in-Err.ensures.performs_fault (c.in-Err.ensures.answer_fault c.args.keys.now.keys)
