use Rattle.std.proofs.Common.{refl, ◌∙◌, ◌≡◌, length, rules}
use Rattle.bc_medium.specs.KeyedDisk.{deciphered}
use Rattle.bc_serial.proofs.Placing.{attempted_read, attempted_read_fault}
use Rattle.bc_serial.proofs.unit_access.read_unit.Goals as goal

pub returns-in-Ok-clause-attempted : goal.returns-in-Ok-clause-attempted
returns-in-Ok-clause-attempted c = λ keys have long.
    let same : length c.read_unit.new.raw ≡ length c.args.place.now = search rules in
    attempted_read keys c.args.shards.now c.read_unit.new.self c.args.at.now c.args.via c.read_unit.new.raw (deciphered keys c.args.at.now.context c.read_unit.new.raw) c.in-Ok.field-0
    have (same ∙ long) refl c.in-Ok.ensures.ok c.in-Ok.ensures.performs c.in-Ok.ensures.answer

pub returns-in-Err-clause-attempted : goal.returns-in-Err-clause-attempted
returns-in-Err-clause-attempted c = λ keys have long.
    attempted_read_fault keys c.args.shards.now c.read_unit.new.self c.args.at.now c.args.via (deciphered keys c.args.at.now.context c.read_unit.new.raw) c.in-Err.field-0.place
    have c.in-Err.ensures.fault c.in-Err.ensures.performs_fault (c.in-Err.ensures.answer_fault keys)
