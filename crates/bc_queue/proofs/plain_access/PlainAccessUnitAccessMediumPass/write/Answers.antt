use Rattle.std.proofs.Common.{◌≡◌, sym, ap, ◌∙◌}
use Rattle.bc_medium.specs.declared.via.Via.TheVariants as ways
use Rattle.bc_bio.specs.declared.access.Access.TheVariants as accesses
use Rattle.bc_medium.specs.KeyedDisk.{Written, Faulted}
use Rattle.bc_medium.specs.Entries.{written_entry, failed_entry, unit_name}
use Rattle.bc_queue.proofs.MediumAccess.{both_ok, both_err, accesses_later}
use Rattle.bc_queue.proofs.plain_access.PlainAccessUnitAccessMediumPass.write.Goals as goal

pub returns-clause-wrote : goal.returns-clause-wrote
returns-clause-wrote g c =
    both_ok c.write_unit.result _ _ _ c.write_unit.ensures.performs c.write_unit.ensures.answer
    (λ place does seen. accesses_later g.S.Store.contents c.args.self.now c.self.inside.medium.now ways.Plain c.args.pass.now c.write_unit.new.pass (written_entry c.args.at.now ways.Plain c.args.plain.items) Written place c.self.view_is c.write_unit.ensures.caller c.requires.caller does seen)

pub returns-clause-failed : goal.returns-clause-failed
returns-clause-failed g c =
    both_err c.write_unit.result _ _ _ c.write_unit.ensures.performs_fault c.write_unit.ensures.answer_fault
    (λ fault does seen. accesses_later g.S.Store.contents c.args.self.now c.self.inside.medium.now ways.Plain c.args.pass.now c.write_unit.new.pass (failed_entry accesses.Write c.args.at.now ways.Plain) Faulted fault.0.place c.self.view_is c.write_unit.ensures.caller c.requires.caller does seen)
