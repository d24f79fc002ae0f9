use Rattle.bc_medium.specs.declared.via.Via.TheVariants as ways
use Rattle.bc_bio.specs.declared.access.Access.TheVariants as accesses
use Rattle.bc_medium.specs.KeyedDisk.{Written, Faulted}
use Rattle.bc_medium.specs.Entries.{written_entry, failed_entry}
use Rattle.bc_queue.proofs.MediumAccess.{both_ok, both_err, accesses_one}
use Rattle.bc_disk.proofs.SoftWay.{medium_is}
use Rattle.bc_disk.proofs.soft_access.SoftAccessUnitAccessMediumPass.write.Goals as goal

pub returns-clause-wrote : goal.returns-clause-wrote
returns-clause-wrote g c =
    both_ok c.write_unit.result _ _ _ c.write_unit.ensures.performs c.write_unit.ensures.answer
    (λ place does seen. accesses_one g.S.Store.contents c.args.self.now.medium c.self.inside.medium.now ways.Soft c.args.pass.now c.write_unit.new.pass (written_entry c.args.at.now ways.Soft c.args.plain.items) Written place (medium_is _ c.args.self.now c.self.view_is) c.write_unit.ensures.caller c.requires.caller does seen)

pub returns-clause-failed : goal.returns-clause-failed
returns-clause-failed g c =
    both_err c.write_unit.result _ _ _ c.write_unit.ensures.performs_fault c.write_unit.ensures.answer_fault
    (λ fault does seen. accesses_one g.S.Store.contents c.args.self.now.medium c.self.inside.medium.now ways.Soft c.args.pass.now c.write_unit.new.pass (failed_entry accesses.Write c.args.at.now ways.Soft) Faulted fault.0.place (medium_is _ c.args.self.now c.self.view_is) c.write_unit.ensures.caller c.requires.caller does seen)
