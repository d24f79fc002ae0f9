use Rattle.std.proofs.Common.{ap, subst, ◌∙◌}
use Rattle.bc_medium.specs.declared.via.Via.TheVariants as ways
use Rattle.bc_bio.specs.declared.access.Access.TheVariants as accesses
use Rattle.bc_medium.specs.KeyedDisk.{UnitAnswer, Text, Faulted}
use Rattle.bc_medium.specs.Entries.{read_entry, failed_entry, unit_name}
use Rattle.bc_medium.specs.Medium.{AnswersSeen}
use Rattle.bc_queue.proofs.MediumAccess.{accesses_one}
use Rattle.bc_disk.proofs.SoftWay.{deciphered_is, medium_is, soft_deciphers}
use Rattle.bc_disk.proofs.soft_access.SoftAccessUnitAccessMediumPass.read.Goals as goal

pub returns-in-Ok-clause-read : goal.returns-in-Ok-clause-read
returns-in-Ok-clause-read g c =
    accesses_one g.S.Store.contents c.args.self.now.medium c.self.inside.medium.now ways.Soft c.args.pass.now c.read_unit.new.pass (read_entry c.args.at.now ways.Soft) (Text c.decrypt.new.text) c.in-Ok.place (medium_is _ c.args.self.now c.self.view_is) c.read_unit.ensures.caller c.requires.caller c.in-Ok.ensures.performs
    (subst (λ (a : UnitAnswer). AnswersSeen g.S.Store.contents c.self.inside.medium.now c.read_unit.new.pass (unit_name c.args.at.now) a c.in-Ok.place)
    (ap Text (deciphered_is _ c.args.self.now c.args.at.now.context c.read_unit.new.raw c.self.view_is
    ∙ soft_deciphers c.args.self.now c.args.at.now.context _ _ c.cipher-context.ensures c.read_unit.new.raw c.decrypt.new.text c.decrypt.ensures.deciphers))
    c.in-Ok.ensures.answer)

pub returns-in-Err-clause-failed : goal.returns-in-Err-clause-failed
returns-in-Err-clause-failed g c =
    accesses_one g.S.Store.contents c.args.self.now.medium c.self.inside.medium.now ways.Soft c.args.pass.now c.read_unit.new.pass (failed_entry accesses.Read c.args.at.now ways.Soft) Faulted c.in-Err.fault.place (medium_is _ c.args.self.now c.self.view_is) c.read_unit.ensures.caller c.requires.caller c.in-Err.ensures.performs_fault c.in-Err.ensures.answer_fault
