use Rattle.std.proofs.Common.{◌≡◌, Option, sym, ap, subst, ◌∙◌}
use Rattle.bc_bio.specs.declared.context.Context.{Context}
use Rattle.bc_medium.specs.declared.via.Via.TheVariants as ways
use Rattle.bc_bio.specs.declared.access.Access.TheVariants as accesses
use Rattle.bc_medium.specs.KeyedDisk.{UnitAnswer, Text, Faulted, deciphered}
use Rattle.bc_medium.specs.Entries.{read_entry, failed_entry, unit_name}
use Rattle.bc_medium.specs.Medium.{Accesses, AnswersSeen}
use Rattle.bc_queue.specs.Carrying.{AccessesOne}
use Rattle.bc_queue.specs.Queues.{facts_by}
use Rattle.bc_queue.proofs.MediumAccess.{both_ok, both_err, accesses_one}
use Rattle.bc_queue.proofs.plain_access.PlainAccessUnitAccessMediumPass.read.Goals as goal

pub returns-clause-read : goal.returns-clause-read
returns-clause-read g c =
    both_ok c.read_unit.result _ _ _ c.read_unit.ensures.performs c.read_unit.ensures.answer
    (λ place does seen. accesses_one g.S.Store.contents c.args.self.now c.self.inside.medium.now ways.Plain c.args.pass.now c.read_unit.new.pass (read_entry c.args.at.now ways.Plain) (Text c.read_unit.new.raw) place c.self.view_is c.read_unit.ensures.caller c.requires.caller does
    (subst (λ (a : UnitAnswer). AnswersSeen g.S.Store.contents c.self.inside.medium.now c.read_unit.new.pass (unit_name c.args.at.now) a place) (ap (λ (x : Option Context). Text (deciphered c.self.inside.medium.now.keys.keys x c.read_unit.new.raw)) c.requires.takes.0) seen))

pub returns-clause-failed : goal.returns-clause-failed
returns-clause-failed g c =
    both_err c.read_unit.result _ _ _ c.read_unit.ensures.performs_fault c.read_unit.ensures.answer_fault
    (λ fault does seen. accesses_one g.S.Store.contents c.args.self.now c.self.inside.medium.now ways.Plain c.args.pass.now c.read_unit.new.pass (failed_entry accesses.Read c.args.at.now ways.Plain) Faulted fault.place c.self.view_is c.read_unit.ensures.caller c.requires.caller does seen)
