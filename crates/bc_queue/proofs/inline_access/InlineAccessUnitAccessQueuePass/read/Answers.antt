use Rattle.std.proofs.Common.{◌≡◌}
use Rattle.bc_bio.specs.declared.access.Access.TheVariants as accesses
use Rattle.bc_medium.specs.KeyedDisk.{Written, Text, Faulted}
use Rattle.bc_medium.specs.Entries.{written_entry, read_entry, failed_entry}
use Rattle.bc_ufs.specs.Controllers.{via_by_device}
use Rattle.bc_queue.proofs.MediumAccess.{both_ok, both_err, accesses_under}
use Rattle.bc_queue.proofs.inline_access.InlineAccessUnitAccessQueuePass.read.Goals as goal

pub returns-clause-read : goal.returns-clause-read
returns-clause-read g c =
    both_ok c.read_under.result _ _ _ c.read_under.ensures.performs c.read_under.ensures.answer
    (λ place does seen. accesses_under g.S.Store.contents c.args.self.now c.read_under.new.self c.args.pass.now.units c.read_under.new.units (read_entry c.args.at.now (via_by_device c.args.self.now.controller c.args.self.now.hold)) (Text c.read_under.new.text) place c.read_under.ensures.same c.read_under.ensures.caller c.requires.caller does seen)

pub returns-clause-failed : goal.returns-clause-failed
returns-clause-failed g c =
    both_err c.read_under.result _ _ _ c.read_under.ensures.performs_fault c.read_under.ensures.answer_fault
    (λ fault does seen. accesses_under g.S.Store.contents c.args.self.now c.read_under.new.self c.args.pass.now.units c.read_under.new.units (failed_entry accesses.Read c.args.at.now (via_by_device c.args.self.now.controller c.args.self.now.hold)) Faulted fault.place c.read_under.ensures.same c.read_under.ensures.caller c.requires.caller does seen)
