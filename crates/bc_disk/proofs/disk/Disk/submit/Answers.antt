use Rattle.std.proofs.Common.{sym, ◌∙◌}
use Rattle.bc_disk.proofs.Answering.{answers_by}
use Rattle.bc_disk.proofs.disk.Disk.submit.Goals as goal

pub returns-clause-answers : goal.returns-clause-answers
returns-clause-answers g c =
    answers_by g.S.Store.contents c.args.self.now _ c.args.pass.now _ c.pass.view_is c.args.bio c.in-Some-pop.reply c.pass.inside.request c.start.new.self c.carry_request_out.new.request c.piece_laws.ensures.by_bios
    c.finish.new.out.items c.pop.new.self.items c.pass.inside.replies.items (sym c.refusal.ensures.refusal ∙ c.in_default.is) c.start.ensures c.pass.invariant.0 c.carry_request_out.ensures.carries
    c.pass.invariant.2 c.finish.ensures.replies c.in-Some-pop.ensures.items
