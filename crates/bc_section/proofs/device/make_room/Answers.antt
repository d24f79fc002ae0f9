use Rattle.std.proofs.Common.{arith}
use Rattle.bc_section.specs.SectionProgress.{answers_by}
use Rattle.bc_section.proofs.Reaching.{held_are}
use Rattle.bc_section.proofs.Left.{ends_where_full}
use Rattle.bc_section.proofs.device.make_room.Goals as goal

pub flush-requires-clause-ends : goal.flush-requires-clause-ends
flush-requires-clause-ends g c =
    let d = g.D.Device.facts in
    let start = d c.args.start.now.value in
    let least = c.if-len-lt-MAX_PLUGGED.false in
    let most = c.len.ensures.few in
    let is = c.len.ensures.value in
    ends_where_full start c.args.section.now c.args.op c.args.plugged c.args.pending.now c.requires.bio
    (held_are c.order_laws.ensures.known_stays c.hold_laws.ensures.stays c.hold_laws.ensures.later c.hold_laws.ensures.behind start c.args.section.now (d c.args.device.now) c.args.op c.args.plugged c.args.pending.now (answers_by g.D.Device.answer c.args.answers.now) c.requires.reached)
    (omega arith)
