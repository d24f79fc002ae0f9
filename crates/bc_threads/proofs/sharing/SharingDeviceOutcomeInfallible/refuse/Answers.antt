use Rattle.std.proofs.Common.{None, ap, ◌∙◌}
use Rattle.std.specs.Prelude.{slice_get}
use Rattle.bc_threads.proofs.Affording.{without_one}
use Rattle.bc_threads.proofs.Refusing.{has_bio}
use Rattle.bc_threads.proofs.sharing.SharingDeviceOutcomeInfallible.refuse.Goals as goal
use Rattle.bc_section.proofs.Reaching.{get_set_other}

pub take_bio-bio-requires : goal.take_bio-bio-requires
take_bio-bio-requires g c =
    let d = c.args.self.now in let can = c.requires.afforded in
    record { there = has_bio d.script.now d.bios.now.items can.0 c.args.op c.args._operation.now can.1 _ c.requires.bio can.2.prepared }

pub returns-clause-room : goal.returns-clause-room
returns-clause-room g c before after could =
    let d = c.args.self.now in
    without_one g.S.Store.contents d.script.now d.thread d.disk.now d.plug.now d.replies.now.items _ d.pass.now d.bios.now.items c.take_bio-bio.new.bios.items before (c.args.op, c.args._operation.now) after could
    (λ o apart. ap (λ l. slice_get l o) c.take_bio-bio.ensures.rest ∙ get_set_other d.bios.now.items c.args.op o None apart)
