use Rattle.std.proofs.Common.{◌≡◌, ◌≤◌, ap, subst, sym, ℕ}
use Rattle.bc_medium.specs.declared.via.Via.TheVariants as ways
use Rattle.bc_stack.specs.Targets.{CoverAll}
use Rattle.bc_pieces.specs.ManyCallers.{IsReady}
use Rattle.bc_disk.specs.Disks.{DiskData}
use Rattle.bc_disk.proofs.Going.{first_has_key, inline_units_in, plain_units, soft_units_of, some_units}
use Rattle.bc_disk.proofs.Carried.{leaves_by, plain_carries, soft_carries, spare_in}
use Rattle.bc_disk.proofs.InlineWay.{inline_entries, inline_left, inline_request, room_in, whole_on}
use Rattle.bc_disk.proofs.disk.Disk.carry_request_out.Goals as goal

pub way_of-requires-clause-some : goal.way_of-requires-clause-some
way_of-requires-clause-some g c =
    some_units g.S.Store.owns _ c.args.self.now c.self.view_is c.self.invariant.0 c.bio_laws.ensures.sizes c.bio_laws.ensures.blocks c.bio_laws.ensures.accepted c.args.request.now.bios c.requires.some c.requires.taken

pub way_of-requires-clause-key : goal.way_of-requires-clause-key
way_of-requires-clause-key g c =
    first_has_key g.S.Store.owns _ c.args.self.now c.self.view_is c.self.invariant.0 c.bio_laws.ensures.sizes c.bio_laws.ensures.blocks c.bio_laws.ensures.accepted c.args.request.now.bios c.requires.request (way_of-requires-clause-some g c) c.requires.taken

pub dispatch_plain-requires-clause-units : goal.dispatch_plain-requires-clause-units
dispatch_plain-requires-clause-units g c =
    plain_units g.S.Store.owns _ c.args.self.now c.self.view_is c.self.invariant.0 c.bio_laws.ensures.sizes c.bio_laws.ensures.blocks c.bio_laws.ensures.accepted c.args.request.now.bios c.requires.request
    (some_units g.S.Store.owns _ c.args.self.now c.self.view_is c.self.invariant.0 c.bio_laws.ensures.sizes c.bio_laws.ensures.blocks c.bio_laws.ensures.accepted c.args.request.now.bios c.requires.some c.requires.taken) c.requires.taken c.in-Plain.ensures

pub dispatch_plain-requires-clause-spare : goal.dispatch_plain-requires-clause-spare
dispatch_plain-requires-clause-spare g c =
    spare_in g.S.Store.contents _ c.args.self.now c.self.view_is c.args.pass.now.caller c.args.pass.now.slots.items c.args.pass.now.units c.args.request.now.bios c.piece_laws.ensures.by_bios c.requires.entries

pub carry_out_soft-requires-clause-units : goal.carry_out_soft-requires-clause-units
carry_out_soft-requires-clause-units g c =
    soft_units_of g.S.Store.owns _ c.args.self.now c.self.view_is c.self.invariant.0 c.bio_laws.ensures.sizes c.bio_laws.ensures.blocks c.bio_laws.ensures.accepted c.args.request.now.bios c.requires.request
    (some_units g.S.Store.owns _ c.args.self.now c.self.view_is c.self.invariant.0 c.bio_laws.ensures.sizes c.bio_laws.ensures.blocks c.bio_laws.ensures.accepted c.args.request.now.bios c.requires.some c.requires.taken) c.requires.taken
    c.in-Soft.ensures.0 c.in-Soft.ensures.1 c.in-Soft.ensures.2

pub carry_out_soft-requires-clause-spare : goal.carry_out_soft-requires-clause-spare
carry_out_soft-requires-clause-spare g c =
    spare_in g.S.Store.contents c.args.self.now c.args.self.now Rattle.std.proofs.Common.refl c.args.pass.now.caller c.args.pass.now.slots.items c.args.pass.now.units c.args.request.now.bios c.piece_laws.ensures.by_bios c.requires.entries

pub carry_out_inline-requires-clause-units : goal.carry_out_inline-requires-clause-units
carry_out_inline-requires-clause-units g c =
    inline_units_in g.S.Store.owns _ c.args.self.now c.self.view_is c.self.invariant.0 c.bio_laws.ensures.sizes c.bio_laws.ensures.blocks c.bio_laws.ensures.accepted c.args.request.now.bios c.requires.request
    (some_units g.S.Store.owns _ c.args.self.now c.self.view_is c.self.invariant.0 c.bio_laws.ensures.sizes c.bio_laws.ensures.blocks c.bio_laws.ensures.accepted c.args.request.now.bios c.requires.some c.requires.taken) c.requires.taken
    c.in-Inline.ensures.0 c.in-Inline.ensures.1 c.in-Inline.ensures.2
    (subst (λ (b : ℕ). CoverAll b c.self.inside.stack.targets) c.self.invariant.1 c.children-devices.ensures.stack.cover) c.args.request.now.spare

pub carry_out_inline-requires-clause-room : goal.carry_out_inline-requires-clause-room
carry_out_inline-requires-clause-room g c =
    room_in g.S.Store.contents _ c.args.self.now c.self.view_is c.args.pass.now.caller c.args.pass.now.slots.items c.args.pass.now.units c.args.request.now c.requires.request
    (some_units g.S.Store.owns _ c.args.self.now c.self.view_is c.self.invariant.0 c.bio_laws.ensures.sizes c.bio_laws.ensures.blocks c.bio_laws.ensures.accepted c.args.request.now.bios c.requires.some c.requires.taken)
    c.in-Inline.ensures.0 c.in-Inline.ensures.1 c.in-Inline.ensures.2 c.piece_laws.ensures.by_bios c.requires.entries c.requires.events

pub returns-in-Plain-clause-carries : goal.returns-in-Plain-clause-carries
returns-in-Plain-clause-carries g c =
    plain_carries g.S.Store.contents _ c.args.self.now c.self.view_is c.args.pass.now.caller c.dispatch_plain.new.pass.caller c.args.pass.now.slots.items c.dispatch_plain.new.pass.slots.items c.args.pass.now.units c.dispatch_plain.new.pass.units c.args.request.now c.dispatch_plain.new.request
    c.piece_laws.ensures.one_way c.dispatch_plain.ensures.slots c.requires.request
    (some_units g.S.Store.owns _ c.args.self.now c.self.view_is c.self.invariant.0 c.bio_laws.ensures.sizes c.bio_laws.ensures.blocks c.bio_laws.ensures.accepted c.args.request.now.bios c.requires.some c.requires.taken)
    c.in-Plain.ensures c.dispatch_plain.ensures.carries

pub returns-in-Plain-clause-entries : goal.returns-in-Plain-clause-entries
returns-in-Plain-clause-entries g c =
    leaves_by g.S.Store.contents _ c.args.self.now c.self.view_is c.args.pass.now.caller c.dispatch_plain.new.pass.caller c.args.pass.now.slots.items c.dispatch_plain.new.pass.slots.items c.args.pass.now.units c.dispatch_plain.new.pass.units c.args.request.now c.dispatch_plain.new.request
    c.piece_laws.ensures.by_bios ways.Plain c.dispatch_plain.ensures.carries

pub returns-in-Soft-clause-carries : goal.returns-in-Soft-clause-carries
returns-in-Soft-clause-carries g c =
    soft_carries g.S.Store.contents _ c.args.self.now c.self.view_is c.args.pass.now.caller c.carry_out_soft.new.pass.caller c.args.pass.now.slots.items c.carry_out_soft.new.pass.slots.items c.args.pass.now.units c.carry_out_soft.new.pass.units c.args.request.now c.carry_out_soft.new.request
    c.piece_laws.ensures.one_way c.carry_out_soft.ensures.slots c.requires.request
    (some_units g.S.Store.owns _ c.args.self.now c.self.view_is c.self.invariant.0 c.bio_laws.ensures.sizes c.bio_laws.ensures.blocks c.bio_laws.ensures.accepted c.args.request.now.bios c.requires.some c.requires.taken)
    c.in-Soft.ensures.0 c.in-Soft.ensures.1 c.in-Soft.ensures.2 c.carry_out_soft.ensures.carries

pub returns-in-Soft-clause-entries : goal.returns-in-Soft-clause-entries
returns-in-Soft-clause-entries g c =
    leaves_by g.S.Store.contents c.args.self.now c.args.self.now Rattle.std.proofs.Common.refl c.args.pass.now.caller c.carry_out_soft.new.pass.caller c.args.pass.now.slots.items c.carry_out_soft.new.pass.slots.items c.args.pass.now.units c.carry_out_soft.new.pass.units c.args.request.now c.carry_out_soft.new.request
    c.piece_laws.ensures.by_bios ways.Soft c.carry_out_soft.ensures.carries

pub returns-in-Inline-clause-carries : goal.returns-in-Inline-clause-carries
returns-in-Inline-clause-carries g c =
    inline_request g.S.Store.contents _ c.args.self.now c.self.view_is c.args.pass.now.caller c.args.pass.now.slots.items c.args.pass.now.units c.args.request.now c.requires.request
    (some_units g.S.Store.owns _ c.args.self.now c.self.view_is c.self.invariant.0 c.bio_laws.ensures.sizes c.bio_laws.ensures.blocks c.bio_laws.ensures.accepted c.args.request.now.bios c.requires.some c.requires.taken)
    c.in-Inline.ensures.0 c.in-Inline.ensures.1 c.in-Inline.ensures.2 c.carry_out_inline.new.pass.caller c.carry_out_inline.new.pass.slots.items c.carry_out_inline.new.pass.units c.carry_out_inline.new.request
    (whole_on g.S.Store.contents _ c.args.self.now c.self.view_is c.args.pass.now.caller c.carry_out_inline.new.pass.caller c.args.pass.now.slots.items c.carry_out_inline.new.pass.slots.items c.args.pass.now.units c.carry_out_inline.new.pass.units c.args.request.now c.carry_out_inline.new.request c.carry_out_inline.ensures.whole)

pub returns-in-Inline-clause-entries : goal.returns-in-Inline-clause-entries
returns-in-Inline-clause-entries g c =
    inline_entries g.S.Store.contents _ c.args.self.now c.self.view_is c.args.pass.now.caller c.args.pass.now.slots.items c.args.pass.now.units c.args.request.now c.requires.request
    (some_units g.S.Store.owns _ c.args.self.now c.self.view_is c.self.invariant.0 c.bio_laws.ensures.sizes c.bio_laws.ensures.blocks c.bio_laws.ensures.accepted c.args.request.now.bios c.requires.some c.requires.taken)
    c.in-Inline.ensures.0 c.in-Inline.ensures.1 c.in-Inline.ensures.2 c.carry_out_inline.new.pass.caller c.carry_out_inline.new.pass.slots.items c.carry_out_inline.new.pass.units c.carry_out_inline.new.request
    (whole_on g.S.Store.contents _ c.args.self.now c.self.view_is c.args.pass.now.caller c.carry_out_inline.new.pass.caller c.args.pass.now.slots.items c.carry_out_inline.new.pass.slots.items c.args.pass.now.units c.carry_out_inline.new.pass.units c.args.request.now c.carry_out_inline.new.request c.carry_out_inline.ensures.whole)
    c.piece_laws.ensures.by_bios

pub returns-in-Inline-clause-events : goal.returns-in-Inline-clause-events
returns-in-Inline-clause-events g c =
    inline_left g.S.Store.contents _ c.args.self.now c.self.view_is c.args.pass.now.caller c.args.pass.now.slots.items c.args.pass.now.units c.args.request.now c.requires.request
    (some_units g.S.Store.owns _ c.args.self.now c.self.view_is c.self.invariant.0 c.bio_laws.ensures.sizes c.bio_laws.ensures.blocks c.bio_laws.ensures.accepted c.args.request.now.bios c.requires.some c.requires.taken)
    c.in-Inline.ensures.0 c.in-Inline.ensures.1 c.in-Inline.ensures.2 c.carry_out_inline.new.pass.caller c.carry_out_inline.new.pass.slots.items c.carry_out_inline.new.pass.units c.carry_out_inline.new.request
    (whole_on g.S.Store.contents _ c.args.self.now c.self.view_is c.args.pass.now.caller c.carry_out_inline.new.pass.caller c.args.pass.now.slots.items c.carry_out_inline.new.pass.slots.items c.args.pass.now.units c.carry_out_inline.new.pass.units c.args.request.now c.carry_out_inline.new.request c.carry_out_inline.ensures.whole)
    c.requires.pass
    (subst (λ (d : DiskData _). IsReady d.queue c.carry_out_inline.new.pass.caller c.carry_out_inline.new.pass.slots.items c.carry_out_inline.new.pass.units) c.self.view_is c.carry_out_inline.ensures.ready)
