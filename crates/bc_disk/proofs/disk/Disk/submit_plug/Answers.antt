use Rattle.std.proofs.Common.{◌≡◌, arith, map, None, refl}
use Rattle.bc_bio.specs.declared.marked_bio.MarkedBio.{MarkedBio}
use Rattle.bc_bio.specs.Requests.{RequestParts, reply_of, tagged_bios}
use Rattle.bc_bio.specs.Windows.{IsRequest}
use Rattle.bc_queue.specs.Plugs.{IsWaiting, bios_in}
use Rattle.bc_disk.specs.Disks.{keys_in, pass_by}
use Rattle.bc_disk.specs.Submissions.{IsTaken}
use Rattle.bc_disk.proofs.Plugged.{events_all, next_entries, next_events, next_has, next_taken, no_faults, sending_more, sending_start, sent_all, window_events}
use Rattle.bc_disk.proofs.disk.Disk.submit_plug.Goals as goal

pub loop-n-init : goal.loop-n-init
loop-n-init g c =
    (sending_start g.S.Store.contents c.args.self.now c.args.pass.now _ c.args.plug.now.requests c.pass.view_is c.requires.pass, refl, refl, refl)

pub carry_request_out-requires-clause-some : goal.carry_request_out-requires-clause-some
carry_request_out-requires-clause-some g c =
    (next_has g.S.Store.contents c.args.self.now c.args.pass.now _ c.args.plug.now.requests c.loop-n.plug.requests c.loop-n.n c.request_mut-request.result.now c.loop-n.invariant.0 c.request_mut-request.ensures.value IsWaiting c.requires.plug.waiting).some

pub carry_request_out-requires-clause-request : goal.carry_request_out-requires-clause-request
carry_request_out-requires-clause-request g c =
    next_has g.S.Store.contents c.args.self.now c.args.pass.now _ c.args.plug.now.requests c.loop-n.plug.requests c.loop-n.n c.request_mut-request.result.now c.loop-n.invariant.0 c.request_mut-request.ensures.value
    (λ (r : RequestParts). IsRequest (keys_in c.args.self.now) (tagged_bios r.bios)) c.requires.requests

pub carry_request_out-requires-clause-taken : goal.carry_request_out-requires-clause-taken
carry_request_out-requires-clause-taken g c =
    next_taken g.S.Store.contents c.args.self.now c.args.pass.now _ c.args.plug.now.requests c.loop-n.plug.requests c.loop-n.n c.request_mut-request.result.now c.loop-n.invariant.0 c.request_mut-request.ensures.value
    (λ (m : MarkedBio). (m.fault ≡ None) × IsTaken c.args.self.now m.bio) c.requires.taken

pub carry_request_out-requires-clause-entries : goal.carry_request_out-requires-clause-entries
carry_request_out-requires-clause-entries g c =
    next_entries g.S.Store.contents c.args.self.now c.args.pass.now _ c.args.plug.now.requests c.loop-n.plug.requests c.loop-n.n c.request_mut-request.result.now c.loop-n.invariant.0 c.request_mut-request.ensures.value c.requires.entries

pub carry_request_out-requires-clause-events : goal.carry_request_out-requires-clause-events
carry_request_out-requires-clause-events g c =
    next_events g.S.Store.contents c.args.self.now c.args.pass.now _ c.args.plug.now.requests c.loop-n.plug.requests c.loop-n.n c.request_mut-request.result.now c.loop-n.invariant.0 c.request_mut-request.ensures.value
    (window_events g.S.Store.contents c.args.self.now c.args.pass.now c.args.plug.now.requests c.requires.window c.args.pass.now c.requires.events)

pub loop-n-preserved : goal.loop-n-preserved
loop-n-preserved g c = (
  sending_more g.S.Store.contents c.args.self.now c.args.pass.now (pass_by c.loop-n.pass-inside.queue.caller c.loop-n.pass-inside.queue.slots.items c.loop-n.pass-inside.queue.units) c.args.plug.now.requests c.loop-n.plug.requests c.loop-n.n c.request_mut-request.result.now c.loop-n.invariant.0 c.request_mut-request.ensures.value
      c.hold_laws.ensures.names c.hold_laws.ensures.later c.piece_laws.ensures.becomes_stays c.piece_laws.ensures.by_bios
      (pass_by c.carry_request_out.new.pass.caller c.carry_request_out.new.pass.slots.items c.carry_request_out.new.pass.units) c.carry_request_out.new.request c.carry_request_out.ensures.pass
      (no_faults g.S.Store.contents c.args.self.now c.args.pass.now c.request_mut-request.result.now.bios (next_taken g.S.Store.contents c.args.self.now c.args.pass.now (pass_by c.loop-n.pass-inside.queue.caller c.loop-n.pass-inside.queue.slots.items c.loop-n.pass-inside.queue.units) c.args.plug.now.requests c.loop-n.plug.requests c.loop-n.n c.request_mut-request.result.now c.loop-n.invariant.0 c.request_mut-request.ensures.value
      (λ (m : MarkedBio). (m.fault ≡ None) × IsTaken c.args.self.now m.bio) c.requires.taken))
      (next_has g.S.Store.contents c.args.self.now c.args.pass.now (pass_by c.loop-n.pass-inside.queue.caller c.loop-n.pass-inside.queue.slots.items c.loop-n.pass-inside.queue.units) c.args.plug.now.requests c.loop-n.plug.requests c.loop-n.n c.request_mut-request.result.now c.loop-n.invariant.0 c.request_mut-request.ensures.value IsWaiting c.requires.plug.waiting)
      c.carry_request_out.ensures.carries c.carry_request_out.ensures.entries c.carry_request_out.ensures.events,
  c.loop-n.invariant.1,
  c.loop-n.invariant.2,
  c.loop-n.invariant.3,
)

pub returns-clause-submits : goal.returns-clause-submits
returns-clause-submits g c = (
  map reply_of (bios_in c.loop-n.plug.requests),
  c.drain.ensures.replies,
  sent_all g.S.Store.contents c.args.self.now c.args.pass.now c.args.plug.now.requests c.requires.window (pass_by c.loop-n.pass-inside.queue.caller c.loop-n.pass-inside.queue.slots.items c.loop-n.pass-inside.queue.units) c.loop-n.plug.requests c.loop-n.n c.loop-n.invariant.0
      (omega (arith, c.loop-n-test.false, c.loop-n.auto.n-end, c.requests-n-end.ensures))
      (no_faults g.S.Store.contents c.args.self.now c.args.pass.now (bios_in c.args.plug.now.requests) c.requires.taken),
)

pub returns-clause-events : goal.returns-clause-events
returns-clause-events g c =
    events_all g.S.Store.contents c.args.self.now c.args.pass.now c.args.plug.now.requests c.requires.window (pass_by c.loop-n.pass-inside.queue.caller c.loop-n.pass-inside.queue.slots.items c.loop-n.pass-inside.queue.units) c.loop-n.plug.requests c.loop-n.n c.loop-n.invariant.0
    (omega (arith, c.loop-n-test.false, c.loop-n.auto.n-end, c.requests-n-end.ensures))
