use Rattle.std.proofs.Common.{◌≡◌, ℕ, ◌*◌, ◌<◌, List, length, Some, refl, sym, ap, subst, ◌∙◌}
use Rattle.bc_bio.specs.Extent.{unit_sectors}
use Rattle.bc_bio.specs.Requests.{with_unit, tagged_bios}
use Rattle.bc_bio.specs.Windows.{count_units}
use Rattle.bc_bio.specs.declared.unit.Unit.TheVariants.{Full, Stored}
use Rattle.bc_medium.specs.declared.unit_at.UnitAt.{UnitAt}
use Rattle.bc_queue.proofs.Steps.{taken, put_back, has_length, wrote, write_failed}
use Rattle.bc_queue.proofs.request_units.write_unit.Goals as goal

pub put-requires : goal.put-requires
put-requires g c = record {
  within = subst (λ t. c.args.n < count_units t) (sym (taken c.args.request.now c.take_bytes-plain.new.request c.args.n c.take_bytes-plain.result.items c.take_bytes-plain.ensures.bytes c.take_bytes-plain.ensures.left).1.bios) c.requires.within;
}

pub put-requires-in-Err : goal.put-requires-in-Err
put-requires-in-Err g c = record {
  within = subst (λ t. c.args.n < count_units t) (sym (taken c.args.request.now c.take_bytes-plain.new.request c.args.n c.take_bytes-plain.result.items c.take_bytes-plain.ensures.bytes c.take_bytes-plain.ensures.left).1.bios) c.requires.within;
}

pub fault-requires : goal.fault-requires
fault-requires g c =
    subst (λ t. c.args.n < count_units t) (sym (put_back c.args.request.now c.take_bytes-plain.new.request c.put-in-Err.new.request c.args.n c.take_bytes-plain.result.items (Full c.from_vec.result) c.take_bytes-plain.ensures.bytes c.take_bytes-plain.ensures.left c.put-in-Err.ensures).bios) c.requires.within

pub returns-in-Ok-clause-attempts : goal.returns-in-Ok-clause-attempts
returns-in-Ok-clause-attempts g c =
    let facts = g.A.UnitAccess.facts c.args.access.now c.args.pass.now in
    let long : length c.take_bytes-plain.result.items ≡ 512 * unit_sectors facts.keys c.args.at.now.context =
    has_length facts.keys (g.A.UnitAccess.takes c.args.access.now) c.args.request.now.bios c.args.n c.take_bytes-plain.result.items c.requires.unit c.take_bytes-plain.ensures.bytes
    ∙ ap (λ (u : UnitAt). 512 * unit_sectors facts.keys u.context) (sym c.requires.at) in
    wrote facts (g.A.UnitAccess.facts c.write.new.self c.write.new.pass) c.args.request.now c.take_bytes-plain.new.request c.put.new.request c.args.n c.args.at.now c.in-Ok.place c.take_bytes-plain.result.items
    c.requires.at c.requires.writes c.take_bytes-plain.ensures.bytes long c.in-Ok.ensures.wrote c.take_bytes-plain.ensures.left c.put.ensures

pub returns-in-Err-clause-attempts : goal.returns-in-Err-clause-attempts
returns-in-Err-clause-attempts g c =
    let facts = g.A.UnitAccess.facts c.args.access.now c.args.pass.now in
    let long : length c.take_bytes-plain.result.items ≡ 512 * unit_sectors facts.keys c.args.at.now.context =
    has_length facts.keys (g.A.UnitAccess.takes c.args.access.now) c.args.request.now.bios c.args.n c.take_bytes-plain.result.items c.requires.unit c.take_bytes-plain.ensures.bytes
    ∙ ap (λ (u : UnitAt). 512 * unit_sectors facts.keys u.context) (sym c.requires.at) in
    let bytes : c.from_vec.result ≡ c.take_bytes-plain.result.items = c.from_vec.ensures ∙ c.in-Err.ensures.back in
    write_failed facts (g.A.UnitAccess.facts c.write.new.self c.write.new.pass) c.args.request.now c.take_bytes-plain.new.request c.put-in-Err.new.request c.args.n c.args.at.now c.in-Err.field-0-0.place c.take_bytes-plain.result.items c.fault.new.self
    c.requires.at c.requires.writes c.take_bytes-plain.ensures.bytes long c.in-Err.ensures.failed c.take_bytes-plain.ensures.left (c.put-in-Err.ensures ∙ ap (λ (l : List ℕ). with_unit c.args.n c.take_bytes-plain.new.request (Full l)) bytes) c.fault.ensures.marks
