use Rattle.std.proofs.Common.{◌≡◌, ℕ, ◌*◌, ◌<◌, List, length, Some, refl, sym, ap, subst, ◌∙◌}
use lib.ListN.{drop}
use Rattle.std.proofs.lemmas.List.{take_at}
use Rattle.bc_bio.specs.Extent.{unit_sectors}
use Rattle.bc_bio.specs.Requests.{with_unit, tagged_bios}
use Rattle.bc_bio.specs.Windows.{count_units}
use Rattle.bc_bio.specs.declared.unit.Unit.TheVariants.{Full}
use Rattle.bc_medium.specs.declared.unit_at.UnitAt.{UnitAt}
use Rattle.bc_medium.specs.KeyedDisk.{Text}
use Rattle.bc_medium.specs.Entries.{read_entry}
use Rattle.bc_queue.specs.Carrying.{AccessesOne}
use Rattle.bc_queue.proofs.Steps.{taken, put_back, has_length, read, read_failed}
use Rattle.bc_queue.proofs.request_units.read_unit.Goals as goal

pub put-requires : goal.put-requires
put-requires g c = record {
  within = subst (λ t. c.args.n < count_units t) (sym (taken c.args.request.now c.take_bytes-text.new.request c.args.n c.take_bytes-text.result.items c.take_bytes-text.ensures.bytes c.take_bytes-text.ensures.left).1.bios) c.requires.within;
}

pub put-requires-in-Err : goal.put-requires-in-Err
put-requires-in-Err g c = record {
  within = subst (λ t. c.args.n < count_units t) (sym (taken c.args.request.now c.take_bytes-text.new.request c.args.n c.take_bytes-text.result.items c.take_bytes-text.ensures.bytes c.take_bytes-text.ensures.left).1.bios) c.requires.within;
}

pub fault-requires : goal.fault-requires
fault-requires g c =
    subst (λ t. c.args.n < count_units t) (sym (put_back c.args.request.now c.take_bytes-text.new.request c.put-in-Err.new.request c.args.n c.take_bytes-text.result.items (Full c.from_vec-in-Err.result) c.take_bytes-text.ensures.bytes c.take_bytes-text.ensures.left c.put-in-Err.ensures).bios) c.requires.within

pub returns-in-Ok-clause-attempts : goal.returns-in-Ok-clause-attempts
returns-in-Ok-clause-attempts g c =
    let facts = g.A.UnitAccess.facts c.args.access.now c.args.pass.now in
    let long : length c.read.new.text ≡ 512 * unit_sectors facts.keys c.args.at.now.context =
    c.read.ensures.length ∙ ap length c.as_mut_slice.ensures.value
    ∙ has_length facts.keys (g.A.UnitAccess.takes c.args.access.now) c.args.request.now.bios c.args.n c.take_bytes-text.result.items c.requires.unit c.take_bytes-text.ensures.bytes
    ∙ ap (λ (u : UnitAt). 512 * unit_sectors facts.keys u.context) (sym c.requires.at) in
    let bytes : c.from_vec.result ≡ c.read.new.text = c.from_vec.ensures ∙ take_at c.read.new.text (drop (length c.read.new.text) c.take_bytes-text.result.items) c.take_bytes-text.result.len (c.read.ensures.length ∙ c.as_mut_slice.ensures.len) in
    read facts (g.A.UnitAccess.facts c.read.new.self c.read.new.pass) c.args.request.now c.take_bytes-text.new.request c.put.new.request c.args.n c.args.at.now c.in-Ok.field-0 c.take_bytes-text.result.items c.read.new.text
    c.requires.at c.requires.reads c.take_bytes-text.ensures.bytes long c.in-Ok.ensures.read c.take_bytes-text.ensures.left (c.put.ensures ∙ ap (λ (l : List ℕ). with_unit c.args.n c.take_bytes-text.new.request (Full l)) bytes)

pub returns-in-Err-clause-attempts : goal.returns-in-Err-clause-attempts
returns-in-Err-clause-attempts g c =
    let facts = g.A.UnitAccess.facts c.args.access.now c.args.pass.now in
    let long : length c.read.new.text ≡ 512 * unit_sectors facts.keys c.args.at.now.context =
    c.read.ensures.length ∙ ap length c.as_mut_slice.ensures.value
    ∙ has_length facts.keys (g.A.UnitAccess.takes c.args.access.now) c.args.request.now.bios c.args.n c.take_bytes-text.result.items c.requires.unit c.take_bytes-text.ensures.bytes
    ∙ ap (λ (u : UnitAt). 512 * unit_sectors facts.keys u.context) (sym c.requires.at) in
    let bytes : c.from_vec-in-Err.result ≡ c.read.new.text = c.from_vec-in-Err.ensures ∙ take_at c.read.new.text (drop (length c.read.new.text) c.take_bytes-text.result.items) c.take_bytes-text.result.len (c.read.ensures.length ∙ c.as_mut_slice.ensures.len) in
    read_failed facts (g.A.UnitAccess.facts c.read.new.self c.read.new.pass) c.args.request.now c.take_bytes-text.new.request c.put-in-Err.new.request c.args.n c.args.at.now c.in-Err.field-0.place c.take_bytes-text.result.items c.read.new.text c.fault.new.self
    c.requires.at c.requires.reads c.take_bytes-text.ensures.bytes long c.in-Err.ensures.failed c.take_bytes-text.ensures.left (c.put-in-Err.ensures ∙ ap (λ (l : List ℕ). with_unit c.args.n c.take_bytes-text.new.request (Full l)) bytes) c.fault.ensures.marks
