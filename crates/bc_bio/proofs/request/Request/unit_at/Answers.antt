use Rattle.std.proofs.Common.{List, slice_index_or, arith, ap, ◌∙◌}
use Rattle.bc_bio.specs.declared.marked_bio.MarkedBio.{MarkedBio}
use Rattle.bc_bio.specs.BioUnits.{extent_of}
use Rattle.bc_bio.specs.Requests.{RequestParts}
use Rattle.bc_bio.proofs.RequestLaws.{placed_at, unit_sector_fits, unit_within, named_at}
use Rattle.bc_bio.proofs.request.Request.unit_at.Goals as goal

pub unit_sectors-requires : goal.unit_sectors-requires
unit_sectors-requires c =
    let same = ap (λ (p : RequestParts). p.bios) c.self.view_is in
    let is = c.index.ensures ∙ ap (λ (bs : List MarkedBio). slice_index_or bs c.place-place.result.bio c.index.result.now) same in
    (placed_at c.args.keys.now.keys c.args.self.now.bios c.place-place.result.bio c.index.result.now c.requires.request.placed c.place-place.ensures.in_request is).key

pub overflow_mul-sector : goal.overflow_mul-sector
overflow_mul-sector c =
    let same = ap (λ (p : RequestParts). p.bios) c.self.view_is in
    let is = c.index.ensures ∙ ap (λ (bs : List MarkedBio). slice_index_or bs c.place-place.result.bio c.index.result.now) same in
    let placed = placed_at c.args.keys.now.keys c.args.self.now.bios c.place-place.result.bio c.index.result.now c.requires.request.placed c.place-place.ensures.in_request is in
    let sector = unit_sector_fits c.args.keys.now.keys (extent_of c.index.result.now.bio) c.place-place.result.unit placed (unit_within c.args.self.now.bios c.args.n c.place-place.result c.index.result.now c.place-place.ensures is) in
    rw c.unit_sectors.ensures.sectors (omega (arith, sector))

pub overflow_add-sector : goal.overflow_add-sector
overflow_add-sector c =
    let same = ap (λ (p : RequestParts). p.bios) c.self.view_is in
    let is = c.index.ensures ∙ ap (λ (bs : List MarkedBio). slice_index_or bs c.place-place.result.bio c.index.result.now) same in
    let placed = placed_at c.args.keys.now.keys c.args.self.now.bios c.place-place.result.bio c.index.result.now c.requires.request.placed c.place-place.ensures.in_request is in
    let sector = unit_sector_fits c.args.keys.now.keys (extent_of c.index.result.now.bio) c.place-place.result.unit placed (unit_within c.args.self.now.bios c.args.n c.place-place.result c.index.result.now c.place-place.ensures is) in
    rw c.unit_sectors.ensures.sectors (omega (arith, sector))

pub returns-clause-unit : goal.returns-clause-unit
returns-clause-unit c =
    let same = ap (λ (p : RequestParts). p.bios) c.self.view_is in
    let is = c.index.ensures ∙ ap (λ (bs : List MarkedBio). slice_index_or bs c.place-place.result.bio c.index.result.now) same in
    rw (c.unit_sectors.ensures.sectors, c.context_wrapped-context.ensures, c.from.ensures) (named_at c.args.keys.now.keys c.args.self.now.bios c.args.n c.place-place.result c.index.result.now c.place-place.ensures is c.requires.within)
