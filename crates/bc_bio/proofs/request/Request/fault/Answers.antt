use Rattle.std.proofs.Common.{◌-◌, List, ap, refl, subst, sym, ◌∙◌, vec_len, vec_capacity}
use Rattle.bc_bio.specs.declared.marked_bio.MarkedBio.{MarkedBio}
use Rattle.bc_bio.specs.Ends.{IsFound}
use Rattle.bc_bio.specs.Requests.{RequestParts, tagged_bios, with_fault}
use Rattle.bc_bio.proofs.RequestLaws.{fault_at, same_ends, tagged_bios-same}
use Rattle.bc_bio.proofs.request.Request.fault.Goals as goal

pub invariant_of-self : goal.invariant_of-self
invariant_of-self c =
    let same = ap (λ (p : RequestParts). p.bios) c.self.view_is in
    let found = subst (λ (bs : List MarkedBio). IsFound bs c.args.n c.place-place.result) (sym same) c.place-place.ensures in
    same_ends _ _ _ _ _ _ _ c.index_mut-faulted.ensures.value found.in_request refl c.self.invariant

pub returns-clause-marks : goal.returns-clause-marks
returns-clause-marks c =
    let same = ap (λ (p : RequestParts). p.bios) c.self.view_is in
    let found = subst (λ (bs : List MarkedBio). IsFound bs c.args.n c.place-place.result) (sym same) c.place-place.ensures in
    let spare = vec_capacity c.self.inside.bios - vec_len c.self.inside.bios in
    ap (λ (bs : List MarkedBio). let parts : RequestParts = record { bios = bs; spare = spare } in parts)
    (fault_at c.self.inside.bios.items c.args.n c.place-place.result c.index_mut-faulted.result.now c.first_fault.result found c.index_mut-faulted.ensures.value c.first_fault.ensures)
    ∙ ap (with_fault c.args.n) c.self.view_is

pub returns-clause-same_bios : goal.returns-clause-same_bios
returns-clause-same_bios c =
    let same = ap (λ (p : RequestParts). p.bios) c.self.view_is in
    let found = subst (λ (bs : List MarkedBio). IsFound bs c.args.n c.place-place.result) (sym same) c.place-place.ensures in
    tagged_bios-same _ _ _ _ c.index_mut-faulted.ensures.value found.in_request refl ∙ ap tagged_bios same
