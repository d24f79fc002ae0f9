use Rattle.std.proofs.Common.{◌≡◌, ◌-◌, List, Some, ap, refl, subst, ◌∙◌, vec_len, vec_capacity}
use Rattle.bc_bio.specs.declared.marked_bio.MarkedBio.{MarkedBio}
use Rattle.bc_bio.specs.Requests.{RequestParts, unit_in, with_unit}
use Rattle.bc_bio.proofs.RequestLaws.{content_at, content_read, same_ends, same_tagged}
use Rattle.bc_bio.proofs.request.Request.unit_mut.Goals as goal

pub invariant_of-self-lent : goal.invariant_of-self-lent
invariant_of-self-lent c =
    λ w.
    let found = c.place-place.ensures in
    same_ends _ _ _ _ _ _ _ c.index_mut-marked.ensures.value found.in_request (same_tagged c.index_mut-marked.result.now c.place-place.result.unit w) c.self.invariant

pub returns : goal.returns
returns c =
    let same = ap (λ (p : RequestParts). p.bios) c.self.view_is in
    let found = c.place-place.ensures in
    let spare = vec_capacity c.self.inside.bios - vec_len c.self.inside.bios in (
      (
        refl,
        λ w. ap (λ (bs : List MarkedBio). let parts : RequestParts = record { bios = bs; spare = spare } in parts)
            (content_at c.self.inside.bios.items c.args.n c.place-place.result c.index_mut-marked.result.now w found c.index_mut-marked.ensures.value)
            ∙ ap (λ (p : RequestParts). with_unit c.args.n p w) c.self.view_is,
      ),
      record { writes_back = tt; value = subst (λ (bs : List MarkedBio). unit_in bs c.args.n ≡ Some c.get_mut.result.now) same (content_read c.self.inside.bios.items c.args.n c.place-place.result c.index_mut-marked.result.now c.get_mut.result.now found c.index_mut-marked.ensures.value c.get_mut.ensures.value) },
    )
