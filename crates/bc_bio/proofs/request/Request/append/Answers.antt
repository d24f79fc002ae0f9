use Rattle.std.proofs.Common.{◌+◌, ◌<◌, ◌^◌, length, List, ◌∙◌, ap, sym, subst}
use Rattle.bc_bio.specs.declared.marked_bio.MarkedBio.{MarkedBio}
use Rattle.bc_bio.specs.Windows.{count_units}
use Rattle.bc_bio.specs.Requests.{RequestParts, tagged_bios}
use Rattle.bc_bio.proofs.RequestLaws.{ends_with, room_for_end}
use Rattle.bc_bio.proofs.request.Request.append.Goals as goal

pub push_reserved-requires : goal.push_reserved-requires
push_reserved-requires c =
    room_for_end c.self.inside.bios.items c.self.inside.ends.items _ _ _ _ _ c.self.invariant c.self.inside.bios.ok.0 c.self.inside.ends.ok.0
    (ap (λ (p : RequestParts). p.spare) c.self.view_is) c.requires.spare

pub invariant_of-self : goal.invariant_of-self
invariant_of-self c =
    let same = ap (λ (p : RequestParts). p.bios) c.self.view_is in
    let units = c.units.ensures ∙ sym (ap (λ (bs : List MarkedBio). count_units (tagged_bios bs)) same) in
    let end = ap (λ n. n + c.len.result) units ∙ ap (λ n. count_units (tagged_bios c.self.inside.bios.items) + n) c.len.ensures in
    rw (c.push_reserved.ensures.capacity, c.push_reserved-2.ensures.capacity)
    (ends_with c.self.inside.bios.items _ c.args.bio c.self.inside.ends.items _ _ _ _ c.push_reserved-2.ensures.items c.push_reserved.ensures.items end
    (subst (λ (bs : List MarkedBio). count_units (tagged_bios bs) + length c.args.bio.units < 2 ^ 32) (sym same) c.requires.fits) c.self.invariant)
