use Rattle.std.proofs.Common.{ap}
use Rattle.bc_bio.specs.Requests.{RequestParts}
use Rattle.bc_bio.proofs.PlaceLaws.{place_in_request}
use Rattle.bc_bio.proofs.request.Request.place.Goals as goal

pub overflow_sub-unit : goal.overflow_sub-unit
overflow_sub-unit c =
    (place_in_request _ _ _ _ _ _ _ _ (ap (λ (p : RequestParts). p.bios) c.self.view_is) c.self.invariant.ends_are c.deref.ensures.value c.deref-2.ensures.value c.requires c.bio_with-bio.ensures.parts c.begin_of.ensures).0

pub returns : goal.returns
returns c =
    (place_in_request _ _ _ _ _ _ _ _ (ap (λ (p : RequestParts). p.bios) c.self.view_is) c.self.invariant.ends_are c.deref.ensures.value c.deref-2.ensures.value c.requires c.bio_with-bio.ensures.parts c.begin_of.ensures).1
