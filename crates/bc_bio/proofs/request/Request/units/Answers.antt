use Rattle.std.proofs.Common.{◌∙◌, ap}
use Rattle.bc_bio.specs.Windows.{count_units}
use Rattle.bc_bio.specs.Requests.{RequestParts, tagged_bios}
use Rattle.bc_bio.proofs.PlaceLaws.{last_is, none_is}
use Rattle.bc_bio.proofs.request.Request.units.Goals as goal

pub returns-in-Some : goal.returns-in-Some
returns-in-Some c =
    last_is _ _ _ (c.deref.ensures.value ∙ c.self.invariant.ends_are) c.in-Some.ensures.value
    ∙ ap (λ (p : RequestParts). count_units (tagged_bios p.bios)) c.self.view_is

pub returns-in-None : goal.returns-in-None
returns-in-None c =
    none_is _ _ (c.deref.ensures.value ∙ c.self.invariant.ends_are) c.in-None.ensures.value
    ∙ ap (λ (p : RequestParts). count_units (tagged_bios p.bios)) c.self.view_is
