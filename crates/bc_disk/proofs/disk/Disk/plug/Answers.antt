use Rattle.std.proofs.Common.{subst, sym}
use Rattle.bc_bio.specs.BioUnits.{extent_of}
use Rattle.bc_bio.specs.Conditions.{IsPlaced}
use Rattle.bc_key.specs.KeyList.{KeyList}
use Rattle.bc_disk.proofs.disk.Disk.plug.Goals as goal

pub add-requires-clause-placed : goal.add-requires-clause-placed
add-requires-clause-placed g c =
    subst (λ (k : KeyList). IsPlaced k.keys (extent_of c.args.bio)) (sym c.keys.ensures) (c.refusal.ensures.accepted c.in_default.is).placed
