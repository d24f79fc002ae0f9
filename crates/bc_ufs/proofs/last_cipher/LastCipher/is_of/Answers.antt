use Rattle.std.proofs.Common.{Ok, sym, ap, ◌∙◌}
use Rattle.std.proofs.lemmas.Slice.Eq.{bytes_eq-Decides}
use Rattle.bc_modes.specs.UnitCipher.{CipherParts}
use Rattle.bc_ufs.proofs.Loaded.{still_means}
use Rattle.bc_ufs.proofs.last_cipher.LastCipher.is_of.Goals as goal

pub returns-then-eq : goal.returns-then-eq
returns-then-eq c same =
    still_means c.args.caps.now c.self.inside.capabilities.items c.self.inside.words c.args.words.now c.self.inside.cipher c.self.invariant
    ((bytes_eq-Decides c.self.inside.words c.args.words.now).0 (sym c.if-eq.ensures))
    (sym c.as_slice.ensures.value ∙ c.are_same.ensures same ∙ c.capabilities.ensures.list)
    ∙ ap (λ (p : CipherParts). Ok p) c.self.view_is
