use Rattle.std.proofs.Common.{◌∙◌, ap, arith}
use Rattle.bc_modes.specs.CbcEssiv.{unchained}
use Rattle.bc_modes.proofs.Unchained.{unchained_piece}
use Rattle.bc_modes.proofs.essiv.Essiv.decrypt_piece.Goals as goal

pub returns-clause-deciphers : goal.returns-clause-deciphers
returns-clause-deciphers c =
    c.add_blocks.ensures
    ∙ unchained_piece _ c.args.before.now _ c.args.piece.now _ (omega arith) c.requires c.links_of.ensures.links c.decrypt_blocks.ensures.deciphers
    ∙ ap (λ key. unchained key c.args.before.now c.args.piece.now) c.self.view_is
