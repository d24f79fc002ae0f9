use Rattle.std.proofs.Common.{◌∙◌, take, arith}
use Rattle.bc_modes.specs.Schedules.{block_cipher}
use Rattle.bc_modes.proofs.Pieces.{piece_is}
use Rattle.bc_modes.proofs.xts.Xts.cipher_piece.Goals as goal

pub returns-clause-ciphers : goal.returns-clause-ciphers
returns-clause-ciphers c =
    c.add_blocks-2.ensures
    ∙ piece_is (block_cipher c.args.way (take 32 c.args.self.now)) c.args.tweak c.args.piece.now _ c.add_blocks.new.piece _ c.requires (omega arith)
    c.tweaks_from-next.ensures.tweaks c.add_blocks.ensures c.cipher_blocks.ensures.ciphers
