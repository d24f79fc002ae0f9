use Rattle.std.proofs.Common.{arith}
use Rattle.bc_modes.specs.CbcEssiv.{essiv, essiv_decipher}
use Rattle.bc_modes.proofs.Unchained.{no_links, links_on, all_unlinked}
use Rattle.bc_modes.proofs.essiv.Essiv.decrypt.Goals as goal

pub loop-piece-init : goal.loop-piece-init
loop-piece-init c = no_links _ _ _ _ c.start-before.ensures

pub loop-piece-preserved : goal.loop-piece-preserved
loop-piece-preserved c =
    let step = c.decrypt_piece-before in
    links_on c.args.self.now (essiv c.args.self.now c.args.dun.now) c.loop-piece.piece _ c.args.text.now c.loop-piece.text step.new.piece _
    (omega arith) (omega arith) (omega arith) c.loop-piece.invariant step.ensures.deciphers step.ensures.next

pub returns : goal.returns
unfolding essiv_decipher
returns c =
    all_unlinked c.args.self.now (essiv c.args.self.now c.args.dun.now) c.loop-piece.piece _ c.args.text.now c.loop-piece.text
    (omega arith) (omega arith) c.loop-piece.invariant
