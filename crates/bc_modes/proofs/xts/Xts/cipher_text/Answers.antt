use Rattle.std.proofs.Common.{◌≡◌, ◌+◌, ◌*◌, ◌∙◌, sym, ap, take, arith}
use Rattle.bc_modes.specs.Schedules.{block_cipher}
use Rattle.bc_modes.specs.Tweak.{tweak_at}
use Rattle.bc_modes.specs.Xts.{first_tweak}
use Rattle.bc_modes.proofs.Doubling.{tweak_at-add}
use Rattle.bc_modes.proofs.Pieces.{no_tweaks, tweaks_on, all_tweaked}
use Rattle.bc_modes.proofs.xts.Xts.cipher_text.Goals as goal

pub loop-piece-init : goal.loop-piece-init
loop-piece-init c = no_tweaks _ _ _ _ c.first_tweak-tweak.ensures

pub loop-piece-preserved : goal.loop-piece-preserved
loop-piece-preserved c =
    let first = first_tweak c.args.self.now c.args.dun.now in
    let n = c.loop-piece.piece in
    let count : 8 * n + 8 ≡ 8 * (n + 1) = omega arith in
    let later = c.cipher_piece-tweak.ensures.next ∙ ap (λ t. tweak_at t 8) c.loop-piece.invariant.next
    ∙ sym (tweak_at-add first (8 * n) 8) ∙ ap (tweak_at first) count in
    tweaks_on (block_cipher c.args.way (take 32 c.args.self.now)) first n c.loop-piece.tweak c.args.text.now c.loop-piece.text c.cipher_piece-tweak.new.piece _
    (omega arith) (omega arith) (omega arith) c.loop-piece.invariant c.cipher_piece-tweak.ensures.ciphers later

pub returns : goal.returns
returns c =
    all_tweaked (block_cipher c.args.way (take 32 c.args.self.now)) (first_tweak c.args.self.now c.args.dun.now) c.loop-piece.piece c.loop-piece.tweak
    c.args.text.now c.loop-piece.text (omega arith) (omega arith) c.loop-piece.invariant
