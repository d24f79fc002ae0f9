use Rattle.std.proofs.Common.{ap, subst, sym, ◌∙◌}
use Rattle.bc_key.specs.KeyList.{KeyList}
use Rattle.bc_pieces.specs.Pieces.{GoesByDevices}
use Rattle.bc_pieces.specs.ManyCallers.{TakesOn}
use Rattle.bc_disk.proofs.inline_way.carry_out_inline.Goals as goal

pub carry_out_pieces-requires-clause-units : goal.carry_out_pieces-requires-clause-units
carry_out_pieces-requires-clause-units g c =
    subst (λ d. GoesByDevices c.keys.result.now.keys c.args.stack.now.targets (TakesOn g.S.Store.owns d.queue) c.args.request.now) (sym c.new-devices.ensures)
    (subst (λ (ks : KeyList). GoesByDevices ks.keys c.args.stack.now.targets (TakesOn g.S.Store.owns c.args.queue.now) c.args.request.now) (sym (c.keys.ensures ∙ ap (λ m. m.keys) c.medium.ensures)) c.requires.units)
