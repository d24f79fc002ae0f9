use Rattle.std.proofs.Common.{◌≡◌, ◌-◌, ◌∷◌, List, take, drop, subst, sym, ap, ◌∙◌, arith}
use Rattle.std.specs.Prelude.{slice_get}
use Rattle.bc_bio.specs.Windows.{units_of_request}
use Rattle.bc_bio.specs.Requests.{tagged_bios}
use Rattle.bc_stack.specs.declared.target.Target.{Target}
use Rattle.bc_stack.specs.Pieces.{LiesOnDevice, pieces_of}
use Rattle.bc_stack.specs.Targets.{StackParts}
use Rattle.bc_stack.proofs.PieceLaws.{device_fits, piece_from}
use Rattle.bc_stack.proofs.stack.Stack.cut_at_borders.Goals as goal

pub overflow_cast-result : goal.overflow_cast-result
overflow_cast-result c =
    let same = c.deref.ensures.value ∙ ap (λ (s : StackParts). s.targets) c.self.view_is in
    let located = subst (λ (ts : List Target). LiesOnDevice c.args.keys.now.keys ts (tagged_bios c.args.request.now.bios) c.args.first) (sym same) c.requires.located in
    let within = device_fits c.deref.result.now (slice_get (units_of_request c.args.keys.now.keys (tagged_bios c.args.request.now.bios)) c.args.first) c.device_of-device.result c.device_of-device.ensures located in
    let few = c.self.invariant.few in
    omega (arith, within, few, c.deref.ensures.len)

pub returns-clause-piece : goal.returns-clause-piece
returns-clause-piece c =
    let same = c.deref-2.ensures.value ∙ ap (λ (s : StackParts). s.targets) c.self.view_is in
    let units = units_of_request c.args.keys.now.keys (tagged_bios c.args.request.now.bios) in
    let count = c.end_of_piece-end.result - c.args.first in
    subst (λ (ts : List Target). pieces_of ts (drop c.args.first units) ≡ take count (drop c.args.first units) ∷ pieces_of ts (drop count (drop c.args.first units))) same
    (piece_from c.deref-2.result.now units c.args.first c.device_of-device.result c.end_of_piece-end.result c.end_of_piece-end.ensures.end)
