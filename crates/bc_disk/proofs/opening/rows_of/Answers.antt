use Rattle.std.proofs.Common.{◌++◌, ◌∷◌, [], ap₂, sym, ◌∙◌}
use Rattle.bc_ufs.specs.Controllers.{row_for}
use Rattle.bc_disk.proofs.Joins.{map_take_push}
use Rattle.bc_disk.proofs.opening.rows_of.Goals as goal

pub loop-number-preserved : goal.loop-number-preserved
loop-number-preserved c =
    c.in_ok-push.ensures.items
    ∙ ap₂ (λ l x. l ++ x ∷ []) c.loop-number.invariant c.row_for.ensures
    ∙ sym (map_take_push (row_for c.args.caps.now) c.args.keys.now.keys c.loop-number.number c.get.result.now c.get.ensures.key)
