use Rattle.std.proofs.Common.{ℕ, List, get_or, set, arith, ap, ◌∙◌}
use Rattle.std.proofs.lemmas.List.{get_or_default}
use Rattle.std.proofs.lemmas.List.Edits.{map_over_more}
use Rattle.bc_aes.specs.State.{sub_byte}
use Rattle.bc_aes.proofs.plain.sub_bytes.Goals as goal

pub loop-byte-preserved : goal.loop-byte-preserved
loop-byte-preserved c =
    let i : ℕ = c.loop-byte.byte-index in
    let xs : List ℕ = c.loop-byte.state in
    ap (λ (b : ℕ). set xs i b) c.sub_byte.ensures.substitutes
    ∙ map_over_more sub_byte c.args.state.now xs i (get_or xs i 0) (omega arith) c.loop-byte.invariant (get_or_default xs i 0 (get_or xs i 0) (omega arith))
