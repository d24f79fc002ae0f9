use Rattle.std.proofs.Common.{◌+◌, length-set, refl, ◌∙◌, arith}
use Rattle.bc_script.proofs.GeneratedLoops.{byte_more}
use Rattle.bc_script.proofs.generator.counted_bytes.Goals as goal

pub loop-i-preserved : goal.loop-i-preserved
loop-i-preserved c =
    let i = c.loop-i.i in
    let long = c.loop-i.invariant.0 in
    (length-set c.loop-i.bytes i (c.args.first + i) ∙ long, byte_more c.args.first i (c.args.first + i) c.loop-i.bytes (omega arith) refl c.loop-i.invariant.1)
