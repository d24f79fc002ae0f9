use Rattle.std.proofs.Common.{◌≡◌, ◌+◌, ◌*◌, ◌/◌, ◌%◌, ◌∙◌, ap, arith}
use Rattle.bc_modes.proofs.LaneBytes.{divided, divided_is}
use Rattle.bc_modes.proofs.tweak.bytes_of.Goals as goal

-- both lanes together are the tweak
pub returns : goal.returns
returns c =
    let t = c.args.tweak in
    let whole : t % 18446744073709551616 + 18446744073709551616 * (t / 18446744073709551616 + 0) ≡ t = omega arith in
    ap (divided 16) whole ∙ divided_is t
