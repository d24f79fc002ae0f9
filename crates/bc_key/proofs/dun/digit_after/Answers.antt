use Rattle.std.proofs.Common.{◌≡◌, ◌*◌, ◌%◌, ◌^◌, arith}
use Rattle.std.proofs.lemmas.Nat.{or_shifted}
use Rattle.bc_key.proofs.dun.digit_after.Goals as goal

pub returns : goal.returns
returns c =
    let shifted : c.args.word * 16 % 2 ^ 64 ≡ c.args.word % 2 ^ 60 * 2 ^ 4 = omega arith in
    let small = or_shifted (c.args.word % 2 ^ 60) 4 c.args.digit (omega arith) in
    rw shifted (omega (arith, small))
