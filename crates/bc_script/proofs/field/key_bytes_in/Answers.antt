use Rattle.std.proofs.Common.{◌≡◌, length, ◌/◌, arith, inl, inr}
use Rattle.bc_script.proofs.Fields.{said_bytes, no_bytes_fit, no_bytes_there}
use Rattle.bc_script.proofs.field.key_bytes_in.Goals as goal
use Rattle.bc_script.proofs.field.key_bytes_in.Goals.{then-count-lt1-via-then-count-lt1, then-count-lt1-via-else-count-lt1+then-room-count}

pub returns-then-count-lt1 : goal.returns-then-count-lt1
returns-then-count-lt1 c =
    no_bytes_fit 1 128 c.args.field.now
    (elim c.then-count-lt1.branch [ then-count-lt1-via-then-count-lt1 w ↦ inl (omega arith) | then-count-lt1-via-else-count-lt1+then-room-count w ↦ inr (omega arith) ])

pub returns-in_err-bytes_into : goal.returns-in_err-bytes_into
returns-in_err-bytes_into c =
    rw c.from_residual.ensures (no_bytes_there 1 128 c.args.field.now (λ bytes fits len text. c.in_err-bytes_into.ensures bytes fits (grind (arith, c.split_at_mut-bytes.ensures.front_len)) text))

pub returns : goal.returns
returns c =
    let count : length c.bytes_into.new.out ≡ length c.args.field.now / 2 = grind (arith, c.split_at_mut-bytes.ensures.front_len) in
    rw c.in-Ok.ensures.0 (said_bytes 1 128 c.args.field.now c.bytes_into.new.out c.in_ok-bytes_into.ensures.0 c.in_ok-bytes_into.ensures.1 (omega arith) (omega arith))
