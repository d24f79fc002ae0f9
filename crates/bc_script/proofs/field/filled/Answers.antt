use Rattle.std.proofs.Common.{◌≡◌, ◌∙◌, length, drop, arith}
use Rattle.bc_script.proofs.Fields.{said_bytes, no_bytes, filled_whole}
use Rattle.bc_script.proofs.field.filled.Goals as goal

pub returns-in_err-bytes_into : goal.returns-in_err-bytes_into
returns-in_err-bytes_into c =
    let room : length c.deref_mut.result.now ≡ length c.args.bytes.items = grind arith in
    rw c.from_residual.ensures (no_bytes (length c.args.bytes.items) (length c.args.bytes.items) c.args.field.now (λ bytes fits low high text. c.in_err-bytes_into.ensures bytes fits (omega arith) text))

pub returns : goal.returns
returns c =
    let count : length c.bytes_into.new.out ≡ length c.args.bytes.items = grind arith in
    let room : c.args.bytes.len ≡ length c.bytes_into.new.out = grind arith in
    let same : c.from_vec.result ≡ c.bytes_into.new.out =
    c.from_vec.ensures ∙ filled_whole c.args.bytes.len c.bytes_into.new.out (drop (length c.bytes_into.new.out) c.args.bytes.items) room in
    rw same (said_bytes (length c.args.bytes.items) (length c.args.bytes.items) c.args.field.now c.bytes_into.new.out c.in_ok-bytes_into.ensures.0 c.in_ok-bytes_into.ensures.1 (omega arith) (omega arith))
