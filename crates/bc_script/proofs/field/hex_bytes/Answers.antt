use Rattle.std.proofs.Common.{arith}
use Rattle.bc_script.proofs.Fields.{no_bytes_of}
use Rattle.bc_script.proofs.field.hex_bytes.Goals as goal

pub returns-then-field-count-clause-value : goal.returns-then-field-count-clause-value
returns-then-field-count-clause-value c = no_bytes_of c.args.count c.args.field.now (λ e. grind arith)
