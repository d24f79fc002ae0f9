use Rattle.std.proofs.Common.{◌+◌, length, arith}
use Rattle.std.proofs.lemmas.Slice.{drop-put_mid}
use Rattle.bc_aes.proofs.blocks.put_bytes.Goals as goal

pub returns-clause-after : goal.returns-clause-after
returns-clause-after c = drop-put_mid c.args.at _ c.args.text.now c.copy_from_slice.new.self (c.args.at + length c.args.bytes.now) (omega arith) (omega arith) (omega arith)
