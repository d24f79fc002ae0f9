use Rattle.std.proofs.Common.{◌≡◌, ◌-◌, bit_xor}
use Rattle.bc_aes.specs.Field.{product_by, product}
use Rattle.bc_aes.proofs.plain.product.Given as goal

abbrev pub invariant-loop-i : goal.invariant-loop-i
invariant-loop-i l = bit_xor l.sum (product_by (8 - l._i) l.power l.rest) ≡ product l.a l.b
