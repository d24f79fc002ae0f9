use Rattle.std.proofs.Common.{ℕ, arith, ap₂, ◌∙◌, ◌+◌, ◌-◌, ◌/◌, bit_xor}
use Rattle.bc_aes.specs.Field.{product_by, product}
use Rattle.bc_aes.proofs.PlainLemmas.{product-begun, product-more, product-done}
use Rattle.bc_aes.proofs.plain.product.Goals as goal

pub loop-i-init : goal.loop-i-init
loop-i-init c = product-begun c.args.a c.args.b

pub loop-i-preserved : goal.loop-i-preserved
loop-i-preserved c =
    ap₂ (λ (t p : ℕ). bit_xor (bit_xor c.loop-i.sum t) (product_by (8 - (c.loop-i._i + 1)) p (c.loop-i.rest / 2))) c.term-sum.ensures.picks c.times_x-power.ensures.doubles
    ∙ product-more c.loop-i.sum c.loop-i._i c.loop-i.power c.loop-i.rest (product c.args.a c.args.b) (omega arith) c.loop-i.invariant

pub returns : goal.returns
returns c = record {
  multiplies = product-done c.loop-i.sum c.loop-i._i c.loop-i.power c.loop-i.rest (product c.args.a c.args.b) (omega arith) c.loop-i.invariant;
}
