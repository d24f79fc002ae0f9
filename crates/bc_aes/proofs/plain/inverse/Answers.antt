use Rattle.std.proofs.Common.{arith, sym, ◌∙◌}
use Rattle.bc_aes.proofs.PlainLemmas.{inverse-found, inverse-missed, inverse-none}
use Rattle.bc_aes.proofs.plain.inverse.Goals as goal

pub returns-then-product-eq1 : goal.returns-then-product-eq1
returns-then-product-eq1 c = record {
  inverts = inverse-found c.args.a c.loop-b.b (omega arith) (sym c.product.ensures.multiplies ∙ c.if-product-eq1.true) c.loop-b.invariant;
}

pub loop-b-preserved : goal.loop-b-preserved
loop-b-preserved c =
    inverse-missed c.args.a c.loop-b.b (omega arith) (λ e. c.if-product-eq1.false (c.product.ensures.multiplies ∙ e)) c.loop-b.invariant

pub returns : goal.returns
returns c = record { inverts = inverse-none c.args.a c.loop-b.b (omega arith) c.loop-b.invariant }
