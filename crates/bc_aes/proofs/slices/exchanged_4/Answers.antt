use Rattle.std.proofs.Common.{List, ℕ, arith}
use Rattle.bc_aes.specs.Slices.{AreBytes}
use Rattle.bc_aes.proofs.ExchangeLemmas.{lower-exchanged, upper-exchanged, are_bytes, lower-bytes, upper-bytes}
use Rattle.bc_aes.proofs.slices.exchanged_4.Goals as goal

pub returns : goal.returns
returns c =
    let a : List ℕ = c.args.a in
    let b : List ℕ = c.args.b in
    let small_a : AreBytes a = are_bytes a c.fits-a in
    let small_b : AreBytes b = are_bytes b c.fits-b in
    record {
      exchanges = record {
        lower = λ p lt. lower-exchanged 4 0x0f a b p lt (omega arith) (omega arith);
        upper = λ p lt. upper-exchanged 4 0x0f a b p lt (omega arith) (omega arith);
      };
      from_bytes = (small_a, small_b);
      to_bytes = (lower-bytes 4 0x0f a b (omega arith) (omega arith) small_a, upper-bytes 4 0x0f a b (omega arith) (omega arith) (omega arith) small_b);
    }
