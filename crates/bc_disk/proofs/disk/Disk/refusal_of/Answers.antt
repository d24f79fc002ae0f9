use Rattle.std.proofs.Common.{ℕ, ◌<◌, ◌*◌, ◌^◌, Fits, w32, arith}
use Rattle.bc_disk.proofs.disk.Disk.refusal_of.Goals as goal

fits : (blocks : ℕ) → blocks < 2 ^ 29 → Fits w32 (8 * blocks)
fits blocks small = omega (arith, small)

pub overflow_mul-self-inside : goal.overflow_mul-self-inside
overflow_mul-self-inside g c = fits c.self.inside.blocks c.self.invariant.0.small
