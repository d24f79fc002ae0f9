use Rattle.std.proofs.Common.{◌≡◌, ℕ, ◌+◌, ◌*◌, ◌/◌, ◌<◌, ◌≤◌, ◌++◌, List, length, length-append, ap, ◌∙◌, arith}
use Rattle.std.specs.Prelude.{slice_range}
use Rattle.std.proofs.Math.Logic.{⊎_elim}
use Rattle.std.proofs.lemmas.Bool.{cases_lt}
use Rattle.bc_base.specs.RamStores.{block_at}
use Rattle.bc_base.proofs.Shards.{block_push_old, block_push_new, block_length, below_next}
use Rattle.bc_base.proofs.ram_store.blocks_from.Goals as goal

pub loop-block-preserved : goal.loop-block-preserved
loop-block-preserved c =
    let inv = c.loop-block.invariant in let done : ℕ = inv.0 in
    let bytes : List ℕ = c.loop-block.bytes.items in
    let more : List ℕ = slice_range c.args.image.now (4096 * c.loop-block.block) (4096 * c.loop-block.block + 4096) in
    let now : c.extend_from_slice.new.self.items ≡ bytes ++ more = c.in_ok-extend_from_slice.ensures.items in
    let inside : c.loop-block.block < length c.args.image.now / 4096 = c.loop-block-test.true in
    let full : length more ≡ 4096 = block_length c.args.image.now c.loop-block.block (omega arith) in
    let a = inv.1 in let b = inv.2 in (
      done + 1,
      (let e : c.args.step * (done + 1) ≡ c.args.step * done + c.args.step = grind arith in omega arith),
      (let l = ap length now ∙ length-append bytes more in omega arith),
      λ i less. ap (λ (l : List ℕ). block_at l i) now ∙ ⊎_elim
          (λ (old : i < done). block_push_old bytes more i (omega arith) ∙ inv.3 i old)
          (λ (last : done ≤ i). block_push_new bytes more i (omega arith) full ∙ (let e : c.loop-block.block ≡ c.args.first + c.args.step * i = (let k : done ≡ i = omega arith in a ∙ ap (λ (n : ℕ). c.args.first + c.args.step * n) k) in ap (block_at c.args.image.now) e))
          (cases_lt i done),
    )

pub returns : goal.returns
returns c =
    let i = c.loop-block.invariant in let end = c.loop-block-test.false in
    record {
      long = λ n less. let b = below_next c.args.first c.args.step i.0 (length c.args.image.now / 4096) n (let e = i.1 in omega arith) less in let l = i.2 in omega arith;
      same = λ n less. i.3 n (below_next c.args.first c.args.step i.0 (length c.args.image.now / 4096) n (let e = i.1 in omega arith) less);
    }
