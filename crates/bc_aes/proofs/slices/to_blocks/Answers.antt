use Rattle.std.proofs.Common.{List, ℕ, ◌∙◌, ap, sym}
use Rattle.bc_aes.specs.Slices.{slices_of, by_rows}
use Rattle.bc_aes.proofs.TransposeLemmas.{Holds, held-none, held-more, block_of-vector}
use Rattle.bc_aes.proofs.slices.to_blocks.Goals as goal

pub returns : goal.returns
returns c =
    let blocks : List (List ℕ) = slices_of c.transposed-blocks.result in
    let to_1 : Holds blocks 1 c.put_vector.new.piece = held-more blocks 0 _ _ (held-none blocks c.args.piece.now) c.put_vector.ensures.before (c.put_vector.ensures.here ∙ c.by_rows.ensures) in
    let to_2 : Holds blocks 2 c.put_vector-2.new.piece = held-more blocks 1 _ _ to_1 c.put_vector-2.ensures.before (c.put_vector-2.ensures.here ∙ c.by_rows-2.ensures) in
    let to_3 : Holds blocks 3 c.put_vector-3.new.piece = held-more blocks 2 _ _ to_2 c.put_vector-3.ensures.before (c.put_vector-3.ensures.here ∙ c.by_rows-3.ensures) in
    let to_4 : Holds blocks 4 c.put_vector-4.new.piece = held-more blocks 3 _ _ to_3 c.put_vector-4.ensures.before (c.put_vector-4.ensures.here ∙ c.by_rows-4.ensures) in
    let to_5 : Holds blocks 5 c.put_vector-5.new.piece = held-more blocks 4 _ _ to_4 c.put_vector-5.ensures.before (c.put_vector-5.ensures.here ∙ c.by_rows-5.ensures) in
    let to_6 : Holds blocks 6 c.put_vector-6.new.piece = held-more blocks 5 _ _ to_5 c.put_vector-6.ensures.before (c.put_vector-6.ensures.here ∙ c.by_rows-6.ensures) in
    let to_7 : Holds blocks 7 c.put_vector-7.new.piece = held-more blocks 6 _ _ to_6 c.put_vector-7.ensures.before (c.put_vector-7.ensures.here ∙ c.by_rows-7.ensures) in
    let to_8 : Holds blocks 8 c.put_vector-8.new.piece = held-more blocks 7 _ _ to_7 c.put_vector-8.ensures.before (c.put_vector-8.ensures.here ∙ c.by_rows-8.ensures) in
    record { gives = λ k lt. to_8 k lt ∙ ap by_rows (c.transposed-blocks.ensures.into_blocks k lt) ∙ sym (block_of-vector (slices_of c.args.q) k) }
