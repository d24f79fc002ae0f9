use Rattle.std.proofs.Common.{sym, arith}
use Rattle.std.proofs.lemmas.List.{length-take-le}
use Rattle.bc_modes.proofs.essiv.put_links.Goals as goal

pub slice_bounds-copy_from_slice-length : goal.slice_bounds-copy_from_slice-length
slice_bounds-copy_from_slice-length c = sym (length-take-le 112 c.args.piece.now (omega arith))

pub copy_from_slice-requires-2 : goal.copy_from_slice-requires-2
copy_from_slice-requires-2 c =
    let length_is = length-take-le 112 c.args.piece.now (omega arith) in
    omega (arith, length_is, c.split_at_mut-first.ensures.back_len)
