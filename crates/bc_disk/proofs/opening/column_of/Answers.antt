use Rattle.std.proofs.Common.{rules, ◌≡◌, length, map, ap, sym, ◌∙◌, arith, vec_len}
use Rattle.std.specs.Prelude.{slice_index_or}
use Rattle.std.proofs.lemmas.List.{take_all}
use Rattle.bc_disk.proofs.Joins.{column_is}
use Rattle.bc_disk.proofs.opening.column_of.Goals as goal

pub returns : goal.returns
returns c =
    let e : vec_len c.args.rows.now ≡ length c.args.rows.now.items = search rules in
    let past = c.loop-k-test.false in let end = c.loop-k.auto.k-end in let n = c.len-k-end.ensures in
    c.loop-k.invariant
    ∙ ap (map (λ row. slice_index_or row.items c.args.place 0)) (take_all c.loop-k.k c.args.rows.now.items (omega (arith, past, end, n, e)))
    ∙ sym (column_is (λ row. row.items) c.args.rows.now.items c.args.place)
