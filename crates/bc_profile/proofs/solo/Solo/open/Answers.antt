use Rattle.std.proofs.Common.{None, replicate, ap}
use Rattle.std.specs.Prelude.{vec_capacity}
use Rattle.bc_profile.specs.Rows.{cleared}
use Rattle.bc_profile.proofs.OpeningLemmas.{same_parts, new_solo}
use Rattle.bc_profile.proofs.solo.Solo.open.Goals as goal

pub invariant_of-result : goal.invariant_of-result
invariant_of-result c =
    same_parts (ap (λ n. replicate n None) c.from-count.ensures) (ap (λ n. replicate n 0) c.from-count.ensures) (ap (λ n. replicate n cleared) c.from-count.ensures)
    c.in_ok-copies.ensures c.in_ok-copies-2.ensures c.in_ok-numbers.ensures c.in_ok-copies-3.ensures c.in_ok-with_capacity.ensures.items
    (new_solo c.args.slots c.args.rows.items c.args.events (vec_capacity c.in_ok-with_capacity.field-0) c.requires.some c.requires.few c.requires.events c.in_ok-with_capacity.ensures.capacity)
