use Rattle.std.proofs.Common.{rules, ◌≡◌, ◌+◌, ◌<◌, ◌++◌, ◌∷◌, [], ap, ◌∙◌, subst, arith, length, length-append, refl}
use Rattle.bc_base.proofs.Lists.{at_read}
use Rattle.bc_base.specs.Lists.{At}
use Rattle.bc_turn.specs.PassParts.{cut_to, account_of}
use Rattle.bc_base.proofs.Lists.{each_at}
use Rattle.bc_turn.proofs.Rounds.{leaves, gathered, at_back}
use Rattle.bc_turn.proofs.turns.gather.Goals as goal

pub into_place-joint-requires : goal.into_place-joint-requires
into_place-joint-requires g c =
    (leaves c.args.left c.args.cell.now.table.shared.table_id c.args.passes.now.items 0 _ _ c.requires.cell (at_read c.args.passes.now.items 0 c.index_mut.result.now c.requires.some c.index_mut.ensures.value) c.leave.ensures.post).1

pub loop-k-init : goal.loop-k-init
loop-k-init g c =
    let at = at_read c.args.passes.now.items 0 c.index_mut.result.now c.requires.some c.index_mut.ensures.value in
    let k = gathered c.args.left c.args.passes.now.items c.args.passes.now.items 0 _ c.leave.new.self c.leave.result [] refl at c.leave.ensures.pass c.leave.ensures.post refl in
    let q = leaves c.args.left c.args.cell.now.table.shared.table_id c.args.passes.now.items 0 _ _ c.requires.cell at c.leave.ensures.post in
    let e = c.into_place-joint.ensures in (
      k.0,
      e.cell ∙ q.0,
      ap (λ m. m.0.accounts) e.account ∙ k.1,
      ap (λ m. m.1) e.account,
      let l = ap (λ m. length m.0.accounts) e.account in omega arith,
    )

pub leave-requires-in-loop-k : goal.leave-requires-in-loop-k
leave-requires-in-loop-k g c =
    let inside : c.loop-k.k < length c.loop-k.passes.items = search rules in
    let here = at_read c.loop-k.passes.items c.loop-k.k c.index_mut-in-loop-k.result.now inside c.index_mut-in-loop-k.ensures.value in
    let at = at_back (cut_to c.args.left) c.args.passes.now.items c.loop-k.k _ (subst (λ l. At l c.loop-k.k c.index_mut-in-loop-k.result.now) c.loop-k.invariant.0 here) in
    each_at (λ p. length p.parts ≡ c.args.left + 1) c.args.passes.now.items c.loop-k.k _ c.requires.parts at

pub into_place-place-requires : goal.into_place-place-requires
into_place-place-requires g c =
    let inside : c.loop-k.k < length c.loop-k.passes.items = search rules in
    let here = at_read c.loop-k.passes.items c.loop-k.k c.index_mut-in-loop-k.result.now inside c.index_mut-in-loop-k.ensures.value in
    let at = at_back (cut_to c.args.left) c.args.passes.now.items c.loop-k.k _ (subst (λ l. At l c.loop-k.k c.index_mut-in-loop-k.result.now) c.loop-k.invariant.0 here) in
    (leaves c.args.left c.args.cell.now.table.shared.table_id c.args.passes.now.items c.loop-k.k _ _ c.requires.cell at c.leave-in-loop-k.ensures.post).1

pub join-requires-clause-own : goal.join-requires-clause-own
join-requires-clause-own g c =
    let inside : c.loop-k.k < length c.loop-k.passes.items = search rules in
    let here = at_read c.loop-k.passes.items c.loop-k.k c.index_mut-in-loop-k.result.now inside c.index_mut-in-loop-k.ensures.value in
    let at = at_back (cut_to c.args.left) c.args.passes.now.items c.loop-k.k _ (subst (λ l. At l c.loop-k.k c.index_mut-in-loop-k.result.now) c.loop-k.invariant.0 here) in
    (c.loop-k.invariant.1, c.into_place-place.ensures.cell ∙ (leaves c.args.left c.args.cell.now.table.shared.table_id c.args.passes.now.items c.loop-k.k _ _ c.requires.cell at c.leave-in-loop-k.ensures.post).0)

pub loop-k-preserved : goal.loop-k-preserved
loop-k-preserved g c =
    let inside : c.loop-k.k < length c.loop-k.passes.items = search rules in
    let here = at_read c.loop-k.passes.items c.loop-k.k c.index_mut-in-loop-k.result.now inside c.index_mut-in-loop-k.ensures.value in
    let at = at_back (cut_to c.args.left) c.args.passes.now.items c.loop-k.k _ (subst (λ l. At l c.loop-k.k c.index_mut-in-loop-k.result.now) c.loop-k.invariant.0 here) in
    let k = gathered c.args.left c.args.passes.now.items c.loop-k.passes.items c.loop-k.k _ c.leave-in-loop-k.new.self c.leave-in-loop-k.result c.loop-k.joint.me.0.accounts
    c.loop-k.invariant.0 at c.leave-in-loop-k.ensures.pass c.leave-in-loop-k.ensures.post c.loop-k.invariant.2 in
    let e = c.join.ensures in let a = c.into_place-place.ensures.account in
    let acc = ap (λ m. m.0.accounts) e.1 ∙ ap (λ m. c.loop-k.joint.me.0.accounts ++ m.0.accounts) a in
    let one = c.loop-k.invariant.4 in (
      k.0,
      e.0 ∙ c.loop-k.invariant.1,
      acc ∙ k.1,
      ap (λ m. m.1) e.1 ∙ c.loop-k.invariant.3,
      let l = ap length acc in let m = length-append c.loop-k.joint.me.0.accounts (account_of c.leave-in-loop-k.result ∷ []) in omega arith,
    )
