use Rattle.std.proofs.Common.{rules, ◌≡◌, map, length, ap, sym, ◌∙◌, subst, arith}
use Rattle.bc_base.specs.Lists.{Each}
use Rattle.bc_medium.specs.Medium.{Belongs}
use Rattle.uses.proofs.Disks.{has_sectors, back_again, new_numbers, all_here}
use Rattle.uses.proofs.disk.run_callers.Goals as goal

pub at_once-requires-clause-shards : goal.at_once-requires-clause-shards
at_once-requires-clause-shards g c κs within =
    let n : c.len.result ≡ length c.args.stores.items = search rules in
    let has = has_sectors _ _ g.S.Store.owns c.in_ok-medium.medium c.args.stores.items c.args.sectors c.in_ok-medium.ensures.openings c.requires.sectors in
    let some = c.requires.stores.0 in ((omega arith), n ∙ sym has.0)

pub at_once-requires-clause-sectors : goal.at_once-requires-clause-sectors
at_once-requires-clause-sectors g c κs within =
    (has_sectors _ _ g.S.Store.owns c.in_ok-medium.medium c.args.stores.items c.args.sectors c.in_ok-medium.ensures.openings c.requires.sectors).1

pub close-requires-clause-passes : goal.close-requires-clause-passes
close-requires-clause-passes g c =
    let back = back_again c.in_ok-medium.medium c.in_ok-medium.passes.items c.in_ok-done.done.items c.in_ok-done.ensures.length c.in_ok-done.ensures.each in
    subst (Each (Belongs c.in_ok-medium.medium)) (sym c.in_ok-passes.ensures) back.0

pub close-requires-clause-all : goal.close-requires-clause-all
close-requires-clause-all g c =
    let back = back_again c.in_ok-medium.medium c.in_ok-medium.passes.items c.in_ok-done.done.items c.in_ok-done.ensures.length c.in_ok-done.ensures.each in
    let numbers = ap (map (λ p. p.caller)) c.in_ok-passes.ensures ∙ back.1 ∙ ap (map (λ p. p.caller)) c.in_ok-medium.ensures.passes ∙ new_numbers c.in_ok-medium.medium.turns.cells 0 (length c.args.quotas.items) in
    λ caller below. let callers = c.in_ok-medium.ensures.callers in
    all_here c.in_ok-passes.passes.items (length c.args.quotas.items) numbers caller (omega arith)

pub returns-in-Ok : goal.returns-in-Ok
returns-in-Ok g c =
    let has = has_sectors _ _ g.S.Store.owns c.in_ok-medium.medium c.args.stores.items c.args.sectors c.in_ok-medium.ensures.openings c.requires.sectors in
    record { shards = c.in-Ok.ensures.length ∙ has.0 }
