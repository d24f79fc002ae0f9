use Rattle.std.proofs.Common.{◌≡◌, ◌∙◌, ℕ, ◌+◌, ◌++◌, ◌∷◌, List, [], take, get_or, sym, subst, arith, Option, Some, None}
use Rattle.std.proofs.lemmas.List.{length-take}
use Rattle.std.proofs.lemmas.Option.{same_Some}
use Rattle.bc_bio.specs.declared.bio.Bio.{Bio}
use Rattle.bc_bio.specs.BioUnits.{extent_of}
use Rattle.bc_bio.specs.Conditions.{IsPlaced}
use Rattle.bc_section.proofs.Lists.{take_next}
use Rattle.bc_threads.specs.Plugging.{IsPlugged, SameBeside}
use Rattle.bc_threads.proofs.Noting.{beside_more, not_before, plugged_count, plugged_more, read_within, still_there}
use Rattle.bc_threads.proofs.sharing.plug_all.Goals as goal

pub take_bio-bio-requires : goal.take_bio-bio-requires
take_bio-bio-requires c =
    let there = still_there c.args.keys.now.keys c.args.bios.now.items c.args.window.now c.loop-op.bios.items c.loop-op.op-index c.loop-op-test.true c.requires.order c.requires.there c.loop-op.invariant.others in
    record { there = (there.0, there.1) }

pub plug_in-requires-clause-placed : goal.plug_in-requires-clause-placed
plug_in-requires-clause-placed c =
    let there = still_there c.args.keys.now.keys c.args.bios.now.items c.args.window.now c.loop-op.bios.items c.loop-op.op-index c.loop-op-test.true c.requires.order c.requires.there c.loop-op.invariant.others in
    subst (λ (bio : Bio). IsPlaced c.args.keys.now.keys (extent_of bio)) (same_Some there.0 c.take_bio-bio.result (same_Some (Some there.0) (Some c.take_bio-bio.result) (sym there.1 ∙ c.take_bio-bio.ensures.taken))) there.2

pub plug_in-requires-clause-room : goal.plug_in-requires-clause-room
plug_in-requires-clause-room c =
    let window = c.args.window.now in
    let i = c.loop-op.op-index in
    let count = plugged_count c.args.keys.now.keys c.args.bios.now.items window (take i window) c.loop-op.plug c.loop-op.invariant.plugged in
    let long = length-take i window in
    let lt = c.loop-op-test.true in let few = c.requires.few in
    omega (arith, count, long, lt, few)

pub loop-op-preserved : goal.loop-op-preserved
loop-op-preserved c =
    let keys = c.args.keys.now.keys in
    let bios = c.args.bios.now.items in
    let window = c.args.window.now in
    let i = c.loop-op.op-index in
    let op : ℕ = get_or window i 0 in
    let p = c.loop-op.invariant in
    let lt = c.loop-op-test.true in
    let read : op ≡ get_or window i op = read_within window i 0 op lt in
    let taken : take (i + 1) window ≡ take i window ++ op ∷ [] = take_next window i op lt read in
    let none = not_before window i lt c.requires.order in
    record {
      plugged = subst (λ (ws : List ℕ). IsPlugged keys bios ws c.plug_in.new.plug) (sym taken)
          (plugged_more keys bios window (take i window) op c.take_bio-bio.result c.loop-op.plug c.plug_in.new.plug p.plugged
          (sym (p.others op none) ∙ c.take_bio-bio.ensures.taken) c.plug_in.ensures.bios c.plug_in.ensures.window c.plug_in.ensures.plug c.plug_in.ensures.requests);
      others = subst (λ (ws : List ℕ). SameBeside ws bios c.take_bio-bio.new.bios.items) (sym taken)
          (subst (λ (now : List (Option Bio)). SameBeside (take i window ++ op ∷ []) bios now) (sym c.take_bio-bio.ensures.rest)
          (beside_more (take i window) op bios c.loop-op.bios.items None p.others));
    }
