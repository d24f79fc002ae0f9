use Rattle.std.proofs.Common.{◌≡◌, ◌∙◌, ◌∷◌, ◌++◌, [], map, get_or, sym, subst, ap, refl, true}
use Rattle.std.specs.List.{AllByRecursion}
use Rattle.std.specs.Prelude.{not}
use Rattle.std.proofs.lemmas.Bool.{eq-eqb}
use Rattle.std.proofs.lemmas.List.{take_more, take_all, map_push}
use Rattle.bc_profile.specs.SlotTable.{is_held, WasFound}
use Rattle.bc_profile.proofs.TableLemmas.{some_refs}
use Rattle.bc_profile.proofs.SearchLemmas.{stopped, none_free, held_of, found_more}
use Rattle.bc_profile.proofs.search.first_free.Goals as goal

pub loop-slot-preserved : goal.loop-slot-preserved
loop-slot-preserved c =
    let slot = get_or c.args.list.now c.loop-slot.slot-index 0 in
    let many = get_or c.args.refs.now c.from.result 0 in
    record {
      before = ap (map (λ skip. skip.slot)) c.push.ensures ∙ map_push (λ skip. skip.slot) c.loop-slot.skipped (record { slot = slot; refs = many }) ∙ ap (λ l. l ++ slot ∷ []) c.loop-slot.invariant.before ∙ sym (take_more c.args.list.now c.loop-slot.slot-index 0 c.loop-slot-test.true);
      found = subst (AllByRecursion (WasFound c.args.refs.now)) (sym c.push.ensures) (found_more (WasFound c.args.refs.now) c.loop-slot.skipped (record { slot = slot; refs = many }) c.loop-slot.invariant.found (record { referenced = some_refs many c.if-many-eq0.false; counted = ap (λ n. get_or c.args.refs.now n 0) c.from.ensures }));
    }

pub returns-then-many-eq0 : goal.returns-then-many-eq0
returns-then-many-eq0 c =
    let slot = get_or c.args.list.now c.loop-slot.slot-index 0 in
    let many = get_or c.args.refs.now c.from.result 0 in
    let held = subst (AllByRecursion (λ o. is_held c.args.refs.now o ≡ true)) c.loop-slot.invariant.before (held_of c.args.refs.now c.loop-slot.skipped c.loop-slot.invariant.found) in
    let found = stopped (is_held c.args.refs.now) c.args.list.now c.loop-slot.slot-index slot c.loop-slot-test.true refl held (ap not (eq-eqb (get_or c.args.refs.now slot 0) 0 (ap (λ n. get_or c.args.refs.now n 0) (sym c.from.ensures) ∙ c.if-many-eq0.true))) in
    record { free = found.0; those_before = c.loop-slot.invariant.before ∙ sym found.1; found = c.loop-slot.invariant.found }

pub returns : goal.returns
returns c =
    none_free (is_held c.args.refs.now) c.args.list.now
    (subst (AllByRecursion (λ o. is_held c.args.refs.now o ≡ true)) (c.loop-slot.invariant.before ∙ take_all c.loop-slot.slot-index c.args.list.now c.loop-slot-test.false) (held_of c.args.refs.now c.loop-slot.skipped c.loop-slot.invariant.found))
