-- One access of a medium, as a way to it tells.
use Rattle.std.proofs.Common.{◌≡◌, ◌≢◌, ℕ, ◌+◌, ◌-◌, ◌<◌, ◌≤◌, Bool, true, false, cond, List, [], ◌∷◌, ◌++◌, length, refl, sym, ap, subst, ◌∙◌, arith, Option, Some, None, Result, Ok, Err}
use Rattle.std.specs.Prelude.{◌==◌, filter, slice_get, option_and_then, IfSome, IfOk, IfErr}
use Rattle.std.specs.Option.{option_map_or}
use Rattle.std.proofs.Math.Logic.{⊎_elim}
use Rattle.std.proofs.lemmas.Bool.{eq-eqb, ne_eqb, cases_eq}
use Rattle.std.proofs.lemmas.List.{length-append}
use Rattle.std.proofs.lemmas.List.Elements.{filter-append}
use Rattle.bc_base.specs.declared.place.Place.{Place}
use Rattle.bc_base.specs.Lists.{At, AllAt, list_at}
use Rattle.bc_base.specs.Story.{own}
use Rattle.bc_turn.specs.PassParts.{Pass, CellData}
use Rattle.bc_medium.specs.declared.entry.Entry.{Entry}
use Rattle.bc_medium.specs.declared.via.Via.{Via}
use Rattle.bc_medium.specs.KeyedDisk.{Sectors, UnitAnswer}
use Rattle.bc_medium.specs.Layout.{shard_of}
use Rattle.bc_medium.specs.Entries.{caller_of, name_of_entry, IsToldAt}
use Rattle.bc_medium.specs.Growth.{Appended, Performs}
use Rattle.bc_medium.specs.Medium.{MediumData, OpeningData, shards_of, seen_by, own_at, quota_of, Accesses, AnswersSeen}
use Rattle.bc_queue.specs.Carrying.{AccessFacts, AccessesOne, one_on}
use Rattle.bc_ufs.specs.Controllers.{via_by_device}
use Rattle.bc_queue.specs.Queues.{InlineData, opening_of, spare_of, facts_by}

pub both_ok : {A E : Type 0} (r : Result A E) (P Q R : A → Type 0) → IfOk r P → IfOk r Q → ((x : A) → P x → Q x → R x) → IfOk r R
both_ok (Ok x) P Q R p q f = f x p q
both_ok (Err e) P Q R p q f = tt

pub both_err : {A E : Type 0} (r : Result A E) (P Q R : E → Type 0) → IfErr r P → IfErr r Q → ((x : E) → P x → Q x → R x) → IfErr r R
both_err (Ok x) P Q R p q f = tt
both_err (Err e) P Q R p q f = f e p q

module _ {S : Type 0} (contents : S → Option Sectors) where
  abbrev P : Type 0
  P = Pass Entry (OpeningData S)

  -- the caller's entries of a shard, after one access
  own_more : (caller shard : ℕ) (old new : List (List Entry)) (before : List Entry) (e : Entry) (shards : ℕ) (other : ℕ) → Appended caller shard old new before e → caller_of e ≡ caller → shard ≡ shard_of shards e.at.sector
      → length (own caller_of caller (list_at new other)) ≤ length (own caller_of caller (list_at old other)) + one_on shards other e.at.sector
  own_more caller shard old new before e shards other is by lies = ⊎_elim
      (λ (same : other ≡ shard).
      let here : list_at new other ≡ before ++ e ∷ [] = ap (list_at new) same ∙ is.ends in
      let own_old : own caller_of caller before ≡ own caller_of caller (list_at old other) = is.own_before ∙ ap (λ k. own caller_of caller (list_at old k)) (sym same) in
      let many : length (own caller_of caller (list_at new other)) ≡ length (own caller_of caller before) + length (filter (λ x. caller_of x == caller) (e ∷ [])) =
      ap (λ l. length (own caller_of caller l)) here ∙ ap length (filter-append (λ x. caller_of x == caller) before (e ∷ [])) ∙ length-append (own caller_of caller before) (filter (λ x. caller_of x == caller) (e ∷ [])) in
      let one : length (filter (λ x. caller_of x == caller) (e ∷ [])) ≡ 1 = ap (λ (b : Bool). length (cond b (e ∷ []) [])) (eq-eqb (caller_of e) caller by) in
      let counted : one_on shards other e.at.sector ≡ 1 = ap (λ (b : Bool). cond b 1 0) (eq-eqb (shard_of shards e.at.sector) other (sym lies ∙ sym same)) in
      omega (arith, many, one, counted, ap length own_old))
      (λ (apart : other ≢ shard).
      let same : length (own caller_of caller (list_at new other)) ≡ length (own caller_of caller (list_at old other)) = ap (λ l. length (own caller_of caller l)) (is.elsewhere other apart) in
      omega (arith, same))
      (cases_eq other shard)

  told : (m : MediumData S) (pass : P) (e : Entry) (answer : UnitAnswer) (place : Place) → AnswersSeen contents m pass (name_of_entry e) answer place
      → IsToldAt m.keys.keys (opening_of contents m place.shard) (list_at (seen_by pass) place.shard) place.index (name_of_entry e) answer
  told m pass e answer place is = of_cell (slice_get m.turns.cells place.shard) refl
    where
      of_cell : (o : Option (CellData (OpeningData S))) → slice_get m.turns.cells place.shard ≡ o → IsToldAt m.keys.keys (option_and_then (λ (c : CellData (OpeningData S)). contents c.base.store) o) (list_at (seen_by pass) place.shard) place.index (name_of_entry e) answer
      of_cell None at = tt
      of_cell (Some c) at = is c at

  spare_more : (m : MediumData S) (old new : P) (e : Entry) (shard : ℕ) → new.caller ≡ old.caller → own_at new shard ≤ own_at old shard + one_on (shards_of m) shard e.at.sector
      → spare_of m old shard ≤ spare_of m new shard + one_on (shards_of m) shard e.at.sector
  spare_more m old new e shard caller less = of_cell (slice_get m.turns.cells shard)
    where
      of_cell : (o : Option (CellData (OpeningData S))) → option_map_or (λ (c : CellData (OpeningData S)). quota_of c.base.quotas old.caller - own_at old shard) o 0 ≤ option_map_or (λ (c : CellData (OpeningData S)). quota_of c.base.quotas new.caller - own_at new shard) o 0 + one_on (shards_of m) shard e.at.sector
      of_cell None = omega arith
      of_cell (Some c) =
          let same : quota_of c.base.quotas new.caller ≡ quota_of c.base.quotas old.caller = ap (quota_of c.base.quotas) caller in
          omega (arith, same, less)

  one : (m : MediumData S) (via : Via) (old new : P) (e : Entry) (answer : UnitAnswer) (place : Place) → new.caller ≡ old.caller → caller_of e ≡ old.caller → Accesses m old new e place → AnswersSeen contents m new (name_of_entry e) answer place
      → AccessesOne (facts_by contents m via old) (facts_by contents m via new) e answer place
  one m via old new e answer place caller by does seen = record {
    before = does.0;
    performs = does.1;
    told = told m new e answer place seen;
    same = ap (λ (n : ℕ). let f : AccessFacts = record { keys = m.keys.keys; shards = shards_of m; opening = opening_of contents m; via = via; caller = n; seen = seen_by new; spare = spare_of m new } in f) caller;
    spare = λ shard. spare_more m old new e shard caller
        (subst (λ (n : ℕ). length (own caller_of n (list_at (seen_by new) shard)) ≤ own_at old shard + one_on (shards_of m) shard e.at.sector) (sym caller)
        (own_more old.caller place.shard (seen_by old) (seen_by new) does.0 e (shards_of m) shard (appended does) by does.1.shard));
  }
    where
      appended : (d : Accesses m old new e place) → Appended old.caller place.shard (seen_by old) (seen_by new) d.0 e
      appended d = subst (λ (n : ℕ). Appended n place.shard (seen_by old) (seen_by new) d.0 e) by d.1.appended

  -- over the medium as the way has it
  pub accesses_one : (m k : MediumData S) (via : Via) (old new : P) (e : Entry) (answer : UnitAnswer) (place : Place) → k ≡ m → new.caller ≡ old.caller → caller_of e ≡ old.caller → Accesses k old new e place → AnswersSeen contents k new (name_of_entry e) answer place
      → AccessesOne (facts_by contents m via old) (facts_by contents m via new) e answer place
  accesses_one m k via old new e answer place same caller by does seen =
      subst (λ j. AccessesOne (facts_by contents j via old) (facts_by contents j via new) e answer place) same (one k via old new e answer place caller by does seen)

  pub accesses_later : (m k : MediumData S) (via : Via) (old new : P) (e : Entry) (answer : UnitAnswer) (place : Place) → k ≡ m → new.caller ≡ old.caller → caller_of e ≡ old.caller → Accesses k old new e place → AnswersSeen contents k new (name_of_entry e) answer place
      → AccessesOne (facts_by contents m via old) (facts_by contents k via new) e answer place
  accesses_later m k via old new e answer place same caller by does seen =
      subst (λ j. AccessesOne (facts_by contents j via old) (facts_by contents k via new) e answer place) same (one k via old new e answer place caller by does seen)

  -- by a way through a controller, which stays the same
  pub accesses_under : (way now : InlineData S) (old new : P) (e : Entry) (answer : UnitAnswer) (place : Place) → now ≡ way → new.caller ≡ old.caller → caller_of e ≡ old.caller → Accesses way.medium old new e place → AnswersSeen contents way.medium new (name_of_entry e) answer place
      → AccessesOne (facts_by contents way.medium (via_by_device way.controller way.hold) old) (facts_by contents now.medium (via_by_device now.controller now.hold) new) e answer place
  accesses_under way now old new e answer place same caller by does seen =
      subst (λ (w : InlineData S). AccessesOne (facts_by contents way.medium (via_by_device way.controller way.hold) old) (facts_by contents w.medium (via_by_device w.controller w.hold) new) e answer place) (sym same)
      (one way.medium (via_by_device way.controller way.hold) old new e answer place caller by does seen)
