-- A lawful run of one section has no refused eviction and no skip: there is no other thread that could have held a slot.
use Rattle.std.proofs.Common.{◌≡◌, ℕ, ◌+◌, ◌≤◌, true, List, [], ◌∷◌, length, refl, sym, ap, ◌∙◌, Option, Some, None, arith}
use Rattle.std.specs.Prelude.{◌==◌, ◌&&◌, not, nat_le, count_by, All, IfSome, IsSome, IsTrue}
use Rattle.std.specs.List.{AllZip, AllByRecursion, enumerate_from}
use Rattle.std.proofs.Math.Logic.{⊎_elim}
use Rattle.std.proofs.lemmas.Bool.{leb-true, and_parts}
use Rattle.std.proofs.lemmas.List.{length-map}
use Rattle.std.proofs.lemmas.List.Elements.{All-from_recursion}
use Rattle.bc_bio.specs.PlannedUnit.{PlannedUnit}
use Rattle.bc_stack.specs.declared.target.Target.{Target}
use Rattle.bc_profile.specs.declared.event.Event.{Event}
use Rattle.bc_profile.specs.declared.event.Event.TheVariants as events
use Rattle.bc_profile.specs.SlotJournal.{Slots, opening, key_of, IsHeld, Allowed, after_event, EachEvent}
use Rattle.bc_script.specs.declared.op.Op.{Op}
use Rattle.bc_script.specs.Script.{Script}
use Rattle.bc_script.specs.Plan.{plan_of, units_of_section}
use Rattle.bc_report.specs.Holders.{touches, evicts, count_others, may_refuse, may_skip, HasHolders}
use Rattle.bc_report.specs.LawfulRun.{HaveLawfulJournals}
use Rattle.bc_compose.specs.ComposedRun.{FindsNone, OneSectionFindsNone}
use Rattle.bc_base.proofs.Members.{In, any_in}

-- of a list of one element every element has number 0
numbered_0 : {X : Type 0} (xs : List X) (at' : ℕ × X) → length xs ≡ 1 → In at' (enumerate_from 0 xs) → at'.0 ≡ 0
numbered_0 [] at' one here = absurd here
numbered_0 (x ∷ []) at' one here = ⊎_elim (λ (is : (0, x) ≡ at'). sym (ap (λ (p : ℕ × _). p.0) is)) (λ none. absurd none) here
numbered_0 (x ∷ y ∷ xs) at' one here = absurd (omega (arith, one))

module _ (script : Script) (one : length script.threads ≡ 1) (device : ℕ) where
  planned : length (plan_of script) ≡ 1
  planned = length-map script.threads (units_of_section script) ∙ one

  -- no thread is another one
  no_others : (key : ℕ) → count_others script key device 0 ≡ 0
  no_others key = go (plan_of script) planned
    where
      go : (plan : List (List PlannedUnit)) → length plan ≡ 1
          → count_by (λ (other : ℕ × List PlannedUnit). not (other.0 == 0) && touches script key device other.1) (enumerate_from 0 plan) ≡ 0
      go [] is = refl
      go (units ∷ []) is = refl
      go (units ∷ more ∷ plan) is = absurd (omega (arith, is))

  not_beside : (key refs thread : ℕ) → thread ≡ 0 → nat_le refs (count_others script key device thread) ≡ true → 1 ≤ refs → ⊥
  not_beside key refs thread is most some =
      let few = leb-true refs (count_others script key device thread) most in
      let none = ap (count_others script key device) is ∙ no_others key in omega (arith, few, none, some)

  not_refused : (key refs : ℕ) → may_refuse script device key refs ≡ true → 1 ≤ refs → ⊥
  not_refused key refs may some =
      let r = any_in (λ (section : ℕ × List Op). evicts key section.1 && nat_le refs (count_others script key device section.0)) (enumerate_from 0 script.threads) may in
      let both = and_parts (evicts key r.0.1) (nat_le refs (count_others script key device r.0.0)) r.2 in
      not_beside key refs r.0.0 (numbered_0 script.threads r.0 one r.1) both.1 some

  not_skipped : (programmed key refs : ℕ) → may_skip script device programmed key refs ≡ true → 1 ≤ refs → ⊥
  not_skipped programmed key refs may some =
      let r = any_in (λ (units : ℕ × List PlannedUnit). touches script programmed device units.1 && nat_le refs (count_others script key device units.0)) (enumerate_from 0 (plan_of script)) may in
      let both = and_parts (touches script programmed device r.0.1) (nat_le refs (count_others script key device r.0.0)) r.2 in
      not_beside key refs r.0.0 (numbered_0 (plan_of script) r.0 planned r.1) both.1 some

  skip_has_none : (has : Option ℕ) (programmed refs : ℕ) → IsSome has → 1 ≤ refs → IfSome has (λ key. IsTrue (may_skip script device programmed key refs)) → ⊥
  skip_has_none None programmed refs keyed some may = absurd cc
  skip_has_none (Some key) programmed refs keyed some may = not_skipped programmed key refs may some

  finds_none : (slots : Slots) (event : Event) → Allowed slots event → HasHolders script device slots event → FindsNone event
  finds_none slots (events.Program slot key []) allowed has = refl
  finds_none slots (events.Program slot key (skip ∷ skips)) allowed has =
      let held : IsHeld slots skip = allowed.found_held 0 skip (omega arith) in
      absurd (skip_has_none (key_of slots skip.slot) key skip.refs held.keyed held.referenced (has 0 skip (omega arith)))
  finds_none slots (events.Busy slot key refs) allowed has = not_refused key refs has allowed.1
  finds_none slots (events.Idle slot) allowed has = tt
  finds_none slots (events.Evict slot key) allowed has = tt
  finds_none slots events.Reset allowed has = tt

  each_finds_none : (slots : Slots) (journal : List Event) → EachEvent Allowed slots journal → EachEvent (HasHolders script device) slots journal → AllByRecursion FindsNone journal
  each_finds_none slots [] lawful has = tt
  each_finds_none slots (event ∷ journal) lawful has =
      (finds_none slots event lawful.0 has.0, each_finds_none (after_event slots event) journal lawful.1 has.1)

on_each : (script : Script) → length script.threads ≡ 1 → (first : ℕ) (targets : List Target) (devices : List (List Event)) → HaveLawfulJournals targets devices
    → AllZip (λ target events. EachEvent (HasHolders script target.0) (opening target.1.slots) events) (enumerate_from first targets) devices
    → AllByRecursion (All FindsNone) devices
on_each script one first [] [] lawful has = tt
on_each script one first [] (journal ∷ devices) lawful has = absurd lawful
on_each script one first (target ∷ targets) [] lawful has = absurd lawful
on_each script one first (target ∷ targets) (journal ∷ devices) lawful has = (
  All-from_recursion FindsNone journal (each_finds_none script one first (opening target.slots) journal lawful.0 has.0),
  on_each script one (first + 1) targets devices lawful.1 has.1,
)

pub one_section_finds_none : OneSectionFindsNone
one_section_finds_none script image shards report left one run =
    All-from_recursion (All FindsNone) report.devices
    (on_each script one 0 script.targets report.devices run.but_holders.journals run.holders.holders)
