-- What a table of slots keeps, and that each thing that it does keeps it.
use Rattle.std.proofs.Common.{◌≡◌, ◌≢◌, ℕ, zero, suc, ◌<◌, ◌≤◌, ◌+◌, inl, inr, Bool, true, false, cond, List, [], ◌∷◌, ◌++◌, length, map, get_or, refl, sym, ap, subst, ◌∙◌, Option, Some, None, arith}
use Rattle.std.specs.Prelude.{◌==◌, ◌||◌, not, find, take_while, filter, slice_set, All, IsSome}
use Rattle.std.specs.List.{AllByRecursion, list_any, range_with_len}
use Rattle.std.proofs.Math.Logic.{⊎_elim}
use Rattle.std.proofs.lemmas.Bool.{true≢false, eq-eqb, ne_eqb, cases_eq}
use Rattle.std.proofs.lemmas.Option.{none-some, same_Some}
use Rattle.std.proofs.lemmas.List.{length-set, get_or-set_same, get_or-set_other}
use Rattle.std.proofs.lemmas.List.Elements.{All-from_recursion}
use Rattle.std.proofs.lemmas.List.Sums.{take_while-cons}
use Rattle.std.proofs.lemmas.List.Folds.{list_any-append}
use Rattle.std.proofs.lemmas.Map.Views.{any-filter_same}
use Rattle.bc_profile.specs.declared.limits.TheConstants.{MAX_SLOTS}
use Rattle.bc_profile.specs.declared.skips.Skip.{Skip}
use Rattle.bc_profile.specs.SlotJournal.{Slots, without, is_listed, key_of, IsHeld, MayProgram}
use Rattle.bc_profile.proofs.MemberLemmas.{distinct_without, distinct_push, gone_without, pigeons}
use Rattle.bc_profile.proofs.SkipLemmas.{skipped}
use Rattle.bc_profile.specs.SlotTable.{IsTable, WasFound, refs_of, is_held, one_more}
use Rattle.bc_base.proofs.Members.{In, in_of_filter, all_at, all_from_in}

pub many_held : (n : ℕ) → 1 ≤ n → not (n == 0) ≡ true
many_held n some = ap not (ne_eqb n 0 (λ none. absurd (omega (arith, some, none))))

pub found_is_held : (refs : List ℕ) (skip : Skip) → WasFound refs skip → is_held refs skip.slot ≡ true
found_is_held refs skip found = many_held (refs_of refs skip.slot) (subst (λ n. 1 ≤ n) found.counted found.referenced)

-- ---- a programming

find_in : (p : ℕ → Bool) (xs : List ℕ) (slot : ℕ) → find p xs ≡ Some slot → In slot xs
find_in p [] slot e = absurd (none-some slot e)
find_in p (x ∷ xs) slot e =
    (elim (p x) as (λ (b : Bool). cond b (Some x) (find p xs) ≡ Some slot → In slot (x ∷ xs)) [
      | true ↦ λ e'. inl (same_Some x slot e')
      | false ↦ λ e'. inr (find_in p xs slot e')
    ]) e

-- the search of the list alone is a search of the whole idle order
find_more : (p : ℕ → Bool) (xs ys : List ℕ) (slot : ℕ) → find p xs ≡ Some slot → find p (xs ++ ys) ≡ Some slot
find_more p [] ys slot e = absurd (none-some slot e)
find_more p (x ∷ xs) ys slot e =
    (elim (p x) as (λ (b : Bool). cond b (Some x) (find p xs) ≡ Some slot → cond b (Some x) (find p (xs ++ ys)) ≡ Some slot) [
      | true ↦ λ e'. e'
      | false ↦ λ e'. find_more p xs ys slot e'
    ]) e

stops : (held : ℕ → Bool) (xs ys : List ℕ) (slot : ℕ) → find (λ o. not (held o)) xs ≡ Some slot → take_while held (xs ++ ys) ≡ take_while held xs
stops held [] ys slot e = absurd (none-some slot e)
stops held (x ∷ xs) ys slot e =
    take_while-cons held x (xs ++ ys)
    ∙ (elim (held x) as (λ (b : Bool). cond (not b) (Some x) (find (λ o. not (held o)) xs) ≡ Some slot → cond b (x ∷ take_while held (xs ++ ys)) [] ≡ cond b (x ∷ take_while held xs) []) [
      | true ↦ λ e'. ap (λ (l : List ℕ). x ∷ l) (stops held xs ys slot e')
      | false ↦ λ _. refl
    ]) e
    ∙ sym (take_while-cons held x xs)

pub may_program : (slots : Slots) (refs : List ℕ) (slot key : ℕ) (skips : List Skip)
    → IsTable slots refs → find (λ o. not (is_held refs o)) slots.list ≡ Some slot → All (λ other. other ≢ Some key) slots.keys
    → map (λ skip. skip.slot) skips ≡ take_while (is_held refs) slots.list → AllByRecursion (WasFound refs) skips
    → MayProgram slots slot key skips
may_program slots refs slot key skips ok free nowhere before found =
    let unlisted = filter (λ o. not (is_listed slots o)) (range_with_len 0 (length slots.keys)) in
    record {
      is_slot = all_at (λ o. o < length slots.keys) slots.list slot ok.are_slots (find_in (λ o. not (is_held refs o)) slots.list slot free);
      key_in_no_slot = nowhere;
      skips_those_before =
          before ∙ sym (stops (is_held refs) slots.list unlisted slot free)
          ∙ skipped (is_held refs) (slots.list ++ unlisted) slot (find_more (λ o. not (is_held refs o)) slots.list unlisted slot free);
      found_held = All-from_recursion (IsHeld slots) skips (each skips found);
    }
  where
    each : (skips : List Skip) → AllByRecursion (WasFound refs) skips → AllByRecursion (IsHeld slots) skips
    each [] all = tt
    each (s ∷ ss) all = (record { referenced = all.0.referenced; keyed = ok.held_keyed s.slot (found_is_held refs s all.0) }, each ss all.1)

-- ---- what a call does keeps the table

pub held_not : (n : ℕ) → not (n == 0) ≡ false → n ≡ 0
held_not zero e = refl
held_not (suc n) e = absurd (true≢false (sym (many_held (suc n) (omega (arith))) ∙ e))

here : (refs : List ℕ) (slot n : ℕ) → slot < length refs → refs_of (slice_set refs slot n) slot ≡ n
here refs slot n inside = get_or-set_same refs slot n 0 inside

apart : (refs : List ℕ) (slot o n : ℕ) → o ≢ slot → is_held (slice_set refs slot n) o ≡ is_held refs o
apart refs slot o n other = ap (λ m. not (m == 0)) (get_or-set_other refs slot o n 0 other)

pub held_many : (n : ℕ) → not (n == 0) ≡ true → 1 ≤ n
held_many zero e = absurd (true≢false (sym e))
held_many (suc n) e = omega (arith)

pub equal : (a b : ℕ) → (a == b) ≡ true → a ≡ b
equal a b e = ⊎_elim (λ (same : a ≡ b). same) (λ (differ : a ≢ b). absurd (true≢false (sym e ∙ ne_eqb a b differ))) (cases_eq a b)

-- a slot that is taken off the list: others are listed as before
pub listed_without : (list : List ℕ) (slot o : ℕ) → o ≢ slot → list_any (λ other. other == o) (without slot list) ≡ list_any (λ other. other == o) list
listed_without list slot o apart = any-filter_same (λ other. other == o) (λ other. not (other == slot)) true (λ k is. ap not (ne_eqb k slot (λ same. apart (sym (equal k o is) ∙ same)))) list

without_within : (list : List ℕ) (slot n : ℕ) → AllByRecursion (λ o. o < n) list → AllByRecursion (λ o. o < n) (without slot list)
without_within list slot n all = all_from_in (λ o. o < n) (without slot list) (λ o at. all_at (λ o. o < n) list o all (in_of_filter (λ other. not (other == slot)) list o at).0)

-- a programming, with one reference from now on
pub programmed : (slots : Slots) (refs : List ℕ) (slot key : ℕ) → slot < length slots.keys → IsTable slots refs
    → IsTable (record { keys = slice_set slots.keys slot (Some key); list = without slot slots.list }) (slice_set refs slot 1)
programmed slots refs slot key inside ok = record {
  few = subst (λ n. n ≤ MAX_SLOTS) (sym (length-set slots.keys slot (Some key))) ok.few;
  as_many = length-set refs slot 1 ∙ ok.as_many ∙ sym (length-set slots.keys slot (Some key));
  distinct = distinct_without slot slots.list ok.distinct;
  are_slots = subst (λ n. AllByRecursion (λ o. o < n) (without slot slots.list)) (sym (length-set slots.keys slot (Some key))) (without_within slots.list slot (length slots.keys) ok.are_slots);
  others_held = λ o less unlisted.
      ⊎_elim
      (λ (same : o ≡ slot). subst (λ n. is_held (slice_set refs slot 1) n ≡ true) (sym same) (ap (λ m. not (m == 0)) (here refs slot 1 (omega (arith, inside, ok.as_many)))))
      (λ (differ : o ≢ slot). apart refs slot o 1 differ ∙ ok.others_held o (subst (λ n. o < n) (length-set slots.keys slot (Some key)) less) (sym (listed_without slots.list slot o differ) ∙ unlisted))
      (cases_eq o slot);
  held_keyed = λ o held.
      ⊎_elim
      (λ (same : o ≡ slot). subst (λ n. IsSome (get_or (slice_set slots.keys slot (Some key)) n None)) (sym same) (subst IsSome (sym (get_or-set_same slots.keys slot (Some key) None inside)) refl))
      (λ (differ : o ≢ slot). subst IsSome (sym (get_or-set_other slots.keys slot o (Some key) None differ)) (ok.held_keyed o (sym (apart refs slot o 1 differ) ∙ held)))
      (cases_eq o slot);
}

-- one more reference, or one of many less: nothing is recorded
pub counted : (slots : Slots) (refs : List ℕ) (slot n : ℕ) → slot < length slots.keys → IsSome (key_of slots slot) → 1 ≤ n → IsTable slots refs → IsTable slots (slice_set refs slot n)
counted slots refs slot n inside keyed some ok = record {
  few = ok.few;
  as_many = length-set refs slot n ∙ ok.as_many;
  distinct = ok.distinct;
  are_slots = ok.are_slots;
  others_held = λ o less unlisted.
      ⊎_elim
      (λ (same : o ≡ slot). subst (λ m. is_held (slice_set refs slot n) m ≡ true) (sym same) (ap (λ m. not (m == 0)) (here refs slot n (omega (arith, inside, ok.as_many))) ∙ many_held n some))
      (λ (differ : o ≢ slot). apart refs slot o n differ ∙ ok.others_held o less unlisted)
      (cases_eq o slot);
  held_keyed = λ o held.
      ⊎_elim
      (λ (same : o ≡ slot). subst (λ m. IsSome (key_of slots m)) (sym same) keyed)
      (λ (differ : o ≢ slot). ok.held_keyed o (sym (apart refs slot o n differ) ∙ held))
      (cases_eq o slot);
}

-- the last reference given back: the slot goes to the end of the list
pub idled : (slots : Slots) (refs : List ℕ) (slot : ℕ) → slot < length slots.keys → IsTable slots refs
    → IsTable (record slots { list = without slot slots.list ++ slot ∷ [] }) (slice_set refs slot 0)
idled slots refs slot inside ok = record {
  few = ok.few;
  as_many = length-set refs slot 0 ∙ ok.as_many;
  distinct = distinct_push slot (without slot slots.list) (distinct_without slot slots.list ok.distinct) (gone_without slot slots.list);
  are_slots = append_within (without slot slots.list) (without_within slots.list slot (length slots.keys) ok.are_slots);
  others_held = λ o less unlisted.
      ⊎_elim
      (λ (same : o ≡ slot). absurd (true≢false (sym (at_end slots.list o same) ∙ unlisted)))
      (λ (differ : o ≢ slot). apart refs slot o 0 differ ∙ ok.others_held o less (off_list o differ unlisted))
      (cases_eq o slot);
  held_keyed = λ o held.
      ⊎_elim
      (λ (same : o ≡ slot). absurd (true≢false (sym (subst (λ m. is_held (slice_set refs slot 0) m ≡ true) same held) ∙ ap (λ m. not (m == 0)) (here refs slot 0 (omega (arith, inside, ok.as_many))))))
      (λ (differ : o ≢ slot). ok.held_keyed o (sym (apart refs slot o 0 differ) ∙ held))
      (cases_eq o slot);
}
  where
    append_within : (xs : List ℕ) → AllByRecursion (λ o. o < length slots.keys) xs → AllByRecursion (λ o. o < length slots.keys) (xs ++ slot ∷ [])
    append_within [] all = (inside, tt)
    append_within (x ∷ xs) all = (all.0, append_within xs all.1)

    or_true : (b : Bool) → (b || (true || false)) ≡ true
    or_true true = refl
    or_true false = refl

    or_left : (a b : Bool) → (a || b) ≡ false → a ≡ false
    or_left true b e = absurd (true≢false e)
    or_left false b e = refl

    at_end : (list : List ℕ) (o : ℕ) → o ≡ slot → list_any (λ other. other == o) (without slot list ++ slot ∷ []) ≡ true
    at_end list o same =
        list_any-append (λ other. other == o) (without slot list) (slot ∷ [])
        ∙ ap (λ (b : Bool). list_any (λ other. other == o) (without slot list) || (b || false)) (eq-eqb slot o (sym same))
        ∙ or_true (list_any (λ other. other == o) (without slot list))

    off_list : (o : ℕ) → o ≢ slot → list_any (λ other. other == o) (without slot slots.list ++ slot ∷ []) ≡ false → is_listed slots o ≡ false
    off_list o differ unlisted =
        sym (listed_without slots.list slot o differ)
        ∙ or_left (list_any (λ other. other == o) (without slot slots.list)) (list_any (λ other. other == o) (slot ∷ [])) (sym (list_any-append (λ other. other == o) (without slot slots.list) (slot ∷ [])) ∙ unlisted)

-- a key taken out of a slot that has no reference
pub taken_out : (slots : Slots) (refs : List ℕ) (slot : ℕ) → is_held refs slot ≡ false → IsTable slots refs
    → IsTable (record slots { keys = slice_set slots.keys slot None }) refs
taken_out slots refs slot free ok = record {
  few = subst (λ n. n ≤ MAX_SLOTS) (sym (length-set slots.keys slot None)) ok.few;
  as_many = ok.as_many ∙ sym (length-set slots.keys slot None);
  distinct = ok.distinct;
  are_slots = subst (λ n. AllByRecursion (λ o. o < n) slots.list) (sym (length-set slots.keys slot None)) ok.are_slots;
  others_held = λ o less unlisted. ok.others_held o (subst (λ n. o < n) (length-set slots.keys slot None) less) unlisted;
  held_keyed = λ o held.
      ⊎_elim
      (λ (same : o ≡ slot). absurd (true≢false (sym (subst (λ m. is_held refs m ≡ true) same held) ∙ free)))
      (λ (differ : o ≢ slot). subst IsSome (sym (get_or-set_other slots.keys slot o None None differ)) (ok.held_keyed o held))
      (cases_eq o slot);
}

pub some_refs : (n : ℕ) → n ≢ 0 → 1 ≤ n
some_refs zero some = absurd (some refl)
some_refs (suc n) some = omega (arith)

-- there is room for a slot at the end of the list
pub list_room : (slots : Slots) (refs : List ℕ) (slot : ℕ) → slot < length slots.keys → IsTable slots refs → length (without slot slots.list) + 1 ≤ length slots.keys
list_room slots refs slot inside ok =
    let after = idled slots refs slot inside ok in
    let p = pigeons (length slots.keys) (without slot slots.list ++ slot ∷ []) after.distinct after.are_slots in
    let l = Rattle.std.proofs.lemmas.List.length-append (without slot slots.list) (slot ∷ []) in omega arith

pub keyed : (keys : List (Option ℕ)) (slot key : ℕ) → get_or keys slot None ≡ Some key → IsSome (get_or keys slot None)
keyed keys slot key has = subst IsSome (sym has) refl

pub more_is_some : (n : ℕ) → 1 ≤ one_more n
more_is_some n =
    (elim (n == 65535) as (λ (b : Bool). (n == 65535) ≡ b → 1 ≤ cond b n (n + 1)) [
      | true ↦ λ full. let e = equal n 65535 full in omega arith
      | false ↦ λ _. omega arith
    ]) refl

pub not_held : (n : ℕ) → n ≡ 0 → not (n == 0) ≡ false
not_held n none = ap not (eq-eqb n 0 none)
