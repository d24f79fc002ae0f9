-- The search of the list for the first slot that isn't held.
use Rattle.std.proofs.Common.{◌≡◌, ℕ, zero, suc, ◌<◌, Bool, true, false, cond, List, [], ◌∷◌, ◌++◌, length, map, take, get_or, refl, sym, ap, subst, ◌∙◌, Some, None, arith}
use Rattle.std.specs.Prelude.{find, take_while, not, ◌==◌, ◌≢◌, MatchOption, Option, All, slice_set}
use Rattle.std.specs.Prelude.{◌||◌}
use Rattle.std.specs.List.{AllByRecursion, list_any}
use Rattle.std.proofs.lemmas.Bool.{true≢false}
use Rattle.std.proofs.lemmas.Option.{none-some}
use Rattle.std.proofs.lemmas.List.Sums.{take_while-cons}
use Rattle.bc_profile.specs.declared.skips.Skip.{Skip}
use Rattle.bc_profile.specs.SlotJournal.{MayProgram, without}
use Rattle.bc_profile.specs.SlotTable.{IsTable, WasFound, IsFirstFree, AllHeld, is_held, refs_of}
use Rattle.bc_profile.proofs.TableLemmas.{found_is_held, may_program, programmed, held_many, held_not, equal}
use Rattle.bc_profile.proofs.SkipLemmas.{first_free}

pub stopped : (held : ℕ → Bool) (list : List ℕ) (i slot : ℕ) → i < length list → slot ≡ get_or list i 0 → AllByRecursion (λ o. held o ≡ true) (take i list) → held slot ≡ false
    → (find (λ o. not (held o)) list ≡ Some slot) × (take_while held list ≡ take i list)
stopped held [] i slot less is all free = absurd (omega (arith, less))
stopped held (x ∷ xs) zero slot less is all free =
    let x_free = ap held (sym is) ∙ free in
    (ap (λ (b : Bool). cond (not b) (Some x) (find (λ o. not (held o)) xs)) x_free ∙ ap (λ (z : ℕ). Some z) (sym is), take_while-cons held x xs ∙ ap (λ (b : Bool). cond b (x ∷ take_while held xs) []) x_free)
stopped held (x ∷ xs) (suc i) slot less is all free =
    let rest = stopped held xs i slot (omega (arith, less)) is all.1 free in (
      ap (λ (b : Bool). cond (not b) (Some x) (find (λ o. not (held o)) xs)) all.0 ∙ rest.0,
      take_while-cons held x xs ∙ ap (λ (b : Bool). cond b (x ∷ take_while held xs) []) all.0 ∙ ap (λ (l : List ℕ). x ∷ l) rest.1,
    )

pub none_free : (held : ℕ → Bool) (list : List ℕ) → AllByRecursion (λ o. held o ≡ true) list → find (λ o. not (held o)) list ≡ None
none_free held [] all = refl
none_free held (x ∷ xs) all = ap (λ (b : Bool). cond (not b) (Some x) (find (λ o. not (held o)) xs)) all.0 ∙ none_free held xs all.1

pub held_of : (refs : List ℕ) (skips : List Skip) → AllByRecursion (WasFound refs) skips → AllByRecursion (λ o. is_held refs o ≡ true) (map (λ skip. skip.slot) skips)
held_of refs [] all = tt
held_of refs (s ∷ ss) all = (found_is_held refs s all.0, held_of refs ss all.1)

pub found_more : {X : Type 0} (P : X → Type 0) (xs : List X) (x : X) → AllByRecursion P xs → P x → AllByRecursion P (xs ++ x ∷ [])
found_more P [] x all is = (is, tt)
found_more P (y ∷ ys) x all is = (all.0, found_more P ys x all.1 is)

-- what a search of two lists tells of the same lists
pub same_search : (refs list seen_refs seen_list : List ℕ) (found : Option (ℕ × List Skip)) → seen_refs ≡ refs → seen_list ≡ list
    → MatchOption found (find (λ x. not (is_held seen_refs x)) seen_list ≡ None) (λ f. IsFirstFree seen_refs seen_list f.0 f.1)
    → MatchOption found (find (λ x. not (is_held refs x)) list ≡ None) (λ f. IsFirstFree refs list f.0 f.1)
same_search refs list seen_refs seen_list found same_refs same_list tells =
    subst (λ r. MatchOption found (find (λ x. not (is_held r x)) list ≡ None) (λ f. IsFirstFree r list f.0 f.1)) same_refs
    (subst (λ l. MatchOption found (find (λ x. not (is_held seen_refs x)) l ≡ None) (λ f. IsFirstFree seen_refs l f.0 f.1)) same_list tells)

pub first_free_at : (refs list seen_refs seen_list : List ℕ) (found : Option (ℕ × List Skip)) (slot : ℕ) (skipped : List Skip) → seen_refs ≡ refs → seen_list ≡ list → found ≡ Some (slot, skipped)
    → MatchOption found (find (λ x. not (is_held seen_refs x)) seen_list ≡ None) (λ f. IsFirstFree seen_refs seen_list f.0 f.1)
    → IsFirstFree refs list slot skipped
first_free_at refs list seen_refs seen_list found slot skipped same_refs same_list is tells =
    subst (λ z. MatchOption z (find (λ x. not (is_held refs x)) list ≡ None) (λ f. IsFirstFree refs list f.0 f.1)) is
    (same_search refs list seen_refs seen_list found same_refs same_list tells)

pub none_free_at : (refs list seen_refs seen_list : List ℕ) → seen_refs ≡ refs → seen_list ≡ list → find (λ x. not (is_held seen_refs x)) seen_list ≡ None → find (λ x. not (is_held refs x)) list ≡ None
none_free_at refs list seen_refs seen_list same_refs same_list none =
    subst (λ r. find (λ x. not (is_held r x)) list ≡ None) same_refs (subst (λ l. find (λ x. not (is_held seen_refs x)) l ≡ None) same_list none)

-- a table that programs a key in the slot that the search found
module _ (keys : List (Option ℕ)) (list refs : List ℕ) (slot key : ℕ) (skipped : List Skip)
    (ok : IsTable (record { keys = keys; list = list }) refs) (free : IsFirstFree refs list slot skipped) (nowhere : All (λ other. other ≢ Some key) keys) where
  pub programs : MayProgram (record { keys = keys; list = list }) slot key skipped
  programs = may_program (record { keys = keys; list = list }) refs slot key skipped ok free.free nowhere free.those_before free.found

  pub is_slot : slot < length keys
  is_slot = programs.is_slot

  pub has_refs : slot < length refs
  has_refs = omega (arith, is_slot, ok.as_many)

  pub no_refs : refs_of refs slot ≡ 0
  no_refs = held_not (refs_of refs slot) (first_free (is_held refs) list slot free.free)

  pub keeps : (list' : List ℕ) → list' ≡ without slot list → IsTable (record { keys = slice_set keys slot (Some key); list = list' }) (slice_set refs slot 1)
  keeps list' is = subst (λ l. IsTable (record { keys = slice_set keys slot (Some key); list = l }) (slice_set refs slot 1)) (sym is) (programmed (record { keys = keys; list = list }) refs slot key is_slot ok)

-- where the search finds none, each slot is held
pub all_held : (keys : List (Option ℕ)) (list refs : List ℕ) → IsTable (record { keys = keys; list = list }) refs → find (λ x. not (is_held refs x)) list ≡ None → AllHeld (record { slots = record { keys = keys; list = list }; refs = refs })
all_held keys list refs ok none slot inside =
    held_many (refs_of refs slot)
    (elim (list_any (λ other. other == slot) list) as (λ (b : Bool). list_any (λ other. other == slot) list ≡ b → is_held refs slot ≡ true) [
      | true ↦ λ listed. listed_held list none listed
      | false ↦ λ unlisted. ok.others_held slot inside unlisted
    ] refl)
  where
    listed_held : (list : List ℕ) → find (λ x. not (is_held refs x)) list ≡ None → list_any (λ other. other == slot) list ≡ true → is_held refs slot ≡ true
    listed_held [] none listed = absurd (true≢false (sym listed))
    listed_held (x ∷ xs) none listed =
        (elim (is_held refs x) as (λ (b : Bool). is_held refs x ≡ b → cond (not b) (Some x) (find (λ x. not (is_held refs x)) xs) ≡ None → is_held refs slot ≡ true) [
          | true ↦ λ held rest.
              (elim (x == slot) as (λ (b : Bool). (x == slot) ≡ b → (b || list_any (λ other. other == slot) xs) ≡ true → is_held refs slot ≡ true) [
                | true ↦ λ same _. subst (λ n. is_held refs n ≡ true) (equal x slot same) held
                | false ↦ λ _ more. listed_held xs rest more
              ]) refl listed
          | false ↦ λ _ some. absurd (none-some x (sym some))
        ]) refl none
