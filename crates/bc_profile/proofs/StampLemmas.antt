-- The slots in the order of their stamps.
use Rattle.std.proofs.Common.{◌≡◌, ◌≢◌, ℕ, ◌<◌, ◌≤◌, ◌+◌, Bool, true, false, cond, List, [], ◌∷◌, ◌++◌, length, get_or, refl, sym, ap, subst, ◌∙◌, Some, None, arith}
use Rattle.std.specs.Prelude.{◌==◌, ◌||◌, not, filter, take_while, slice_set, All}
use Rattle.std.specs.List.{list_any, range_with_len}
use Rattle.std.proofs.Math.Logic.{⊎_elim}
use Rattle.std.proofs.lemmas.Bool.{true≢false, eq-eqb, ne_eqb, cases_eq}
use Rattle.std.proofs.lemmas.Option.{none-some, same_Some}
use Rattle.std.proofs.lemmas.List.{length-set, get_or-set_same, get_or-set_other, get_or_default}
use Rattle.std.proofs.lemmas.List.Sums.{take_while-cons}
use Rattle.std.proofs.lemmas.List.Folds.{list_any-append, Any-from_list_any}
use Rattle.std.proofs.lemmas.List.Elements.{All-filter, All-push, filter_passes}
use Rattle.std.proofs.lemmas.List.Kept.{AllPairs-filter}
use Rattle.std.proofs.lemmas.List.Quantifiers.{all_pairs_push}
use Rattle.bc_profile.specs.SlotJournal.{Slots, without, is_listed, idle_order}
use Rattle.bc_profile.specs.Stamps.{AreStamped}
use Rattle.bc_profile.proofs.TableLemmas.{listed_without}

-- ---- the least stamp

equal : (a b : ℕ) → (a == b) ≡ true → a ≡ b
equal a b e = ⊎_elim (λ (same : a ≡ b). same) (λ (differ : a ≢ b). absurd (true≢false (sym e ∙ ne_eqb a b differ))) (cases_eq a b)

-- a list whose first number is this one
begins : (list : List ℕ) (first : ℕ) → 0 < length list → get_or list 0 0 ≡ first → (rest : List ℕ) × (list ≡ first ∷ rest)
begins [] first some is = absurd (omega arith)
begins (x ∷ xs) first some is = (xs, ap (λ (y : ℕ). y ∷ xs) is)

-- the slot with the least stamp is the first on the list
pub least_first : (slots : Slots) (stamps : List ℕ) (next least : ℕ) → AreStamped slots None stamps next → least < length stamps
    → ((k : ℕ) → k < length stamps → get_or stamps least 0 ≤ get_or stamps k 0) → (rest : List ℕ) × (slots.list ≡ least ∷ rest)
least_first slots stamps next least stamped inside lower =
    let at = Any-from_list_any (λ other. other == least) slots.list (stamped.listed least (omega (arith, inside, stamped.as_many)) (λ e. none-some least e)) in
    let here : get_or slots.list at.0 0 ≡ least = get_or_default slots.list at.0 0 at.1 at.2 ∙ at.3 ∙ equal at.1 least at.4 in
    begins slots.list least (omega (arith, at.2))
    (⊎_elim
    (λ (same : at.0 ≡ 0). ap (λ k. get_or slots.list k 0) (sym same) ∙ here)
    (λ (later : at.0 ≢ 0).
    let above = subst (λ o. get_or stamps (get_or slots.list 0 0) 0 < get_or stamps o 0) here (stamped.ascend 0 at.0 0 (omega (arith, later)) at.2) in
    let head = stamped.are_slots 0 0 (omega (arith, at.2)) in
    let below = lower (get_or slots.list 0 0) (omega (arith, head, stamped.as_many)) in absurd (omega (arith, above, below)))
    (cases_eq at.0 0))

pub first_of_order : (slots : Slots) (first : ℕ) (rest : List ℕ) → slots.list ≡ first ∷ rest → get_or (idle_order slots) 0 0 ≡ first
first_of_order slots first rest is =
    ap (λ l. get_or (l ++ filter (λ slot. not (is_listed slots slot)) (range_with_len 0 (length slots.keys))) 0 0) is

pub none_before : (slots : Slots) (first : ℕ) (rest : List ℕ) → slots.list ≡ first ∷ rest → [] ≡ take_while (λ other. not (other == first)) (idle_order slots)
none_before slots first rest is =
    let others = filter (λ slot. not (is_listed slots slot)) (range_with_len 0 (length slots.keys)) in
    sym
    (ap (λ l. take_while (λ other. not (other == first)) (l ++ others)) is
    ∙ take_while-cons (λ other. not (other == first)) first (rest ++ others)
    ∙ ap (λ (b : Bool). cond (not b) (first ∷ take_while (λ other. not (other == first)) (rest ++ others)) []) (eq-eqb first first refl))

-- ---- slots that leave the list or are put at its end

apart_without : (slot : ℕ) (list : List ℕ) → All (λ other. other ≢ slot) (without slot list)
apart_without slot list k d inside same = true≢false (sym (filter_passes (λ other. not (other == slot)) list k d inside) ∙ ap not (eq-eqb (get_or (without slot list) k d) slot same))

or_true : (b : Bool) → (b || (true || false)) ≡ true
or_true true = refl
or_true false = refl

or_left : (a b : Bool) → a ≡ true → (a || b) ≡ true
or_left a b is = ap (λ (z : Bool). z || b) is

at_end : (slot o : ℕ) (list : List ℕ) → o ≡ slot → list_any (λ other. other == o) (list ++ slot ∷ []) ≡ true
at_end slot o list same =
    list_any-append (λ other. other == o) list (slot ∷ [])
    ∙ ap (λ (b : Bool). list_any (λ other. other == o) list || (b || false)) (eq-eqb slot o (sym same))
    ∙ or_true (list_any (λ other. other == o) list)

before_end : (slot o : ℕ) (list : List ℕ) → list_any (λ other. other == o) list ≡ true → list_any (λ other. other == o) (list ++ slot ∷ []) ≡ true
before_end slot o list is =
    list_any-append (λ other. other == o) list (slot ∷ [])
    ∙ or_left (list_any (λ other. other == o) list) (list_any (λ other. other == o) (slot ∷ [])) is

-- ---- what each event leaves

pub stamped_program : (slots : Slots) (stamps : List ℕ) (next slot key : ℕ) → AreStamped slots None stamps next
    → AreStamped (record { keys = slice_set slots.keys slot (Some key); list = without slot slots.list }) (Some slot) stamps (next + 1)
stamped_program slots stamps next slot key stamped =
    let many = length-set slots.keys slot (Some key) in record {
      as_many = stamped.as_many ∙ sym many;
      ascend = AllPairs-filter (λ earlier later. get_or stamps earlier 0 < get_or stamps later 0) (λ other. not (other == slot)) slots.list stamped.ascend;
      passed = λ o inside. let p = stamped.passed o (rw (sym many) inside) in omega (arith, p);
      are_slots = subst (λ n. All (λ o. o < n) (without slot slots.list)) (sym many) (All-filter (λ other. not (other == slot)) (λ o. o < length slots.keys) slots.list stamped.are_slots);
      listed = λ o inside free.
          listed_without slots.list slot o (λ same. free (ap (λ (z : ℕ). Some z) (sym same)))
          ∙ stamped.listed o (rw (sym many) inside) (λ e. none-some o e);
    }

pub stamped_hold : (slots : Slots) (stamps : List ℕ) (next slot : ℕ) → AreStamped slots None stamps next → AreStamped slots (Some slot) stamps next
stamped_hold slots stamps next slot stamped = record {
  as_many = stamped.as_many;
  ascend = stamped.ascend;
  passed = stamped.passed;
  are_slots = stamped.are_slots;
  listed = λ o inside free. stamped.listed o inside (λ e. none-some o e);
}

pub stamped_idle : (slots : Slots) (stamps : List ℕ) (next slot : ℕ) → slot < length slots.keys → AreStamped slots (Some slot) stamps next
    → AreStamped (record slots { list = without slot slots.list ++ slot ∷ [] }) None (slice_set stamps slot next) (next + 1)
stamped_idle slots stamps next slot is_slot stamped =
    let many = length-set stamps slot next in
    let within : slot < length stamps = omega (arith, is_slot, stamped.as_many) in
    let others = All-filter (λ other. not (other == slot)) (λ o. o < length slots.keys) slots.list stamped.are_slots in
    let kept = AllPairs-filter (λ earlier later. get_or stamps earlier 0 < get_or stamps later 0) (λ other. not (other == slot)) slots.list stamped.ascend in
    let here = get_or-set_same stamps slot next 0 within in
    record {
      as_many = many ∙ stamped.as_many;
      ascend =
          all_pairs_push (λ earlier later. get_or (slice_set stamps slot next) earlier 0 < get_or (slice_set stamps slot next) later 0) (without slot slots.list) slot
          (λ i j d less inside.
          let before = get_or-set_other stamps slot (get_or (without slot slots.list) i d) next 0 (apart_without slot slots.list i d (omega (arith, less, inside))) in
          let after = get_or-set_other stamps slot (get_or (without slot slots.list) j d) next 0 (apart_without slot slots.list j d inside) in
          let pair = kept i j d less inside in omega (arith, before, after, pair))
          (λ k d inside.
          let before = get_or-set_other stamps slot (get_or (without slot slots.list) k d) next 0 (apart_without slot slots.list k d inside) in
          let past = stamped.passed (get_or (without slot slots.list) k d) (others k d inside) in omega (arith, before, here, past));
      passed = λ o inside.
          ⊎_elim
          (λ (same : o ≡ slot). subst (λ z. get_or (slice_set stamps slot next) z 0 < next + 1) (sym same) (omega (arith, here)))
          (λ (differ : o ≢ slot). let before = get_or-set_other stamps slot o next 0 differ in let p = stamped.passed o inside in omega (arith, before, p))
          (cases_eq o slot);
      are_slots = All-push (λ o. o < length slots.keys) (without slot slots.list) slot others is_slot;
      listed = λ o inside free.
          ⊎_elim
          (λ (same : o ≡ slot). at_end slot o (without slot slots.list) same)
          (λ (differ : o ≢ slot).
          before_end slot o (without slot slots.list)
          (listed_without slots.list slot o differ ∙ stamped.listed o inside (λ e. differ (sym (same_Some slot o e)))))
          (cases_eq o slot);
    }

-- another key, or none, in a slot
pub stamped_evict : (slots : Slots) (stamps : List ℕ) (next slot : ℕ) → AreStamped slots None stamps next
    → AreStamped (record slots { keys = slice_set slots.keys slot None }) None stamps (next + 1)
stamped_evict slots stamps next slot stamped =
    let many = length-set slots.keys slot None in record {
      as_many = stamped.as_many ∙ sym many;
      ascend = stamped.ascend;
      passed = λ o inside. let p = stamped.passed o (rw (sym many) inside) in omega (arith, p);
      are_slots = subst (λ n. All (λ o. o < n) slots.list) (sym many) stamped.are_slots;
      listed = λ o inside free. stamped.listed o (rw (sym many) inside) free;
    }

pub stamped_reset : (slots : Slots) (stamps : List ℕ) (next : ℕ) → AreStamped slots None stamps next → AreStamped slots None stamps (next + 1)
stamped_reset slots stamps next stamped = record {
  as_many = stamped.as_many;
  ascend = stamped.ascend;
  passed = λ o inside. let p = stamped.passed o inside in omega (arith, p);
  are_slots = stamped.are_slots;
  listed = stamped.listed;
}
