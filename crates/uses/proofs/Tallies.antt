-- A mark, and passes that are ready.
use Rattle.std.proofs.Common.{◌≡◌, ℕ, ◌<◌, List, [], ◌∷◌, ◌++◌, map, length, get_or, false, refl, sym, ap, ◌∙◌, subst, arith, length-append, append-nil}
use Rattle.std.proofs.lemmas.Option.{none-some, same_Some}
use Rattle.std.proofs.lemmas.List.{length-map}
use Rattle.bc_base.specs.Lists.{Each, AllAt}
use Rattle.bc_turn.specs.PassParts.{Part, Pass, CellData, TurnsData, part_key, cell_key, new_part, new_pass}
use Rattle.uses.specs.Tallies.{AddsMarks, IsReadyPass}

pub adds_one : (caller : ℕ) (old new : List ℕ) → new ≡ old ++ caller ∷ [] → length old < 1000000 → AddsMarks caller old new
adds_one caller old new is few = record {
  more = caller ∷ [];
  marks = is;
  by_caller = (refl, tt);
  few = λ small. let long = ap length is ∙ length-append old (caller ∷ []) in omega arith;
}

pub adds_none : (caller : ℕ) (old : List ℕ) → AddsMarks caller old old
adds_none caller old = record { more = []; marks = sym (append-nil old); by_caller = tt; few = λ small. small }

-- ---- a new pass is ready

module _ {B : Type 0} (n : ℕ) where
  keys_are : (cells : List (CellData B)) → map part_key (map (new_part {E = ℕ} n) cells) ≡ map cell_key cells
  keys_are [] = refl
  keys_are (cell ∷ cells) = ap (λ l. cell_key cell ∷ l) (keys_are cells)

  callers_are : (cells : List (CellData B)) → Each (λ q. q.caller ≡ n) (map (new_part {E = ℕ} n) cells)
  callers_are [] = tt
  callers_are (cell ∷ cells) = (refl, callers_are cells)

  free_at : (cells : List (CellData B)) → AllAt (map (new_part {E = ℕ} n) cells) 0 (λ part. part.holds ≡ false)
  free_at [] = λ part at. absurd (none-some part at)
  free_at (cell ∷ cells) = λ part at. ap (λ (q : Part ℕ B). q.holds) (sym (same_Some (new_part n cell) part at))

  pub new_is_ready : (turns : TurnsData B) (pass : Pass ℕ B) → pass ≡ new_pass turns.cells n → n < turns.callers → 0 < length turns.cells → IsReadyPass turns pass
  new_is_ready turns pass is below some =
      subst (IsReadyPass turns) (sym is) ((below, keys_are turns.cells, callers_are turns.cells), some, free_at turns.cells)

-- two elements that are taken off the end, one after the other
pub two_popped : {A : Type 0} (a b y z : A) (xs ys : List A) → a ∷ b ∷ [] ≡ xs ++ y ∷ [] → xs ≡ ys ++ z ∷ [] → (z ≡ a) × (y ≡ b)
two_popped a b y z xs [] e f =
    let whole : a ∷ b ∷ [] ≡ z ∷ y ∷ [] = e ∙ ap (λ l. l ++ y ∷ []) f in
    (sym (ap (λ l. get_or l 0 a) whole), sym (ap (λ l. get_or l 1 b) whole))
two_popped a b y z xs (w ∷ ws) e f =
    let long = ap length e ∙ length-append xs (y ∷ []) in
    let others = ap length f ∙ length-append (w ∷ ws) (z ∷ []) in absurd (omega arith)

-- as many as the values, of which there is one at least
pub as_many : {A B V : Type 0} (cells : List A) (base : A → B) (values before : List V) (told : V → B) (value : V) → map base cells ≡ map told values → values ≡ before ++ value ∷ [] → 0 < length cells
as_many cells base values before told value bases is =
    let one = length-map cells base in let two = length-map values told in
    let same = ap length bases in let long = ap length is ∙ length-append before (value ∷ []) in omega arith
