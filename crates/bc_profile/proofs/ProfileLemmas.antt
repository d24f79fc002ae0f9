-- A profile that is opened, and one that is closed.
use Rattle.std.proofs.Common.{zero, suc, ◌≡◌, ◌≤◌, ℕ, ◌+◌, ◌<◌, Bool, true, false, List, [], ◌∷◌, ◌++◌, length, map, refl, sym, ap, ◌∙◌, subst, arith, None}
use Rattle.std.specs.Prelude.{◌==◌, ◌||◌, sum}
use Rattle.std.specs.List.{list_any, range_with_len}
use Rattle.std.proofs.lemmas.Bool.{true≢false}
use Rattle.std.proofs.lemmas.List.{length-append, length-map}
use Rattle.bc_base.specs.Lists.{Each, EachFrom, AllAt}
use Rattle.bc_base.specs.Story.{own, StartsWith, IsFront}
use Rattle.bc_turn.specs.Turning.{one_if, sum_of}
use Rattle.bc_turn.specs.PassParts as parts
use Rattle.bc_turn.specs.PassParts.{Part, Pass, CellData, TurnsData, part_key, cell_key, new_part, is_caller}
use Rattle.bc_profile.specs.declared.noted.Noted.{Noted}
use Rattle.bc_profile.specs.SlotJournal.{IsLawful}
use Rattle.bc_profile.specs.Story.{author_of, events_of}
use Rattle.bc_profile.specs.Book.{BookData}
use Rattle.bc_profile.specs.Passes.{BaseData, KeepsTo, SlotFacts, ProfileData, IsOf, IsFree, HasOneAtRest, IsClosedStory, IsProfile, base_of, new_pass, pass_of, seen_of}
use Rattle.bc_profile.proofs.Visits.{only, is_of, story_of}

-- ---- opening

keys_are : (n : ℕ) (cells : List (CellData BaseData)) → map part_key (map (new_part {E = Noted} n) cells) ≡ map cell_key cells
keys_are n [] = refl
keys_are n (cell ∷ cells) = ap (λ l. cell_key cell ∷ l) (keys_are n cells)

nothing_seen : (n : ℕ) (cells : List (CellData BaseData)) → seen_of (map (new_part n) cells) ≡ []
nothing_seen n [] = refl
nothing_seen n (cell ∷ cells) = refl

pub one_cell : (cells : List (CellData BaseData)) (values before : List (BookData × BaseData)) (value : BookData × BaseData) → map (λ c. c.base) cells ≡ map (λ v. v.1) values → values ≡ before ++ value ∷ [] → before ≡ [] → length cells ≡ 1
one_cell cells values before value bases is none =
    let l = length-map cells (λ c. c.base) in let m = length-map values (λ v. v.1) in let k = ap length is ∙ length-append before (value ∷ []) in let z = ap length none in
    let same = ap length bases in omega (arith, l, m, k, z, same)

pub new_at_rest : (cells : List (CellData BaseData)) → length cells ≡ 1 → (ns : List ℕ) → Each HasOneAtRest (map (parts.new_pass cells) ns)
new_at_rest [] one ns = absurd (omega (arith, one))
new_at_rest (c ∷ []) one [] = tt
new_at_rest (c ∷ []) one (n ∷ ns) = ((refl, refl), new_at_rest (c ∷ []) one ns)
new_at_rest (c ∷ d ∷ cells) one ns = absurd (omega (arith, one))

pub new_passes : (t : ProfileData) (ns : List ℕ) → map pass_of (map (parts.new_pass t.turns.cells) ns) ≡ map (new_pass t) ns
new_passes t [] = refl
new_passes t (n ∷ ns) =
    ap (λ l. pass_of (parts.new_pass t.turns.cells n) ∷ l) (new_passes t ns)
    ∙ ap (λ p. p ∷ map (new_pass t) ns)
    (ap (λ k. record { caller = n; cell = k; seen = seen_of (map (new_part n) t.turns.cells); hold = None }) (keys_are n t.turns.cells)
    ∙ ap (λ s. record { caller = n; cell = map cell_key t.turns.cells; seen = s; hold = None }) (nothing_seen n t.turns.cells))

pub new_are_free : (t : ProfileData) (first n : ℕ) → first + n ≤ t.turns.callers → Each (IsFree t) (map (new_pass t) (range_with_len first n))
new_are_free t first zero fits = tt
new_are_free t first (suc n) fits = ((record { caller = omega (arith, fits); cell = refl; hold = tt }, refl), new_are_free t (first + 1) n (omega (arith, fits)))

-- ---- closing

pub are_of : (t : ProfileData) (seats : List (Pass Noted BaseData)) → Each HasOneAtRest seats → Each (IsOf t) (map pass_of seats) → Each (parts.IsOf t.turns) seats
are_of t [] rest all = tt
are_of t (p ∷ ps) rest all = (is_of t p None rest.0 all.0, are_of t ps rest.1 all.1)

pub all_free : (seats : List (Pass Noted BaseData)) → Each HasOneAtRest seats → Each (λ p. Each (λ q. q.holds ≡ false) p.parts) seats
all_free [] rest = tt
all_free (p ∷ ps) rest =
    let o = only p rest.0 in (subst (Each (λ (q : Part Noted BaseData). q.holds ≡ false)) (sym o.parts) (o.rests, tt), all_free ps rest.1)

pub some_here : (seats : List (Pass Noted BaseData)) (c : ℕ) → list_any (λ (pass : SlotFacts). pass.caller == c) (map pass_of seats) ≡ true → 0 < sum_of (is_caller c) seats
some_here [] c here = absurd (true≢false (sym here))
some_here (p ∷ ps) c here =
    (elim (p.caller == c) as (λ (b : Bool). (b || list_any (λ (pass : SlotFacts). pass.caller == c) (map pass_of ps)) ≡ true → 0 < one_if b + sum_of (is_caller c) ps) [
      | true ↦ λ _. omega arith
      | false ↦ λ more. let l = some_here ps c more in omega (arith, l)
    ]) here

module _ (t : ProfileData) (book : BookData) where
  fronts_are : (all : List (Pass Noted BaseData)) → Each HasOneAtRest all → Each (parts.Ends story_of KeepsTo author_of 0 book) all → Each (λ (pass : SlotFacts). IsFront author_of pass.caller pass.seen book.story) (map pass_of all)
  fronts_are [] rest ends = tt
  fronts_are (p ∷ ps) rest ends =
      let o = only p rest.0 in
      let here = ends.0 o.part (ap (λ l. Rattle.std.specs.Prelude.slice_get l 0) o.parts) in
      let seen : o.part.seen ≡ seen_of p.parts = ap seen_of (sym o.parts) in (
        record {
          begins = subst (StartsWith book.story) seen here.0;
          own_entries = here.1 ∙ ap (own author_of p.caller) seen;
        },
        fronts_are ps rest.1 ends.1,
      )

  pub is_closed : (quotas : List ℕ) (seats : List (Pass Noted BaseData)) (passes : List SlotFacts) → IsProfile t.turns quotas → Each HasOneAtRest seats → map pass_of seats ≡ passes
      → parts.IsClosed story_of KeepsTo author_of t.turns seats 0 book → IsLawful book.count (events_of book.story) → IsClosedStory t passes book.story
  is_closed quotas seats passes is rest same closed lawful = record {
    lawful = subst (λ n. IsLawful n (events_of book.story)) (its_slots t.turns.cells is.one closed.0) lawful;
    fronts = subst (Each (λ (pass : SlotFacts). IsFront author_of pass.caller pass.seen book.story)) same (fronts_are seats rest closed.1);
    strangers = closed.2;
  }
    where
      its_slots : (cells : List (CellData BaseData)) → length cells ≡ 1 → AllAt cells 0 (λ c. KeepsTo c.base book) → book.count ≡ (base_of cells).slots
      its_slots [] one all = absurd (omega (arith, one))
      its_slots (c ∷ cells) one all = (all c refl).slots

  pub fits_room : (quotas : List ℕ) (seats : List (Pass Noted BaseData)) → IsProfile t.turns quotas → parts.IsClosed story_of KeepsTo author_of t.turns seats 0 book → book.limit ≡ sum quotas
  fits_room quotas seats is closed = its_limit t.turns.cells is.one is.quotas closed.0
    where
      its_limit : (cells : List (CellData BaseData)) → length cells ≡ 1 → (base_of cells).quotas ≡ quotas → AllAt cells 0 (λ c. KeepsTo c.base book) → book.limit ≡ sum quotas
      its_limit [] one same all = absurd (omega (arith, one))
      its_limit (c ∷ cells) one same all = (all c refl).limit ∙ ap sum same

-- the one book
pub one_book : (P : ℕ → BookData → Type 0) (books before : List BookData) (book : BookData) → length books ≡ 1 → EachFrom P 0 books → books ≡ before ++ book ∷ [] → P 0 book
one_book P books [] book one each is = (subst (EachFrom P 0) is each).0
one_book P books (b ∷ before) book one each is = let l = ap length is ∙ length-append (b ∷ before) (book ∷ []) in absurd (omega (arith, one, l))
