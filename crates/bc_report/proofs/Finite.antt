-- Facts of finitely many elements: of lists that are written out, and of the shards and threads that there are.
use Rattle.std.proofs.Common.{◌≡◌, ℕ, zero, suc, ◌+◌, ◌<◌, ◌≤◌, true, List, [], ◌∷◌, map, length, refl, sym, ap, subst, ◌∙◌, arith}
use Rattle.std.specs.Prelude.{◌==◌, nat_lt, filter, slice_index_or, All}
use Rattle.std.specs.List.{AllByRecursion, range_with_len, list_all}
use Rattle.std.proofs.Math.Logic.{⊎_elim}
use Rattle.std.proofs.Math.Nat.{eq-or-lt_of_le}
use Rattle.std.proofs.lemmas.Bool.{ne_eqb, cases_lt}
use Rattle.std.proofs.lemmas.Bool.Decides.{nat_tests}
use Rattle.std.proofs.lemmas.List.{get_or_past}
use Rattle.std.proofs.lemmas.List.Elements.{All-from_recursion}
use Rattle.std.proofs.lemmas.List.Sums.{AllPass-from_list_all}
use Rattle.bc_bio.specs.PlannedUnit.{PlannedUnit}
use Rattle.bc_medium.specs.declared.unit_name.UnitName.{UnitName}
use Rattle.bc_medium.specs.LawfulOrders.{unit_name_of, entries_of, attempted_on, is_attempted, faulted, LawfulOrders}
use Rattle.bc_medium.specs.Layout.{shard_of}

each : {X : Type 0} (P : X → Type 0) (lists : List (List X)) → AllByRecursion (AllByRecursion P) lists → AllByRecursion (All P) lists
each P [] all = tt
each P (xs ∷ lists) all = (All-from_recursion P xs all.0, each P lists all.1)

-- P of each element of each list
pub all_by_each : {X : Type 0} (P : X → Type 0) (lists : List (List X)) → AllByRecursion (AllByRecursion P) lists → All (All P) lists
all_by_each P lists all = All-from_recursion (All P) lists (each P lists all)

-- ---- lawful orders

-- P of each number from a on, below a + n, from the list of them
each_below : (P : ℕ → Type 0) (a n : ℕ) → AllByRecursion P (range_with_len a n) → (k : ℕ) → a ≤ k → k < a + n → P k
each_below P a zero all k low high = absurd (omega arith)
each_below P a (suc n) all k low high =
    ⊎_elim (λ (e : a ≡ k). subst P e all.0) (λ (lt : a < k). each_below P (a + 1) n all.1 k (omega arith) (omega arith)) (eq-or-lt_of_le low)

-- an order has no entry of a thread that there isn't
entries_of-past : (threads thread : ℕ) (order : List UnitName) → list_all (λ u. nat_lt u.thread threads) order ≡ true → threads ≤ thread → entries_of thread order ≡ []
entries_of-past threads thread [] below past = refl
entries_of-past threads thread (u ∷ order) below past =
    let first : u.thread < threads = grind (arith, nat_tests) in
    let others : list_all (λ (v : UnitName). nat_lt v.thread threads) order ≡ true = grind (arith, nat_tests) in
    rw (ne_eqb u.thread thread (λ e. omega arith)) (entries_of-past threads thread order others past)

attempted_on-past : (shards : ℕ) (issued : List (List PlannedUnit)) (faults : List (ℕ × ℕ)) (orders : List (List UnitName)) (shard thread : ℕ)
    → length issued ≤ thread → attempted_on shards issued faults orders shard thread ≡ []
attempted_on-past shards issued faults orders shard thread past =
    ap (λ (us : List PlannedUnit). filter (is_attempted (faulted faults orders)) (map (unit_name_of thread) (filter (λ u. shard_of shards u.sector == shard) us))) (get_or_past issued thread [] past)

same_past : (shards : ℕ) (issued : List (List PlannedUnit)) (faults : List (ℕ × ℕ)) (orders : List (List UnitName)) (shard thread : ℕ)
    → shard < length orders → list_all (list_all (λ u. nat_lt u.thread (length issued))) orders ≡ true → length issued ≤ thread
    → entries_of thread (slice_index_or orders shard []) ≡ attempted_on shards issued faults orders shard thread
same_past shards issued faults orders shard thread within below past =
    entries_of-past (length issued) thread (slice_index_or orders shard []) (AllPass-from_list_all (list_all (λ u. nat_lt u.thread (length issued))) orders below shard [] within) past
    ∙ sym (attempted_on-past shards issued faults orders shard thread past)

-- each entry names a thread that there is, and the equation holds at each shard and each of these threads
pub lawful_by_cases : (shards : ℕ) (issued : List (List PlannedUnit)) (faults : List (ℕ × ℕ)) (orders : List (List UnitName))
    → length orders ≡ shards
    → list_all (list_all (λ u. nat_lt u.thread (length issued))) orders ≡ true
    → AllByRecursion (λ shard. AllByRecursion (λ thread. entries_of thread (slice_index_or orders shard []) ≡ attempted_on shards issued faults orders shard thread) (range_with_len 0 (length issued))) (range_with_len 0 shards)
    → LawfulOrders shards issued faults orders
lawful_by_cases shards issued faults orders count below each = record {
  one_for_each_shard = count;
  as_issued = λ shard thread within.
      ⊎_elim
      (λ (there : thread < length issued). each_below _ 0 (length issued) (each_below _ 0 shards each shard (omega arith) (omega (arith, within))) thread (omega arith) (omega (arith, there)))
      (λ (past : length issued ≤ thread). same_past shards issued faults orders shard thread (omega (arith, count, within)) below past)
      (cases_lt thread (length issued));
}
