-- A table of slots that was just opened.
use Rattle.std.proofs.Common.{◌≡◌, ℕ, zero, suc, ◌<◌, ◌≤◌, ◌+◌, Bool, false, List, length, refl, sym, ap, subst, ◌∙◌, Option, None, arith, replicate}
use Rattle.std.specs.Prelude.{◌==◌, ◌||◌, not}
use Rattle.std.specs.List.{AllByRecursion, list_any, range_with_len}
use Rattle.std.proofs.Math.Logic.{⊎_elim}
use Rattle.std.proofs.lemmas.Bool.{true≢false, ne_eqb, cases_lt}
use Rattle.std.proofs.lemmas.Option.{none-some}
use Rattle.std.proofs.lemmas.List.{length-replicate, get_or-replicate, get_or_past}
use Rattle.bc_profile.specs.declared.limits.TheConstants.{MAX_SLOTS}
use Rattle.bc_profile.specs.SlotJournal.{opening}
use Rattle.bc_profile.specs.SlotTable.{Distinct, IsTable, is_held}
use Rattle.bc_profile.proofs.OpeningLemmas.{new_slots}

apart : (x first n : ℕ) → x < first → list_any (λ other. other == x) (range_with_len first n) ≡ false
apart x first zero less = refl
apart x first (suc n) less =
    ap (λ (b : Bool). b || list_any (λ other. other == x) (range_with_len (first + 1) n)) (ne_eqb first x (λ same. absurd (omega (arith, less, same))))
    ∙ apart x (first + 1) n (omega (arith, less))

distinct : (first n : ℕ) → Distinct (range_with_len first n)
distinct first zero = tt
distinct first (suc n) = (apart first (first + 1) n (omega arith), distinct (first + 1) n)

below : (first n most : ℕ) → first + n ≤ most → AllByRecursion (λ slot. slot < most) (range_with_len first n)
below first zero most fits = tt
below first (suc n) most fits = (omega (arith, fits), below (first + 1) n most (omega (arith, fits)))

no_refs : (n slot : ℕ) → is_held (replicate n 0) slot ≡ false
no_refs n slot =
    ap (λ k. not (k == 0))
    (⊎_elim
    (λ (inside : slot < n). get_or-replicate n slot 0 0 inside)
    (λ (past : n ≤ slot). get_or_past (replicate n 0) slot 0 (let l = length-replicate {A = ℕ} n 0 in omega (arith, past, l)))
    (cases_lt slot n))

pub new_is_table : (n : ℕ) → n ≤ MAX_SLOTS → IsTable (opening n) (replicate n 0)
new_is_table n few =
    let keys = length-replicate {A = Option ℕ} n None in
    let refs = length-replicate {A = ℕ} n 0 in
    let stamped = new_slots n in record {
      few = omega (arith, few, keys);
      as_many = refs ∙ sym keys;
      are_slots = below 0 n (length (opening n).keys) (omega (arith, keys));
      distinct = distinct 0 n;
      others_held = λ slot inside unlisted. absurd (true≢false (sym (stamped.listed slot inside (λ e. none-some slot e)) ∙ unlisted));
      held_keyed = λ slot held. absurd (true≢false (sym held ∙ no_refs n slot));
    }

pub new_parts : (n : ℕ) (keys : List (Option ℕ)) (list refs : List ℕ) → keys ≡ replicate n None → list ≡ range_with_len 0 n → refs ≡ replicate n 0 → n ≤ MAX_SLOTS
    → IsTable (record { keys = keys; list = list }) refs
new_parts n keys list refs is_keys is_list is_refs few =
    subst (λ k. IsTable (record { keys = k; list = list }) refs) (sym is_keys)
    (subst (λ l. IsTable (record { keys = replicate n None; list = l }) refs) (sym is_list)
    (subst (λ r. IsTable (opening n) r) (sym is_refs) (new_is_table n few)))

pub range_length : (first n : ℕ) → length (range_with_len first n) ≡ n
range_length first n = Rattle.std.proofs.lemmas.List.FromFn.length-range_with_len first n
