-- A device that was just opened.
use Rattle.std.proofs.Common.{◌≡◌, ℕ, zero, suc, ◌<◌, ◌≤◌, ◌+◌, List, [], ◌∷◌, ◌++◌, length, map, get_or, refl, sym, ap, subst, ◌∙◌, Option, None, arith, add-one, replicate}
use Rattle.std.specs.Prelude.{◌==◌}
use Rattle.std.specs.List.{range_with_len}
use Rattle.std.proofs.Math.Logic.{⊎_elim}
use Rattle.std.proofs.lemmas.Bool.{eq-eqb, cases_lt}
use Rattle.std.proofs.lemmas.Option.{none-some}
use Rattle.std.proofs.lemmas.List.{length-replicate, get_or-replicate, get_or_past}
use Rattle.std.proofs.lemmas.List.FromFn.{length-range_with_len, get_or-range_with_len}
use Rattle.std.proofs.lemmas.List.Folds.{list_any-from_Any}
use Rattle.bc_profile.specs.declared.event.Event.{Event}
use Rattle.bc_profile.specs.declared.limits.TheConstants.{MAX_SLOTS, MAX_EVENTS}
use Rattle.bc_profile.specs.SlotJournal.{opening}
use Rattle.bc_profile.specs.Rows.{cleared, row_of, HasRow}
use Rattle.bc_profile.specs.Stamps.{AreStamped, IsSolo}

zero_plus : (n : ℕ) → 0 + n ≡ n
zero_plus n = omega arith

range_more : (first n : ℕ) → range_with_len first (n + 1) ≡ range_with_len first n ++ (first + n) ∷ []
range_more first zero = let e : first ≡ first + 0 = omega arith in ap (λ k. k ∷ []) e
range_more first (suc n) =
    rw add-one
    (ap (λ l. first ∷ l) (ap (range_with_len (first + 1)) (sym (add-one n)) ∙ range_more (first + 1) n ∙ (let e : first + 1 + n ≡ first + suc n = omega arith in ap (λ k. range_with_len (first + 1) n ++ k ∷ []) e)))

pub range_push : (n : ℕ) → range_with_len 0 (n + 1) ≡ range_with_len 0 n ++ n ∷ []
range_push n = range_more 0 n ∙ ap (λ k. range_with_len 0 n ++ k ∷ []) (zero_plus n)

no_key : (n slot : ℕ) (d : Option ℕ) → d ≡ None → get_or (replicate n None) slot d ≡ None
no_key n slot d none =
    ⊎_elim
    (λ (inside : slot < n). get_or-replicate n slot None d inside)
    (λ (past : n ≤ slot). get_or_past (replicate n None) slot d (let l = length-replicate {A = Option ℕ} n None in omega (arith, past, l)) ∙ none)
    (cases_lt slot n)

all_cleared : (rows : List (List ℕ)) (n : ℕ) → map (row_of rows) (replicate n None) ≡ replicate n cleared
all_cleared rows zero = refl
all_cleared rows (suc n) = ap (λ l. cleared ∷ l) (all_cleared rows n)

pub new_slots : (n : ℕ) → AreStamped (opening n) None (range_with_len 0 n) n
new_slots n =
    let keys = length-replicate {A = Option ℕ} n None in
    let many = length-range_with_len 0 n in record {
      as_many = many ∙ sym keys;
      ascend = λ i j d less inside.
          let first = get_or-range_with_len 0 n i d (omega (arith, less, inside, many)) in
          let second = get_or-range_with_len 0 n j d (omega (arith, inside, many)) in
          let lower = ap (λ o. get_or (range_with_len 0 n) o 0) first ∙ get_or-range_with_len 0 n (0 + i) 0 (omega (arith, less, inside, many)) in
          let upper = ap (λ o. get_or (range_with_len 0 n) o 0) second ∙ get_or-range_with_len 0 n (0 + j) 0 (omega (arith, inside, many)) in omega (arith, less, lower, upper);
      passed = λ slot inside. let at = get_or-range_with_len 0 n slot 0 (omega (arith, inside, keys)) in omega (arith, inside, keys, at);
      are_slots = λ k d inside. let at = get_or-range_with_len 0 n k d (omega (arith, inside, many)) in omega (arith, inside, keys, many, at);
      listed = λ slot inside free.
          list_any-from_Any (λ other. other == slot) (range_with_len 0 n)
          (slot, slot, omega (arith, inside, keys, many), get_or-range_with_len 0 n slot slot (omega (arith, inside, keys)) ∙ zero_plus slot, eq-eqb slot slot refl);
    }

pub new_solo : (n : ℕ) (rows : List (List ℕ)) (quota capacity : ℕ) → 1 ≤ n → n ≤ MAX_SLOTS → quota < MAX_EVENTS → quota ≤ capacity
    → IsSolo (replicate n None) (replicate n 0) (range_with_len 0 n) rows (replicate n cleared) [] None quota capacity
new_solo n rows quota capacity some few small reserved =
    let keys = length-replicate {A = Option ℕ} n None in record {
      told = record {
        keys_left = ap (λ k. replicate k None) (sym keys);
        lawful = tt;
        as_many = length-replicate {A = ℕ} n 0 ∙ sym keys;
        named = λ slot key has. absurd (none-some key (sym (no_key n slot None refl) ∙ has));
      };
      stamped = subst (λ k. AreStamped (opening k) None (range_with_len 0 n) (k + 0)) (sym keys) (subst (AreStamped (opening n) None (range_with_len 0 n)) (omega arith) (new_slots n));
      written = sym (all_cleared rows n);
      with_rows = λ k d inside. subst (HasRow (length rows)) (sym (get_or-replicate n k None d (omega (arith, inside, keys)))) tt;
      room = record { some = omega (arith, some, keys); few = omega (arith, few, keys); small = small; within = omega arith; reserved = reserved };
      held_is_slot = λ slot e. absurd (none-some slot e);
    }

-- the lists that were made are those
pub same_parts : {keys keys' keys'' : List (Option ℕ)} {epochs epochs' epochs'' stamps stamps' : List ℕ} {rows registers registers' registers'' : List (List ℕ)} {journal journal' : List Event} {quota capacity : ℕ}
    → keys' ≡ keys → epochs' ≡ epochs → registers' ≡ registers → keys'' ≡ keys' → epochs'' ≡ epochs' → stamps' ≡ stamps → registers'' ≡ registers' → journal' ≡ journal
    → IsSolo keys epochs stamps rows registers journal None quota capacity → IsSolo keys'' epochs'' stamps' rows registers'' journal' None quota capacity
same_parts {keys} {keys'} {keys''} {epochs} {epochs'} {epochs''} {stamps} {stamps'} {rows} {registers} {registers'} {registers''} {journal} {journal'} {quota} {capacity} k e r k' e' s r' j is =
    subst (λ l. IsSolo l epochs'' stamps' rows registers'' journal' None quota capacity) (sym (k' ∙ k))
    (subst (λ l. IsSolo keys l stamps' rows registers'' journal' None quota capacity) (sym (e' ∙ e))
    (subst (λ l. IsSolo keys epochs l rows registers'' journal' None quota capacity) (sym s)
    (subst (λ l. IsSolo keys epochs stamps rows l journal' None quota capacity) (sym (r' ∙ r))
    (subst (λ l. IsSolo keys epochs stamps rows registers l None quota capacity) (sym j) is))))
