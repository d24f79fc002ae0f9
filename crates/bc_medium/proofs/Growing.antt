-- Orders that grow, and which units were attempted, of calls one after the other.
use Rattle.std.proofs.Common.{List, [], append-nil, sym, ◌++◌, append_assoc, ap, ◌∙◌, ◌≡◌, Bool, false, ℕ, map, subst}
use Rattle.bc_base.specs.Story.{StartsWith, own}
use Rattle.std.specs.List.{list_any, AllZip}
use Rattle.std.proofs.Math.Logic.{⊎_elim}
use Rattle.std.proofs.lemmas.Bool.{true≢false}
use Rattle.bc_base.proofs.Members.{In, in_append_left, in_append_cases, any_in, any_from, same_tests, in_append_right, in_of_filter, in_of_map, beside, filter_same_in, zip_append}
use Rattle.std.specs.Prelude.{not, filter}
use Rattle.std.proofs.lemmas.List.{map-append}
use Rattle.std.proofs.lemmas.List.Elements.{filter-append}
use Rattle.bc_base.specs.Lists.{list_at}
use Rattle.bc_bio.specs.PlannedUnit.{PlannedUnit}
use Rattle.bc_medium.specs.declared.entry.Entry.{Entry}
use Rattle.bc_medium.specs.declared.unit_name.UnitName.{UnitName}
use Rattle.bc_medium.specs.Entries.{caller_of, name_of_entry}
use Rattle.bc_medium.specs.LawfulOrders.{unit_name_of, is_attempted, is_earlier}
use Rattle.bc_medium.specs.Growth.{lies_in, Grows, failed_names, attempted_by, IsEntryOf, Attempts}

pub begins_itself : {E : Type 0} (xs : List E) → StartsWith xs xs
begins_itself xs = ([], sym (append-nil xs))

pub begins_trans : {E : Type 0} (xs ys zs : List E) → StartsWith ys xs → StartsWith zs ys → StartsWith zs xs
begins_trans xs ys zs p q = (p.0 ++ q.0, q.1 ∙ ap (λ l. l ++ q.0) p.1 ∙ append_assoc xs p.0 q.0)

pub any_append : {X : Type 0} (p : X → Bool) (xs ys : List X) → ((y : X) → In y ys → p y ≡ false) → list_any p (xs ++ ys) ≡ list_any p xs
any_append p xs ys none =
    same_tests (list_any p (xs ++ ys)) (list_any p xs)
    (λ any. let r = any_in p (xs ++ ys) any in
    ⊎_elim (λ (a : In r.0 xs). any_from p xs r.0 a r.2) (λ (b : In r.0 ys). absurd (true≢false (sym r.2 ∙ none r.0 b))) (in_append_cases xs ys r.0 r.1))
    (λ any. let r = any_in p xs any in any_from p (xs ++ ys) r.0 (in_append_left xs ys r.0 r.1) r.2)

pub any_append_left : {X : Type 0} (p : X → Bool) (xs ys : List X) → ((x : X) → In x xs → p x ≡ false) → list_any p (xs ++ ys) ≡ list_any p ys
any_append_left p xs ys none =
    same_tests (list_any p (xs ++ ys)) (list_any p ys)
    (λ any. let r = any_in p (xs ++ ys) any in
    ⊎_elim (λ (a : In r.0 xs). absurd (true≢false (sym r.2 ∙ none r.0 a))) (λ (b : In r.0 ys). any_from p ys r.0 b r.2) (in_append_cases xs ys r.0 r.1))
    (λ any. let r = any_in p ys any in any_from p (xs ++ ys) r.0 (in_append_right xs ys r.0 r.1) r.2)

-- ---- orders

module _ (shards caller : ℕ) where
  pub grows_none : (fronts : List (List Entry)) → Grows shards caller fronts fronts []
  grows_none fronts = record {
    fronts = λ shard. begins_itself (list_at fronts shard);
    own_entries = λ shard within. sym (append-nil (own caller_of caller (list_at fronts shard)));
  }

  pub grows_append : (a b c : List (List Entry)) (es fs : List Entry) → Grows shards caller a b es → Grows shards caller b c fs → Grows shards caller a c (es ++ fs)
  grows_append a b c es fs p q = record {
    fronts = λ shard. begins_trans (list_at a shard) (list_at b shard) (list_at c shard) (p.fronts shard) (q.fronts shard);
    own_entries = λ shard within.
        q.own_entries shard within
        ∙ ap (λ l. l ++ filter (lies_in shards shard) fs) (p.own_entries shard within)
        ∙ append_assoc (own caller_of caller (list_at a shard)) (filter (lies_in shards shard) es) (filter (lies_in shards shard) fs)
        ∙ ap (λ l. own caller_of caller (list_at a shard) ++ l) (sym (filter-append (lies_in shards shard) es fs));
  }

-- ---- attempts

pub failed_append : (es fs : List Entry) → failed_names (es ++ fs) ≡ failed_names es ++ failed_names fs
failed_append es fs =
    ap (map name_of_entry) (filter-append (λ e. e.failed) es fs)
    ∙ map-append name_of_entry (filter (λ e. e.failed) es) (filter (λ e. e.failed) fs)

module _ (caller : ℕ) where
  -- an entry has its unit's name and its thread's number
  pub named : (u : PlannedUnit) (e : Entry) → IsEntryOf caller u e → name_of_entry e ≡ unit_name_of caller u
  named u e is = ap (λ at. record { thread = at.caller; op = at.tag; unit = at.unit }) is.unit

  pub by_thread : (u : PlannedUnit) (e : Entry) → IsEntryOf caller u e → caller_of e ≡ caller
  by_thread u e is = ap (λ at. at.caller) is.unit

  pub made_by : (met : List UnitName) (us : List PlannedUnit) (es : List Entry) → Attempts caller met us es → (e : Entry) → In e es → caller_of e ≡ caller
  made_by met us es attempts e at =
      let r = beside (IsEntryOf caller) (attempted_by caller (met ++ failed_names es) us) es e attempts at in by_thread r.0 e r.2

  -- no unit here is an earlier one of a bio there
  abbrev pub After : List PlannedUnit → List PlannedUnit → Type 0
  After us vs = (u v : PlannedUnit) → In u us → In v vs → is_earlier (unit_name_of caller v) (unit_name_of caller u) ≡ false

  -- one part after the other
  pub attempts_append : (met : List UnitName) (us vs : List PlannedUnit) (es fs : List Entry) → After us vs
      → Attempts caller met us es → Attempts caller (met ++ failed_names es) vs fs → Attempts caller met (us ++ vs) (es ++ fs)
  attempts_append met us vs es fs after p q =
      let all = met ++ failed_names (es ++ fs) in
      let are : all ≡ (met ++ failed_names es) ++ failed_names fs = ap (λ l. met ++ l) (failed_append es fs) ∙ sym (append_assoc met (failed_names es) (failed_names fs)) in
      let later : (n : UnitName) → In n (failed_names fs) → (v : PlannedUnit) × In v vs × (n ≡ unit_name_of caller v) =
      λ n at'.
      let r = in_of_map name_of_entry (filter (λ x. x.failed) fs) n at' in
      let b = in_of_filter (λ x. x.failed) fs r.0 r.1 in
      let w = beside (IsEntryOf caller) (attempted_by caller ((met ++ failed_names es) ++ failed_names fs) vs) fs r.0 q b.0 in
      (w.0, (in_of_filter (λ v. is_attempted ((met ++ failed_names es) ++ failed_names fs) (unit_name_of caller v)) vs w.0 w.1).0, sym r.2 ∙ named w.0 r.0 w.2) in
      let first : attempted_by caller all us ≡ attempted_by caller (met ++ failed_names es) us =
      ap (λ l. attempted_by caller l us) are
      ∙ filter_same_in (λ u. is_attempted ((met ++ failed_names es) ++ failed_names fs) (unit_name_of caller u)) (λ u. is_attempted (met ++ failed_names es) (unit_name_of caller u)) us
      (λ u at'. ap not (any_append (λ f. is_earlier f (unit_name_of caller u)) (met ++ failed_names es) (failed_names fs)
      (λ n at''. let r = later n at'' in ap (λ m. is_earlier m (unit_name_of caller u)) r.2 ∙ after u r.0 at' r.1))) in
      subst (λ l. AllZip (IsEntryOf caller) l (es ++ fs)) (sym (filter-append (λ u. is_attempted all (unit_name_of caller u)) us vs))
      (zip_append (IsEntryOf caller) (attempted_by caller all us) (attempted_by caller all vs) es fs
      (subst (λ l. AllZip (IsEntryOf caller) l es) (sym first) p)
      (subst (λ l. AllZip (IsEntryOf caller) (attempted_by caller l vs) fs) (sym are) q))

  -- what met a fault before, in other bios, plays no part
  pub attempts_fresh : (met : List UnitName) (us : List PlannedUnit) (es : List Entry) → ((f : UnitName) (u : PlannedUnit) → In f met → In u us → is_earlier f (unit_name_of caller u) ≡ false)
      → Attempts caller [] us es → Attempts caller met us es
  attempts_fresh met us es fresh p =
      subst (λ l. AllZip (IsEntryOf caller) l es)
      (filter_same_in (λ u. is_attempted (failed_names es) (unit_name_of caller u)) (λ u. is_attempted (met ++ failed_names es) (unit_name_of caller u)) us
      (λ u at'. sym (ap not (any_append_left (λ f. is_earlier f (unit_name_of caller u)) met (failed_names es) (λ f at''. fresh f u at'' at'))))) p

  -- the failed names are names of the units
  pub failed_are : (met : List UnitName) (us : List PlannedUnit) (es : List Entry) → Attempts caller met us es → (f : UnitName) → In f (failed_names es) → (u : PlannedUnit) × In u us × (f ≡ unit_name_of caller u)
  failed_are met us es attempts f at' =
      let r = in_of_map name_of_entry (filter (λ x. x.failed) es) f at' in
      let b = in_of_filter (λ x. x.failed) es r.0 r.1 in
      let w = beside (IsEntryOf caller) (attempted_by caller (met ++ failed_names es) us) es r.0 attempts b.0 in
      (w.0, (in_of_filter (λ v. is_attempted (met ++ failed_names es) (unit_name_of caller v)) us w.0 w.1).0, sym r.2 ∙ named w.0 r.0 w.2)
