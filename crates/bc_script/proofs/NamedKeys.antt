-- Keys and the index of their names, as a key is added.
use Rattle.std.proofs.Common.{◌≡◌, ◌≢◌, ℕ, zero, suc, ◌<◌, ◌≤◌, true, false, List, [], ◌∷◌, ◌++◌, length, Option, Some, None, BTreeMap, refl, sym, ap, subst, ◌∙◌, arith, length-append}
use Rattle.std.specs.Prelude.{Bool, Vec, MatchOption}
use Rattle.std.specs.Map.{lookup, KeepsOthers, IsKeyTest, AreApart}
use Rattle.std.specs.BTreeMap.{UpdatesBy, IsEmpty}
use Rattle.std.specs.Ordering.{is_eq, nat_cmp}
use Rattle.std.specs.Cmp.Lexicographic.{slice_cmp, bytes_decides}
use Rattle.std.specs.Str.{bytes_eq}
use Rattle.std.proofs.Math.Logic.{⊎_elim}
use Rattle.std.proofs.lemmas.Bool.{cases_lt, cases_Bool, false_from_ne_true}
use Rattle.std.proofs.lemmas.Cmp.{eq_by_cmp_equiv, nat_list_cmp_total}
use Rattle.std.proofs.lemmas.Map.Text.{is_eq-slice_cmp}
use Rattle.std.proofs.lemmas.Option.{none-some, same_Some}
use Rattle.bc_key.specs.declared.keys.KeyNo.{KeyNo}
use Rattle.bc_script.specs.declared.named_key.NamedKey.{NamedKey}
use Rattle.bc_script.specs.ScriptText.{key_name_of}
use Rattle.bc_script.specs.NamedKeys.{IsNamed, IsNoName, IsIndex, number_at}

-- ---- names of keys to which one is added

name_in_front : (keys : List NamedKey) (more : NamedKey) (key : KeyNo) → key.0 < length keys → key_name_of (keys ++ more ∷ []) key ≡ key_name_of keys key
name_in_front keys more key lt = from_front keys key.0 lt
  where
    from_front : (keys : List NamedKey) (i : ℕ) → i < length keys → key_name_of (keys ++ more ∷ []) (record { 0 = i }) ≡ key_name_of keys (record { 0 = i })
    from_front [] i lt = absurd (omega arith)
    from_front (k ∷ ks) zero lt = refl
    from_front (k ∷ ks) (suc i) lt = from_front ks i (omega arith)

name_at_end : (keys : List NamedKey) (more : NamedKey) → key_name_of (keys ++ more ∷ []) (record { 0 = length keys }) ≡ more.name
name_at_end [] more = refl
name_at_end (k ∷ ks) more = name_at_end ks more

-- ---- the index

apart : (bs cs ks : List ℕ) → bs ≢ cs → is_eq (slice_cmp nat_cmp bs ks) ≡ true → is_eq (slice_cmp nat_cmp cs ks) ≡ false
apart bs cs ks differ at =
    let here : bs ≡ ks = (bytes_decides bs ks).0 (sym (is_eq-slice_cmp bs ks) ∙ at) in
    is_eq-slice_cmp cs ks ∙ false_from_ne_true (bytes_eq cs ks) (λ there. differ (here ∙ sym ((bytes_decides cs ks).0 there)))

other_entries : {K : Type 0} (eq : K → K → Bool) (test : K → Bool) (old new : List (K × KeyNo)) → KeepsOthers eq test old new
    → (other : K → Bool) → IsKeyTest eq other → AreApart test other → lookup other new ≡ lookup other old
unfolding KeepsOthers
other_entries eq test old new keeps = keeps

module _ {Y : Type 0} where
  -- a change at one name leaves the numbers at the others
  number_at_others : (old new : BTreeMap (Vec ℕ Y) KeyNo) (name : List ℕ) (w : Option KeyNo)
      → UpdatesBy (λ x y. slice_cmp nat_cmp x.items y.items) (λ other. slice_cmp nat_cmp name other.items) old new w
      → (other : List ℕ) → name ≢ other → number_at new other ≡ number_at old other
  number_at_others old new name w updates other differ =
      other_entries _ _ _ _ updates.3 _ (λ x y. (eq_by_cmp_equiv nat_list_cmp_total).congr other x.items y.items) (λ k. apart name other k.items differ)

  pub index_of_none : (numbers : BTreeMap (Vec ℕ Y) KeyNo) → IsEmpty numbers → IsIndex [] numbers
  index_of_none numbers empty = record {
    has = λ key lt. absurd (omega arith);
    only = λ name key at. absurd (none-some key (rw empty at at));
  }

  -- it stays one where the entries stay
  pub index_kept : (keys now : List NamedKey) (old new : BTreeMap (Vec ℕ Y) KeyNo) → IsIndex keys old → now ≡ keys → new.entries ≡ old.entries → IsIndex now new
  index_kept keys now old new index same kept = rw same (record {
    has = λ key lt. ap (lookup _) kept ∙ index.has key lt;
    only = λ name key at. index.only name key (sym (ap (lookup _) kept) ∙ at);
  })

  -- where the index has nothing at a name, no key has it
  none_named : (keys : List NamedKey) (numbers : BTreeMap (Vec ℕ Y) KeyNo) → IsIndex keys numbers → (name : List ℕ) → number_at numbers name ≡ None → IsNoName keys name
  none_named keys numbers index name none key named =
      none-some key (sym none ∙ ap (number_at numbers) named.name_is ∙ index.has key named.within)

  -- what the index has at a name is the number of the key that has it
  pub number_found : (keys : List NamedKey) (numbers : BTreeMap (Vec ℕ Y) KeyNo) → IsIndex keys numbers → (name : List ℕ) (found : Option KeyNo) → found ≡ number_at numbers name
      → MatchOption found (IsNoName keys name) (IsNamed keys name)
  number_found keys numbers index name None at = none_named keys numbers index name (sym at)
  number_found keys numbers index name (Some key) at = index.only name key (sym at)

  module _ (keys : List NamedKey) (more : NamedKey) (number : KeyNo) (old new : BTreeMap (Vec ℕ Y) KeyNo) (index : IsIndex keys old) (next : number.0 ≡ length keys) (fresh : IsNoName keys more.name) (name : List ℕ)
      (copied : name ≡ more.name) (inserted : UpdatesBy (λ x y. slice_cmp nat_cmp x.items y.items) (λ other. slice_cmp nat_cmp name other.items) old new (Some number)) where
    abbrev updates : UpdatesBy (λ x y. slice_cmp nat_cmp x.items y.items) (λ other. slice_cmp nat_cmp more.name other.items) old new (Some number)
    updates = subst (λ (bytes : List ℕ). UpdatesBy (λ x y. slice_cmp nat_cmp x.items y.items) (λ other. slice_cmp nat_cmp bytes other.items) old new (Some number)) copied inserted

    abbrev all : List NamedKey
    all = keys ++ more ∷ []

    ends : key_name_of all number ≡ more.name
    ends = ap (λ (n : ℕ). key_name_of all (record { 0 = n })) next ∙ name_at_end keys more

    has_all : (key : KeyNo) → key.0 < length all → number_at new (key_name_of all key) ≡ Some key
    has_all key lt =
        ⊎_elim
        (λ (low : key.0 < length keys).
        let front = name_in_front keys more key low in
        ap (number_at new) front
        ∙ number_at_others old new more.name (Some number) updates (key_name_of keys key) (λ same. fresh key (record { within = low; name_is = same }))
        ∙ index.has key low)
        (λ (high : length keys ≤ key.0).
        let here : number.0 ≡ key.0 = omega (arith, length-append keys (more ∷ [])) in
        let same : number ≡ key = ap (λ (n : ℕ). let k : KeyNo = record { 0 = n } in k) here in
        ap (λ (k : KeyNo). number_at new (key_name_of all k)) (sym same) ∙ ap (number_at new) ends ∙ updates.1 ∙ ap Some same)
        (cases_lt key.0 (length keys))

    only_all : (other : List ℕ) (key : KeyNo) → number_at new other ≡ Some key → IsNamed all other key
    only_all other key at =
        ⊎_elim
        (λ (yes : bytes_eq more.name other ≡ true).
        let here : more.name ≡ other = (bytes_decides more.name other).0 yes in
        let same : number ≡ key = same_Some number key (sym updates.1 ∙ ap (number_at new) here ∙ at) in
        let place : number.0 ≡ key.0 = ap (λ (k : KeyNo). k.0) same in
        record {
          within = omega (arith, length-append keys (more ∷ []));
          name_is = sym here ∙ sym ends ∙ ap (key_name_of all) same;
        })
        (λ (no : bytes_eq more.name other ≡ false).
        let differ : more.name ≢ other = λ same. true_is_no_false (bytes_eq more.name other) ((bytes_decides more.name other).1 same) no in
        let before = index.only other key (sym (number_at_others old new more.name (Some number) updates other differ) ∙ at) in
        let low = before.within in
        record {
          within = omega (arith, length-append keys (more ∷ []));
          name_is = before.name_is ∙ sym (name_in_front keys more key low);
        })
        (cases_Bool (bytes_eq more.name other))
      where
        true_is_no_false : (b : Bool) → b ≡ true → b ≡ false → ⊥
        true_is_no_false b t f = absurd cc

    -- a key with a new name is added, with its number at its name
    pub index_more : IsIndex (keys ++ more ∷ []) new
    index_more = record { has = has_all; only = only_all }
