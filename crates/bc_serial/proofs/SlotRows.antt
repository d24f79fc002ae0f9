-- The row of an inline key is its entry, which every device reads as the key's cipher. And the stack of a script's devices.
use Rattle.std.proofs.Common.{◌≡◌, ℕ, zero, suc, ◌<◌, ◌≤◌, Bool, true, false, cond, List, [], ◌∷◌, ◌++◌, length, get_or, refl, sym, ap, ◌∙◌, arith, Option, Some, None, Result, Ok}
use Rattle.std.specs.Result.{result_ok}
use Rattle.std.specs.Prelude.{◌==◌, nat_lt, nat_le, slice_get, position, IsSomeAnd, unwrap_or}
use Rattle.std.specs.List.{list_all, position_or_len}
use Rattle.std.specs.Option.{option_map, option_map_or}
use Rattle.std.proofs.Math.Logic.{⊎_elim}
use Rattle.std.proofs.lemmas.Bool.{true≢false, eq-eqb, ne_eqb, cases_lt, lt-ltb, ltb-true, and_parts, false_from_ne_true}
use Rattle.std.proofs.lemmas.Option.{none-some, same_Some, get_or_from_slice_get}
use Rattle.std.proofs.lemmas.List.Sums.{fails_before_first}
use Rattle.bc_base.specs.Lists.{At}
use Rattle.bc_key.specs.declared.config.Mode.{Mode}
use Rattle.bc_key.specs.declared.config.Mode.TheVariants.{Aes256Xts, Aes128CbcEssiv}
use Rattle.bc_key.specs.declared.config.DataUnit.{DataUnit}
use Rattle.bc_key.specs.declared.config.Config.{Config}
use Rattle.bc_key.specs.declared.caps.Caps.{Caps}
use Rattle.bc_key.specs.Support.{supports, has_unit}
use Rattle.bc_key.specs.KeyData.{KeyData, IsValid}
use Rattle.bc_modes.specs.declared.ufs_caps.Capability.{Capability}
use Rattle.bc_modes.specs.Capabilities.{Capabilities, capabilities_of, present, serves, index_for}
use Rattle.bc_modes.specs.Entries.{entry_words, entry_bytes, words_of_bytes, read_words}
use Rattle.bc_modes.specs.UnitCipher.{CipherParts, parts_of}
use Rattle.bc_modes.specs.Laws.{EntriesReadBack}
use Rattle.bc_stack.specs.declared.target.Target.{Target}
use Rattle.bc_stack.specs.Devices.{all_support, end_of_target}
use Rattle.bc_stack.specs.declared.stack.TheConstants.{MAX_DEVICES}
use Rattle.bc_stack.specs.declared.stack_error.StackError.{StackError}
use Rattle.bc_stack.specs.declared.stack_error.StackError.TheVariants.{Gap, Empty, TooMany, Memory}
use Rattle.bc_stack.specs.Targets.{LieBetween, IsStack, IsRefusal, refusal_from, stack_error_of}
use Rattle.bc_profile.specs.Rows.{cleared, row_of}
use Rattle.bc_profile.specs.Programmings.{Holds}
use Rattle.bc_profile.specs.Solo.{SoloData, row_in}
use Rattle.bc_script.specs.Script.{Script, keys_of}
use Rattle.bc_script.specs.Bios.{is_inline}
use Rattle.bc_serial.specs.Keyslots.{SlotCipherData, MeansItsWords, row_of_key, rows_of}
use Rattle.bc_section.proofs.Lists.{at_map}
use Rattle.bc_modes.proofs.Masks.{place, some_bits}

-- ---- which keys a device supports

found : {X : Type 0} (p : X → Bool) (xs : List X) (k : ℕ) (x : X) → At xs k x → p x ≡ true → position p xs ≡ None → ⊥
found p xs k x at pass none =
    ⊎_elim
    (λ (inside : position_or_len p xs < length xs).
    none-some (position_or_len p xs) (sym none ∙ ap (λ (b : Bool). cond b (Some (position_or_len p xs)) None) (lt-ltb (position_or_len p xs) (length xs) inside)))
    (λ (past : length xs ≤ position_or_len p xs).
    true≢false (sym (ap p (get_or_from_slice_get xs k x x at) ∙ pass) ∙ fails_before_first p xs k x (let low = below xs k x at in omega (arith, low, past))))
    (cases_lt (position_or_len p xs) (length xs))
  where
    below : {X : Type 0} (xs : List X) (k : ℕ) (x : X) → At xs k x → k < length xs
    below [] k x at = absurd (none-some x at)
    below (y ∷ ys) zero x at = omega arith
    below (y ∷ ys) (suc k) x at = let lt = below ys k x at in omega (arith, lt)

pub served : (caps : Caps) (mode : Mode) (unit : DataUnit) → has_unit caps mode unit ≡ true → index_for (capabilities_of caps) mode unit ≡ None → ⊥
served caps Aes256Xts unit has none =
    let here : Capability = record { mode = Aes256Xts; units = caps.xts } in
    let there = present (record { mode = Aes128CbcEssiv; units = caps.essiv }) in
    let is : present here ≡ here ∷ [] = ap (λ (b : Bool). cond b [] (here ∷ [])) (some_bits caps.xts unit has) in
    found (serves Aes256Xts unit) (present here ++ there) 0 here (ap (λ l. slice_get (l ++ there) 0) is) has none
served caps Aes128CbcEssiv unit has none =
    let here : Capability = record { mode = Aes128CbcEssiv; units = caps.essiv } in
    let before = present (record { mode = Aes256Xts; units = caps.xts }) in
    let is : present here ≡ here ∷ [] = ap (λ (b : Bool). cond b [] (here ∷ [])) (some_bits caps.essiv unit has) in
    let at = place before (present here) here is in
    found (serves Aes128CbcEssiv unit) (before ++ present here) at.0 here at.1 has none

few_of : (caps : Caps) → length (capabilities_of caps).list ≤ 2
few_of caps = few (caps.xts == 0) (caps.essiv == 0)
  where
    few : (a b : Bool) → length {A = Capability} (cond a [] (record { mode = Aes256Xts; units = caps.xts } ∷ []) ++ cond b [] (record { mode = Aes128CbcEssiv; units = caps.essiv } ∷ [])) ≤ 2
    few true true = omega arith
    few true false = omega arith
    few false true = omega arith
    few false false = omega arith

all_pass : {X : Type 0} (p : X → Bool) (xs : List X) (k : ℕ) (x : X) → list_all p xs ≡ true → At xs k x → p x ≡ true
all_pass p [] k x all at = absurd (none-some x at)
all_pass p (y ∷ ys) zero x all at = ap p (sym (same_Some y x at)) ∙ (and_parts (p y) (list_all p ys) all).0
all_pass p (y ∷ ys) (suc k) x all at = all_pass p ys k x (and_parts (p y) (list_all p ys) all).1 at

each_supports : (targets : List Target) (config : Config) (i : ℕ) (target : Target) → all_support targets config ≡ true → At targets i target → supports target.caps config ≡ true
each_supports [] config i target all at = absurd (none-some target at)
each_supports (t ∷ ts) config i target all at = all_pass (λ (each : Target). supports each.caps config) (t ∷ ts) i target all at

-- the entry of a key with a capability that serves it
entry_is : (key : KeyData) (caps : Capabilities) (index : ℕ) → index_for caps key.config.mode key.config.unit ≡ Some index → (words : List ℕ) × (entry_words key caps ≡ Some words)
unfolding entry_words
entry_is key caps index is =
    (words_of_bytes (entry_bytes key index), ap (λ (o : Option ℕ). option_map (λ index. words_of_bytes (entry_bytes key index)) o) is)

-- an inline key's row is read as the key's cipher
pub row_reads : (script : Script) (key i : ℕ) (target : Target) (k : KeyData) → EntriesReadBack → is_inline script (record { 0 = key }) ≡ true → At script.targets i target
    → slice_get (keys_of script) key ≡ Some k → IsValid k.config k.raw
    → read_words (row_of_key (capabilities_of target.caps) k) (capabilities_of target.caps) ≡ Ok (parts_of k)
row_reads script key i target k laws inline target_at is_key valid = by_index (index_for caps k.config.mode k.config.unit) refl
  where
    caps : Capabilities
    caps = capabilities_of target.caps

    all : all_support script.targets k.config ≡ true
    all = sym (ap (λ (o : Option KeyData). option_map_or (λ key. all_support script.targets key.config) o false) is_key) ∙ inline

    has : has_unit target.caps k.config.mode k.config.unit ≡ true
    has = (and_parts (has_unit target.caps k.config.mode k.config.unit) (nat_le k.config.dun_bytes target.caps.max_dun_bytes) (each_supports script.targets k.config i target all target_at)).0

    by_index : (o : Option ℕ) → index_for caps k.config.mode k.config.unit ≡ o → read_words (row_of_key caps k) caps ≡ Ok (parts_of k)
    by_index None none = absurd (served target.caps k.config.mode k.config.unit has none)
    by_index (Some index) is =
        let entry = entry_is k caps index is in
        ap (λ (o : Option (List ℕ)). read_words (unwrap_or o cleared) caps) entry.1 ∙ (laws k caps entry.0 valid (few_of target.caps) entry.1).read

-- the registers of the slot that a hold of a key was taken of
pub row_is : (script : Script) (target : Target) (solo : SoloData) (key slot event : ℕ) (k : KeyData) → solo.rows ≡ rows_of script target → slice_get (keys_of script) key ≡ Some k
    → Holds solo.count solo.journal key slot event → row_in solo slot ≡ row_of_key (capabilities_of target.caps) k
row_is script target solo key slot event k rows is_key holds =
    ap (row_of solo.rows) holds.has_key
    ∙ ap (λ (l : List (List ℕ)). get_or l key cleared) rows
    ∙ get_or_from_slice_get (rows_of script target) key (row_of_key (capabilities_of target.caps) k) cleared (at_map (row_of_key (capabilities_of target.caps)) (keys_of script) key k is_key)

-- ---- the stack of a script's devices

lies : (first end : ℕ) (targets : List Target) → LieBetween first end targets → refusal_from first targets end ≡ None
lies first end [] is = ap (λ (b : Bool). cond b None (Some Gap)) (eq-eqb first end is)
lies first end (target ∷ targets) is =
    ap (λ (b : Bool). cond b (Some Empty) (cond (target.first == first) (refusal_from (end_of_target target) targets end) (Some Gap))) (ne_eqb target.blocks 0 (λ none. let some = is.1 in omega (arith, some, none)))
    ∙ ap (λ (b : Bool). cond b (refusal_from (end_of_target target) targets end) (Some Gap)) (eq-eqb target.first first is.0)
    ∙ lies (end_of_target target) end targets is.2

-- targets that make a stack fail no test
pub passes : (targets : List Target) (blocks : ℕ) → IsStack targets blocks → stack_error_of targets blocks ≡ None
passes [] blocks is = refl
passes (target ∷ targets) blocks is =
    let few : nat_lt MAX_DEVICES (length (target ∷ targets)) ≡ false =
    false_from_ne_true (nat_lt MAX_DEVICES (length (target ∷ targets))) (λ more. let lt = ltb-true MAX_DEVICES (length (target ∷ targets)) more in let le = is.few in absurd (omega (arith, lt, le))) in
    ap (λ (b : Bool). cond b None (cond (nat_lt MAX_DEVICES (length (target ∷ targets))) (Some TooMany) (refusal_from 0 (target ∷ targets) blocks))) (ne_eqb (length (target ∷ targets)) 0 (λ none. omega arith))
    ∙ ap (λ (b : Bool). cond b (Some TooMany) (refusal_from 0 (target ∷ targets) blocks)) few
    ∙ lies 0 blocks (target ∷ targets) is.cover

-- so they are refused only where the process is out of memory
pub no_refusal : (targets : List Target) (blocks : ℕ) (error : StackError) → IsStack targets blocks → IsRefusal targets blocks error → (error ≡ Memory → ⊥) → ⊥
no_refusal targets blocks Memory is refusal other = other refl
no_refusal targets blocks Gap is refusal other = none-some Gap (sym (passes targets blocks is) ∙ refusal)
no_refusal targets blocks Empty is refusal other = none-some Empty (sym (passes targets blocks is) ∙ refusal)
no_refusal targets blocks TooMany is refusal other = none-some TooMany (sym (passes targets blocks is) ∙ refusal)

-- ---- the cipher that is kept

same_Ok : {E : Type 0} (x y : CipherParts) → (one : Result CipherParts E) → one ≡ Ok x → one ≡ Ok y → x ≡ y
same_Ok {E} x y one first second = same_Some x y (ap (λ (r : Result CipherParts E). result_ok r) (sym first ∙ second))

-- the cipher of words that are read as a key's cipher
pub kept_means : (caps own : Capabilities) (words : List ℕ) (kept : Option SlotCipherData) (k : KeyData) → caps ≡ own
    → IsSomeAnd kept (λ c. (c.words ≡ words) × (read_words words caps ≡ Ok c.parts)) → read_words words caps ≡ Ok (parts_of k)
    → MeansItsWords own kept × IsSomeAnd kept (λ c. c.parts ≡ parts_of k)
kept_means caps own words None k same has reads = absurd has
kept_means caps own words (Some c) k same has reads =
    (ap (λ w. read_words w own) has.0 ∙ ap (read_words words) (sym same) ∙ has.1, same_Ok c.parts (parts_of k) (read_words words caps) has.1 reads)
