-- The names that lines use for keys: a name is that of one key.
use Rattle.std.proofs.Common.{◌≡◌, ℕ, ◌<◌, ◌≤◌, List, [], ◌∷◌, length, get_or, true, Option, sym, ap, ◌∙◌, arith}
use Rattle.std.specs.Prelude.{unwrap_or}
use Rattle.std.specs.Option.{option_map}
use Rattle.std.proofs.Math.Logic.{⊎_elim}
use Rattle.std.proofs.lemmas.Bool.{cases_lt}
use Rattle.std.proofs.lemmas.List.{length-map}
use Rattle.std.proofs.lemmas.List.Elements.{All-from_recursion, All-get_or}
use Rattle.std.proofs.lemmas.Option.{slice_get-get_or}
use Rattle.bc_key.specs.declared.keys.KeyNo.{KeyNo}
use Rattle.bc_script.specs.declared.named_key.NamedKey.{NamedKey}
use Rattle.bc_script.specs.Name.{is_name}
use Rattle.bc_script.specs.Script.{IsNamedKey, AreKeys, bare_keys}
use Rattle.bc_script.specs.ScriptText.{key_name_of}

-- a script has as many names as keys
pub named_too : (keys : List NamedKey) (n : ℕ) → n < length (bare_keys keys) → n < length keys
named_too keys n lt = rw (length-map keys (λ (named : NamedKey). named.key)) at lt

-- the name that is written for a key's number is that of the key at its place
pub name_in : (keys : List NamedKey) (number : KeyNo) (d : NamedKey) → number.0 < length keys → key_name_of keys number ≡ (get_or keys number.0 d).name
name_in keys number d lt = ap (λ (o : Option NamedKey). unwrap_or (option_map (λ (x : NamedKey). x.name) o) []) (slice_get-get_or keys number.0 d lt)

-- and it is a name
pub is_name_of : (keys : List NamedKey) (number : KeyNo) → AreKeys keys → number.0 < length (bare_keys keys) → is_name (key_name_of keys number) ≡ true
is_name_of [] number are lt = absurd (omega arith)
is_name_of (k ∷ ks) number are lt =
    let there = named_too (k ∷ ks) number.0 lt in
    let each = All-get_or IsNamedKey (k ∷ ks) number.0 k there (All-from_recursion IsNamedKey (k ∷ ks) are.each) in
    ap is_name (name_in (k ∷ ks) number k there) ∙ each.name

-- keys of a script have different names
pub same_key : (keys : List NamedKey) (a b : KeyNo) → AreKeys keys → a.0 < length keys → b.0 < length keys → key_name_of keys a ≡ key_name_of keys b → a ≡ b
same_key [] a b are la lb e = absurd (omega arith)
same_key (k ∷ ks) a b are la lb e =
    let keys = k ∷ ks in
    let same : (get_or keys a.0 k).name ≡ (get_or keys b.0 k).name = sym (name_in keys a k la) ∙ e ∙ name_in keys b k lb in
    let number : a.0 ≡ b.0 =
    ⊎_elim
    (λ (lt : a.0 < b.0). absurd (are.names a.0 b.0 k lt lb same))
    (λ (le : b.0 ≤ a.0). ⊎_elim (λ (gt : b.0 < a.0). absurd (are.names b.0 a.0 k gt la (sym same))) (λ (le' : a.0 ≤ b.0). omega arith) (cases_lt b.0 a.0))
    (cases_lt a.0 b.0) in
    ap (λ (n : ℕ). let key : KeyNo = record { 0 = n } in key) number
