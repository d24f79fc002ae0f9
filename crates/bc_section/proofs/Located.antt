-- Each sector of a script's disk lies on one of its devices, where it has any.
use Rattle.std.proofs.Common.{◌≡◌, ℕ, ◌+◌, ◌*◌, ◌<◌, ◌≤◌, Bool, true, false, cond, List, [], ◌∷◌, length, refl, sym, ap, subst, ◌∙◌, arith, Option, Some, None}
use Rattle.std.specs.Prelude.{◌&&◌, nat_lt, not}
use Rattle.std.specs.List.{position_or_len}
use Rattle.std.specs.Option.{option_map_or}
use Rattle.std.proofs.Math.Logic.{⊎_elim}
use Rattle.std.proofs.lemmas.Bool.{le-leb, lt-ltb, cases_lt, true≢false}
use Rattle.bc_key.specs.KeyData.{KeyData}
use Rattle.bc_key.specs.declared.keys.KeyNo.{KeyNo}
use Rattle.bc_key.specs.KeyList.{key_at}
use Rattle.bc_stack.specs.declared.target.Target.{Target}
use Rattle.bc_stack.specs.Devices.{all_support, device_at, end_of_target, has_sector}
use Rattle.bc_stack.specs.Targets.{CoverAll, LieBetween}
use Rattle.bc_script.specs.Script.{IsScript, Script, keys_of, sectors_in}
use Rattle.bc_script.specs.Bios.{is_inline}

pub found : (sector first end : ℕ) (ts : List Target) → LieBetween first end ts → 8 * first ≤ sector → sector < 8 * end
    → position_or_len (has_sector sector) ts < length ts
found sector first end [] is low high = let e : first ≡ end = is in absurd (omega arith)
found sector first end (t ∷ ts) is low high =
    let at : t.first ≡ first = is.0 in
    ⊎_elim
    (λ (lt : sector < 8 * end_of_target t).
    let here : has_sector sector t ≡ true =
    ap (λ (b : Bool). b && nat_lt sector (8 * end_of_target t)) (le-leb (8 * t.first) sector (omega arith)) ∙ lt-ltb sector (8 * end_of_target t) lt in
    subst (λ (b : Bool). cond (not b) (1 + position_or_len (has_sector sector) ts) 0 < length (t ∷ ts)) (sym here) (omega arith))
    (λ (ge : 8 * end_of_target t ≤ sector).
    let rest = found sector (end_of_target t) end ts is.2 ge high in
    elim (has_sector sector t) as (λ (b : Bool). cond (not b) (1 + position_or_len (has_sector sector) ts) 0 < length (t ∷ ts)) [ true ↦ omega arith | false ↦ omega arith ])
    (cases_lt sector (8 * end_of_target t))

pub some_targets : (script : Script) (key : KeyNo) → is_inline script key ≡ true → script.targets ≡ [] → ⊥
some_targets script key inline none = true≢false (sym inline ∙ never (key_at (keys_of script) key))
  where
    never : (o : Option KeyData) → option_map_or (λ (k : KeyData). all_support script.targets k.config) o false ≡ false
    never None = refl
    never (Some k) = ap (λ (ts : List Target). all_support ts k.config) none

pub covered : (blocks : ℕ) (ts : List Target) → (ts ≡ [] → ⊥) → CoverAll blocks ts → LieBetween 0 blocks ts
covered blocks [] some all = absurd (some refl)
covered blocks (t ∷ ts) some all = all

-- where a key goes inline, some device has the sector
pub located : (script : Script) (key : KeyNo) (sector : ℕ) → IsScript script → is_inline script key ≡ true → sector < sectors_in script
    → device_at script.targets sector ≡ None → ⊥
located script key sector rules inline inside none =
    let lies = covered script.blocks script.targets (some_targets script key inline) rules.devices.stack.cover in
    let at = found sector 0 script.blocks script.targets lies (omega arith) inside in
    some_none (position_or_len (has_sector sector) script.targets)
    (ap (λ (b : Bool). cond b (Some (position_or_len (has_sector sector) script.targets)) None)
    (sym (lt-ltb (position_or_len (has_sector sector) script.targets) (length script.targets) at)) ∙ none)
  where
    some_none : (n : ℕ) → Some n ≡ None → ⊥
    some_none n is = cc
