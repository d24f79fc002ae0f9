-- What a controller supports that can do what its target says; and on which device a sector lies.
use Rattle.std.proofs.Common.{◌≡◌, ℕ, zero, suc, ◌+◌, ◌*◌, ◌<◌, ◌≤◌, Bool, true, false, cond, not, List, [], ◌∷◌, ◌++◌, length, refl, sym, ap, subst, ◌∙◌, arith, Some, None}
use Rattle.std.specs.Prelude.{◌&&◌, nat_le, nat_lt, slice_get, is_some}
use Rattle.std.specs.List.{list_all, position_or_len}
use Rattle.std.proofs.Math.Logic.{⊎_elim}
use Rattle.std.proofs.lemmas.Bool.{true≢false, cases_lt, lt-ltb, le-leb, and_parts}
use Rattle.std.proofs.lemmas.List.Sums.{fails_before_first}
use Rattle.std.proofs.lemmas.Option.{none-some, same_Some, get_or_from_slice_get}
use Rattle.bc_base.specs.Lists.{At}
use Rattle.bc_key.specs.declared.caps.Caps.{Caps}
use Rattle.bc_key.specs.declared.config.Config.{Config}
use Rattle.bc_key.specs.declared.config.DataUnit.{DataUnit}
use Rattle.bc_key.specs.declared.config.Mode.{Mode}
use Rattle.bc_key.specs.declared.config.Mode.TheVariants.{Aes256Xts, Aes128CbcEssiv}
use Rattle.bc_key.specs.Support.{has_unit, supports}
use Rattle.bc_modes.specs.declared.ufs_caps.Capability.{Capability}
use Rattle.bc_modes.specs.Capabilities.{capabilities_of, index_for, is_supported, present, serves}
use Rattle.bc_stack.specs.declared.target.Target.{Target}
use Rattle.bc_stack.specs.Devices.{all_support, end_of_target, has_sector}
use Rattle.bc_stack.specs.Targets.{CoverAll, LieBetween}
use Rattle.bc_modes.proofs.Masks.{place, some_bits}

-- ---- capabilities

-- the first that passes has a place
found : {X : Type 0} (p : X → Bool) (xs : List X) (k : ℕ) (x : X) → At xs k x → p x ≡ true → position_or_len p xs < length xs
found p xs k x at pass =
    ⊎_elim
    (λ (inside : position_or_len p xs < length xs). inside)
    (λ (past : length xs ≤ position_or_len p xs).
    absurd (true≢false (sym (ap p (get_or_from_slice_get xs k x x at) ∙ pass) ∙ fails_before_first p xs k x (let low = below xs k x at in omega (arith, low, past)))))
    (cases_lt (position_or_len p xs) (length xs))
  where
    below : {X : Type 0} (xs : List X) (k : ℕ) (x : X) → At xs k x → k < length xs
    below [] k x at = absurd (none-some x at)
    below (y ∷ ys) zero x at = omega arith
    below (y ∷ ys) (suc k) x at = let lt = below ys k x at in omega (arith, lt)

serves_within : (caps : Caps) (mode : Mode) (unit : DataUnit) → has_unit caps mode unit ≡ true → position_or_len (serves mode unit) (capabilities_of caps).list < length (capabilities_of caps).list
serves_within caps Aes256Xts unit has =
    let here : Capability = record { mode = Aes256Xts; units = caps.xts } in
    let there = present (record { mode = Aes128CbcEssiv; units = caps.essiv }) in
    let is : present here ≡ here ∷ [] = ap (λ (b : Bool). cond b [] (here ∷ [])) (some_bits caps.xts unit has) in
    found (serves Aes256Xts unit) (present here ++ there) 0 here (ap (λ l. slice_get (l ++ there) 0) is) has
serves_within caps Aes128CbcEssiv unit has =
    let here : Capability = record { mode = Aes128CbcEssiv; units = caps.essiv } in
    let before = present (record { mode = Aes256Xts; units = caps.xts }) in
    let is : present here ≡ here ∷ [] = ap (λ (b : Bool). cond b [] (here ∷ [])) (some_bits caps.essiv unit has) in
    let at = place before (present here) here is in
    found (serves Aes128CbcEssiv unit) (before ++ present here) at.0 here at.1 has

-- what a set supports, a controller does that can do what the set says
pub supports_same : (caps : Caps) (config : Config) → supports caps config ≡ true → is_supported (capabilities_of caps) config ≡ true
supports_same caps config does =
    let both = and_parts (has_unit caps config.mode config.unit) (nat_le config.dun_bytes caps.max_dun_bytes) does in
    let list = (capabilities_of caps).list in
    let within = lt-ltb (position_or_len (serves config.mode config.unit) list) (length list) (serves_within caps config.mode config.unit both.0) in
    let served : is_some (index_for (capabilities_of caps) config.mode config.unit) ≡ true =
    ap (λ (b : Bool). is_some (cond b (Some (position_or_len (serves config.mode config.unit) list)) None)) within in
    ap (λ (b : Bool). b && nat_le config.dun_bytes caps.max_dun_bytes) served ∙ both.1

each_supports : (targets : List Target) (config : Config) (device : ℕ) (target : Target) → list_all (λ each. supports each.caps config) targets ≡ true → At targets device target → supports target.caps config ≡ true
each_supports [] config device target all at = absurd (none-some target at)
each_supports (t ∷ targets) config zero target all at =
    ap (λ (x : Target). supports x.caps config) (sym (same_Some t target at)) ∙ (and_parts (supports t.caps config) (list_all (λ each. supports each.caps config) targets) all).0
each_supports (t ∷ targets) config (suc device) target all at =
    each_supports targets config device target (and_parts (supports t.caps config) (list_all (λ each. supports each.caps config) targets) all).1 at

pub target_supports : (targets : List Target) (config : Config) (device : ℕ) (target : Target) → all_support targets config ≡ true → At targets device target → supports target.caps config ≡ true
target_supports [] config device target all at = absurd (none-some target at)
target_supports (t ∷ targets) config device target all at = each_supports (t ∷ targets) config device target all at

-- ---- devices of sectors

lies_between : (sector first end : ℕ) (targets : List Target) → LieBetween first end targets → 8 * first ≤ sector → sector < 8 * end → position_or_len (has_sector sector) targets < length targets
lies_between sector first end [] between least less = absurd (omega (arith, between, least, less))
lies_between sector first end (t ∷ targets) between least less =
    ⊎_elim
    (λ (before : sector < 8 * end_of_target t).
    let begins : 8 * t.first ≤ sector = subst (λ (k : ℕ). 8 * k ≤ sector) (sym between.0) least in
    let has : has_sector sector t ≡ true = ap (λ (b : Bool). b && nat_lt sector (8 * end_of_target t)) (le-leb (8 * t.first) sector begins) ∙ lt-ltb sector (8 * end_of_target t) before in
    found (has_sector sector) (t ∷ targets) 0 t refl has)
    (λ (past : 8 * end_of_target t ≤ sector).
    let rest = lies_between sector (end_of_target t) end targets between.2 past less in
    let most = one_more (has_sector sector t) (position_or_len (has_sector sector) targets) in
    omega (arith, rest, most))
    (cases_lt sector (8 * end_of_target t))
  where
    one_more : (b : Bool) (n : ℕ) → cond (not b) (1 + n) 0 ≤ 1 + n
    one_more true n = omega arith
    one_more false n = omega arith

-- where there are devices, each sector lies on one
pub lies_on : (blocks sector : ℕ) (targets : List Target) (config : Config) → CoverAll blocks targets → all_support targets config ≡ true → sector < 8 * blocks → position_or_len (has_sector sector) targets < length targets
lies_on blocks sector [] config cover all less = absurd (true≢false (sym all))
lies_on blocks sector (t ∷ targets) config cover all less = lies_between sector 0 blocks (t ∷ targets) cover (omega arith) less
