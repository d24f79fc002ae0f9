-- No unit of an inline bio lies on a device that isn't there.
use Rattle.std.proofs.Common.{◌≡◌, ◌∙◌, ℕ, suc, zero, ◌+◌, ◌*◌, ◌<◌, ◌≤◌, ◌⊎◌, Bool, true, false, cond, List, [], ◌∷◌, length, map, refl, sym, ap, arith, Option, Some, None}
use Rattle.std.specs.Prelude.{◌==◌, ◌&&◌, ◌||◌, count_by}
use Rattle.std.specs.List.{AllZip, list_any, position_or_len, range_with_len}
use Rattle.std.specs.Option.{option_map_or}
use Rattle.std.proofs.Math.Logic.{⊎_elim}
use Rattle.std.proofs.Math.Nat.{mul-le-mul_right}
use Rattle.std.proofs.lemmas.Bool.{true≢false, ne_eqb}
use Rattle.bc_key.specs.declared.keys.KeyNo.{KeyNo}
use Rattle.bc_key.specs.DataUnits.{IsUnitSize}
use Rattle.bc_bio.specs.declared.bio.Bio.{Bio}
use Rattle.bc_bio.specs.declared.context.Context.{Context}
use Rattle.bc_bio.specs.Extent.{unit_sectors}
use Rattle.bc_bio.specs.Laws.{UnitsHaveSizes, UnrefusedIsAccepted}
use Rattle.bc_bio.specs.Requests.{tagged_of}
use Rattle.bc_bio.specs.Windows.{named_unit, named_units}
use Rattle.bc_stack.specs.Devices.{has_sector}
use Rattle.bc_stack.specs.Pieces.{device_of}
use Rattle.bc_script.specs.declared.op.Op.{Op}
use Rattle.bc_script.specs.Script.{Script, IsScript, keys_of}
use Rattle.bc_script.specs.Bios.{is_inline}
use Rattle.bc_section.proofs.Holding.{holds_by, count_cons}
use Rattle.bc_section.proofs.Located.{covered, found, some_targets}
use Rattle.bc_threads.proofs.WindowBios.{IsWindowBio, is_accepted}

some_sectors : (n : ℕ) → IsUnitSize n → 1 ≤ n
some_sectors n is = ⊎_elim (λ (e : n ≡ 1). omega (arith, e)) (λ (r : (n ≡ 2) ⊎ ((n ≡ 4) ⊎ (n ≡ 8))). ⊎_elim (λ (e : n ≡ 2). omega (arith, e)) (λ (s : (n ≡ 4) ⊎ (n ≡ 8)). ⊎_elim (λ (e : n ≡ 4). omega (arith, e)) (λ (e : n ≡ 8). omega (arith, e)) s) r) is

and_none : (a b : Bool) → (a ≡ true → b ≡ false) → (a && b) ≡ false
and_none true b none = none refl
and_none false b none = refl

any_none : {X : Type 0} (p : X → Bool) (f : ℕ → X) (first n : ℕ) → ((i : ℕ) → i < first + n → p (f i) ≡ false) → list_any p (map f (range_with_len first n)) ≡ false
any_none p f first zero none = refl
any_none p f first (suc n) none =
    ap (λ (b : Bool). b || list_any p (map f (range_with_len (first + 1) n))) (none first (omega arith))
    ∙ any_none p f (first + 1) n (λ i lt. none i (omega (arith, lt)))

module _ (script : Script) (section : List Op) (rules : IsScript script) (laws : UnrefusedIsAccepted) (sizes : UnitsHaveSizes) (device thread : ℕ) (past : length script.targets ≤ device) where
  inline_some : (context : Option Context) → option_map_or (λ c. is_inline script c.key && true) context false ≡ true → (key : KeyNo) × (is_inline script key ≡ true)
  inline_some None is = absurd (true≢false (sym is))
  inline_some (Some c) is = (c.key, go (is_inline script c.key) is)
    where
      go : (b : Bool) → (b && true) ≡ true → b ≡ true
      go true e = refl
      go false e = e

  unit_inside : (us n i sectors : ℕ) → 1 ≤ us → i < n → n * us ≤ sectors → i * us + 1 ≤ sectors
  unit_inside us n i sectors some lt le =
      let more : (i + 1) * us ≤ n * us = mul-le-mul_right us (omega (arith, lt)) in
      let next : (i + 1) * us ≡ i * us + us = omega arith in omega (arith, more, next, some, le)

  not_on : (o : ℕ) (bio : Bio) → IsWindowBio script section o bio → holds_by script device thread (λ key. true) (tagged_of bio) ≡ false
  not_on o bio is = and_none (option_map_or (λ c. is_inline script c.key && true) bio.context false) (list_any (λ u. device_of script.targets u == device) (named_units (keys_of script) (tagged_of bio))) (λ inline'.
      let key = inline_some bio.context inline' in
      any_none (λ u. device_of script.targets u == device) (named_unit (keys_of script) (tagged_of bio)) 0 (length bio.units) (λ i lt.
      let us = unit_sectors (keys_of script) bio.context in
      let inside = (is_accepted script section rules laws o bio is).inside in
      let low = unit_inside us (length bio.units) i (length bio.units * us) (some_sectors us (sizes (keys_of script) bio.context)) (omega (arith, lt)) (omega arith) in
      let at' = found (bio.sector + i * us) 0 script.blocks script.targets (covered script.blocks script.targets (some_targets script key.0 key.1) rules.devices.stack.cover) (omega arith) (omega (arith, inside, low)) in
      ne_eqb (position_or_len (has_sector (bio.sector + i * us)) script.targets) device (λ e. omega (arith, e, at', past))))

  pub none_on : (window : List ℕ) (taken : List Bio) → AllZip (IsWindowBio script section) window taken → count_by (holds_by script device thread (λ key. true)) (map tagged_of taken) ≡ 0
  none_on [] [] all = refl
  none_on [] (bio ∷ taken) all = absurd all
  none_on (o ∷ os) [] all = absurd all
  none_on (o ∷ os) (bio ∷ taken) all =
      count_cons (holds_by script device thread (λ key. true)) (tagged_of bio) (map tagged_of taken)
      ∙ ap (λ (b : Bool). cond {A = ℕ} b 1 0 + count_by (holds_by script device thread (λ key. true)) (map tagged_of taken)) (not_on o bio all.0)
      ∙ (let rest = none_on os taken all.1 in omega (arith, rest))
