-- A data unit of a bio that can be performed lies on a device, where its key goes inline.
use Rattle.std.proofs.Common.{◌≡◌, ℕ, suc, ◌+◌, ◌*◌, ◌<◌, ◌≤◌, Bool, true, false, cond, Option, Some, None, List, [], ◌∷◌, length, refl, sym, ap, arith}
use Rattle.std.specs.Prelude.{not, nat_le, nat_lt}
use Rattle.std.specs.List.{position_or_len}
use Rattle.std.specs.Option.{option_map_or}
use Rattle.std.proofs.Math.Logic.{⊎_elim}
use Rattle.std.proofs.lemmas.Bool.{true≢false, and_cases, leb-false, ltb-false, lt-ltb}
use Rattle.bc_key.specs.KeyData.{KeyData}
use Rattle.bc_key.specs.KeyList.{key_at}
use Rattle.bc_bio.specs.declared.context.Context.{Context}
use Rattle.bc_bio.specs.declared.extent.Extent.{Extent}
use Rattle.bc_bio.specs.Extent.{sector_at, unit_sectors}
use Rattle.bc_bio.proofs.RequestLaws.{unit_sectors-some}
use Rattle.bc_stack.specs.declared.target.Target.{Target}
use Rattle.bc_stack.specs.Devices.{has_sector, end_of_target, device_at, all_support}
use Rattle.bc_stack.specs.Targets.{LieBetween, CoverAll}
use Rattle.bc_script.specs.Script.{Script, IsScript, keys_of}
use Rattle.bc_script.specs.Bios.{is_inline}
use Rattle.bc_serial.specs.Standing.{IsPerformableBio}
use Rattle.bc_section.proofs.Numbered.{part_within}

-- targets that lie one after the other have the sectors between
covered : (sector first end : ℕ) (targets : List Target) → LieBetween first end targets → 8 * first ≤ sector → sector < 8 * end → position_or_len (has_sector sector) targets < length targets
covered sector first end [] lie low high = let e : first ≡ end = lie in absurd (omega arith)
covered sector first end (t ∷ ts) lie low high =
    (elim (has_sector sector t) as (λ (b : Bool). has_sector sector t ≡ b → cond (not b) (1 + position_or_len (has_sector sector) ts) 0 < suc (length ts)) [
      | true ↦ λ is. omega arith
      | false ↦ λ is.
          let begins : t.first ≡ first = lie.0 in
          let past : 8 * end_of_target t ≤ sector =
          ⊎_elim
          (λ (before : nat_le (8 * t.first) sector ≡ false). let lt = leb-false (8 * t.first) sector before in absurd (omega arith))
          (λ (behind : nat_lt sector (8 * end_of_target t) ≡ false). ltb-false sector (8 * end_of_target t) behind)
          (and_cases (nat_le (8 * t.first) sector) (nat_lt sector (8 * end_of_target t)) is) in
          let rest = covered sector (end_of_target t) end ts lie.2 past high in
          omega arith
    ]) refl

never : (o : Option KeyData) → option_map_or (λ key. false) o false ≡ true → ⊥
never None is = true≢false (sym is)
never (Some key) is = true≢false (sym is)

pub lies_on : (script : Script) (bio : Extent) (n : ℕ) (under : Context) → IsScript script → IsPerformableBio script bio → n < bio.units → is_inline script under.key ≡ true
    → position_or_len (has_sector (sector_at (keys_of script) bio n)) script.targets < length script.targets
lies_on script bio n under rules performable lt inline = by script.targets rules.devices.stack.cover inline
  where
    sector : ℕ
    sector = sector_at (keys_of script) bio n

    high : sector < 8 * script.blocks
    high =
        let size = unit_sectors (keys_of script) bio.context in
        let some = unit_sectors-some (keys_of script) bio.context in
        let part = part_within size n bio.units lt in
        let inside : bio.sector + bio.units * size ≤ 8 * script.blocks = performable.accepted.inside in
        omega arith

    by : (targets : List Target) → CoverAll script.blocks targets → option_map_or (λ key. all_support targets key.config) (key_at (keys_of script) under.key) false ≡ true
        → position_or_len (has_sector sector) targets < length targets
    by [] cover is = absurd (never (key_at (keys_of script) under.key) is)
    by (t ∷ ts) cover is = covered sector 0 script.blocks (t ∷ ts) cover (omega arith) high

-- the number of the device is then that of the first one that has the sector
pub found_at : (targets : List Target) (sector : ℕ) → position_or_len (has_sector sector) targets < length targets → device_at targets sector ≡ Some (position_or_len (has_sector sector) targets)
found_at targets sector lt = ap (λ (b : Bool). cond b (Some (position_or_len (has_sector sector) targets)) None) (lt-ltb (position_or_len (has_sector sector) targets) (length targets) lt)
