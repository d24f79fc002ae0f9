-- The units of a piece: on which device and under which key they are, and how many of them lie in a shard.
use Rattle.std.proofs.Common.{◌≡◌, ℕ, zero, suc, ◌+◌, ◌<◌, ◌≤◌, Bool, true, false, cond, List, [], ◌∷◌, length, map, take, drop, refl, sym, ap, ◌∙◌, arith, Option, Some, None}
use Rattle.std.specs.Prelude.{◌==◌, filter, nat_lt}
use Rattle.std.specs.Option.{option_map, option_map_or, unwrap_or}
use Rattle.std.specs.List.{position, position_or_len, range_with_len}
use Rattle.std.proofs.lemmas.Bool.{eq-eqb, lt-ltb}
use Rattle.std.proofs.lemmas.Option.{none-some, same_Some}
use Rattle.bc_base.specs.Lists.{At}
use Rattle.bc_key.specs.KeyData.{KeyData}
use Rattle.bc_bio.specs.declared.context.Context.{Context}
use Rattle.bc_bio.specs.Windows.{NamedUnit, count_units}
use Rattle.bc_bio.specs.Requests.{RequestParts, tagged_bios}
use Rattle.bc_medium.specs.Layout.{shard_of}
use Rattle.bc_stack.specs.declared.target.Target.{Target}
use Rattle.bc_stack.specs.Devices.{device_at}
use Rattle.bc_stack.specs.Pieces.{device_of}
use Rattle.bc_queue.specs.RequestUnits.{named_at, no_unit, planned_at, planned_part, count_units_on}
use Rattle.bc_pieces.specs.Pieces.{IsOnDevice, is_piece_on, is_piece_under, named_on, piece_part, request_units}
use Rattle.bc_stack.proofs.PieceLaws.{length-units_of_request}

-- ---- lists

pub at_within : {X : Type 0} (xs : List X) (n : ℕ) → n < length xs → (x : X) × At xs n x
at_within [] n below = absurd (omega (arith, below))
at_within (x ∷ xs) zero below = (x, refl)
at_within (x ∷ xs) (suc n) below = at_within xs n (omega (arith, below))

drop_at : {X : Type 0} (xs : List X) (n : ℕ) (x : X) → At xs n x → drop n xs ≡ x ∷ drop (suc n) xs
drop_at [] n x at = absurd (Rattle.std.proofs.lemmas.Option.none-some x at)
drop_at (y ∷ xs) zero x at = ap (λ z. z ∷ xs) (same_Some y x at)
drop_at (y ∷ xs) (suc n) x at = drop_at xs n x at

length_cond : {X Y : Type 0} (b : Bool) (x : X) (xs : List X) (y : Y) (ys : List Y) → length xs ≡ length ys → length (cond b (x ∷ xs) xs) ≡ length (cond b (y ∷ ys) ys)
length_cond true x xs y ys same = ap suc same
length_cond false x xs y ys same = same

-- ---- the units of a piece

-- a piece has its units on a shard
pub part_on : (keys : List KeyData) (request : RequestParts) (shards shard first count : ℕ) → first + count ≤ count_units (tagged_bios request.bios)
    → count_units_on shards shard (planned_part keys request.bios first count) ≡ named_on shards shard (piece_part keys request first count)
part_on keys request shards shard first count within =
    let len = length-units_of_request keys (tagged_bios request.bios) in
    go first count (omega (arith, len, within))
  where
    units : List NamedUnit
    units = request_units keys request

    go : (first count : ℕ) → first + count ≤ length units → count_units_on shards shard (map (planned_at keys request.bios) (range_with_len first count)) ≡ named_on shards shard (take count (drop first units))
    go first zero inside = refl
    go first (suc count) inside =
        let here = at_within units first (omega (arith, inside)) in
        let named : named_at keys request.bios first ≡ here.0 = ap (λ o. unwrap_or o no_unit) here.1 in
        let next : suc first ≡ first + 1 = omega arith in
        let rest : count_units_on shards shard (map (planned_at keys request.bios) (range_with_len (first + 1) count)) ≡ named_on shards shard (take count (drop (suc first) units)) = go (first + 1) count (omega (arith, inside)) ∙ ap (λ n. named_on shards shard (take count (drop n units))) (sym next) in
        length_cond (shard_of shards (named_at keys request.bios first).sector == shard) (planned_at keys request.bios first) (filter (λ u. shard_of shards u.sector == shard) (map (planned_at keys request.bios) (range_with_len (first + 1) count)))
        here.0 (filter (λ u. shard_of shards u.sector == shard) (take count (drop (suc first) units))) rest
        ∙ ap (λ (u : NamedUnit). length (cond (shard_of shards u.sector == shard) (here.0 ∷ filter (λ v. shard_of shards v.sector == shard) (take count (drop (suc first) units))) (filter (λ v. shard_of shards v.sector == shard) (take count (drop (suc first) units))))) named
        ∙ sym (ap (λ us. named_on shards shard (take (suc count) us)) (drop_at units first here.0 here.1))

-- a piece with a unit lies where its first one does
pub piece_on : (keys : List KeyData) (targets : List Target) (request : RequestParts) (first count device : ℕ) → 1 ≤ count → first + count ≤ count_units (tagged_bios request.bios) → IsOnDevice keys targets request first device
    → is_piece_on targets device (piece_part keys request first count) ≡ true
piece_on keys targets request first zero device some within on = absurd (omega (arith, some))
piece_on keys targets request first (suc count) device some within on =
    let units : List NamedUnit = request_units keys request in
    let len = length-units_of_request keys (tagged_bios request.bios) in
    let here = at_within units first (omega (arith, len, within)) in
    let lies : device_of targets here.0 ≡ device = same_Some (device_of targets here.0) device (sym (ap (option_map (device_of targets)) here.1) ∙ on) in
    ap (λ us. is_piece_on targets device (take (suc count) us)) (drop_at units first here.0 here.1) ∙ eq-eqb (device_of targets here.0) device lies

-- a piece with a unit is under the key that its first one is under
pub piece_under : (keys : List KeyData) (request : RequestParts) (first count : ℕ) (under : Context) → 1 ≤ count → first + count ≤ count_units (tagged_bios request.bios) → (named_at keys request.bios first).context ≡ Some under
    → is_piece_under under.key.0 (piece_part keys request first count) ≡ true
piece_under keys request first zero under some within is = absurd (omega (arith, some))
piece_under keys request first (suc count) under some within is =
    let units : List NamedUnit = request_units keys request in
    let len = length-units_of_request keys (tagged_bios request.bios) in
    let here = at_within units first (omega (arith, len, within)) in
    let context : here.0.context ≡ Some under = sym (ap (λ (o : Option NamedUnit). (unwrap_or o no_unit).context) here.1) ∙ is in
    ap (λ us. is_piece_under under.key.0 (take (suc count) us)) (drop_at units first here.0 here.1)
    ∙ ap (λ (o : Option Context). option_map_or (λ (c : Context). c.key.0 == under.key.0) o false) context
    ∙ eq-eqb under.key.0 under.key.0 refl

-- a unit of a piece lies on the piece's device, which has its sector
pub sector_on : (keys : List KeyData) (targets : List Target) (request : RequestParts) (n device : ℕ) → device < length targets → IsOnDevice keys targets request n device → device_at targets (named_at keys request.bios n).sector ≡ Some device
sector_on keys targets request n device there on = go (Rattle.std.specs.Prelude.slice_get (request_units keys request) n) on
  where
    go : (o : Option NamedUnit) → option_map (device_of targets) o ≡ Some device → device_at targets (unwrap_or o no_unit).sector ≡ Some device
    go None is = absurd (none-some device is)
    go (Some unit) is =
        let place : device_of targets unit ≡ device = same_Some (device_of targets unit) device is in
        ap (λ (k : ℕ). cond (nat_lt k (length targets)) (Some k) None) place
        ∙ ap (λ (b : Bool). cond b (Some device) None) (lt-ltb device (length targets) there)
