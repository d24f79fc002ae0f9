-- Along a request the sectors of its units ascend, and so do the numbers of their devices; all its bios have one key.
use Rattle.std.proofs.Common.{◌≡◌, ℕ, zero, suc, ◌+◌, ◌*◌, ◌<◌, ◌≤◌, Bool, true, false, cond, List, [], ◌∷◌, ◌++◌, map, refl, sym, ap, subst, ◌∙◌, arith, Option, Some, None, append-nil}
use Rattle.std.specs.Prelude.{◌==◌, ◌&&◌, nat_le, nat_lt, not, IsSomeAnd}
use Rattle.std.specs.List.{AllByRecursion, range_with_len, position_or_len}
use Rattle.std.proofs.Math.Logic.{⊎_elim}
use Rattle.std.proofs.Math.Nat.{mul-le-mul_right}
use Rattle.std.proofs.lemmas.Bool.{true≢false, eqb-true, cases_lt, le-leb, lt-ltb, le-ltb}
use Rattle.bc_base.specs.declared.geometry.TheConstants.{BLOCK_SECTORS}
use Rattle.bc_key.specs.KeyData.{KeyData}
use Rattle.bc_key.specs.declared.keys.KeyNo.{KeyNo}
use Rattle.bc_bio.specs.declared.context.Context.{Context}
use Rattle.bc_bio.specs.BackRuns.{same_access, context_runs_on}
use Rattle.bc_bio.specs.Chunks.{Linked}
use Rattle.bc_bio.specs.Extent.{unit_sectors, end_of}
use Rattle.bc_bio.specs.Windows.{TaggedBio, NamedUnit, named_unit, named_units, units_of_request, joins}
use Rattle.bc_stack.specs.declared.target.Target.{Target}
use Rattle.bc_stack.specs.Devices.{has_sector, end_of_target}
use Rattle.bc_stack.specs.Pieces.{device_of}
use Rattle.bc_stack.specs.Targets.{LieBetween, CoverAll, IsStack}
use Rattle.bc_compose.specs.OrderedHolds.{Pairs}
use Rattle.bc_base.proofs.Members.{all_append, all_of}

-- ---- pairs

pub pairs_of : {A : Type 0} (R S : A → A → Type 0) (xs : List A) → ((x y : A) → R x y → S x y) → Pairs R xs → Pairs S xs
pairs_of R S [] f all = tt
pairs_of R S (x ∷ xs) f all = (all_of (R x) (S x) xs (f x) all.0, pairs_of R S xs f all.1)

pub pairs_append : {A : Type 0} (R : A → A → Type 0) (xs ys : List A) → Pairs R xs → Pairs R ys → AllByRecursion (λ x. AllByRecursion (R x) ys) xs → Pairs R (xs ++ ys)
pairs_append R [] ys ps qs between = qs
pairs_append R (x ∷ xs) ys ps qs between = (all_append (R x) xs ys ps.0 between.0, pairs_append R xs ys ps.1 qs between.1)

-- ---- sectors

abbrev pub NoSectorBefore : NamedUnit → NamedUnit → Type 0
NoSectorBefore first second = first.sector ≤ second.sector

module _ (keys : List KeyData) where
  abbrev LiesIn : TaggedBio → ℕ → NamedUnit → Type 0
  LiesIn tagged n u = (tagged.bio.sector + n * unit_sectors keys tagged.bio.context ≤ u.sector) × (u.sector ≤ end_of keys tagged.bio)

  units_within : (tagged : TaggedBio) (n m : ℕ) → n + m ≤ tagged.bio.units → AllByRecursion (LiesIn tagged n) (map (named_unit keys tagged) (range_with_len n m))
  units_within tagged n zero within = tt
  units_within tagged n (suc m) within =
      let us = unit_sectors keys tagged.bio.context in
      let below : n * us ≤ tagged.bio.units * us = mul-le-mul_right us (omega (arith, within)) in
      let next : n * us ≤ (n + 1) * us = mul-le-mul_right us (omega arith) in (
        (omega arith, omega (arith, below)),
        all_of (LiesIn tagged (n + 1)) (LiesIn tagged n) (map (named_unit keys tagged) (range_with_len (n + 1) m))
            (λ u lies. (let low = lies.0 in omega (arith, low, next), lies.1)) (units_within tagged (n + 1) m (omega (arith, within))),
      )

  units_ascend : (tagged : TaggedBio) (n m : ℕ) → n + m ≤ tagged.bio.units → Pairs NoSectorBefore (map (named_unit keys tagged) (range_with_len n m))
  units_ascend tagged n zero within = tt
  units_ascend tagged n (suc m) within =
      let us = unit_sectors keys tagged.bio.context in
      let next : n * us ≤ (n + 1) * us = mul-le-mul_right us (omega arith) in (
        all_of (LiesIn tagged (n + 1)) (NoSectorBefore (named_unit keys tagged n)) (map (named_unit keys tagged) (range_with_len (n + 1) m))
            (λ u lies. let low = lies.0 in omega (arith, low, next)) (units_within tagged (n + 1) m (omega (arith, within))),
        units_ascend tagged (n + 1) m (omega (arith, within)),
      )

  in_bio : (tagged : TaggedBio) → AllByRecursion (LiesIn tagged 0) (named_units keys tagged)
  in_bio tagged = units_within tagged 0 tagged.bio.units (omega arith)

  three : (a b c : Bool) → (a && b && c) ≡ true → (b ≡ true) × (c ≡ true)
  three true true true is = (refl, refl)
  three true true false is = absurd (true≢false (sym is))
  three true false true is = absurd (true≢false (sym is))
  three true false false is = absurd (true≢false (sym is))
  three false true true is = absurd (true≢false (sym is))
  three false true false is = absurd (true≢false (sym is))
  three false false true is = absurd (true≢false (sym is))
  three false false false is = absurd (true≢false (sym is))

  joined : (first second : TaggedBio) → joins keys first second ≡ true
      → (second.bio.sector ≡ end_of keys first.bio) × (context_runs_on first.bio.context first.bio.units second.bio.context ≡ true)
  joined first second is =
      let r = three (same_access first.bio.access second.bio.access) (second.bio.sector == end_of keys first.bio) (context_runs_on first.bio.context first.bio.units second.bio.context) is in
      (eqb-true second.bio.sector (end_of keys first.bio) r.0, r.1)

  -- no unit of a request comes before its first bio
  from_first : (tagged : TaggedBio) (others : List TaggedBio) → Linked (joins keys) (tagged ∷ others)
      → AllByRecursion (λ u. tagged.bio.sector ≤ u.sector) (units_of_request keys (tagged ∷ others))
  from_first tagged [] linked =
      all_append (λ u. tagged.bio.sector ≤ u.sector) (named_units keys tagged) []
      (all_of (LiesIn tagged 0) (λ u. tagged.bio.sector ≤ u.sector) (named_units keys tagged) (λ u lies. let low = lies.0 in omega (arith, low)) (in_bio tagged)) tt
  from_first tagged (next ∷ others) linked =
      let r = joined tagged next linked.0 in
      let start = r.0 in
      all_append (λ u. tagged.bio.sector ≤ u.sector) (named_units keys tagged) (units_of_request keys (next ∷ others))
      (all_of (LiesIn tagged 0) (λ u. tagged.bio.sector ≤ u.sector) (named_units keys tagged) (λ u lies. let low = lies.0 in omega (arith, low)) (in_bio tagged))
      (all_of (λ u. next.bio.sector ≤ u.sector) (λ u. tagged.bio.sector ≤ u.sector) (units_of_request keys (next ∷ others)) (λ u low. omega (arith, low, start)) (from_first next others linked.1))

  request_sectors : (bios : List TaggedBio) → Linked (joins keys) bios → Pairs NoSectorBefore (units_of_request keys bios)
  request_sectors [] linked = tt
  request_sectors (tagged ∷ []) linked = subst (Pairs NoSectorBefore) (sym (append-nil (named_units keys tagged))) (units_ascend tagged 0 tagged.bio.units (omega arith))
  request_sectors (tagged ∷ next ∷ others) linked =
      let r = joined tagged next linked.0 in
      let start = r.0 in
      pairs_append NoSectorBefore (named_units keys tagged) (units_of_request keys (next ∷ others)) (units_ascend tagged 0 tagged.bio.units (omega arith)) (request_sectors (next ∷ others) linked.1)
      (all_of (LiesIn tagged 0) (λ u. AllByRecursion (NoSectorBefore u) (units_of_request keys (next ∷ others))) (named_units keys tagged)
      (λ u lies. all_of (λ v. next.bio.sector ≤ v.sector) (NoSectorBefore u) (units_of_request keys (next ∷ others)) (λ v low. let high = lies.1 in omega (arith, low, high, start)) (from_first next others linked.1))
      (in_bio tagged))

  -- ---- the key of a request

  abbrev pub HasKeyOf : KeyNo → TaggedBio → Type 0
  HasKeyOf key tagged = IsSomeAnd tagged.bio.context (λ context. context.key ≡ key)

  same_key : (key : KeyNo) (first : Option Context) (units : ℕ) (second : Option Context) → IsSomeAnd first (λ context. context.key ≡ key) → context_runs_on first units second ≡ true
      → IsSomeAnd second (λ context. context.key ≡ key)
  same_key key None units second has is = absurd has
  same_key key (Some first) units None has is = absurd (true≢false (sym is))
  same_key key (Some first) units (Some second) has is =
      let is_same : first.key.0 ≡ second.key.0 = eqb-true first.key.0 second.key.0 (first_true (first.key.0 == second.key.0) _ is) in
      ap (λ (n : ℕ). record { 0 = n }) (sym is_same) ∙ has
    where
      first_true : (a b : Bool) → (a && b) ≡ true → a ≡ true
      first_true true b is = refl
      first_true false true is = absurd (true≢false (sym is))
      first_true false false is = absurd (true≢false (sym is))

  pub one_key : (key : KeyNo) (tagged : TaggedBio) (others : List TaggedBio) → Linked (joins keys) (tagged ∷ others) → HasKeyOf key tagged → AllByRecursion (HasKeyOf key) (tagged ∷ others)
  one_key key tagged [] linked has = (has, tt)
  one_key key tagged (next ∷ others) linked has =
      (has, one_key key next others linked.1 (same_key key tagged.bio.context tagged.bio.units next.bio.context has (joined tagged next linked.0).1))

-- ---- devices

-- the numbers of devices that lie one after the other ascend with the sector
devices_from : (first end : ℕ) (targets : List Target) (low high : ℕ) → LieBetween first end targets → BLOCK_SECTORS * first ≤ low → low ≤ high
    → position_or_len (has_sector low) targets ≤ position_or_len (has_sector high) targets
devices_from first end [] low high lie after order = omega arith
devices_from first end (target ∷ targets) low high lie after order =
    let begins = lie.0 in
    let starts : BLOCK_SECTORS * target.first ≤ low = subst (λ (n : ℕ). BLOCK_SECTORS * n ≤ low) (sym begins) after in
    ⊎_elim
    (λ (inside : low < BLOCK_SECTORS * end_of_target target).
    subst (λ (b : Bool). cond (not b) (1 + position_or_len (has_sector low) targets) 0 ≤ position_or_len (has_sector high) (target ∷ targets)) (sym (has low starts inside)) (omega arith))
    (λ (past : BLOCK_SECTORS * end_of_target target ≤ low).
    let rest = devices_from (end_of_target target) end targets low high lie.2 past order in
    subst (λ (b : Bool). cond (not b) (1 + position_or_len (has_sector low) targets) 0 ≤ position_or_len (has_sector high) (target ∷ targets)) (sym (hasn't low past))
    (subst (λ (b : Bool). 1 + position_or_len (has_sector low) targets ≤ cond (not b) (1 + position_or_len (has_sector high) targets) 0) (sym (hasn't high (omega (arith, past, order)))) (omega (arith, rest))))
    (cases_lt low (BLOCK_SECTORS * end_of_target target))
  where
    has : (s : ℕ) → BLOCK_SECTORS * target.first ≤ s → s < BLOCK_SECTORS * end_of_target target → has_sector s target ≡ true
    has s from below =
        ap (λ (b : Bool). b && nat_lt s (BLOCK_SECTORS * end_of_target target)) (le-leb (BLOCK_SECTORS * target.first) s from) ∙ lt-ltb s (BLOCK_SECTORS * end_of_target target) below

    hasn't : (s : ℕ) → BLOCK_SECTORS * end_of_target target ≤ s → has_sector s target ≡ false
    hasn't s past =
        ap (λ (b : Bool). nat_le (BLOCK_SECTORS * target.first) s && b) (le-ltb s (BLOCK_SECTORS * end_of_target target) past) ∙ and_false (nat_le (BLOCK_SECTORS * target.first) s)
      where
        and_false : (b : Bool) → (b && false) ≡ false
        and_false true = refl
        and_false false = refl

pub devices_ascend : (targets : List Target) (blocks : ℕ) (low high : ℕ) → CoverAll blocks targets → low ≤ high
    → position_or_len (has_sector low) targets ≤ position_or_len (has_sector high) targets
devices_ascend [] blocks low high cover order = omega arith
devices_ascend (target ∷ targets) blocks low high cover order = devices_from 0 blocks (target ∷ targets) low high cover (omega arith) order

-- along a request the numbers of devices ascend
pub request_devices : (keys : List KeyData) (targets : List Target) (blocks : ℕ) (bios : List TaggedBio) → IsStack targets blocks → Linked (joins keys) bios
    → Pairs (λ u v. device_of targets u ≤ device_of targets v) (units_of_request keys bios)
request_devices keys targets blocks bios stack linked =
    pairs_of NoSectorBefore (λ u v. device_of targets u ≤ device_of targets v) (units_of_request keys bios)
    (λ u v order. devices_ascend targets blocks u.sector v.sector stack.cover order) (request_sectors keys bios linked)
