-- How many units of bios lie in a shard.
use Rattle.std.proofs.Common.{◌≡◌, ℕ, zero, suc, ◌+◌, ◌*◌, ◌<◌, ◌≤◌, Bool, true, false, cond, List, [], ◌∷◌, ◌++◌, length, map, take, get_or, sym, ap, subst, ◌∙◌, arith}
use Rattle.std.specs.Prelude.{◌==◌, sum_by}
use Rattle.std.specs.List.{range_with_len}
use Rattle.std.proofs.lemmas.List.Sums.{sum_by-append, sum_by-cons, sum_by-le-sum_by, sum_by-take-le}
use Rattle.std.proofs.lemmas.List.FromFn.{map-range_with_len_more}
use Rattle.bc_medium.specs.Layout.{shard_of}
use Rattle.bc_script.specs.declared.op.Op.{Op}
use Rattle.bc_script.specs.declared.op.Op.TheVariants as ops
use Rattle.bc_script.specs.Script.{Script, unit_count, unit_count_of_section}
use Rattle.bc_section.proofs.Lists.{take_next}
use Rattle.bc_threads.specs.Quotas.{unit_quota, units_from, units_of_op_on}
use Rattle.bc_base.proofs.Members.{range_push}

sum_push : {A : Type 0} (f : A → ℕ) (xs : List A) (x : A) → sum_by f (xs ++ x ∷ []) ≡ sum_by f xs + f x
sum_push f xs x = sum_by-append f xs (x ∷ []) ∙ ap (λ (k : ℕ). sum_by f xs + k) (one (f x))
  where
    one : (k : ℕ) → 0 + k ≡ k
    one k = omega arith

-- a unit counts or not
abbrev counts : ℕ → ℕ → ℕ → ℕ → ℕ → ℕ
counts shards shard sector sectors i = cond (shard_of shards (sector + i * sectors) == shard) 1 0

counts_one : (b : Bool) → cond {A = ℕ} b 1 0 ≤ 1
counts_one true = omega arith
counts_one false = omega arith

pub from_more : (shards shard sector sectors n : ℕ) → units_from shards shard sector sectors (n + 1) ≡ units_from shards shard sector sectors n + cond (shard_of shards (sector + n * sectors) == shard) 1 0
from_more shards shard sector sectors n =
    ap (sum_by (counts shards shard sector sectors)) (range_push 0 n ∙ ap (λ (k : ℕ). range_with_len 0 n ++ k ∷ []) (none n)) ∙ sum_push (counts shards shard sector sectors) (range_with_len 0 n) n
  where
    none : (n : ℕ) → 0 + n ≡ n
    none n = omega arith

-- no more units lie in a shard than there are
from_most : (shards shard sector sectors a n : ℕ) → sum_by (counts shards shard sector sectors) (range_with_len a n) ≤ n
from_most shards shard sector sectors a zero = omega arith
from_most shards shard sector sectors a (suc n) =
    subst (λ (k : ℕ). k ≤ suc n) (sym (sum_by-cons (counts shards shard sector sectors) a (range_with_len (a + 1) n)))
    (both (counts shards shard sector sectors a) (sum_by (counts shards shard sector sectors) (range_with_len (a + 1) n)) n (counts_one (shard_of shards (sector + a * sectors) == shard)) (from_most shards shard sector sectors (a + 1) n))
  where
    both : (x y n : ℕ) → x ≤ 1 → y ≤ n → x + y ≤ suc n
    both x y n one rest = omega arith

pub on_most : (script : Script) (shards shard : ℕ) (operation : Op) → units_of_op_on script shards shard operation ≤ unit_count operation
on_most script shards shard (ops.Write context sector units text) = from_most shards shard sector _ 0 units
on_most script shards shard (ops.Read context sector units) = from_most shards shard sector _ 0 units
on_most script shards shard (ops.Evict key) = omega arith
on_most script shards shard (ops.Reset device) = omega arith
on_most script shards shard ops.Plug = omega arith
on_most script shards shard ops.Unplug = omega arith

pub quota_most : (script : Script) (shards shard : ℕ) (section : List Op) → unit_quota script shards shard section ≤ unit_count_of_section section
quota_most script shards shard section = sum_by-le-sum_by (units_of_op_on script shards shard) unit_count section (on_most script shards shard)

pub quota_more : (script : Script) (shards shard : ℕ) (section : List Op) (i : ℕ) (operation : Op) → i < length section → operation ≡ get_or section i operation
    → unit_quota script shards shard (take (i + 1) section) ≡ unit_quota script shards shard (take i section) + units_of_op_on script shards shard operation
quota_more script shards shard section i operation lt is = ap (unit_quota script shards shard) (take_next section i operation lt is) ∙ sum_push (units_of_op_on script shards shard) (take i section) operation

pub counted_more : (shards shard sector sectors n count one : ℕ) → count ≡ units_from shards shard sector sectors n → one ≡ cond (shard_of shards (sector + n * sectors) == shard) 1 0
    → count + one ≡ units_from shards shard sector sectors (n + 1)
counted_more shards shard sector sectors n count one is more =
    ap (λ (k : ℕ). k + one) is ∙ ap (λ (k : ℕ). units_from shards shard sector sectors n + k) more ∙ sym (from_more shards shard sector sectors n)

pub row_more : (script : Script) (shards n : ℕ) (section : List Op) (row more : List ℕ) (one : ℕ) → row ≡ map (λ shard. unit_quota script shards shard section) (range_with_len 0 n)
    → one ≡ unit_quota script shards n section → more ≡ row ++ one ∷ [] → more ≡ map (λ shard. unit_quota script shards shard section) (range_with_len 0 (n + 1))
row_more script shards n section row more one are is grown =
    grown ∙ ap (λ (l : List ℕ). l ++ one ∷ []) are ∙ ap (λ (k : ℕ). map (λ shard. unit_quota script shards shard section) (range_with_len 0 n) ++ k ∷ []) is
    ∙ sym (map-range_with_len_more (λ shard. unit_quota script shards shard section) 0 n n (none n))
  where
    none : (n : ℕ) → 0 + n ≡ n
    none n = omega arith

-- the count stays below the bound
pub count_fits : (script : Script) (shards shard : ℕ) (section : List Op) (i count one : ℕ) (operation : Op) → i < length section → operation ≡ get_or section i operation
    → count ≡ unit_quota script shards shard (take i section) → one ≡ units_of_op_on script shards shard operation → count + one ≤ unit_count_of_section section
count_fits script shards shard section i count one operation lt at is more =
    omega (arith, quota_more script shards shard section i operation lt at, quota_most script shards shard (take (i + 1) section), sum_by-take-le unit_count section (i + 1))

pub place_is : (a b k s n m : ℕ) → a ≡ s → b ≡ n → k ≡ m → a + b * k ≡ s + n * m
place_is a b k s n m first second third = ap (λ (x : ℕ). x + b * k) first ∙ ap (λ (x : ℕ). s + x * k) second ∙ ap (λ (x : ℕ). s + n * x) third
