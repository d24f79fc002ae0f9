-- A disk may be opened for a script.
use Rattle.std.proofs.Common.{◌≡◌, ℕ, zero, suc, ◌+◌, ◌*◌, ◌/◌, ◌<◌, ◌≤◌, Bool, true, false, List, [], ◌∷◌, Option, Some, length, map, refl, sym, ap, subst, ◌∙◌, arith}
use Rattle.std.specs.Prelude.{◌&&◌, ◌==◌, nat_lt, sum, sum_by, slice_index_or, replicate, IfSome}
use Rattle.std.specs.List.{AllByRecursion}
use Rattle.std.proofs.lemmas.Bool.{eq-eqb, lt-ltb}
use Rattle.std.proofs.lemmas.List.{length-map, length-replicate}
use Rattle.std.proofs.lemmas.List.FromFn.{length-map-range_with_len, get_or-map-range_with_len}
use Rattle.std.proofs.lemmas.List.Sums.{sum_by-cons}
use Rattle.bc_base.specs.RamStores.{RamData, IsShardOf, owns}
use Rattle.bc_base.specs.Stores.{StoreCalls}
use Rattle.bc_medium.specs.Medium.{quotas_of_shard}
use Rattle.bc_medium.specs.Layout.{shard_of}
use Rattle.bc_stack.specs.declared.target.Target.{Target}
use Rattle.bc_stack.specs.Targets.{StackParts}
use Rattle.bc_script.specs.declared.op.Op.{Op}
use Rattle.bc_script.specs.Script.{Script, IsScript, unit_count_of_section}
use Rattle.bc_section.specs.Openings.{AreOpenings}
use Rattle.bc_section.proofs.Lists.{all_by_place}
use Rattle.bc_disk.specs.Openings.{MayOpen}
use Rattle.bc_threads.specs.Quotas.{event_row, event_rows, sections_of, unit_quota, unit_row, unit_rows}
use Rattle.bc_threads.specs.Runs.{stack_of}
use Rattle.bc_threads.proofs.Counting.{quota_most}

-- what a store in memory tells of its calls
abbrev pub calls_told : RamData → Option StoreCalls
calls_told store = Some (record { plan = store.calls.fails; calls = store.calls.calls })

some_sections : (sections : List (List Op)) → 1 ≤ length (sections_of sections)
some_sections [] = omega arith
some_sections (section ∷ sections) = omega arith

few_sections : (sections : List (List Op)) → length (sections_of sections) ≤ length sections + 1
few_sections [] = omega arith
few_sections (section ∷ sections) = omega arith

same_sum : (f : List Op → ℕ) → f [] ≡ 0 → (sections : List (List Op)) → sum_by f (sections_of sections) ≡ sum_by f sections
same_sum f none [] = sum_by-cons f [] [] ∙ ap (λ (k : ℕ). k + 0) none
same_sum f none (section ∷ sections) = refl

each_row : (f : List Op → List ℕ) (n : ℕ) → ((section : List Op) → length (f section) ≡ n) → (sections : List (List Op)) → AllByRecursion (λ row. length row ≡ n) (map f sections)
each_row f n long [] = tt
each_row f n long (section ∷ sections) = (long section, each_row f n long sections)

sum_column : (f : List Op → List ℕ) (bound : List Op → ℕ) (place : ℕ) → ((section : List Op) → slice_index_or (f section) place 0 ≤ bound section) → (sections : List (List Op))
    → sum (quotas_of_shard place (map f sections)) ≤ sum_by bound sections
sum_column f bound place most [] = omega arith
sum_column f bound place most (section ∷ sections) =
    both (slice_index_or (f section) place 0) (sum (quotas_of_shard place (map f sections))) (bound section) (sum_by bound sections) (sum (quotas_of_shard place (map f (section ∷ sections)))) (sum_by bound (section ∷ sections))
    (sum_by-cons (λ (k : ℕ). k) (slice_index_or (f section) place 0) (quotas_of_shard place (map f sections))) (sum_by-cons bound section sections) (most section) (sum_column f bound place most sections)
  where
    both : (a b c d s t : ℕ) → s ≡ a + b → t ≡ c + d → a ≤ c → b ≤ d → s ≤ t
    both a b c d s t left right first second = omega arith

twice : (sections : List (List Op)) → sum_by (λ (section : List Op). 2 * length section) sections ≡ 2 * sum_by length sections
twice [] = refl
twice (section ∷ sections) =
    all (length section) (sum_by length sections) (sum_by (λ (section : List Op). 2 * length section) sections) _ _ (sum_by-cons (λ (section : List Op). 2 * length section) section sections) (sum_by-cons length section sections) (twice sections)
  where
    all : (a b c s t : ℕ) → s ≡ 2 * a + c → t ≡ a + b → c ≡ 2 * b → s ≡ 2 * t
    all a b c s t left right rest = omega arith

in_replicate : (n k place : ℕ) → slice_index_or (replicate n k) place 0 ≤ k
in_replicate zero k place = omega arith
in_replicate (suc n) k zero = omega arith
in_replicate (suc n) k (suc place) = in_replicate n k place

module _ (script : Script) (rules : IsScript script) (image : List ℕ) (n : ℕ) (some : 1 ≤ n) (few : n ≤ 64) (whole : length image ≡ 4096 * script.blocks) (stores : List RamData) (are : AreOpenings script image n stores) where
  pub is_owned : (k : ℕ) (store : RamData) → IsShardOf image k n store → (sector : ℕ) → sector < 8 * script.blocks → shard_of n sector ≡ k → owns store sector ≡ true
  is_owned k store is sector inside lies =
      let blocks : store.blocks ≡ length image / 4096 = is.blocks_are in
      both (shard_of store.shards sector == store.shard) (nat_lt (sector / 8) store.blocks)
      (eq-eqb (shard_of store.shards sector) store.shard (ap (λ m. shard_of m sector) is.shards_are ∙ lies ∙ sym is.shard_is))
      (lt-ltb (sector / 8) store.blocks (omega arith))
    where
      both : (a b : Bool) → a ≡ true → b ≡ true → (a && b) ≡ true
      both true b p q = q
      both false b p q = p

  quota_at_shard : (shard : ℕ) → shard < n → (section : List Op) → slice_index_or (unit_row script n section) shard 0 ≤ unit_count_of_section section
  quota_at_shard shard inside section =
      subst (λ (k : ℕ). k ≤ unit_count_of_section section) (sym (get_or-map-range_with_len (λ shard. unit_quota script n shard section) 0 n shard shard 0 inside (omega arith))) (quota_most script n shard section)

  pub may_open : MayOpen (λ s m. owns s m) calls_told (stack_of script) script.blocks stores (unit_rows script n) (event_rows script)
  may_open = record {
    callers =
        let long = length-map (sections_of script.threads) (unit_row script n) in
        let least = some_sections script.threads in
        let most = few_sections script.threads in
        let few_threads = rules.threads.count in
        (omega arith, omega arith);
    same_callers = length-map (sections_of script.threads) (event_row script) ∙ sym (length-map (sections_of script.threads) (unit_row script n));
    shards = let count = are.count in (omega arith, omega arith);
    small = let most = rules.blocks.1 in omega arith;
    stack_blocks = refl;
    owned = λ sector inside store at.
        let is = are.each (shard_of (length stores) sector) store at in
        is_owned (shard_of (length stores) sector) store is.holds sector inside (ap (λ m. shard_of m sector) (sym are.count));
    fresh = all_by_place (λ store. IfSome (calls_told store) (λ calls. calls.calls ≡ 0)) stores (λ k store at. ap (λ calls. calls.calls) (are.each k store at).calls);
    unit_rows = each_row (unit_row script n) (length stores) (λ section. length-map-range_with_len (λ shard. unit_quota script n shard section) 0 n ∙ sym are.count) (sections_of script.threads);
    unit_sums = λ shard inside.
        let most = sum_column (unit_row script n) unit_count_of_section shard (quota_at_shard shard (let count = are.count in omega arith)) (sections_of script.threads) in
        let same = same_sum unit_count_of_section refl script.threads in
        let units = rules.threads.few_units in
        omega arith;
    event_rows = each_row (event_row script) (length script.targets) (λ section. length-replicate (length script.targets) (2 * length section)) (sections_of script.threads);
    event_sums = λ device inside.
        let most = sum_column (event_row script) (λ section. 2 * length section) device (λ section. in_replicate (length script.targets) (2 * length section) device) (sections_of script.threads) in
        let same = same_sum (λ section. 2 * length section) refl script.threads in
        let all = twice script.threads in
        let ops = rules.threads.few_ops in
        omega arith;
  }

  -- the same of what the parts were made to be
  pub may_open_as : (stack : StackParts) (blocks : ℕ) (units events : List (List ℕ)) (targets : List Target) (size : ℕ) → stack ≡ record { targets = targets; blocks = size } → targets ≡ script.targets → size ≡ script.blocks
      → blocks ≡ script.blocks → units ≡ unit_rows script n → events ≡ event_rows script → MayOpen (λ s m. owns s m) calls_told stack blocks stores units events
  may_open_as stack blocks units events targets size stack_is targets_are size_is blocks_are units_are events_are =
      subst (λ (s : StackParts). MayOpen (λ s m. owns s m) calls_told s blocks stores units events)
      (sym (stack_is ∙ ap (λ (l : List Target). record { targets = l; blocks = size }) targets_are ∙ ap (λ (b : ℕ). record { targets = script.targets; blocks = b }) size_is))
      (subst (λ (b : ℕ). MayOpen (λ s m. owns s m) calls_told (stack_of script) b stores units events) (sym blocks_are)
      (subst (λ (l : List (List ℕ)). MayOpen (λ s m. owns s m) calls_told (stack_of script) script.blocks stores l events) (sym units_are)
      (subst (λ (l : List (List ℕ)). MayOpen (λ s m. owns s m) calls_told (stack_of script) script.blocks stores (unit_rows script n) l) (sym events_are) may_open)))
