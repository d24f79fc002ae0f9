-- A generated script keeps the rules of a script.
use Rattle.std.proofs.Common.{◌≡◌, ℕ, zero, suc, ◌+◌, ◌*◌, ◌^◌, ◌<◌, ◌≤◌, List, [], ◌∷◌, length, take, drop, map, flat_map, get_or, Some, refl, sym, ap, ap₂, ◌∙◌, arith, false, true}
use Rattle.std.specs.Prelude.{◌%◌, ◌≢◌, AllPairs, sum_by}
use Rattle.std.specs.List.{AllByRecursion, range_with_len}
use Rattle.std.proofs.lemmas.List.Elements.{All-from_recursion}
use Rattle.std.proofs.lemmas.List.Sums.{sum_by-cons}
use Rattle.std.proofs.lemmas.Nat.{mod_below}
use Rattle.std.proofs.Math.Nat.{suc-mul}
use Rattle.bc_key.specs.KeyData.{KeyData}
use Rattle.bc_bio.specs.Extent.{unit_sectors}
use Rattle.bc_stack.specs.declared.target.Target.{Target}
use Rattle.bc_stack.specs.Targets.{HasSlots}
use Rattle.bc_script.specs.declared.named_key.NamedKey.{NamedKey}
use Rattle.bc_script.specs.declared.op.Op.{Op}
use Rattle.bc_script.specs.Script.{Script, IsScript, IsDevice, AreDevices, AreKeys, IsNamedKey, IsBio, IsOp, IsSection, AreSections, bare_keys, open_after, unit_count, unit_count_of_section, max_slots, max_generated}
use Rattle.bc_script.specs.GeneratedScript.{generated, generated_blocks, generated_threads, generated_device, generated_keys, key_a, key_b, key_c, generated_context, generated_sector, generated_write, generated_read, generated_pair, generated_section}

-- ---- the device

devices_are : (slots : ℕ) → 1 ≤ slots → slots ≤ max_slots → AreDevices (generated_device slots ∷ []) generated_blocks
devices_are slots some few =
    let slots_are : HasSlots (generated_device slots) = record { least = some; most = omega arith } in
    let valid : IsDevice (generated_device slots) = record {
      first = omega arith;
      some_blocks = omega arith;
      few_blocks = omega arith;
      slots = slots_are;
      xts = omega arith;
      essiv = omega arith;
      some_dun_bytes = omega arith;
      few_dun_bytes = omega arith;
    } in
    record {
      stack = record {
        few = omega arith;
        cover = (refl, omega arith, refl);
        slots = All-from_recursion HasSlots (generated_device slots ∷ []) (slots_are, tt);
      };
      each = (valid, tt);
    }

-- ---- the keys

-- bytes that count up stay below a bound
counted : (bound first n : ℕ) → first + n ≤ bound → AllByRecursion (λ (b : ℕ). b < bound) (range_with_len first n)
counted bound first zero within = tt
counted bound first (suc n) within = (omega arith, counted bound (first + 1) n (omega arith))

-- lists that begin otherwise differ
begin_otherwise : (xs ys : List ℕ) → get_or xs 0 0 < get_or ys 0 0 → xs ≢ ys
begin_otherwise xs ys less same = let e = ap (λ (l : List ℕ). get_or l 0 0) same in absurd (omega arith)

key_a_is : IsNamedKey key_a
key_a_is = record {
  name = refl;
  valid = record {
    size = refl;
    bytes = All-from_recursion (λ (b : ℕ). b < 256) (range_with_len 0 64) (counted 256 0 64 (omega arith));
    least = omega arith;
    most = omega arith;
    halves = begin_otherwise (take 32 (range_with_len 0 64)) (drop 32 (range_with_len 0 64)) (omega arith);
  };
}

key_b_is : IsNamedKey key_b
key_b_is = record {
  name = refl;
  valid = record {
    size = refl;
    bytes = All-from_recursion (λ (b : ℕ). b < 256) (range_with_len 64 64) (counted 256 64 64 (omega arith));
    least = omega arith;
    most = omega arith;
    halves = begin_otherwise (take 32 (range_with_len 64 64)) (drop 32 (range_with_len 64 64)) (omega arith);
  };
}

key_c_is : IsNamedKey key_c
key_c_is = record {
  name = refl;
  valid = record {
    size = refl;
    bytes = All-from_recursion (λ (b : ℕ). b < 256) (range_with_len 128 16) (counted 256 128 16 (omega arith));
    least = omega arith;
    most = omega arith;
    halves = tt;
  };
}

names_differ : AllPairs (λ (first second : NamedKey). first.name ≢ second.name) generated_keys
names_differ zero zero d lt within = absurd (omega arith)
names_differ zero (suc zero) d lt within = begin_otherwise key_a.name key_b.name (omega arith)
names_differ zero (suc (suc zero)) d lt within = begin_otherwise key_a.name key_c.name (omega arith)
names_differ zero (suc (suc (suc j))) d lt within = absurd (omega arith)
names_differ (suc zero) zero d lt within = absurd (omega arith)
names_differ (suc zero) (suc zero) d lt within = absurd (omega arith)
names_differ (suc zero) (suc (suc zero)) d lt within = begin_otherwise key_b.name key_c.name (omega arith)
names_differ (suc zero) (suc (suc (suc j))) d lt within = absurd (omega arith)
names_differ (suc (suc i)) j d lt within = absurd (omega arith)

keys_are : AreKeys generated_keys
keys_are = record { count = omega arith; each = (key_a_is, (key_b_is, (key_c_is, tt))); names = names_differ }

-- ---- the sections

abbrev keys : List KeyData
keys = bare_keys generated_keys

-- a data unit of any of the keys has at most 8 sectors
few_sectors : (number dun : ℕ) → unit_sectors keys (Some (record { key = record { 0 = number }; dun = dun })) ≤ 8
few_sectors zero dun = omega arith
few_sectors (suc zero) dun = omega arith
few_sectors (suc (suc zero)) dun = omega arith
few_sectors (suc (suc (suc number))) dun = omega arith

bio_is : (n thread j : ℕ) → n ≤ max_generated → thread < generated_threads → j < n
    → IsBio keys (Some (generated_context thread j)) (generated_sector n thread j) 1
bio_is n thread j few within later =
    let number = mod_below (thread + j) 3 (omega arith) in
    let block = mod_below (7 * j + n) 64 (omega arith) in
    let low : 2 ^ 32 ≤ 2 ^ 256 = omega arith in
    let size = few_sectors ((thread + j) % 3) j in
    record {
      context_is = (number, omega arith);
      sector_is = omega arith;
      few_units = omega arith;
      few_sectors = omega arith;
    }

-- from any pair on, each operation is a script's
ops_are : (n thread first k : ℕ) → n ≤ max_generated → thread < generated_threads → first + k ≤ n
    → AllByRecursion (IsOp 1 keys) (flat_map (generated_pair n thread) (range_with_len first k))
ops_are n thread first zero few within end = tt
ops_are n thread first (suc k) few within end =
    let bio = bio_is n thread first few within (omega arith) in
    ((bio, mod_below (16 * thread + first) 256 (omega arith)), (bio, ops_are n thread (first + 1) k few within (omega arith)))

-- there is no plug
no_plugs : (n thread first k : ℕ) → open_after false (flat_map (generated_pair n thread) (range_with_len first k)) ≡ Some false
no_plugs n thread first zero = refl
no_plugs n thread first (suc k) = no_plugs n thread (first + 1) k

section_is : (n thread : ℕ) → n ≤ max_generated → thread < generated_threads → IsSection 1 keys (generated_section n thread)
section_is n thread few within = record { each = ops_are n thread 0 n few within (omega arith); plugs = no_plugs n thread 0 n }

sections_are : (n first k : ℕ) → n ≤ max_generated → first + k ≤ generated_threads
    → AllByRecursion (IsSection 1 keys) (map (generated_section n) (range_with_len first k))
sections_are n first zero few within = tt
sections_are n first (suc k) few within = (section_is n first few (omega arith), sections_are n (first + 1) k few (omega arith))

-- ---- how many operations and data units there are

ops_of_pairs : (n thread first k : ℕ) → length (flat_map (generated_pair n thread) (range_with_len first k)) ≡ 2 * k
ops_of_pairs n thread first zero = refl
ops_of_pairs n thread first (suc k) = omega (arith, ops_of_pairs n thread (first + 1) k)

units_of_pairs : (n thread first k : ℕ) → unit_count_of_section (flat_map (generated_pair n thread) (range_with_len first k)) ≡ 2 * k
units_of_pairs n thread first zero = refl
units_of_pairs n thread first (suc k) =
    let rest = flat_map (generated_pair n thread) (range_with_len (first + 1) k) in
    let after_write : unit_count_of_section (generated_write n thread first ∷ generated_read n thread first ∷ rest)
    ≡ 1 + unit_count_of_section (generated_read n thread first ∷ rest) =
    sum_by-cons unit_count (generated_write n thread first) (generated_read n thread first ∷ rest) in
    let after_read : unit_count_of_section (generated_read n thread first ∷ rest) ≡ 1 + unit_count_of_section rest =
    sum_by-cons unit_count (generated_read n thread first) rest in
    after_write ∙ ap (λ (m : ℕ). 1 + m) (after_read ∙ ap (λ (m : ℕ). 1 + m) (units_of_pairs n thread (first + 1) k)) ∙ omega arith

sum_alike : {X : Type 0} (g : X → ℕ) (f : ℕ → X) (c : ℕ) → ((i : ℕ) → g (f i) ≡ c) → (first k : ℕ)
    → sum_by g (map f (range_with_len first k)) ≡ k * c
sum_alike g f c alike first zero = omega arith
sum_alike g f c alike first (suc k) =
    sum_by-cons g (f first) (map f (range_with_len (first + 1) k))
    ∙ ap₂ (λ (a b : ℕ). a + b) (alike first) (sum_alike g f c alike (first + 1) k)
    ∙ (let turn : c + k * c ≡ k * c + c = omega arith in turn) ∙ sym (suc-mul k c)

threads_are : (n : ℕ) → n ≤ max_generated → AreSections 1 keys (map (generated_section n) (range_with_len 0 generated_threads))
threads_are n few =
    let ops = sum_alike length (generated_section n) (2 * n) (λ i. ops_of_pairs n i 0 n) 0 generated_threads in
    let units = sum_alike unit_count_of_section (generated_section n) (2 * n) (λ i. units_of_pairs n i 0 n) 0 generated_threads in
    record {
      count = omega arith;
      each = sections_are n 0 generated_threads few (omega arith);
      few_ops = omega arith;
      few_units = omega arith;
    }

-- ---- the whole

pub is_script : (n slots : ℕ) → n ≤ max_generated → 1 ≤ slots → slots ≤ max_slots → IsScript (generated n slots)
is_script n slots few some_slots few_slots = record {
  blocks = (omega arith, omega arith);
  devices = devices_are slots some_slots few_slots;
  keys = keys_are;
  faults = record { count = omega arith; each = tt; ascend = λ i j d lt within. absurd (omega arith) };
  threads = threads_are n few;
}

-- a script with these parts
abbrev pub script_of : List Target → List NamedKey → List (ℕ × ℕ) → List (List Op) → Script
script_of targets keys faults threads = record {
  blocks = generated_blocks;
  fallback = true;
  targets = targets;
  keys = keys;
  faults = faults;
  threads = threads;
}

-- with those of a generated one, it is that one
pub parts_are : (n slots : ℕ) (targets : List Target) (keys : List NamedKey) (faults : List (ℕ × ℕ)) (threads : List (List Op))
    → targets ≡ generated_device slots ∷ [] → keys ≡ generated_keys → faults ≡ [] → threads ≡ map (generated_section n) (range_with_len 0 generated_threads)
    → script_of targets keys faults threads ≡ generated n slots
parts_are n slots targets keys faults threads devices_are keys_are none sections_are =
    ap (λ (t : List Target). script_of t keys faults threads) devices_are
    ∙ ap (λ (k : List NamedKey). script_of (generated_device slots ∷ []) k faults threads) keys_are
    ∙ ap (λ (f : List (ℕ × ℕ)). script_of (generated_device slots ∷ []) generated_keys f threads) none
    ∙ ap (script_of (generated_device slots ∷ []) generated_keys []) sections_are
