-- A disk that was opened.
use Rattle.std.proofs.Common.{◌≡◌, ℕ, zero, suc, ◌+◌, ◌-◌, ◌*◌, ◌^◌, ◌<◌, Bool, true, List, [], ◌∷◌, map, length, refl, sym, ap, ap₂, ◌∙◌, subst, arith, Option, Some, None}
use Rattle.std.specs.Prelude.{slice_get, slice_index_or}
use Rattle.std.specs.List.{AllZip, range_with_len}
use Rattle.std.specs.Option.{option_map_or}
use Rattle.std.proofs.lemmas.Option.{none-some, same_Some}
use Rattle.bc_base.specs.declared.geometry.TheConstants.{BLOCK_SECTORS}
use Rattle.bc_base.specs.Lists.{Each, EachFrom, At, AllAt, list_at}
use Rattle.bc_base.specs.Sectors.{Sectors}
use Rattle.bc_base.specs.Story.{own}
use Rattle.bc_base.proofs.Lists.{each_at, at_map}
use Rattle.bc_key.specs.KeyData.{KeyData}
use Rattle.bc_turn.specs.PassParts.{CellData, Pass, new_part, new_pass as new_units}
use Rattle.bc_medium.specs.declared.entry.Entry.{Entry}
use Rattle.bc_medium.specs.Entries.{caller_of}
use Rattle.bc_medium.specs.Medium.{Belongs, MediumData, OpeningData, quotas_of_shard, openings, own_at, quota_of, seen_by, shards_of}
use Rattle.bc_medium.specs.Layout.{shard_of}
use Rattle.bc_profile.specs.Passes.{IsOf, SlotFacts, base_in, new_pass}
use Rattle.bc_stack.specs.declared.target.Target.{Target}
use Rattle.bc_ufs.specs.Controllers.{ControllerData}
use Rattle.bc_queue.specs.Queues.{AreControllers, IsController}
use Rattle.bc_disk.specs.Disks.{DiskData, IsDisk, PassData, pass_by}
use Rattle.bc_disk.specs.Dealing.{new_slots, passes_with}
use Rattle.bc_stack.specs.Targets.{StackParts}
use Rattle.bc_disk.specs.Openings.{AreNewDevices, IsNewDevice, IsNewPass, IsOpened, quota_at}
use Rattle.bc_disk.proofs.Joins.{below}
use Rattle.bc_medium.proofs.Openings.{there}

each_of_places : {A : Type 0} (P : A → Type 0) (xs : List A) → ((k : ℕ) (x : A) → At xs k x → P x) → Each P xs
each_of_places P [] f = tt
each_of_places P (x ∷ xs) f = (f 0 x refl, each_of_places P xs (λ k y at. f (suc k) y at))

each_from_places : {A : Type 0} (P : ℕ → A → Type 0) (first : ℕ) (xs : List A) → ((k : ℕ) (x : A) → At xs k x → P (first + k) x) → EachFrom P first xs
each_from_places P first [] f = tt
each_from_places P first (x ∷ xs) f = ((let z : first + 0 ≡ first = omega arith in subst (λ n. P n x) z (f 0 x refl)), each_from_places P (first + 1) xs (λ k y at. let z : first + suc k ≡ first + 1 + k = omega arith in subst (λ n. P n y) z (f (suc k) y at)))

range_at : {A : Type 0} (f : ℕ → A) (first n k : ℕ) → k < n → At (map f (range_with_len first n)) k (f (first + k))
range_at f first zero k l = absurd (omega (arith, l))
range_at f first (suc n) zero l = let z : first ≡ first + 0 = omega arith in ap (λ m. Some (f m)) z
range_at f first (suc n) (suc k) l = let z : first + 1 + k ≡ first + suc k = omega arith in range_at f (first + 1) n k (omega (arith, l)) ∙ ap (λ m. Some (f m)) z

range_length : {A : Type 0} (f : ℕ → A) (first n : ℕ) → length (map f (range_with_len first n)) ≡ n
range_length f first zero = refl
range_length f first (suc n) = ap suc (range_length f (first + 1) n)

-- whatever stands in a list made by place
at_range : {A : Type 0} (f : ℕ → A) (n k : ℕ) (x : A) → At (map f (range_with_len 0 n)) k x → (k < n) × (x ≡ f k)
at_range f n k x at =
    let inside : k < n = (let e = range_length f 0 n in let lt = below (map f (range_with_len 0 n)) k x at in omega (arith, e, lt)) in
    let z : 0 + k ≡ k = omega arith in
    (inside, same_Some x (f k) (sym at ∙ range_at f 0 n k inside ∙ ap (λ m. Some (f m)) z))

-- ---- devices

pub target_of : (keys : List KeyData) (events : List (List ℕ)) (targets : List Target) (controllers : List ControllerData) (device : ℕ) (controller : ControllerData) → length controllers ≡ length targets → AreNewDevices keys events targets controllers → At controllers device controller
    → (target : Target) × IsNewDevice keys events device target controller
target_of keys events targets controllers device controller count are at =
    let t = there targets device (let lt = below controllers device controller at in omega (arith, count, lt)) in
    (t.0, are device controller at t.0 t.1)

pub are_controllers : (keys : List KeyData) (events : List (List ℕ)) (targets : List Target) (controllers : List ControllerData) → length controllers ≡ length targets → AreNewDevices keys events targets controllers → AreControllers keys controllers
are_controllers keys events targets controllers count are =
    each_from_places (IsController keys) 0 controllers (λ k x at. let z : k ≡ 0 + k = omega arith in subst (λ n. IsController keys n x) z (target_of keys events targets controllers k x count are at).1.is_its)

callers_of : (keys : List KeyData) (events : List (List ℕ)) (targets : List Target) (controllers : List ControllerData) → length controllers ≡ length targets → AreNewDevices keys events targets controllers → Each (λ controller. controller.profile.turns.callers ≡ length events) controllers
callers_of keys events targets controllers count are = each_of_places (λ (c : ControllerData). c.profile.turns.callers ≡ length events) controllers (λ k x at. (target_of keys events targets controllers k x count are at).1.callers)

-- ---- passes

passes_new : {S : Type 0} (f : ℕ → List SlotFacts) (g : ℕ → Pass Entry (OpeningData S)) (first n : ℕ) → passes_with (map f (range_with_len first n)) (map g (range_with_len first n)) ≡ map (λ k. pass_by (g k).caller (f k) (g k)) (range_with_len first n)
passes_new f g first zero = refl
passes_new f g first (suc n) = ap (λ l. pass_by (g first).caller (f first) (g first) ∷ l) (passes_new f g (first + 1) n)

each_is_of : (caller n : ℕ) (controllers : List ControllerData) → caller < n → Each (λ controller. controller.profile.turns.callers ≡ n) controllers → AllZip (λ controller slots. IsOf controller.profile slots) controllers (new_slots controllers caller)
each_is_of caller n [] l each = tt
each_is_of caller n (c ∷ controllers) l each = (record { caller = subst (λ m. caller < m) (sym each.0) l; cell = refl; hold = tt }, each_is_of caller n controllers l each.1)

each_new : {A C : Type 0} (f : A → C) (P : C → Type 0) (xs : List A) → ((x : A) → P (f x)) → Each P (map f xs)
each_new f P [] h = tt
each_new f P (x ∷ xs) h = (h x, each_new f P xs h)

nothing_seen : {A E : Type 0} (f : A → List E) (xs : List A) (k : ℕ) → ((x : A) → f x ≡ []) → list_at (map f xs) k ≡ []
nothing_seen f [] k none = refl
nothing_seen f (x ∷ xs) zero none = none x
nothing_seen f (x ∷ xs) (suc k) none = nothing_seen f xs k none

map_twice : {A B C : Type 0} (f : A → B) (g : B → C) (xs : List A) → map g (map f xs) ≡ map (λ x. g (f x)) xs
map_twice f g [] = refl
map_twice f g (x ∷ xs) = ap (λ l. g (f x) ∷ l) (map_twice f g xs)

column_at : (rows : List (List ℕ)) (caller place : ℕ) → slice_index_or (quotas_of_shard place rows) caller 0 ≡ quota_at rows caller place
column_at [] caller place = refl
column_at (row ∷ rows) zero place = refl
column_at (row ∷ rows) (suc caller) place = column_at rows caller place

opening_at : {S : Type 0} (keys : List KeyData) (rows : List (List ℕ)) (first j : ℕ) (stores : List S) (o : OpeningData S) → At (openings keys rows first stores) j o → (o.quotas ≡ quotas_of_shard (first + j) rows) × At stores j o.store
opening_at keys rows first j [] o at = absurd (none-some o at)
opening_at keys rows first zero (s ∷ stores) o at = let e = same_Some record { store = s; keys = keys; quotas = quotas_of_shard first rows } o at in let z : first ≡ first + 0 = omega arith in
    (sym (ap (λ (x : OpeningData _). x.quotas) e) ∙ ap (λ n. quotas_of_shard n rows) z, ap (λ (x : OpeningData _). Some x.store) e)
opening_at keys rows first (suc j) (s ∷ stores) o at = let r = opening_at keys rows (first + 1) j stores o at in let z : first + 1 + j ≡ first + suc j = omega arith in (r.0 ∙ ap (λ n. quotas_of_shard n rows) z, r.1)

pub stores_of : {S : Type 0} (keys : List KeyData) (rows : List (List ℕ)) (first : ℕ) (stores : List S) → map (λ o. o.store) (openings keys rows first stores) ≡ stores
stores_of keys rows first [] = refl
stores_of keys rows first (s ∷ stores) = ap (λ l. s ∷ l) (stores_of keys rows (first + 1) stores)

module _ {S : Type 0} (contents : S → Option Sectors) where
  new_pass_is : (disk : DiskData S) (keys : List KeyData) (units events : List (List ℕ)) (stores : List S) (caller : ℕ) → map (λ cell. cell.base) disk.queue.medium.turns.cells ≡ openings keys units 0 stores → Belongs disk.queue.medium (new_units disk.queue.medium.turns.cells caller)
      → length disk.queue.controllers ≡ length disk.targets → AreNewDevices keys events disk.targets disk.queue.controllers → caller < length events
      → IsNewPass contents disk units events caller (pass_by caller (new_slots disk.queue.controllers caller) (new_units disk.queue.medium.turns.cells caller))
  new_pass_is disk keys units events stores caller bases belongs count are inside = record {
    pass_of = record {
      pass = record { belongs = belongs; number = refl; each = each_is_of caller (length events) disk.queue.controllers inside (callers_of keys events disk.targets disk.queue.controllers count are) };
      free = each_new (λ (c : ControllerData). new_pass c.profile caller) (λ slots. slots.hold ≡ None) disk.queue.controllers (λ c. refl);
      callers = each_new (λ (c : ControllerData). new_pass c.profile caller) (λ slots. slots.caller ≡ caller) disk.queue.controllers (λ c. refl);
    };
    caller_is = refl;
    no_entries = none_of;
    no_events = λ device. ap (λ l. list_at l device) (map_twice (λ (c : ControllerData). new_pass c.profile caller) (λ (p : SlotFacts). p.seen) disk.queue.controllers) ∙ nothing_seen (λ (c : ControllerData). (new_pass c.profile caller).seen) disk.queue.controllers device (λ c. refl);
    entries_left = λ shard l.
        let cell = there disk.queue.medium.turns.cells shard l in
        let o = opening_at keys units 0 shard stores cell.0.base (subst (λ l. At l shard cell.0.base) bases (at_map (λ (c : CellData (OpeningData S)). c.base) disk.queue.medium.turns.cells shard cell.0 cell.1)) in
        ap (λ (z : Option (CellData (OpeningData S))). option_map_or (λ c. quota_of c.base.quotas caller - own_at (new_units disk.queue.medium.turns.cells caller) shard) z 0) cell.1
        ∙ ap (λ l. quota_of cell.0.base.quotas caller - length (own caller_of caller l)) (none_of shard)
        ∙ less (quota_of cell.0.base.quotas caller)
        ∙ ap (λ q. slice_index_or q caller 0) o.0
        ∙ (let z : 0 + shard ≡ shard = omega arith in ap (λ n. slice_index_or (quotas_of_shard n units) caller 0) z)
        ∙ column_at units caller shard;
    events_left = λ device l.
        let controller = there disk.queue.controllers device (omega (arith, count, l)) in
        let target = there disk.targets device l in
        let new = are device controller.0 controller.1 target.0 target.1 in
        let slots = at_map (λ (c : ControllerData). new_pass c.profile caller) disk.queue.controllers device controller.0 controller.1 in
        ap (λ (z : Option ControllerData). option_map_or (λ c. option_map_or (λ s. slice_index_or (base_in c.profile).quotas s.caller 0 - length (own Rattle.bc_profile.specs.Story.author_of s.caller s.seen)) (slice_get (new_slots disk.queue.controllers caller) device) 0) z 0) controller.1
        ∙ ap (λ (z : Option SlotFacts). option_map_or (λ s. slice_index_or (base_in controller.0.profile).quotas s.caller 0 - length (own Rattle.bc_profile.specs.Story.author_of s.caller s.seen)) z 0) slots
        ∙ less (slice_index_or (base_in controller.0.profile).quotas caller 0)
        ∙ ap (λ b. slice_index_or b.quotas caller 0) new.base
        ∙ column_at events caller device;
  }
    where
      none_of : (shard : ℕ) → list_at (seen_by (new_units {E = Entry} disk.queue.medium.turns.cells caller)) shard ≡ []
      none_of shard = ap (λ l. list_at l shard) (map_twice (new_part {E = Entry} caller) (λ part. part.seen) disk.queue.medium.turns.cells) ∙ nothing_seen (λ (c : CellData (OpeningData S)). (new_part {E = Entry} caller c).seen) disk.queue.medium.turns.cells shard (λ c. refl)

      less : (n : ℕ) → n - 0 ≡ n
      less n = omega arith

  -- the passes of a disk that was opened
  pub passes_are_new : (disk : DiskData S) (keys : List KeyData) (units events : List (List ℕ)) (stores : List S) (slots : List (List SlotFacts)) (seats : List (Pass Entry (OpeningData S))) (passes : List (PassData S)) (n : ℕ) → map (λ cell. cell.base) disk.queue.medium.turns.cells ≡ openings keys units 0 stores
      → slots ≡ map (new_slots disk.queue.controllers) (range_with_len 0 n) → seats ≡ map (new_units disk.queue.medium.turns.cells) (range_with_len 0 n) → Each (Belongs disk.queue.medium) seats → passes ≡ passes_with slots seats
      → length disk.queue.controllers ≡ length disk.targets → AreNewDevices keys events disk.targets disk.queue.controllers → n ≡ length events
      → (length passes ≡ n) × ((caller : ℕ) → AllAt passes caller (IsNewPass contents disk units events caller))
  passes_are_new disk keys units events stores slots seats passes n bases slots_are seats_are belong passes_are count are callers =
      let cells = disk.queue.medium.turns.cells in
      let all : passes ≡ map (λ k. pass_by k (new_slots disk.queue.controllers k) (new_units cells k)) (range_with_len 0 n) = passes_are ∙ ap₂ passes_with slots_are seats_are ∙ passes_new (new_slots disk.queue.controllers) (new_units cells) 0 n in (
        ap length all ∙ range_length (λ k. pass_by k (new_slots disk.queue.controllers k) (new_units cells k)) 0 n,
        λ caller pass at.
            let r = at_range (λ k. pass_by k (new_slots disk.queue.controllers k) (new_units cells k)) n caller pass (subst (λ l. At l caller pass) all at) in
            let z : 0 + caller ≡ caller = omega arith in
            let seat : At (map (new_units cells) (range_with_len 0 n)) caller (new_units cells caller) = range_at (new_units cells) 0 n caller r.0 ∙ ap (λ m. Some (new_units cells m)) z in
            subst (IsNewPass contents disk units events caller) (sym r.1)
            (new_pass_is disk keys units events stores caller bases (each_at (Belongs disk.queue.medium) (map (new_units cells) (range_with_len 0 n)) caller (new_units cells caller) (subst (Each (Belongs disk.queue.medium)) seats_are belong) seat) count are (subst (λ m. caller < m) callers r.0)),
      )

bases_stores : {S : Type 0} (keys : List KeyData) (units : List (List ℕ)) (stores : List S) (cells : List (CellData (OpeningData S))) → map (λ cell. cell.base) cells ≡ openings keys units 0 stores → map (λ cell. cell.base.store) cells ≡ stores
bases_stores {S} keys units stores cells bases = sym (map_twice (λ (c : CellData (OpeningData S)). c.base) (λ (o : OpeningData S). o.store) cells) ∙ ap (map (λ (o : OpeningData S). o.store)) bases ∙ stores_of keys units 0 stores

length_map : {A B : Type 0} (f : A → B) (xs : List A) → length (map f xs) ≡ length xs
length_map f [] = refl
length_map f (x ∷ xs) = ap suc (length_map f xs)

-- there are as many shards as stores
pub many_shards : {S : Type 0} (keys : List KeyData) (units : List (List ℕ)) (stores : List S) (medium : MediumData S) → map (λ cell. cell.base) medium.turns.cells ≡ openings keys units 0 stores → length stores ≡ shards_of medium
many_shards {S} keys units stores medium bases = sym (ap length (bases_stores keys units stores medium.turns.cells bases)) ∙ length_map (λ (c : CellData (OpeningData S)). c.base.store) medium.turns.cells

-- what the parts of a disk that was opened keep
pub disk_kept : {S : Type 0} (owns : S → ℕ → Bool) (disk : DiskData S) (keys : List KeyData) (units events : List (List ℕ)) (stores : List S) → disk.queue.medium.keys.keys ≡ keys → disk.blocks < 2 ^ 29 → map (λ cell. cell.base) disk.queue.medium.turns.cells ≡ openings keys units 0 stores
    → length disk.queue.controllers ≡ length disk.targets → AreNewDevices keys events disk.targets disk.queue.controllers → length events ≡ disk.queue.medium.turns.callers
    → ((sector : ℕ) → sector < BLOCK_SECTORS * disk.blocks → AllAt stores (shard_of (length stores) sector) (λ store. owns store sector ≡ true)) → IsDisk owns disk
disk_kept {S} owns disk keys units events stores keys_is small bases count are callers owned =
    let cells = disk.queue.medium.turns.cells in
    let same : map (λ cell. cell.base.store) cells ≡ stores = bases_stores keys units stores cells bases in
    let many : length stores ≡ length cells = sym (ap length same) ∙ length_map (λ (c : CellData (OpeningData S)). c.base.store) cells in
    record {
      count = count;
      rows = subst (λ ks. AreControllers ks disk.queue.controllers) (sym keys_is) (are_controllers keys events disk.targets disk.queue.controllers count are);
      small = small;
      supports = λ device target there controller at. (are device controller at target there).caps;
      callers = subst (λ n. Each (λ (c : ControllerData). c.profile.turns.callers ≡ n) disk.queue.controllers) callers (callers_of keys events disk.targets disk.queue.controllers count are);
      owned = λ sector l cell at. record {
        some = omega arith;
        owned = λ i one.
            let e : sector ≡ sector + i = omega (arith, one) in
            subst (λ n. owns cell.base.store n ≡ true) e (owned sector l cell.base.store (subst (λ n. At stores (shard_of n sector) cell.base.store) (sym many) (subst (λ l. At l (shard_of (length cells) sector) cell.base.store) same (at_map (λ (c : CellData (OpeningData S)). c.base.store) cells (shard_of (length cells) sector) cell at))));
      };
    }

pub opened : {S : Type 0} (contents : S → Option Sectors) (keys : List KeyData) (stack : StackParts) (fallback : Bool) (blocks : ℕ) (stores : List S) (units events : List (List ℕ)) (disk : DiskData S) (slots : List (List SlotFacts)) (seats : List (Pass Entry (OpeningData S))) (passes : List (PassData S)) (n : ℕ)
    → disk.queue.medium.keys.keys ≡ keys → disk.targets ≡ stack.targets → disk.fallback ≡ fallback → disk.blocks ≡ blocks → map (λ cell. cell.base) disk.queue.medium.turns.cells ≡ openings keys units 0 stores → disk.queue.medium.turns.callers ≡ n
    → slots ≡ map (new_slots disk.queue.controllers) (range_with_len 0 n) → seats ≡ map (new_units disk.queue.medium.turns.cells) (range_with_len 0 n) → Each (Belongs disk.queue.medium) seats → passes ≡ passes_with slots seats
    → length disk.queue.controllers ≡ length disk.targets → AreNewDevices keys events disk.targets disk.queue.controllers → n ≡ length events → n ≡ length units → IsOpened contents keys stack fallback blocks stores units events disk passes
opened contents keys stack fallback blocks stores units events disk slots seats passes n keys_is targets_is fallback_is blocks_is bases callers slots_are seats_are belong passes_are count are n_events n_units =
    let new = passes_are_new contents disk keys units events stores slots seats passes n bases slots_are seats_are belong passes_are count are n_events in
    record {
      keys_are = keys_is;
      targets_are = targets_is;
      fallback_is = fallback_is;
      blocks_are = blocks_is;
      stores_are = bases_stores keys units stores disk.queue.medium.turns.cells bases;
      callers_are = callers ∙ n_units;
      slot_callers = subst (λ m. Each (λ (c : ControllerData). c.profile.turns.callers ≡ m) disk.queue.controllers) (sym n_events ∙ n_units) (callers_of keys events disk.targets disk.queue.controllers count are);
      one_for_each = count;
      slots_are = λ device target there controller at. ap (λ b. b.slots) (are device controller at target (subst (λ l. At l device target) (sym targets_is) there)).base;
      pass_for_each = new.0 ∙ n_units;
      are_new = new.1;
    }
