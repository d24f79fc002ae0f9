-- The order of one shard: its entries, and what the keyed disk leaves along them on the shard's
-- store.
use Rattle.std.specs.Prelude.{◌≡◌, ◌↔◌, ◌⊎◌, ℕ, ◌+◌, ◌-◌, ◌^◌, ◌<◌, ◌≤◌, Bool, true, if◌then◌else◌, List, [], ◌∷◌, ◌++◌, length, Option, Some, None, IfSome, IsSomeAnd, Contains, ⊤}
use Rattle.std.specs.Option.{unwrap_or}
use Rattle.bc_base.specs.Lists.{Each}
use Rattle.bc_base.specs.Stores.{StoreCalls}
use Rattle.bc_key.specs.KeyData.{KeyData}
use Rattle.bc_bio.specs.declared.access.Access.TheVariants.{Read}
use Rattle.bc_medium.specs.declared.entry.Entry.{Entry}
use Rattle.bc_medium.specs.KeyedDisk.{Sectors}
use Rattle.bc_medium.specs.Entries.{left_by, Stand}

-- the contents, where they are reported, are what the keyed disk leaves along these entries
abbrev pub Leaves : List KeyData → Option Sectors → List Entry → Option Sectors → Type 0
Leaves keys None es now = now ≡ None
Leaves keys (Some disk) es now = IsSomeAnd now (λ held. (s : ℕ) → held s ≡ left_by keys disk es s)

-- each entry failed exactly where its place, counted from this one, is in the plan
abbrev pub FailAsPlanned : List ℕ → ℕ → List Entry → Type 0
FailAsPlanned plan place [] = ⊤
FailAsPlanned plan place (e ∷ es) = ((e.failed ≡ true) ↔ Contains plan place) × FailAsPlanned plan (place + 1) es

-- the store's calls, where they are reported: one for each entry, which failed as planned
abbrev pub CallsAre : Option StoreCalls → List Entry → Option StoreCalls → Type 0
CallsAre None es now = now ≡ None
CallsAre (Some t) es now =
    FailAsPlanned t.plan 0 es × IsSomeAnd now (λ u. (u.plan ≡ t.plan) × (u.calls ≡ length es))

-- how many entries failed
abbrev pub failures : List Entry → ℕ
failures [] = 0
failures (e ∷ es) = (if e.failed then 1 else 0) + failures es

-- a read, or a fault: it leaves the disk as it was, whatever the keys
abbrev pub IsQuiet : Entry → Type 0
IsQuiet e = (e.failed ≡ true) ⊎ (e.access ≡ Read)

-- a shard: the store as it was at opening, the keys that writes were given, the store now, the
-- entries, and how many more fit
pub record ShardData (S : Type 0) : Type 0 where
  pub start : S
  pub keys : Option (List KeyData)
  pub store : S
  pub entries : List Entry
  pub spare : ℕ

-- before the first write no keys are known, and none matter
abbrev pub keys_or_none : Option (List KeyData) → List KeyData
keys_or_none keys = unwrap_or keys []

-- a store, the entries of the accesses to it, and how many more fit
pub record StoreOrder (S : Type 0) : Type 0 where
  pub store : S
  pub entries : List Entry
  pub spare : ℕ

-- one entry more, which has this place
abbrev pub EntersNext : {S : Type 0} → StoreOrder S → StoreOrder S → Entry → ℕ → Type 0
EntersNext old new e index =
    (index ≡ length old.entries) × (new.entries ≡ old.entries ++ e ∷ []) × (new.spare + 1 ≡ old.spare)

-- one entry more
abbrev pub Appends : {S : Type 0} → Option (List KeyData) → ShardData S → ShardData S → Entry → Type 0
Appends keys old new e =
    (new.start ≡ old.start) × (new.keys ≡ keys) × (new.entries ≡ old.entries ++ e ∷ []) × (new.spare + 1 ≡ old.spare)

-- one entry more, which has this place
abbrev pub AppendsNext : {S : Type 0} → Option (List KeyData) → ShardData S → ShardData S → Entry → ℕ → Type 0
AppendsNext keys old new e index = (index ≡ length old.entries) × Appends keys old new e

-- the shard was given no other keys than these
abbrev pub HasKeys : {S : Type 0} → List KeyData → ShardData S → Type 0
HasKeys keys shard = IfSome shard.keys (λ given. given ≡ keys)

-- these raw bytes stand there now, with the keys that the shard was given
abbrev pub StandsNow : {S : Type 0} → (S → Option Sectors) → ShardData S → ℕ → List ℕ → Type 0
StandsNow contents shard first raw =
    Stand (keys_or_none shard.keys) (contents shard.start) shard.entries first raw

-- the next access fails exactly where the store's plan, where it is reported, has its place
abbrev pub FailsByPlan : {S : Type 0} → (S → Option StoreCalls) → ShardData S → Type 0 → Type 0
FailsByPlan told shard Fails = IfSome (told shard.start) (λ t. Fails ↔ Contains t.plan (length shard.entries))

module _ {S : Type 0} (owns : S → ℕ → Bool) (contents : S → Option Sectors) (told : S → Option StoreCalls)
    (faults : S → ℕ) where
  -- the entries are what was done to the store since opening
  pub record IsOrder (start : S) (keys : Option (List KeyData)) (store : S) (entries : List Entry) : Type 0 where
    pub owned : (s : ℕ) → owns store s ≡ owns start s
    pub leaves : Leaves (keys_or_none keys) (contents start) entries (contents store)
    pub calls : CallsAre (told start) entries (told store)
    pub counted : faults store < 2 ^ 64 - 1 → faults start + failures entries ≤ faults store
    pub quiet : keys ≡ None → Each IsQuiet entries

  -- whatever the store was at opening: what its entries were before, with no other keys than these,
  -- they are now
  abbrev pub KeepsOrder : List KeyData → StoreOrder S → StoreOrder S → Type 0
  KeepsOrder keys old new =
      (start : S) (given : Option (List KeyData)) → IfSome given (λ k. k ≡ keys)
      → IsOrder start given old.store old.entries → IsOrder start (Some keys) new.store new.entries

  -- the same, whatever the keys
  abbrev pub KeepsAnyOrder : StoreOrder S → StoreOrder S → Type 0
  KeepsAnyOrder old new =
      (start : S) (given : Option (List KeyData)) → IsOrder start given old.store old.entries
      → IsOrder start given new.store new.entries

  -- whatever the store was at opening, these raw bytes stand there now
  abbrev pub StandsInOrder : StoreOrder S → ℕ → List ℕ → Type 0
  StandsInOrder shard first raw =
      (start : S) (given : Option (List KeyData)) (keys : List KeyData) → IfSome given (λ k. k ≡ keys)
      → IsOrder start given shard.store shard.entries → Stand keys (contents start) shard.entries first raw

  -- whatever the store was at opening, the next access fails exactly where its plan, where it is
  -- reported, has its place
  abbrev pub FailsInOrder : StoreOrder S → Type 0 → Type 0
  FailsInOrder shard Fails =
      (start : S) (given : Option (List KeyData)) → IsOrder start given shard.store shard.entries
      → IfSome (told start) (λ t. Fails ↔ Contains t.plan (length shard.entries))

-- a new shard
abbrev pub opened_shard : {S : Type 0} → S → ℕ → ShardData S
opened_shard store quota = record { start = store; keys = None; store = store; entries = []; spare = quota }
