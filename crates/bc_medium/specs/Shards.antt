-- What contracts see of the shards of a disk, for one caller: a store for each shard, and the order
-- of the accesses to it.
use Rattle.std.specs.Prelude.{◌≡◌, ℕ, ◌*◌, ◌≤◌, Bool, List, [], ◌∷◌, length, map, Option}
use Rattle.bc_base.specs.declared.place.Place.{Place}
use Rattle.bc_base.specs.Lists.{Each, AllAt, ChangesAt, list_at}
use Rattle.bc_base.specs.Stores.{StoreCalls, IsPiece}
use Rattle.bc_key.specs.KeyData.{KeyData}
use Rattle.bc_bio.specs.Extent.{unit_sectors}
use Rattle.bc_medium.specs.declared.entry.Entry.{Entry}
use Rattle.bc_medium.specs.declared.unit_at.UnitAt.{UnitAt}
use Rattle.bc_medium.specs.declared.unit_name.UnitName.{UnitName}
use Rattle.bc_medium.specs.Layout.{shard_of}
use Rattle.bc_medium.specs.KeyedDisk.{Sectors, UnitAnswer, Faulted, Text, deciphered}
use Rattle.bc_medium.specs.Entries.{IsToldAt, unit_name}
use Rattle.bc_medium.specs.Growth.{Performs}
use Rattle.bc_medium.specs.ShardOrder.{ShardData, Appends, AppendsNext, HasKeys, StandsNow, FailsByPlan, Leaves, opened_shard}

module _ {S : Type 0} where
  -- the orders, by shard
  abbrev pub orders_of : List (ShardData S) → List (List Entry)
  orders_of shards = map (λ s. s.entries) shards

  -- whichever shards were given keys for a write were given these
  abbrev pub HaveKeys : List KeyData → List (ShardData S) → Type 0
  HaveKeys keys shards = Each (HasKeys keys) shards

  -- so many sectors from this one on belong to the store of its shard
  abbrev pub Own : (S → ℕ → Bool) → List (ShardData S) → ℕ → ℕ → Type 0
  Own owns shards first count =
      AllAt shards (shard_of (length shards) first) (λ s. IsPiece (owns s.start) first count)

  -- the shard of this sector has room for one entry more
  abbrev pub HasSpare : List (ShardData S) → ℕ → Type 0
  HasSpare shards sector = AllAt shards (shard_of (length shards) sector) (λ s. 1 ≤ s.spare)

  -- one access: its shard has one entry more, and this is its place
  abbrev pub AppendsAt :
      (ShardData S → Option (List KeyData)) → List (ShardData S) → List (ShardData S) → Entry → Place → Type 0
  AppendsAt keys old new e place =
      (place.shard ≡ shard_of (length old) e.at.sector)
      × ChangesAt old new place.shard (λ s s'. AppendsNext (keys s) s s' e place.index)

  -- one read: the same, and these raw bytes stood there
  abbrev pub ReadsAt :
      (S → Option Sectors) → List (ShardData S) → List (ShardData S) → Entry → List ℕ → Place → Type 0
  ReadsAt contents old new e raw place =
      (place.shard ≡ shard_of (length old) e.at.sector)
      × ChangesAt old new place.shard
      (λ s s'. (place.index ≡ length s.entries) × Appends s.keys s s' e × StandsNow contents s e.at.sector raw)

  -- one access, over the orders: what was there before it is the whole order of its shard
  abbrev pub Adds : List (ShardData S) → List (ShardData S) → Entry → Place → Type 0
  Adds old new e place =
      Performs (length old) (orders_of old) (orders_of new) (list_at (orders_of old) place.shard) e place

  -- with the keyed disk from the store's contents at opening, the entry at this place is answered
  -- so
  abbrev pub Answers :
      (S → Option Sectors) → List KeyData → List (ShardData S) → Place → UnitName → UnitAnswer → Type 0
  Answers contents keys shards place name answer =
      AllAt shards place.shard (λ s. IsToldAt keys (contents s.start) s.entries place.index name answer)

  -- whatever the keys, the entry at this place is answered with a fault
  abbrev pub AnswersFault : (S → Option Sectors) → List (ShardData S) → UnitName → Place → Type 0
  AnswersFault contents shards name place = (keys : List KeyData) → Answers contents keys shards place name Faulted

  -- with whatever keys writes were given, a read is answered with the raw bytes, which are the
  -- unit's, deciphered
  abbrev pub AnswersText :
      (S → Option Sectors) → List (ShardData S) → List (ShardData S) → UnitAt → List ℕ → Place → Type 0
  AnswersText contents old new at raw place =
      (keys : List KeyData) → HaveKeys keys old → length raw ≡ 512 * unit_sectors keys at.context
      → Answers contents keys new place (unit_name at) (Text (deciphered keys at.context raw))

  -- where the store of this sector's shard tells its plan, the access fails exactly where the plan
  -- has its place
  abbrev pub FailsAsPlanned : (S → Option StoreCalls) → List (ShardData S) → ℕ → Type 0 → Type 0
  FailsAsPlanned told shards sector Fails =
      AllAt shards (shard_of (length shards) sector) (λ s. FailsByPlan told s Fails)

  -- with whatever keys writes were given, each store holds what the keyed disk leaves along its
  -- shard's entries from the contents at opening
  abbrev pub AllLeft : (S → Option Sectors) → List (ShardData S) → Type 0
  AllLeft contents shards =
      (keys : List KeyData) → HaveKeys keys shards
      → Each (λ s. Leaves keys (contents s.start) s.entries (contents s.store)) shards

  -- new shards of these stores, with room for so many entries each
  abbrev pub opened_with : List S → List ℕ → List (ShardData S)
  opened_with [] quotas = []
  opened_with (s ∷ ss) [] = []
  opened_with (s ∷ ss) (q ∷ qs) = opened_shard s q ∷ opened_with ss qs
