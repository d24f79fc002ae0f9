-- What contracts see of the shards of a disk, for many callers: each shard behind a turn, and of
-- each pass the orders as far as its caller has seen them.
use Rattle.std.specs.Prelude.{◌≡◌, ◌↔◌, ℕ, ◌+◌, ◌<◌, ◌≤◌, ◌^◌, Bool, false, ⊤, List, [], ◌∷◌, length, map, sum, slice_index_or, Option, Some, IfSome, Contains}
use lib.ListN.{take}
use Rattle.bc_base.specs.declared.place.Place.{Place}
use Rattle.bc_base.specs.Lists.{Each, AllAt, list_at}
use Rattle.bc_base.specs.Story.{own, IsFront}
use Rattle.bc_base.specs.Stores.{StoreCalls, IsPiece}
use Rattle.bc_key.specs.KeyData.{KeyData}
use Rattle.bc_key.specs.KeyList.{KeyList}
use Rattle.bc_turn.specs.PassParts.{Part, Pass, TurnsData, IsOf}
use Rattle.bc_medium.specs.declared.entry.Entry.{Entry}
use Rattle.bc_medium.specs.declared.unit_name.UnitName.{UnitName}
use Rattle.bc_medium.specs.Layout.{shard_of}
use Rattle.bc_medium.specs.KeyedDisk.{Sectors, UnitAnswer}
use Rattle.bc_medium.specs.Entries.{caller_of, IsToldAt, Stand}
use Rattle.bc_medium.specs.Growth.{Performs}
use Rattle.bc_medium.specs.ShardOrder.{StoreOrder, IsOrder}

-- what is known of a shard since opening: its store then, the keys, and the quotas by caller
pub record OpeningData (S : Type 0) : Type 0 where
  pub store : S
  pub keys : List KeyData
  pub quotas : List ℕ

-- the keys, and the shards behind their turns
pub record MediumData (S : Type 0) : Type 0 where
  pub keys : KeyList
  pub turns : TurnsData (OpeningData S)

-- how many entries a caller may have
abbrev pub quota_of : List ℕ → ℕ → ℕ
quota_of quotas caller = slice_index_or quotas caller 0

-- the quotas of a shard by caller, of quotas by caller and shard
abbrev pub quotas_of_shard : ℕ → List (List ℕ) → List ℕ
quotas_of_shard shard rows = map (λ row. slice_index_or row shard 0) rows

module _ {S : Type 0} (owns : S → ℕ → Bool) (contents : S → Option Sectors) (told : S → Option StoreCalls)
    (faults : S → ℕ) where
  -- a shard keeps to its opening: its entries are what was done to the store since, each caller
  -- keeps within its quota, and there is room for all quotas
  pub record Keeps (b : OpeningData S) (shard : StoreOrder S) : Type 0 where
    pub order : IsOrder owns contents told faults b.store (Some b.keys) shard.store shard.entries
    pub within : (caller : ℕ) → length (own caller_of caller shard.entries) ≤ quota_of b.quotas caller
    pub room : sum b.quotas ≤ length shard.entries + shard.spare

module _ {S : Type 0} where
  -- how many shards the medium has
  abbrev pub shards_of : MediumData S → ℕ
  shards_of m = length m.turns.cells

  -- the orders, by shard, as far as the pass has seen them
  abbrev pub seen_by : Pass Entry (OpeningData S) → List (List Entry)
  seen_by pass = map (λ part. part.seen) pass.parts

  -- the caller keeps within its quota of a shard
  abbrev pub KeepsWithin : ℕ → Part Entry (OpeningData S) → Type 0
  KeepsWithin caller part =
      IfSome part.base (λ b. length (own caller_of caller part.seen) ≤ quota_of b.quotas caller)

  -- the pass is one of this medium, holds no shard, and keeps within its quotas
  abbrev pub Belongs : MediumData S → Pass Entry (OpeningData S) → Type 0
  Belongs m pass =
      IsOf m.turns pass × Each (λ part. part.holds ≡ false) pass.parts × Each (KeepsWithin pass.caller) pass.parts

  -- how many entries of its own the caller has seen of a shard
  abbrev pub own_at : Pass Entry (OpeningData S) → ℕ → ℕ
  own_at pass shard = length (own caller_of pass.caller (list_at (seen_by pass) shard))

  -- the caller may have so many entries more at a shard
  abbrev pub HasSpareOf : MediumData S → Pass Entry (OpeningData S) → ℕ → ℕ → Type 0
  HasSpareOf m pass shard n =
      AllAt m.turns.cells shard (λ cell. n + own_at pass shard ≡ quota_of cell.base.quotas pass.caller)

  -- the caller has room for one entry more at the shard of this sector
  abbrev pub HasRoom : MediumData S → Pass Entry (OpeningData S) → ℕ → Type 0
  HasRoom m pass sector =
      let shard = shard_of (shards_of m) sector in
      AllAt m.turns.cells shard (λ cell. own_at pass shard < quota_of cell.base.quotas pass.caller)

  -- so many sectors from this one on belong to the store of its shard
  abbrev pub OwnsSectors : (S → ℕ → Bool) → MediumData S → ℕ → ℕ → Type 0
  OwnsSectors owns m first count =
      AllAt m.turns.cells (shard_of (shards_of m) first) (λ cell. IsPiece (owns cell.base.store) first count)

  -- one access by this pass, over what it has seen: some entries of others may have come before
  abbrev pub Accesses :
      MediumData S → Pass Entry (OpeningData S) → Pass Entry (OpeningData S) → Entry → Place → Type 0
  Accesses m old new e place =
      (before : List Entry) × Performs (shards_of m) (seen_by old) (seen_by new) before e place

  -- with the keyed disk from the store's contents at opening, the entry at this place is answered
  -- so
  abbrev pub AnswersSeen :
      (S → Option Sectors) → MediumData S → Pass Entry (OpeningData S) → UnitName → UnitAnswer → Place → Type 0
  AnswersSeen contents m pass name answer place =
      AllAt m.turns.cells place.shard (λ cell. IsToldAt m.keys.keys (contents cell.base.store)
      (list_at (seen_by pass) place.shard) place.index name answer)

  -- these raw bytes stood from this sector on when the entry at this place was made
  abbrev pub StoodAt :
      (S → Option Sectors) → MediumData S → Pass Entry (OpeningData S) → ℕ → List ℕ → Place → Type 0
  StoodAt contents m pass first raw place =
      AllAt m.turns.cells place.shard (λ cell. Stand m.keys.keys (contents cell.base.store)
      (take place.index (list_at (seen_by pass) place.shard)) first raw)

  -- where the store of this shard tells its plan, the access failed exactly where the plan has its
  -- place
  abbrev pub FailedAsPlanned : (S → Option StoreCalls) → MediumData S → Type 0 → Place → Type 0
  FailedAsPlanned told m Fails place =
      AllAt m.turns.cells place.shard (λ cell. IfSome (told cell.base.store)
      (λ t. Fails ↔ Contains t.plan place.index))

-- the medium has a turn for each shard, whose writes are given its keys, and a row of quotas for
-- each caller
pub record IsMedium {S : Type 0} (keys : List KeyData) (shards : ℕ) (rows : List (List ℕ))
    (turns : TurnsData (OpeningData S)) : Type 0 where
  pub some : 1 ≤ shards
  pub one_each : shards ≡ length turns.cells
  pub same_keys : Each (λ cell. cell.base.keys ≡ keys) turns.cells
  pub a_row_each : length rows ≡ turns.callers
  pub long_rows : Each (λ row. length row ≡ length turns.cells) rows
  pub columns : (shard : ℕ) → AllAt turns.cells shard
      (λ cell. (cell.base.quotas ≡ quotas_of_shard shard rows) × (sum cell.base.quotas < 2 ^ 32))

-- the elements of two lists are such at their common places, counted from this place on
abbrev pub EachTwoFrom : {A C : Type 0} → (ℕ → A → C → Type 0) → ℕ → List A → List C → Type 0
EachTwoFrom P place [] [] = ⊤
EachTwoFrom P place [] (y ∷ ys) = ⊥
EachTwoFrom P place (x ∷ xs) [] = ⊥
EachTwoFrom P place (x ∷ xs) (y ∷ ys) = P place x y × EachTwoFrom P (place + 1) xs ys

module _ {S : Type 0} (owns : S → ℕ → Bool) (contents : S → Option Sectors) (told : S → Option StoreCalls)
    (faults : S → ℕ) where
  -- a shard at the end: its entries are what was done to its store since opening, with the medium's
  -- keys; what each pass has seen is a prefix of them that has all of its caller's; and no other
  -- caller has any
  pub record IsEnd (m : MediumData S) (passes : List (Pass Entry (OpeningData S))) (shard : ℕ) (store : S)
      (entries : List Entry) : Type 0 where
    pub order : AllAt m.turns.cells shard
        (λ cell. IsOrder owns contents told faults cell.base.store (Some m.keys.keys) store entries)
    pub fronts : Each (λ pass. IsFront caller_of pass.caller (list_at (seen_by pass) shard) entries) passes
    pub no_strangers : (caller : ℕ) → m.turns.callers ≤ caller → own caller_of caller entries ≡ []

-- what a medium is opened with, by shard, from this shard on
abbrev pub openings : {S : Type 0} → List KeyData → List (List ℕ) → ℕ → List S → List (OpeningData S)
openings keys rows shard [] = []
openings keys rows shard (s ∷ ss) =
    record { store = s; keys = keys; quotas = quotas_of_shard shard rows } ∷ openings keys rows (shard + 1) ss
