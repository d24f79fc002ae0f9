-- Private: the way of data units that software enciphers.
use Rattle.std.specs.Prelude.{◌≡◌, ℕ, Bool, false, List, Option, Some, IsSomeAnd}
use Rattle.bc_base.specs.Lists.{At}
use Rattle.bc_key.specs.KeyList.{key_at}
use Rattle.bc_modes.specs.UnitCipher.{CipherParts, parts_of}
use Rattle.bc_bio.specs.declared.context.Context.{Context}
use Rattle.bc_bio.specs.Extent.{unit_sectors}
use Rattle.bc_medium.specs.Medium.{MediumData, OwnsSectors}
use Rattle.bc_stack.specs.Devices.{all_support}
use Rattle.bc_disk.specs.Disks.{DiskData, keys_in}

-- a medium, and of each key the cipher, if there is one
pub record SoftData (S : Type 0) : Type 0 where
  pub medium : MediumData S
  pub ciphers : List (Option CipherParts)

module _ {S : Type 0} where
  -- the context's key is one of the medium's, and its cipher is there
  abbrev pub HasCipherOf : SoftData S → Option Context → Type 0
  HasCipherOf way context =
      IsSomeAnd context (λ c. IsSomeAnd (key_at way.medium.keys.keys c.key)
      (λ key. At way.ciphers c.key.0 (Some (parts_of key))))

  -- this is the context, and the cipher that of its key
  abbrev pub IsCipherOf : SoftData S → Option Context → CipherParts → Context → Type 0
  IsCipherOf way context parts under =
      (context ≡ Some under) × IsSomeAnd (key_at way.medium.keys.keys under.key) (λ key. parts ≡ parts_of key)

  -- the way takes a unit at this sector under this context
  pub record TakesSoft (owns : S → ℕ → Bool) (way : SoftData S) (sector : ℕ) (context : Option Context) : Type 0 where
    pub sectors : OwnsSectors owns way.medium sector (unit_sectors way.medium.keys.keys context)
    pub cipher : HasCipherOf way context

  -- a unit at this sector under this context goes by software: its sectors belong to its shard's store, and its key is
  -- one that doesn't go inline
  pub record GoesSoft (owns : S → ℕ → Bool) (disk : DiskData S) (sector : ℕ) (context : Option Context) : Type 0 where
    pub sectors : OwnsSectors owns disk.queue.medium sector (unit_sectors (keys_in disk) context)
    pub key : IsSomeAnd context (λ c. IsSomeAnd (key_at (keys_in disk) c.key)
        (λ key. all_support disk.targets key.config ≡ false))
