-- Data units that software enciphers.
use Rattle.std.proofs.Common.{◌≡◌, ℕ, ◌*◌, ◌≤◌, List, refl, sym, ap, subst, ◌∙◌, arith, Option, Some, None, Bool, false}
use Rattle.std.specs.Prelude.{IsSomeAnd}
use Rattle.std.specs.Option.{option_map_or}
use Rattle.bc_base.specs.Lists.{At}
use Rattle.bc_key.specs.declared.config.DataUnit.{DataUnit}
use Rattle.bc_key.specs.declared.config.DataUnit.TheVariants.{Bytes512, Bytes1024, Bytes2048, Bytes4096}
use Rattle.bc_key.specs.DataUnits.{bytes_of, sectors_of}
use Rattle.bc_key.specs.KeyData.{KeyData}
use Rattle.bc_key.specs.KeyList.{KeyList, key_at}
use Rattle.bc_modes.specs.UnitCipher.{CipherParts, dec, decipher_unit, enc, encipher_unit, parts_of}
use Rattle.bc_bio.specs.declared.context.Context.{Context}
use Rattle.bc_bio.specs.Extent.{unit_sectors}
use Rattle.bc_medium.specs.KeyedDisk.{deciphered, enciphered}
use Rattle.bc_medium.specs.Medium.{MediumData}
use Rattle.bc_bio.specs.declared.marked_bio.MarkedBio.{MarkedBio}
use Rattle.bc_stack.specs.Devices.{all_support}
use Rattle.bc_queue.specs.Carrying.{ArePerformable}
use Rattle.bc_queue.specs.RequestUnits.{named_at}
use Rattle.bc_disk.specs.Disks.{DiskData, HasCiphers, keys_in}
use Rattle.bc_disk.specs.Soft.{GoesSoft, HasCipherOf, IsCipherOf, SoftData, TakesSoft}

sectors_few : (unit : DataUnit) → sectors_of unit ≤ 8
sectors_few Bytes512 = omega arith
sectors_few Bytes1024 = omega arith
sectors_few Bytes2048 = omega arith
sectors_few Bytes4096 = omega arith

few : (o : Option KeyData) → option_map_or (λ (key : KeyData). sectors_of key.config.unit) o 1 ≤ 8
few None = omega arith
few (Some key) = sectors_few key.config.unit

-- a data unit has 4096 bytes at most
pub unit_few : (keys : List KeyData) (context : Option Context) → unit_sectors keys context ≤ 8
unit_few keys None = omega arith
unit_few keys (Some context) = few (key_at keys context.key)

raw_of_text : (o : Option KeyData) (parts : CipherParts) (dun : ℕ) (text raw : List ℕ) → IsSomeAnd o (λ key. parts ≡ parts_of key) → raw ≡ encipher_unit parts.mode parts.raw dun text → raw ≡ option_map_or (λ (key : KeyData). enc key dun text) o text
raw_of_text None parts dun text raw is made = absurd is
raw_of_text (Some key) parts dun text raw is made = made ∙ ap (λ (p : CipherParts). encipher_unit p.mode p.raw dun text) is

text_of_raw : (o : Option KeyData) (parts : CipherParts) (dun : ℕ) (raw text : List ℕ) → IsSomeAnd o (λ key. parts ≡ parts_of key) → text ≡ decipher_unit parts.mode parts.raw dun raw → option_map_or (λ (key : KeyData). dec key dun raw) o raw ≡ text
text_of_raw None parts dun raw text is made = absurd is
text_of_raw (Some key) parts dun raw text is made = sym (made ∙ ap (λ (p : CipherParts). decipher_unit p.mode p.raw dun raw) is)

size_of : (o : Option KeyData) (parts : CipherParts) (size : ℕ) → IsSomeAnd o (λ key. parts ≡ parts_of key) → size ≡ 512 * option_map_or (λ (key : KeyData). sectors_of key.config.unit) o 1 → size ≡ bytes_of parts.unit
size_of None parts size is long = absurd is
size_of (Some key) parts size is long = long ∙ sym (ap (λ (p : CipherParts). bytes_of p.unit) is)

module _ {S : Type 0} (way : SoftData S) (context : Option Context) (parts : CipherParts) (under : Context) (is : IsCipherOf way context parts under) where
  -- what the cipher makes of a text is the text enciphered
  pub soft_enciphers : (text raw : List ℕ) → raw ≡ encipher_unit parts.mode parts.raw under.dun text → raw ≡ enciphered way.medium.keys.keys context text
  soft_enciphers text raw made =
      subst (λ (c : Option Context). raw ≡ enciphered way.medium.keys.keys c text) (sym is.0) (raw_of_text (key_at way.medium.keys.keys under.key) parts under.dun text raw is.1 made)

  pub soft_deciphers : (raw text : List ℕ) → text ≡ decipher_unit parts.mode parts.raw under.dun raw → deciphered way.medium.keys.keys context raw ≡ text
  soft_deciphers raw text made =
      subst (λ (c : Option Context). deciphered way.medium.keys.keys c raw ≡ text) (sym is.0) (text_of_raw (key_at way.medium.keys.keys under.key) parts under.dun raw text is.1 made)

  -- and a unit's bytes are as many as the cipher takes
  pub soft_size : (size : ℕ) → size ≡ 512 * unit_sectors way.medium.keys.keys context → size ≡ bytes_of parts.unit
  soft_size size long =
      size_of (key_at way.medium.keys.keys under.key) parts size is.1 (subst (λ (c : Option Context). size ≡ 512 * unit_sectors way.medium.keys.keys c) is.0 long)

-- a unit that goes by software is one that the soft way takes
module _ {S : Type 0} (owns : S → ℕ → Bool) (disk : DiskData S) (ciphers : List (Option CipherParts)) (has : HasCiphers disk.targets (keys_in disk) ciphers) where
  has_cipher : (o : Option Context) → IsSomeAnd o (λ c. IsSomeAnd (key_at (keys_in disk) c.key) (λ key. all_support disk.targets key.config ≡ false)) → HasCipherOf (record { medium = disk.queue.medium; ciphers = ciphers }) o
  has_cipher None is = absurd is
  has_cipher (Some c) is = of_key (key_at (keys_in disk) c.key) refl is
    where
      of_key : (o : Option KeyData) → key_at (keys_in disk) c.key ≡ o → IsSomeAnd o (λ key. all_support disk.targets key.config ≡ false) → IsSomeAnd o (λ key. At ciphers c.key.0 (Some (parts_of key)))
      of_key None at none = absurd none
      of_key (Some key) at some = has.each c.key.0 key at some

  pub soft_taken : (bios : List MarkedBio) (first count : ℕ) → ArePerformable (keys_in disk) (GoesSoft owns disk) bios first count → ArePerformable (keys_in disk) (TakesSoft owns (record { medium = disk.queue.medium; ciphers = ciphers })) bios first count
  soft_taken bios first count all n from below =
      let p = all n from below in record {
        full = p.full;
        taken = record { sectors = p.taken.sectors; cipher = has_cipher (named_at (keys_in disk) bios n).context p.taken.key };
      }

-- the way as its fields are, and as its contract sees it
pub medium_is : {S : Type 0} (a b : SoftData S) → a ≡ b → a.medium ≡ b.medium
medium_is a b is = ap (λ x. x.medium) is

pub deciphered_is : {S : Type 0} (a b : SoftData S) (context : Option Context) (raw : List ℕ) → a ≡ b → deciphered a.medium.keys.keys context raw ≡ deciphered b.medium.keys.keys context raw
deciphered_is a b context raw is = ap (λ x. deciphered x.medium.keys.keys context raw) is

-- the units of a request that goes by software, as the way is made
module _ {S : Type 0} (owns : S → ℕ → Bool) (inside disk : DiskData S) (ciphers : List (Option CipherParts)) (is_disk : inside ≡ disk) (has : HasCiphers inside.targets (keys_in inside) ciphers) where
  pub soft_units : (bios : List MarkedBio) (count units : ℕ) (keys : KeyList) (way : SoftData S) (medium : MediumData S) (read : List (Option CipherParts)) → units ≡ count → keys ≡ disk.queue.medium.keys → way ≡ record { medium = medium; ciphers = read } → medium ≡ inside.queue.medium → read ≡ ciphers
      → ArePerformable (keys_in disk) (GoesSoft owns disk) bios 0 count → ArePerformable keys.keys (TakesSoft owns way) bios 0 units
  soft_units bios count units keys way medium read is_count is_keys is_way is_medium is_read all =
      let goes : ArePerformable (keys_in inside) (GoesSoft owns inside) bios 0 count = subst (λ (d : DiskData S). ArePerformable (keys_in d) (GoesSoft owns d) bios 0 count) (sym is_disk) all in
      let made : way ≡ record { medium = inside.queue.medium; ciphers = ciphers } =
      is_way ∙ ap (λ (m : MediumData S). let w : SoftData S = record { medium = m; ciphers = read } in w) is_medium ∙ ap (λ (cs : List (Option CipherParts)). let w : SoftData S = record { medium = inside.queue.medium; ciphers = cs } in w) is_read in
      let taken : ArePerformable (keys_in inside) (TakesSoft owns way) bios 0 count =
      subst (λ (w : SoftData S). ArePerformable (keys_in inside) (TakesSoft owns w) bios 0 count) (sym made) (soft_taken owns inside ciphers has bios 0 count goes) in
      let keyed : keys_in inside ≡ keys.keys = ap (λ (d : DiskData S). d.queue.medium.keys.keys) is_disk ∙ sym (ap (λ (k : KeyList). k.keys) is_keys) in
      subst (λ (n : ℕ). ArePerformable keys.keys (TakesSoft owns way) bios 0 n) (sym is_count)
      (subst (λ (ks : List KeyData). ArePerformable ks (TakesSoft owns way) bios 0 count) keyed taken)
