-- The key that has a name, by its number; and the index that finds it.
use Rattle.std.specs.Prelude.{◌≡◌, ℕ, ◌<◌, List, length, Option, Some, Vec}
use Rattle.std.specs.Ordering.{nat_cmp}
use Rattle.std.specs.Cmp.Lexicographic.{slice_cmp}
use Rattle.std.specs.BTreeMap.{BTreeMap, get_by}
use Rattle.bc_key.specs.declared.keys.KeyNo.{KeyNo}
use Rattle.bc_script.specs.declared.named_key.NamedKey.{NamedKey}
use Rattle.bc_script.specs.ScriptText.{key_name_of}

-- this key is one of the keys, and has the name
pub record IsNamed (keys : List NamedKey) (name : List ℕ) (key : KeyNo) : Type 0 where
  pub within : key.0 < length keys
  pub name_is : name ≡ key_name_of keys key

-- none of the keys has it
abbrev pub IsNoName : List NamedKey → List ℕ → Type 0
IsNoName keys name = (key : KeyNo) → IsNamed keys name key → ⊥

-- the number that stands in an index at a name
abbrev pub number_at : {Y : Type 0} → BTreeMap (Vec ℕ Y) KeyNo → List ℕ → Option KeyNo
number_at numbers name = get_by (λ other. slice_cmp nat_cmp name other.items) numbers

-- the index has each key's number at its name, and no other names
pub record IsIndex {Y : Type 0} (keys : List NamedKey) (numbers : BTreeMap (Vec ℕ Y) KeyNo) : Type 0 where
  pub has : (key : KeyNo) → key.0 < length keys → number_at numbers (key_name_of keys key) ≡ Some key
  pub only : (name : List ℕ) (key : KeyNo) → number_at numbers name ≡ Some key → IsNamed keys name key
