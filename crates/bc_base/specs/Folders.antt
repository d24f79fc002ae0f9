-- What a folder has under each name, and what a call does to it, as far as the folder tells. A name is its bytes in
-- UTF-8.
use Rattle.std.specs.Prelude.{◌≡◌, ◌≢◌, ℕ, ◌<◌, List, [], ◌∷◌, length, slice_index_or, true, false, Option, Some, None, IfSome, IsSomeAnd, if◌then◌else◌}
use Rattle.std.specs.Str.{bytes_eq}
use Rattle.bc_base.specs.Memory.{Calls}

-- the bytes under each name, where the folder has it
abbrev pub Files : Type 0
Files = List ℕ → Option (List ℕ)

-- under this name the folder has these bytes
abbrev pub Has : Option Files → List ℕ → List ℕ → Type 0
Has held name bytes = IfSome held (λ files. files name ≡ Some bytes)

-- it doesn't have the name
abbrev pub Lacks : Option Files → List ℕ → Type 0
Lacks held name = IfSome held (λ files. files name ≡ None)

-- it has more than so many bytes under the name
abbrev pub HasLonger : Option Files → List ℕ → ℕ → Type 0
HasLonger held name limit = IfSome held (λ files. IsSomeAnd (files name) (λ bytes. limit < length bytes))

-- it has under each name what it had
abbrev pub HasSame : Option Files → Option Files → Type 0
HasSame None now = now ≡ None
HasSame (Some files) now = IsSomeAnd now (λ held. (name : List ℕ) → held name ≡ files name)

-- it has under each other name what it had
abbrev pub HasSameBut : List ℕ → Option Files → Option Files → Type 0
HasSameBut name None now = now ≡ None
HasSameBut name (Some files) now = IsSomeAnd now (λ held. (other : List ℕ) → other ≢ name → held other ≡ files other)

-- a file in memory
pub record FileData : Type 0 where
  pub name : List ℕ
  pub bytes : List ℕ

-- a folder in memory: its files, and its calls
pub record FolderData : Type 0 where
  pub files : List FileData
  pub calls : Calls

-- the bytes of the first file of this name
abbrev pub file_bytes : List FileData → Files
file_bytes [] name = None
file_bytes (file ∷ files) name = if bytes_eq file.name name then Some file.bytes else file_bytes files name

-- the place of the first file of this name
pub record IsPlaceOf (files : List FileData) (name : List ℕ) (place : ℕ) : Type 0 where
  pub inside : place < length files
  pub named : (d : FileData) → bytes_eq (slice_index_or files place d).name name ≡ true
  pub first : (k : ℕ) (d : FileData) → k < place → bytes_eq (slice_index_or files k d).name name ≡ false
