-- The first file of a name.
use Rattle.std.proofs.Common.{◌≡◌, ◌≢◌, ℕ, zero, suc, ◌<◌, Bool, true, false, cond, List, [], ◌∷◌, ◌++◌, length, set, get_or, Option, Some, None, refl, sym, ap, ◌∙◌, arith}
use Rattle.std.specs.Str.{bytes_eq}
use Rattle.std.proofs.lemmas.Option.{none-some}
use Rattle.std.proofs.lemmas.Slice.Eq.{bytes_eq-Decides}
use Rattle.std.proofs.lemmas.Bool.{false_from_ne_true}
use Rattle.bc_base.specs.Folders.{FileData, file_bytes, IsPlaceOf}

same_name : (xs ys : List ℕ) → bytes_eq xs ys ≡ true → xs ≡ ys
same_name xs ys is = (bytes_eq-Decides xs ys).0 is

names_itself : (xs : List ℕ) → bytes_eq xs xs ≡ true
names_itself xs = (bytes_eq-Decides xs xs).1 refl

other_name : (xs ys : List ℕ) → xs ≢ ys → bytes_eq xs ys ≡ false
other_name xs ys apart = false_from_ne_true (bytes_eq xs ys) (λ is. apart (same_name xs ys is))

-- none of this name
pub bytes_of_none : (files : List FileData) (name : List ℕ) → ((k : ℕ) (d : FileData) → k < length files → bytes_eq (get_or files k d).name name ≡ false) → file_bytes files name ≡ None
bytes_of_none [] name none = refl
bytes_of_none (f ∷ files) name none =
    ap (λ (b : Bool). cond b (Some f.bytes) (file_bytes files name)) (none 0 f (omega arith))
    ∙ bytes_of_none files name (λ k d less. none (suc k) d (omega arith))

-- the one that was found
pub bytes_of_place : (files : List FileData) (name : List ℕ) (place : ℕ) (d : FileData) → IsPlaceOf files name place → file_bytes files name ≡ Some (get_or files place d).bytes
bytes_of_place [] name place d is = let l = is.inside in absurd (omega arith)
bytes_of_place (f ∷ files) name zero d is = ap (λ (b : Bool). cond b (Some f.bytes) (file_bytes files name)) (is.named d)
bytes_of_place (f ∷ files) name (suc place) d is =
    ap (λ (b : Bool). cond b (Some f.bytes) (file_bytes files name)) (is.first 0 f (omega arith))
    ∙ bytes_of_place files name place d record { inside = let l = is.inside in omega arith; named = λ e. is.named e; first = λ k e less. is.first (suc k) e (omega arith) }

-- a file in place of the first one of its name
pub set_named : (files : List FileData) (file : FileData) (place : ℕ) → IsPlaceOf files file.name place → file_bytes (set files place file) file.name ≡ Some file.bytes
set_named [] file place is = let l = is.inside in absurd (omega arith)
set_named (f ∷ files) file zero is = ap (λ (b : Bool). cond b (Some file.bytes) (file_bytes files file.name)) (names_itself file.name)
set_named (f ∷ files) file (suc place) is =
    ap (λ (b : Bool). cond b (Some f.bytes) (file_bytes (set files place file) file.name)) (is.first 0 f (omega arith))
    ∙ set_named files file place record { inside = let l = is.inside in omega arith; named = λ e. is.named e; first = λ k e less. is.first (suc k) e (omega arith) }

pub set_other : (files : List FileData) (file : FileData) (place : ℕ) (other : List ℕ) → IsPlaceOf files file.name place → other ≢ file.name → file_bytes (set files place file) other ≡ file_bytes files other
set_other [] file place other is apart = refl
set_other (f ∷ files) file zero other is apart =
    let named : f.name ≡ file.name = same_name f.name file.name (is.named f) in
    ap (λ (b : Bool). cond b (Some file.bytes) (file_bytes files other)) (other_name file.name other (λ e. apart (sym e)))
    ∙ sym (ap (λ (b : Bool). cond b (Some f.bytes) (file_bytes files other)) (other_name f.name other (λ e. apart (sym e ∙ named))))
set_other (f ∷ files) file (suc place) other is apart =
    ap (λ (rest : Option (List ℕ)). cond (bytes_eq f.name other) (Some f.bytes) rest)
    (set_other files file place other record { inside = let l = is.inside in omega arith; named = λ e. is.named e; first = λ k e less. is.first (suc k) e (omega arith) } apart)

-- a file after those that don't have its name
pub push_named : (files : List FileData) (file : FileData) → file_bytes files file.name ≡ None → file_bytes (files ++ file ∷ []) file.name ≡ Some file.bytes
push_named [] file none = ap (λ (b : Bool). cond b (Some file.bytes) None) (names_itself file.name)
push_named (f ∷ files) file none =
    (elim (bytes_eq f.name file.name) as (λ (b : Bool). cond b (Some f.bytes) (file_bytes files file.name) ≡ None → (file_bytes files file.name ≡ None → file_bytes (files ++ file ∷ []) file.name ≡ Some file.bytes) → cond b (Some f.bytes) (file_bytes (files ++ file ∷ []) file.name) ≡ Some file.bytes) [
      | true ↦ λ is more. absurd (none-some f.bytes (sym is))
      | false ↦ λ is more. more is
    ]) none (push_named files file)

pub push_other : (files : List FileData) (file : FileData) (other : List ℕ) → other ≢ file.name → file_bytes (files ++ file ∷ []) other ≡ file_bytes files other
push_other [] file other apart = ap (λ (b : Bool). cond b (Some file.bytes) None) (other_name file.name other (λ e. apart (sym e)))
push_other (f ∷ files) file other apart = ap (λ (rest : Option (List ℕ)). cond (bytes_eq f.name other) (Some f.bytes) rest) (push_other files file other apart)
