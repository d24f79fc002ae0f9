-- What is made ahead of a section: units with the bytes of a text, and a bio for each operation that has one.
use Rattle.std.proofs.Common.{◌≡◌, ℕ, zero, suc, ◌+◌, ◌*◌, ◌-◌, ◌<◌, ◌≤◌, List, [], ◌∷◌, ◌++◌, Option, Some, None, length, map, refl, sym, ap, subst, ◌∙◌, arith, length-take, length-drop, drop}
use Rattle.std.specs.Prelude.{slice_get}
use Rattle.std.specs.List.{AllByRecursion, enumerate_from, range_with_len}
use Rattle.std.proofs.lemmas.List.Elements.{All-from_recursion}
use Rattle.std.proofs.lemmas.List.FromFn.{length-map-range_with_len, map-range_with_len_more}
use Rattle.std.proofs.lemmas.List.{length-replicate}
use Rattle.std.proofs.lemmas.Option.{none-some}
use Rattle.bc_base.specs.Lists.{At, AllAt}
use Rattle.bc_bio.specs.declared.access.Access.{Access}
use Rattle.bc_bio.specs.declared.access.Access.TheVariants.{Read, Write}
use Rattle.bc_bio.specs.declared.bio.Bio.{Bio}
use Rattle.bc_bio.specs.declared.context.Context.{Context}
use Rattle.bc_bio.specs.declared.unit.Unit.{Unit}
use Rattle.bc_bio.specs.declared.unit.Unit.TheVariants.{Full}
use Rattle.bc_bio.specs.Conditions.{IsFull}
use Rattle.bc_bio.specs.Extent.{unit_sectors}
use Rattle.bc_queue.specs.RequestUnits.{written_bytes}
use Rattle.bc_script.specs.declared.op.Op.{Op}
use Rattle.bc_script.specs.declared.op.Op.TheVariants as ops
use Rattle.bc_script.specs.declared.op.Text.{Text}
use Rattle.bc_script.specs.declared.op.Text.TheVariants.{Fill, Bytes}
use Rattle.bc_script.specs.Script.{Script, IsScriptOp, IsText, keys_of}
use Rattle.bc_script.specs.Bios.{bio_of}
use Rattle.bc_script.specs.Plan.{text_at, written_at, HasUnit}
use Rattle.bc_threads.specs.PreparedBios.{IsBioOf, IsMadeFor, IsPrepared}
use Rattle.bc_section.proofs.Numbered.{has_unit}

text_length : (text : Text) (size i : ℕ) → HasUnit text size i → length (text_at text size i) ≡ size
text_length (Fill byte) size i has = length-replicate size byte
text_length (Bytes bytes) size i has = omega (arith, length-take (size * i + size - size * i) (drop (size * i) bytes), length-drop (size * i) bytes)

from_none : (i : ℕ) → 0 + i ≡ i
from_none i = omega arith

-- a unit with its bytes of a text
abbrev pub unit_with : Text → ℕ → ℕ → Unit
unit_with text size i = Full (text_at text size i)

-- as many
abbrev pub units_with : Text → ℕ → ℕ → List Unit
units_with text size count = map (unit_with text size) (range_with_len 0 count)

unit_in : (f : ℕ → Unit) (a n i : ℕ) → i < n → slice_get (map f (range_with_len a n)) i ≡ Some (f (a + i))
unit_in f a zero i lt = absurd (omega arith)
unit_in f a (suc n) zero lt = ap (λ (k : ℕ). Some (f k)) (none a)
  where
    none : (a : ℕ) → a ≡ a + 0
    none a = omega arith
unit_in f a (suc n) (suc i) lt = unit_in f (a + 1) n i (omega arith) ∙ ap (λ (k : ℕ). Some (f k)) (next a i)
  where
    next : (a i : ℕ) → a + 1 + i ≡ a + suc i
    next a i = omega arith

all_full : (sectors : ℕ) (text : Text) (a n : ℕ) → ((i : ℕ) → i < a + n → HasUnit text (512 * sectors) i) → AllByRecursion (IsFull sectors) (map (unit_with text (512 * sectors)) (range_with_len a n))
all_full sectors text a zero has = tt
all_full sectors text a (suc n) has = (text_length text (512 * sectors) a (has a (omega arith)), all_full sectors text (a + 1) n (λ i lt. has i (omega arith)))

module _ (script : Script) (op : ℕ) (operation : Op) (access : Access) (context : Option Context) (sector units : ℕ) (text : Text) where
  abbrev size : ℕ
  size = 512 * unit_sectors (keys_of script) context

  -- the bio that was made is the operation's
  pub is_bio_of : (made : List Unit) → made ≡ units_with text size units → bio_of operation ≡ Some (record { access = access; context = context; sector = sector; units = units })
      → ((i : ℕ) → i < units → HasUnit text size i) → ((i : ℕ) → written_bytes access (Some (unit_with text size i)) ≡ written_at operation size i)
      → IsBioOf script op operation (record { tag = op; access = access; sector = sector; units = made; context = context })
  is_bio_of made are is has writes = subst (λ (us : List Unit). IsBioOf script op operation (record { tag = op; access = access; sector = sector; units = us; context = context })) (sym are) (record {
    tag = refl;
    extent = is ∙ ap (λ (n : ℕ). Some (record { access = access; context = context; sector = sector; units = n })) (sym long);
    full = All-from_recursion (IsFull (unit_sectors (keys_of script) context)) (units_with text size units) (all_full (unit_sectors (keys_of script) context) text 0 units (λ i lt. has i (omega arith)));
    bytes = λ i within. ap (written_bytes access) (unit_in (unit_with text size) 0 units i (omega (arith, long)) ∙ ap (λ (k : ℕ). Some (unit_with text size k)) (from_none i)) ∙ writes i;
  })
    where
      long : length (units_with text size units) ≡ units
      long = length-map-range_with_len (unit_with text size) 0 units

made_write : (script : Script) (op : ℕ) (context : Option Context) (sector units : ℕ) (text : Text) (made : List Unit) → made ≡ units_with text (512 * unit_sectors (keys_of script) context) units
    → IsText (keys_of script) context units text
    → IsBioOf script op (ops.Write context sector units text) (record { tag = op; access = Write; sector = sector; units = made; context = context })
made_write script op context sector units text made are is =
    is_bio_of script op (ops.Write context sector units text) Write context sector units text made are refl (λ i lt. has_unit (keys_of script) context units text i is lt) (λ i. refl)

made_read : (script : Script) (op : ℕ) (context : Option Context) (sector units : ℕ) (made : List Unit) → made ≡ units_with (Fill 0) (512 * unit_sectors (keys_of script) context) units
    → IsBioOf script op (ops.Read context sector units) (record { tag = op; access = Read; sector = sector; units = made; context = context })
made_read script op context sector units made are = is_bio_of script op (ops.Read context sector units) Read context sector units (Fill 0) made are refl (λ i lt. tt) (λ i. refl)

prepared_one : (script : Script) (bios : List (Option Bio)) (op : ℕ) (operation : Op) (made : Option Bio) → At bios op made → IsMadeFor script op operation made → IsPrepared script bios (op, operation)
prepared_one script bios op (ops.Write context sector units text) (Some bio) at is = (bio, at, is)
prepared_one script bios op (ops.Write context sector units text) None at is = absurd is
prepared_one script bios op (ops.Read context sector units) (Some bio) at is = (bio, at, is)
prepared_one script bios op (ops.Read context sector units) None at is = absurd is
prepared_one script bios op (ops.Evict key) made at is = tt
prepared_one script bios op (ops.Reset device) made at is = tt
prepared_one script bios op ops.Plug made at is = tt
prepared_one script bios op ops.Unplug made at is = tt

each_numbered : {A : Type 0} (P : ℕ × A → Type 0) (n : ℕ) (xs : List A) → ((k : ℕ) (x : A) → At xs k x → P (n + k, x)) → AllByRecursion P (enumerate_from n xs)
each_numbered P n [] all = tt
each_numbered {A} P n (x ∷ xs) all = (
  subst (λ (k : ℕ). P (k, x)) (none n) (all 0 x refl),
  each_numbered P (n + 1) xs (λ k y at. subst (λ (j : ℕ). P (j, y)) (next n k) (all (suc k) y at)),
)
  where
    none : (n : ℕ) → n + 0 ≡ n
    none n = omega arith

    next : (n k : ℕ) → n + suc k ≡ n + 1 + k
    next n k = omega arith

-- each operation's bio is there, where one thing was made for each operation
pub prepared_all : (script : Script) (section : List Op) (bios : List (Option Bio)) → length section ≤ length bios → ((k : ℕ) → AllAt bios k (λ made. AllAt section k (λ operation. IsMadeFor script k operation made)))
    → AllByRecursion (IsPrepared script bios) (enumerate_from 0 section)
prepared_all script section bios long all = each_numbered (IsPrepared script bios) 0 section (λ k operation at.
    let made = there bios k (let lt = within section k operation at in omega arith) in
    subst (λ (j : ℕ). IsPrepared script bios (j, operation)) (sym (from_none k)) (prepared_one script bios k operation made.0 made.1 (all k made.0 made.1 operation at)))
  where
    within : (xs : List Op) (k : ℕ) (x : Op) → At xs k x → k < length xs
    within [] k x at = absurd (none-some x at)
    within (y ∷ xs) zero x at = omega arith
    within (y ∷ xs) (suc k) x at = let r = within xs k x at in omega arith

    there : (xs : List (Option Bio)) (k : ℕ) → k < length xs → (x : Option Bio) × At xs k x
    there [] k lt = absurd (omega arith)
    there (x ∷ xs) zero lt = (x, refl)
    there (x ∷ xs) (suc k) lt = there xs k (omega arith)

-- one unit more
pub units_more : (text : Text) (size n : ℕ) (units more : List Unit) (bytes : List ℕ) → units ≡ units_with text size n → bytes ≡ text_at text size n → more ≡ units ++ Full bytes ∷ []
    → more ≡ units_with text size (n + 1)
units_more text size n units more bytes are is grown =
    grown ∙ ap (λ (us : List Unit). us ++ Full bytes ∷ []) are ∙ ap (λ (b : List ℕ). units_with text size n ++ Full b ∷ []) is
    ∙ sym (map-range_with_len_more (unit_with text size) 0 n n (from_none n))

-- the same where the operation is known by an equation
pub made_of_write : (script : Script) (op : ℕ) (operation : Op) (context : Option Context) (sector units : ℕ) (text : Text) (made : List Unit) → operation ≡ ops.Write context sector units text
    → made ≡ units_with text (512 * unit_sectors (keys_of script) context) units → IsScriptOp script operation
    → IsMadeFor script op operation (Some (record { tag = op; access = Write; sector = sector; units = made; context = context }))
made_of_write script op operation context sector units text made is are rules =
    subst (λ (o : Op). IsMadeFor script op o (Some (record { tag = op; access = Write; sector = sector; units = made; context = context }))) (sym is)
    (made_write script op context sector units text made are (subst (IsScriptOp script) is rules).1)

pub made_of_read : (script : Script) (op : ℕ) (operation : Op) (context : Option Context) (sector units : ℕ) (made : List Unit) → operation ≡ ops.Read context sector units
    → made ≡ units_with (Fill 0) (512 * unit_sectors (keys_of script) context) units
    → IsMadeFor script op operation (Some (record { tag = op; access = Read; sector = sector; units = made; context = context }))
made_of_read script op operation context sector units made is are =
    subst (λ (o : Op). IsMadeFor script op o (Some (record { tag = op; access = Read; sector = sector; units = made; context = context }))) (sym is)
    (made_read script op context sector units made are)
