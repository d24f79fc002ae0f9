-- A piece of a request: its units up to the first on another device.
use Rattle.std.proofs.Common.{◌≡◌, ℕ, zero, suc, ◌+◌, ◌-◌, ◌<◌, ◌≤◌, Bool, true, false, cond, List, [], ◌∷◌, length, take, drop, refl, sym, ap, subst, ◌∙◌, arith, Option, Some, None, length-drop}
use Rattle.std.specs.Prelude.{◌==◌, nat_lt, not, position, slice_get}
use Rattle.std.specs.List.{position_or_len}
use Rattle.std.proofs.lemmas.Bool.Decides.{nat_tests}
use Rattle.std.proofs.lemmas.List.{length-append}
use Rattle.std.proofs.lemmas.List.FromFn.{length-map-range_with_len}
use Rattle.std.proofs.lemmas.List.Sums.{sum_by-cons}
use Rattle.bc_key.specs.KeyData.{KeyData}
use Rattle.std.specs.Option.{option_map}
use Rattle.std.proofs.lemmas.Bool.{eq-eqb, ne_eqb}
use Rattle.std.proofs.lemmas.Option.{same_Some, none-some}
use Rattle.bc_bio.specs.Chunks.{chunks_with, chunk_by}
use Rattle.bc_bio.specs.Windows.{NamedUnit, TaggedBio, named_unit, named_units, units_of_request, count_units}
use Rattle.bc_stack.specs.declared.target.Target.{Target}
use Rattle.bc_stack.specs.Pieces.{device_of, pieces_of, EndsPiece}

module _ {X : Type 0} (number : X → ℕ) where
  abbrev together : X → X → Bool
  together x y = number x == number y

  first_chunk : (y : X) (ys : List X) → (zs : List X) × (chunks : List (List X)) × (chunk_by together (y ∷ ys) ≡ (y ∷ zs) ∷ chunks)
  first_chunk y ys = go (chunk_by together ys)
    where
      go : (chunks : List (List X)) → (zs : List X) × (rest : List (List X)) × (chunks_with together y chunks ≡ (y ∷ zs) ∷ rest)
      go [] = ([], [], refl)
      go ([] ∷ chunks) = ([], [] ∷ chunks, refl)
      go ((w ∷ ws) ∷ chunks) =
          (elim (number y == number w) as (λ (b : Bool). (zs : List X) × (rest : List (List X)) × (cond b ((y ∷ w ∷ ws) ∷ chunks) ((y ∷ []) ∷ (w ∷ ws) ∷ chunks) ≡ (y ∷ zs) ∷ rest)) [
            | true ↦ (w ∷ ws, chunks, refl)
            | false ↦ ([], (w ∷ ws) ∷ chunks, refl)
          ])

  stops : (x y : X) (ys : List X) → (number x ≡ number y → ⊥) → chunk_by together (x ∷ y ∷ ys) ≡ (x ∷ []) ∷ chunk_by together (y ∷ ys)
  stops x y ys other =
      let r = first_chunk y ys in
      subst (λ (cs : List (List X)). chunks_with together x cs ≡ (x ∷ []) ∷ cs) (sym r.2)
      (ap (λ (b : Bool). cond b ((x ∷ y ∷ r.0) ∷ r.1) ((x ∷ []) ∷ (y ∷ r.0) ∷ r.1)) (ne_eqb (number x) (number y) other))

  goes_on : (x y : X) (ys zs : List X) (chunks : List (List X)) → number x ≡ number y → chunk_by together (y ∷ ys) ≡ (y ∷ zs) ∷ chunks → chunk_by together (x ∷ y ∷ ys) ≡ (x ∷ y ∷ zs) ∷ chunks
  goes_on x y ys zs chunks same is =
      ap (λ (cs : List (List X)). chunks_with together x cs) is
      ∙ ap (λ (b : Bool). cond b ((x ∷ y ∷ zs) ∷ chunks) ((x ∷ []) ∷ (y ∷ zs) ∷ chunks)) (eq-eqb (number x) (number y) same)

  -- the first chunk of a list: the elements with the first one's number, up to one with another
  pub chunk_to : (x : X) (xs : List X) (k : ℕ) → k ≤ length xs → ((i : ℕ) → i < k → option_map number (slice_get xs i) ≡ Some (number x))
      → (k < length xs → option_map number (slice_get xs k) ≡ Some (number x) → ⊥)
      → chunk_by together (x ∷ xs) ≡ (x ∷ take k xs) ∷ chunk_by together (drop k xs)
  chunk_to x [] zero within same other = refl
  chunk_to x [] (suc k) within same other = absurd (omega arith)
  chunk_to x (y ∷ ys) zero within same other = stops x y ys (λ e. other (omega arith) (ap (λ (n : ℕ). Some n) (sym e)))
  chunk_to x (y ∷ ys) (suc k) within same other =
      let here : number y ≡ number x = same_Some (number y) (number x) (same 0 (omega arith)) in
      let rest = chunk_to y ys k (omega arith) (λ i below. same (suc i) (omega arith) ∙ ap (λ (n : ℕ). Some n) (sym here)) (λ inside e. other (omega arith) (e ∙ ap (λ (n : ℕ). Some n) here)) in
      goes_on x y ys (take k ys) (chunk_by together (drop k ys)) (sym here) rest

pub slice_get-drop : {X : Type 0} (xs : List X) (n i : ℕ) → slice_get (drop n xs) i ≡ slice_get xs (n + i)
slice_get-drop xs zero i = ap (slice_get xs) (let same : i ≡ 0 + i = omega arith in same)
slice_get-drop [] (suc n) i = refl
slice_get-drop (x ∷ xs) (suc n) i = slice_get-drop xs n i ∙ ap (slice_get (x ∷ xs)) (let same : suc (n + i) ≡ suc n + i = omega arith in same)

-- the first piece of a list of units
piece_of_list : (targets : List Target) (units : List NamedUnit) (device k : ℕ) → 1 ≤ k → k ≤ length units → ((i : ℕ) → i < k → option_map (device_of targets) (slice_get units i) ≡ Some device)
    → (k < length units → option_map (device_of targets) (slice_get units k) ≡ Some device → ⊥)
    → pieces_of targets units ≡ take k units ∷ pieces_of targets (drop k units)
piece_of_list targets [] device k some within same other = absurd (omega arith)
piece_of_list targets (unit ∷ units) device zero some within same other = absurd (omega arith)
piece_of_list targets (unit ∷ units) device (suc k) some within same other =
    let here : device_of targets unit ≡ device = same_Some (device_of targets unit) device (same 0 (omega arith)) in
    chunk_to (device_of targets) unit units k (omega arith) (λ i below. same (suc i) (omega arith) ∙ ap (λ (n : ℕ). Some n) (sym here)) (λ inside e. other (omega arith) (e ∙ ap (λ (n : ℕ). Some n) here))

-- the piece that begins at a unit
pub piece_from : (targets : List Target) (units : List NamedUnit) (first device end : ℕ) → EndsPiece targets units first device end
    → pieces_of targets (drop first units) ≡ take (end - first) (drop first units) ∷ pieces_of targets (drop (end - first) (drop first units))
piece_from targets units first device end ends =
    let len = length-drop first units in
    let after = ends.after_first in
    let within = ends.within in
    let last : first + (end - first) ≡ end = omega arith in
    piece_of_list targets (drop first units) device (end - first) (omega arith) (omega (arith, len))
    (λ i below. ap (option_map (device_of targets)) (slice_get-drop units first i) ∙ ends.on_device (first + i) (omega arith) (omega arith))
    (λ inside e. ends.changes (omega (arith, len)) (sym (ap (λ (n : ℕ). option_map (device_of targets) (slice_get units n)) last) ∙ sym (ap (option_map (device_of targets)) (slice_get-drop units first (end - first))) ∙ e))

-- ---- what the calls are given

position_within : {X : Type 0} (test : X → Bool) (xs : List X) → position_or_len test xs ≤ length xs
position_within test [] = omega arith
position_within test (x ∷ xs) =
    let rest = position_within test xs in
    elim (test x) as (λ (b : Bool). cond (not b) (1 + position_or_len test xs) 0 ≤ length (x ∷ xs)) [ true ↦ omega arith | false ↦ omega arith ]

-- where no element passes a test, the first that does is the one after the last
pub position_none : {X : Type 0} (test : X → Bool) (xs : List X) → None ≡ position test xs → position_or_len test xs ≡ length xs
position_none test xs none =
    let within = position_within test xs in
    let at = position_or_len test xs in
    (elim (nat_lt at (length xs)) as (λ (b : Bool). nat_lt at (length xs) ≡ b → None ≡ cond b (Some at) None → at ≡ length xs) [
      | true ↦ λ is e. absurd (none-some at e)
      | false ↦ λ is e. let past : length xs ≤ at = grind (arith, nat_tests, is) in omega arith
    ]) refl none

-- the units of a request are as many as it counts
pub length-units_of_request : (keys : List KeyData) (bios : List TaggedBio) → length (units_of_request keys bios) ≡ count_units bios
length-units_of_request keys [] = refl
length-units_of_request keys (tagged ∷ bios) =
    let here = length-map-range_with_len (named_unit keys tagged) 0 tagged.bio.units in
    let both = length-append (named_units keys tagged) (units_of_request keys bios) in
    let rest = length-units_of_request keys bios in
    let sum = sum_by-cons (λ (t : TaggedBio). t.bio.units) tagged bios in
    omega (arith, here, both, rest, sum)

-- a unit's device, where its unit lies on one
pub device_fits : (targets : List Target) (found : Option NamedUnit) (device : ℕ) → option_map (device_of targets) found ≡ Some device
    → ((unit : NamedUnit) → found ≡ Some unit → device_of targets unit < length targets) → device < length targets
device_fits targets None device is located = absurd (none-some device is)
device_fits targets (Some unit) device is located = subst (λ (n : ℕ). n < length targets) (same_Some (device_of targets unit) device is) (located unit refl)
