-- Pieces of a request, one after the other.
use Rattle.std.proofs.Common.{◌≡◌, ◌≢◌, ℕ, zero, suc, ◌+◌, ◌-◌, ◌<◌, ◌≤◌, Bool, true, false, cond, List, [], ◌∷◌, ◌++◌, length, take, drop, get_or, append-nil, append_assoc, refl, sym, ap, subst, ◌∙◌, arith, inl, inr, Option, Some, None, length-drop}
use Rattle.std.specs.Prelude.{◌==◌, slice_get, sum_by}
use Rattle.std.specs.Option.{option_map}
use Rattle.std.proofs.lemmas.Bool.{eq-eqb, ne_eqb, cases_eq}
use Rattle.std.proofs.lemmas.Option.{none-some, same_Some}
use Rattle.std.proofs.Math.Logic.{⊎_elim}
use Rattle.std.proofs.lemmas.List.Sums.{sum_by-cons}
use Rattle.std.specs.Prelude.{IsSomeAnd}
use Rattle.std.specs.Option.{unwrap_or}
use Rattle.bc_bio.specs.Extent.{unit_sectors}
use Rattle.bc_bio.specs.Conditions.{IsFull}
use Rattle.bc_bio.specs.declared.context.Context.{Context}
use Rattle.bc_queue.specs.RequestUnits.{named_at, no_unit}
use Rattle.bc_queue.specs.Carrying.{IsPerformableUnit}
use Rattle.bc_key.specs.KeyData.{KeyData}
use Rattle.bc_bio.specs.Chunks.{chunks_with, chunk_by}
use Rattle.bc_bio.specs.Windows.{NamedUnit, count_units, units_of_request}
use Rattle.bc_bio.specs.Requests.{RequestParts, tagged_bios, unit_in}
use Rattle.bc_stack.specs.declared.target.Target.{Target}
use Rattle.bc_stack.specs.Pieces.{device_of, pieces_of}
use Rattle.bc_pieces.specs.Pieces.{DeviceFacts, CarriesPiece, CarriesFirst, CarriesPieces, HasCarried, IsOnDevice, piece_part, pieces_in, request_units}
use Rattle.bc_stack.proofs.PieceLaws.{length-units_of_request, slice_get-drop}

-- ---- lists

drop_nil : {X : Type 0} (k : ℕ) → drop {A = X} k [] ≡ []
drop_nil zero = refl
drop_nil (suc k) = refl

pub drop_drop : {X : Type 0} (xs : List X) (n k : ℕ) → drop k (drop n xs) ≡ drop (n + k) xs
drop_drop xs zero k = ap (λ n. drop n xs) (let same : k ≡ 0 + k = omega arith in same)
drop_drop [] (suc n) k = drop_nil k ∙ sym (drop_nil (suc n + k))
drop_drop (x ∷ xs) (suc n) k = drop_drop xs n k ∙ ap (λ m. drop m (x ∷ xs)) (let same : suc (n + k) ≡ suc n + k = omega arith in same)

length_take : {X : Type 0} (xs : List X) (k : ℕ) → k ≤ length xs → length (take k xs) ≡ k
length_take [] zero within = refl
length_take [] (suc k) within = absurd (omega (arith, within))
length_take (x ∷ xs) zero within = refl
length_take (x ∷ xs) (suc k) within = ap suc (length_take xs k (omega (arith, within)))

length_part : {X : Type 0} (xs : List X) (n k : ℕ) → n + k ≤ length xs → length (take k (drop n xs)) ≡ k
length_part xs zero k within = length_take xs k (omega (arith, within))
length_part [] (suc n) k within = absurd (omega (arith, within))
length_part (x ∷ xs) (suc n) k within = length_part xs n k (omega (arith, within))

pub drop_all : {X : Type 0} (xs : List X) (n : ℕ) → length xs ≤ n → drop n xs ≡ []
drop_all [] zero past = refl
drop_all [] (suc n) past = refl
drop_all (x ∷ xs) zero past = absurd (omega (arith, past))
drop_all (x ∷ xs) (suc n) past = drop_all xs n (omega (arith, past))

sum_end : {X : Type 0} (xss : List (List X)) (xs : List X) → sum_by length (xss ++ xs ∷ []) ≡ sum_by length xss + length xs
sum_end {X = X} [] xs = let one = sum_by-cons (λ (l : List X). length l) xs [] in omega (arith, one)
sum_end {X = X} (ys ∷ xss) xs =
    let more = sum_by-cons (λ (l : List X). length l) ys (xss ++ xs ∷ []) in
    let fewer = sum_by-cons (λ (l : List X). length l) ys xss in
    let rest = sum_end xss xs in
    omega (arith, more, fewer, rest)

-- ---- one chunk

module _ {X : Type 0} (number : X → ℕ) where
  abbrev together : X → X → Bool
  together x y = number x == number y

  first_chunk : (y : X) (ys : List X) → (zs : List X) × (chunks : List (List X)) × (chunk_by together (y ∷ ys) ≡ (y ∷ zs) ∷ chunks)
  first_chunk y ys = go (chunk_by together ys)
    where
      go : (chunks : List (List X)) → (zs : List X) × (rest : List (List X)) × (chunks_with together y chunks ≡ (y ∷ zs) ∷ rest)
      go [] = ([], [], refl)
      go ([] ∷ chunks) = ([], [] ∷ chunks, refl)
      go ((w ∷ ws) ∷ chunks) =
          (elim (number y == number w) as (λ (b : Bool). (zs : List X) × (rest : List (List X)) × (cond b ((y ∷ w ∷ ws) ∷ chunks) ((y ∷ []) ∷ (w ∷ ws) ∷ chunks) ≡ (y ∷ zs) ∷ rest)) [
            | true ↦ (w ∷ ws, chunks, refl)
            | false ↦ ([], (w ∷ ws) ∷ chunks, refl)
          ])

  nothing_taken : (y : X) (ys : List X) (k : ℕ) → [] ≡ take k (y ∷ ys) → k ≡ 0
  nothing_taken y ys zero is = refl
  nothing_taken y ys (suc k) is = let long = ap length is in absurd (omega (arith, long))

  -- the elements of the first chunk of a list have the first one's number
  pub in_chunk : (xs : List X) (k d i : ℕ) (rest : List (List X)) → chunk_by together xs ≡ take k xs ∷ rest → option_map number (slice_get xs 0) ≡ Some d → i < k → i < length xs → option_map number (slice_get xs i) ≡ Some d
  in_chunk [] k d i rest is first below inside = absurd (omega (arith, inside))
  in_chunk (x ∷ xs) k d zero rest is first below inside = first
  in_chunk (x ∷ []) k d (suc i) rest is first below inside = absurd (omega (arith, inside))
  in_chunk (x ∷ y ∷ ys) zero d (suc i) rest is first below inside = absurd (omega (arith, below))
  in_chunk (x ∷ y ∷ ys) (suc k) d (suc i) rest is first below inside =
      let c = first_chunk y ys in
      let shape : cond (number x == number y) ((x ∷ y ∷ c.0) ∷ c.1) ((x ∷ []) ∷ (y ∷ c.0) ∷ c.1) ≡ (x ∷ take k (y ∷ ys)) ∷ rest = sym (ap (λ (cs : List (List X)). chunks_with together x cs) c.2) ∙ is in
      ⊎_elim
      (λ (same : number x ≡ number y).
      let both : (x ∷ y ∷ c.0) ∷ c.1 ≡ (x ∷ take k (y ∷ ys)) ∷ rest = ap (λ (b : Bool). cond b ((x ∷ y ∷ c.0) ∷ c.1) ((x ∷ []) ∷ (y ∷ c.0) ∷ c.1)) (sym (eq-eqb (number x) (number y) same)) ∙ shape in
      let front : y ∷ c.0 ≡ take k (y ∷ ys) = ap (λ (ls : List (List X)). drop 1 (get_or ls 0 [])) both in
      let back : c.1 ≡ rest = ap (λ (ls : List (List X)). drop 1 ls) both in
      in_chunk (y ∷ ys) k d i rest (c.2 ∙ ap (λ l. l ∷ c.1) front ∙ ap (λ l. take k (y ∷ ys) ∷ l) back) (ap (λ (n : ℕ). Some n) (sym same) ∙ first) (omega (arith, below)) (omega (arith, inside)))
      (λ (other : number x ≢ number y).
      let both : (x ∷ []) ∷ (y ∷ c.0) ∷ c.1 ≡ (x ∷ take k (y ∷ ys)) ∷ rest = ap (λ (b : Bool). cond b ((x ∷ y ∷ c.0) ∷ c.1) ((x ∷ []) ∷ (y ∷ c.0) ∷ c.1)) (sym (ne_eqb (number x) (number y) other)) ∙ shape in
      let none : [] ≡ take k (y ∷ ys) = ap (λ (ls : List (List X)). drop 1 (get_or ls 0 [])) both in
      let zeroth : k ≡ 0 = nothing_taken y ys k none in
      absurd (omega (arith, below, zeroth)))
      (cases_eq (number x) (number y))

-- the units of a piece lie on the first one's device
pub on_device : (targets : List Target) (units : List NamedUnit) (first count device n : ℕ) (rest : List (List NamedUnit)) → pieces_of targets (drop first units) ≡ take count (drop first units) ∷ rest
    → option_map (device_of targets) (slice_get units first) ≡ Some device → first + count ≤ length units → first ≤ n → n < first + count → option_map (device_of targets) (slice_get units n) ≡ Some device
on_device targets units first count device n rest is here within least below =
    let number = device_of targets in
    let zeroth : option_map number (slice_get (drop first units) 0) ≡ Some device = ap (option_map number) (slice_get-drop units first 0) ∙ ap (λ m. option_map number (slice_get units m)) (let same : first + 0 ≡ first = omega arith in same) ∙ here in
    let place : n ≡ first + (n - first) = omega (arith, least) in
    let len = length-drop first units in
    ap (λ m. option_map number (slice_get units m)) place
    ∙ sym (ap (option_map number) (slice_get-drop units first (n - first)))
    ∙ in_chunk number (drop first units) count device (n - first) rest is zeroth (omega (arith, least, below)) (omega (arith, least, below, within, len))

-- a unit that can be performed still can, where it is as it was
pub still_performable : (keys : List KeyData) (Takes : ℕ → Option Context → Type 0) (before now : RequestParts) (n : ℕ) → tagged_bios now.bios ≡ tagged_bios before.bios → unit_in now.bios n ≡ unit_in before.bios n → IsPerformableUnit keys Takes before.bios n → IsPerformableUnit keys Takes now.bios n
still_performable keys Takes before now n tags unit is =
    let named : named_at keys now.bios n ≡ named_at keys before.bios n = ap (λ ts. unwrap_or (slice_get (units_of_request keys ts) n) no_unit) tags in record {
      full = subst (λ (u : NamedUnit). IsSomeAnd (unit_in now.bios n) (IsFull (unit_sectors keys u.context))) (sym named) (subst (λ o. IsSomeAnd o (IsFull (unit_sectors keys (named_at keys before.bios n).context))) (sym unit) is.full);
      taken = subst (λ (u : NamedUnit). Takes u.sector u.context) (sym named) is.taken;
    }

-- a device on which a unit lies is one of the devices
pub is_device : (targets : List Target) (units : List NamedUnit) (n device : ℕ) → option_map (device_of targets) (slice_get units n) ≡ Some device → ((unit : NamedUnit) → slice_get units n ≡ Some unit → device_of targets unit < length targets) → device < length targets
is_device targets units n device on lies = go (slice_get units n) on lies
  where
    go : (o : Option NamedUnit) → option_map (device_of targets) o ≡ Some device → ((unit : NamedUnit) → o ≡ Some unit → device_of targets unit < length targets) → device < length targets
    go None is lies = absurd (none-some device is)
    go (Some unit) is lies = subst (λ d. d < length targets) (same_Some (device_of targets unit) device is) (lies unit refl)

-- ---- pieces

module _ (Exact : DeviceFacts → DeviceFacts → ℕ → List NamedUnit → Type 0) (keys : List KeyData) (targets : List Target) where
  -- one more piece
  carries_more : (old mid new : DeviceFacts) (before now after : RequestParts) (first next : ℕ) (done : List (List NamedUnit)) (piece : List NamedUnit) → CarriesPieces Exact keys targets old mid before now first done → first + sum_by length done ≡ next
      → CarriesFirst Exact keys targets mid new now after next piece → CarriesPieces Exact keys targets old new before after first (done ++ piece ∷ [])
  carries_more old mid new before now after first next [] piece p at s =
      let here : next ≡ first = omega (arith, at) in
      (new, after, subst (λ f. CarriesFirst Exact keys targets f new before after first piece) p.0 (subst (λ r. CarriesFirst Exact keys targets mid new r after first piece) p.1 (subst (λ n. CarriesFirst Exact keys targets mid new now after n piece) here s)), (refl, refl))
  carries_more old mid new before now after first next (other ∷ done) piece p at s =
      let sum = sum_by-cons (λ (l : List NamedUnit). length l) other done in
      (p.0, p.1, p.2, carries_more p.0 mid new p.1 now after (first + length other) next done piece p.3 (omega (arith, at, sum)) s)

  pub carried_none : (facts : DeviceFacts) (request : RequestParts) → facts.access.keys ≡ keys → facts.targets ≡ targets → HasCarried Exact keys targets facts facts request request 0
  carried_none facts request keys_are targets_are = record {
    done = [];
    within = omega arith;
    carried = (refl, refl);
    reaches = refl;
    whole = refl;
    keys_are = keys_are;
    targets_are = targets_are;
    bios = refl;
    left = λ n least. refl;
  }

  -- the next piece of what is left, over the request as it was
  pub next_piece : (before now : RequestParts) (first count : ℕ) → tagged_bios now.bios ≡ tagged_bios before.bios → pieces_of targets (drop first (request_units keys now)) ≡ piece_part keys now first count ∷ pieces_of targets (drop count (drop first (request_units keys now)))
      → pieces_of targets (drop first (request_units keys before)) ≡ piece_part keys now first count ∷ pieces_of targets (drop (first + count) (request_units keys before))
  next_piece before now first count tags is =
      let same : request_units keys now ≡ request_units keys before = ap (units_of_request keys) tags in
      sym (ap (λ us. pieces_of targets (drop first us)) same) ∙ is
      ∙ ap (λ us. piece_part keys now first count ∷ pieces_of targets us) (drop_drop (request_units keys now) first count ∙ ap (λ us. drop (first + count) us) same)

  pub carried_more : (old mid new : DeviceFacts) (before now after : RequestParts) (first device count : ℕ) → HasCarried Exact keys targets old mid before now first
      → pieces_of targets (drop first (request_units keys now)) ≡ piece_part keys now first count ∷ pieces_of targets (drop count (drop first (request_units keys now)))
      → device < length targets → IsOnDevice keys targets now first device → 1 ≤ count → first + count ≤ count_units (tagged_bios now.bios) → CarriesPiece mid new now after first device count → Exact mid new device (piece_part keys now first count)
      → HasCarried Exact keys targets old new before after (first + count)
  carried_more old mid new before now after first device count h is there on some within s exact =
      let piece : List NamedUnit = piece_part keys now first count in
      let units = length-units_of_request keys (tagged_bios now.bios) in
      let len : length piece ≡ count = length_part (request_units keys now) first count (omega (arith, units, within)) in
      let many = ap count_units h.bios in
      let sum = sum_end h.done piece in record {
        done = h.done ++ piece ∷ [];
        within = omega (arith, many, within);
        carried = carries_more old mid new before now after 0 first h.done piece h.carried (omega (arith, h.reaches)) (record {
          device = device;
          has_device = there;
          on_device = λ n least below. on_device targets (request_units keys now) first count device n (pieces_of targets (drop count (drop first (request_units keys now)))) is on (omega (arith, units, within)) least (omega (arith, len, below));
          some = omega (arith, len, some);
          piece_is = ap (λ k. piece_part keys now first k) (sym len);
          carries = subst (λ k. CarriesPiece mid new now after first device k) (sym len) s;
          exact = exact;
        });
        reaches = omega (arith, sum, len, h.reaches);
        whole = h.whole ∙ ap (λ l. h.done ++ l) (next_piece before now first count h.bios is) ∙ sym (append_assoc h.done (piece ∷ []) (pieces_of targets (drop (first + count) (request_units keys before))));
        keys_are = s.same.keys ∙ h.keys_are;
        targets_are = s.same.targets ∙ h.targets_are;
        bios = s.carries.bios ∙ h.bios;
        left = λ n least. s.carries.others n (inr (inl least)) ∙ h.left n (omega (arith, least));
      }

  pub carried_all : (old new : DeviceFacts) (before after : RequestParts) (first : ℕ) → HasCarried Exact keys targets old new before after first → count_units (tagged_bios before.bios) ≤ first → CarriesPieces Exact keys targets old new before after 0 (pieces_in keys targets before)
  carried_all old new before after first h past =
      let units = length-units_of_request keys (tagged_bios before.bios) in
      let none = drop_all (request_units keys before) first (omega (arith, units, past)) in
      subst (λ ps. CarriesPieces Exact keys targets old new before after 0 ps) (sym (h.whole ∙ ap (λ us. h.done ++ pieces_of targets us) none ∙ append-nil h.done)) h.carried
