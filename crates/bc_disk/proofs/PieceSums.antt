-- The units of the pieces of a request, and the events of their holds.
use Rattle.std.proofs.Common.{◌≡◌, ◌≢◌, ℕ, zero, suc, ◌+◌, ◌*◌, ◌≤◌, Bool, true, false, cond, List, [], ◌∷◌, length, take, drop, refl, sym, ap, subst, ◌∙◌, arith}
use Rattle.std.specs.Prelude.{◌==◌, filter, sum_by}
use Rattle.std.specs.List.{AllZip}
use Rattle.std.proofs.Math.Logic.{⊎_elim}
use Rattle.std.proofs.lemmas.Bool.{eq-eqb, ne_eqb, cases_eq}
use Rattle.std.proofs.lemmas.List.{length-append}
use Rattle.std.proofs.lemmas.List.Concat.{flat_map-cons}
use Rattle.std.proofs.lemmas.List.Sums.{sum_by-cons}
use Rattle.bc_key.specs.KeyData.{KeyData}
use Rattle.bc_bio.specs.Chunks.{chunk_by, chunks_with}
use Rattle.bc_bio.specs.Requests.{RequestParts, tagged_bios}
use Rattle.bc_bio.specs.Windows.{NamedUnit, count_units}
use Rattle.bc_medium.specs.Layout.{shard_of}
use Rattle.bc_profile.specs.declared.event.Event.{Event}
use Rattle.bc_profile.specs.declared.event.Event.TheVariants as events
use Rattle.bc_stack.specs.declared.target.Target.{Target}
use Rattle.bc_stack.specs.Pieces.{same_device}
use Rattle.bc_queue.specs.RequestUnits.{planned_part, count_units_on}
use Rattle.bc_pieces.specs.Pieces.{AreOfOneHold, at_device, is_piece_on, named_on, piece_part, pieces_in, pieces_on, request_units}
use Rattle.bc_pieces.specs.PieceEffects.{IsHoldOf, OneHold, events_on}
use Rattle.bc_pieces.proofs.Units.{part_on}
use Rattle.bc_disk.proofs.Adding.{pieces_append}
use Rattle.bc_pieces.proofs.ManyCallers.{length_one}
use Rattle.bc_stack.proofs.PieceLaws.{length-units_of_request}

-- ---- units

one_more : {X : Type 0} (b : Bool) (x : X) (xs : List X) → length (cond b (x ∷ xs) xs) ≡ cond b 1 0 + length xs
one_more true x xs = omega arith
one_more false x xs = omega arith

module _ {X : Type 0} (p : X → Bool) (together : X → X → Bool) where
  many : List X → ℕ
  many xs = length (filter p xs)

  many_more : (x : X) (xs : List X) → many (x ∷ xs) ≡ cond (p x) 1 0 + many xs
  unfolding many
  many_more x xs = one_more (p x) x (filter p xs)

  apart : (x : X) (chunks : List (List X)) → sum_by many ((x ∷ []) ∷ chunks) ≡ cond (p x) 1 0 + sum_by many chunks
  unfolding many
  apart x chunks =
      let sum = sum_by-cons many (x ∷ []) chunks in
      let one = many_more x [] in
      omega (arith, sum, one)

  chunks_sum : (x : X) (chunks : List (List X)) → sum_by many (chunks_with together x chunks) ≡ cond (p x) 1 0 + sum_by many chunks
  chunks_sum x [] = apart x []
  chunks_sum x ([] ∷ chunks) = apart x ([] ∷ chunks)
  chunks_sum x ((y ∷ ys) ∷ chunks) = of_bool (together x y)
    where
      of_bool : (b : Bool) → sum_by many (cond b ((x ∷ y ∷ ys) ∷ chunks) ((x ∷ []) ∷ (y ∷ ys) ∷ chunks)) ≡ cond (p x) 1 0 + sum_by many ((y ∷ ys) ∷ chunks)
      of_bool true =
          let sum = sum_by-cons many (x ∷ y ∷ ys) chunks in
          let less = sum_by-cons many (y ∷ ys) chunks in
          let one = many_more x (y ∷ ys) in
          omega (arith, sum, less, one)
      of_bool false = apart x ((y ∷ ys) ∷ chunks)

  pieces_sum : (xs : List X) → sum_by many (chunk_by together xs) ≡ many xs
  unfolding many
  pieces_sum [] = refl
  pieces_sum (x ∷ xs) =
      let chunks = chunks_sum x (chunk_by together xs) in
      let rest = pieces_sum xs in
      let one = many_more x xs in
      omega (arith, chunks, rest, one)

  pub all_chunks : (xs : List X) → sum_by (λ (ys : List X). length (filter p ys)) (chunk_by together xs) ≡ length (filter p xs)
  unfolding many
  all_chunks xs = pieces_sum xs

take_all : {X : Type 0} (xs : List X) (n : ℕ) → length xs ≤ n → take n xs ≡ xs
take_all [] zero less = refl
take_all [] (suc n) less = refl
take_all (x ∷ xs) zero less = absurd (omega (arith, less))
take_all (x ∷ xs) (suc n) less = ap (λ ys. x ∷ ys) (take_all xs n (omega (arith, less)))

drop_none : {X : Type 0} (xs : List X) → drop 0 xs ≡ xs
drop_none [] = refl
drop_none (x ∷ xs) = refl

-- the pieces of a request have its units on a shard
pub pieces_shard : (keys : List KeyData) (targets : List Target) (request : RequestParts) (shards shard : ℕ) → sum_by (named_on shards shard) (pieces_in keys targets request) ≡ count_units_on shards shard (planned_part keys request.bios 0 (count_units (tagged_bios request.bios)))
pieces_shard keys targets request shards shard =
    let len = length-units_of_request keys (tagged_bios request.bios) in
    let count = count_units (tagged_bios request.bios) in
    let whole : piece_part keys request 0 count ≡ request_units keys request = ap (take count) (drop_none (request_units keys request)) ∙ take_all (request_units keys request) count (omega (arith, len)) in
    all_chunks (λ (u : NamedUnit). shard_of shards u.sector == shard) (same_device targets) (request_units keys request)
    ∙ sym (ap (named_on shards shard) whole)
    ∙ sym (part_on keys request shards shard 0 count (omega arith))

-- ---- events

-- one hold adds two events at most
hold_two : (key slot : ℕ) (made : List Event) → AreOfOneHold key slot made → length made ≤ 2
hold_two key slot made h =
    let sum = ap length h.events ∙ length-append (take h.programs (events.Program slot key h.skipped ∷ [])) (take h.idles (events.Idle slot ∷ [])) in
    let one = length_one h.programs (events.Program slot key h.skipped) h.one_program in
    let other = length_one h.idles (events.Idle slot) h.one_idle in
    omega (arith, sum, one, other)

-- on its piece's device
pub one_piece : (targets : List Target) (device key slot : ℕ) (made : List Event) (piece : List NamedUnit) → AreOfOneHold key slot made → is_piece_on targets device piece ≡ true → (other : ℕ) → length (at_device device made other) ≤ 2 * pieces_on targets other (piece ∷ [])
one_piece targets device key slot made piece h on other =
    ⊎_elim
    (λ (same : other ≡ device).
    let there : is_piece_on targets other piece ≡ true = subst (λ (d : ℕ). is_piece_on targets d piece ≡ true) (sym same) on in
    let one : pieces_on targets other (piece ∷ []) ≡ 1 = ap (λ (b : Bool). length (cond b (piece ∷ []) [])) there in
    let two = hold_two key slot made h in
    let few : length (at_device device made other) ≡ length made = ap (λ (b : Bool). length (cond b made [])) (eq-eqb other device same) in
    omega (arith, one, two, few))
    (λ (differ : other ≢ device).
    let none : length (at_device device made other) ≡ 0 = ap (λ (b : Bool). length (cond b made [])) (ne_eqb other device differ) in
    omega (arith, none))
    (cases_eq other device)

pub pieces_cons : (targets : List Target) (device : ℕ) (piece : List NamedUnit) (pieces : List (List NamedUnit)) → pieces_on targets device (piece ∷ pieces) ≡ pieces_on targets device (piece ∷ []) + pieces_on targets device pieces
pieces_cons targets device piece pieces = pieces_append targets device (piece ∷ []) pieces

-- the holds of pieces add two events for each piece at most
pub few_events : (targets : List Target) (device : ℕ) (pieces : List (List NamedUnit)) (holds : List OneHold) → AllZip (IsHoldOf targets) pieces holds → length (events_on holds device) ≤ 2 * pieces_on targets device pieces
few_events targets device [] [] all = omega arith
few_events targets device [] (h ∷ holds) all = absurd all
few_events targets device (p ∷ pieces) [] all = absurd all
few_events targets device (p ∷ pieces) (h ∷ holds) all =
    let one = one_piece targets h.device h.key h.slot h.made p h.is all.0.on_device device in
    let rest = few_events targets device pieces holds all.1 in
    let sum = pieces_cons targets device p pieces in
    let made : length (events_on (h ∷ holds) device) ≡ length (at_device h.device h.made device) + length (events_on holds device) =
    ap length (flat_map-cons (λ (hold : OneHold). at_device hold.device hold.made device) h holds) ∙ length-append (at_device h.device h.made device) (events_on holds device) in
    omega (arith, one, rest, sum, made)
