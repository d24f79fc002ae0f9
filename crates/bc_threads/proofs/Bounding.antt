-- How many events of a kind the holds of a window make on a device.
use Rattle.std.proofs.Common.{◌≡◌, ℕ, zero, suc, ◌+◌, ◌≤◌, Bool, true, false, cond, List, [], ◌∷◌, length, take, refl, sym, ap, subst, arith}
use Rattle.std.specs.Prelude.{◌==◌, count_by, filter}
use Rattle.std.specs.List.{AllZip}
use Rattle.std.proofs.lemmas.Bool.{eqb-true}
use Rattle.bc_bio.specs.Windows.{NamedUnit}
use Rattle.bc_stack.specs.declared.target.Target.{Target}
use Rattle.bc_profile.specs.declared.event.Event.{Event}
use Rattle.bc_profile.specs.declared.event.Event.TheVariants as events
use Rattle.bc_profile.specs.declared.skips.Skip.{Skip}
use Rattle.bc_report.specs.Counts.{is_programming_of}
use Rattle.bc_pieces.specs.Pieces.{at_device, is_piece_on, pieces_on}
use Rattle.bc_pieces.specs.PieceEffects.{IsHoldOf, OneHold, events_on}
use Rattle.bc_section.proofs.Holding.{count_append, count_cons}

take_one : (test : Event → Bool) (n : ℕ) (e : Event) (m : ℕ) → cond {A = ℕ} (test e) 1 0 ≤ m → count_by test (take n (e ∷ [])) ≤ m
take_one test zero e m le = omega arith
take_one test (suc zero) e m le = let c = count_cons test e [] in omega (arith, c, le)
take_one test (suc (suc n)) e m le = let c = count_cons test e [] in omega (arith, c, le)

-- of one hold
pub of_hold : (test : Event → Bool) (hold : OneHold) (n m : ℕ) → ((slot key : ℕ) (skipped : List Skip) → cond {A = ℕ} (test (events.Program slot key skipped)) 1 0 ≤ n) → ((slot : ℕ) → cond {A = ℕ} (test (events.Idle slot)) 1 0 ≤ m)
    → count_by test hold.made ≤ n + m
of_hold test hold n m programs idles =
    subst (λ (l : List Event). count_by test l ≤ n + m) (sym hold.is.events)
    (let both = count_append test (take hold.is.programs (events.Program hold.slot hold.key hold.is.skipped ∷ [])) (take hold.is.idles (events.Idle hold.slot ∷ [])) in
    let one = take_one test hold.is.programs (events.Program hold.slot hold.key hold.is.skipped) n (programs hold.slot hold.key hold.is.skipped) in
    let other = take_one test hold.is.idles (events.Idle hold.slot) m (idles hold.slot) in omega (arith, both, one, other))

-- a hold programs only its own key
pub of_its_key : (hold : OneHold) (number : ℕ) → (hold.key == number) ≡ false → count_by (is_programming_of number) hold.made ≤ 0
of_its_key hold number differ =
    subst (λ (l : List Event). count_by (is_programming_of number) l ≤ 0) (sym hold.is.events)
    (let both = count_append (is_programming_of number) (take hold.is.programs (events.Program hold.slot hold.key hold.is.skipped ∷ [])) (take hold.is.idles (events.Idle hold.slot ∷ [])) in
    let one = take_one (is_programming_of number) hold.is.programs (events.Program hold.slot hold.key hold.is.skipped) 0 (subst (λ (b : Bool). cond {A = ℕ} b 1 0 ≤ 0) (sym differ) (omega arith)) in
    let other = take_one (is_programming_of number) hold.is.idles (events.Idle hold.slot) 0 (omega arith) in omega (arith, both, one, other))

-- no event is of a kind that holds don't make
pub none_of_holds : (test : Event → Bool) (holds : List OneHold) (device : ℕ) → ((slot key : ℕ) (skipped : List Skip) → cond {A = ℕ} (test (events.Program slot key skipped)) 1 0 ≤ 0) → ((slot : ℕ) → cond {A = ℕ} (test (events.Idle slot)) 1 0 ≤ 0)
    → count_by test (events_on holds device) ≤ 0
none_of_holds test [] device programs idles = omega arith
none_of_holds test (hold ∷ holds) device programs idles =
    let both = count_append test (at_device hold.device hold.made device) (events_on holds device) in
    let rest = none_of_holds test holds device programs idles in
    let here = go (device == hold.device) in omega (arith, both, rest, here)
  where
    go : (b : Bool) → count_by test (cond {A = List Event} b hold.made []) ≤ 0
    go true = let one = of_hold test hold 0 0 programs idles in omega (arith, one)
    go false = omega arith

-- of a kind of which a hold makes one at most there are no more than pieces on the device
pub few_of_holds : (test : Event → Bool) (targets : List Target) (device : ℕ) (pieces : List (List NamedUnit)) (holds : List OneHold) → AllZip (IsHoldOf targets) pieces holds
    → ((slot key : ℕ) (skipped : List Skip) → cond {A = ℕ} (test (events.Program slot key skipped)) 1 0 ≤ 0) → ((slot : ℕ) → cond {A = ℕ} (test (events.Idle slot)) 1 0 ≤ 1) → count_by test (events_on holds device) ≤ pieces_on targets device pieces
few_of_holds test targets device [] [] all programs idles = omega arith
few_of_holds test targets device [] (hold ∷ holds) all programs idles = absurd all
few_of_holds test targets device (piece ∷ pieces) [] all programs idles = absurd all
few_of_holds test targets device (piece ∷ pieces) (hold ∷ holds) all programs idles =
    let both = count_append test (at_device hold.device hold.made device) (events_on holds device) in
    let rest = few_of_holds test targets device pieces holds all.1 programs idles in
    let here = go (device == hold.device) refl in omega (arith, both, rest, here)
  where
    grows : (b : Bool) (l : List (List NamedUnit)) → length l ≤ length (cond {A = List (List NamedUnit)} b (piece ∷ l) l)
    grows true l = omega arith
    grows false l = omega arith

    go : (b : Bool) → (device == hold.device) ≡ b → count_by test (at_device hold.device hold.made device) + pieces_on targets device pieces ≤ pieces_on targets device (piece ∷ pieces)
    go false is =
        subst (λ (b : Bool). count_by test (cond {A = List Event} b hold.made []) + pieces_on targets device pieces ≤ pieces_on targets device (piece ∷ pieces)) (sym is)
        (let le = grows (is_piece_on targets device piece) (filter (is_piece_on targets device) pieces) in omega (arith, le))
    go true is =
        subst (λ (b : Bool). count_by test (cond {A = List Event} b hold.made []) + pieces_on targets device pieces ≤ pieces_on targets device (piece ∷ pieces)) (sym is)
        (let one = of_hold test hold 0 1 programs idles in
        let on : is_piece_on targets device piece ≡ true = subst (λ (d : ℕ). is_piece_on targets d piece ≡ true) (sym (eqb-true device hold.device is)) all.0.on_device in
        let more : pieces_on targets device (piece ∷ pieces) ≡ suc (pieces_on targets device pieces) =
        ap (λ (b : Bool). length (cond {A = List (List NamedUnit)} b (piece ∷ filter (is_piece_on targets device) pieces) (filter (is_piece_on targets device) pieces))) on in
        omega (arith, one, more))
