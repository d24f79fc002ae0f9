-- Which units are over, by the faults of their bios; a fault leaves those up to its own unit as they were.
use Rattle.std.proofs.Common.{◌≡◌, ◌≢◌, ℕ, zero, suc, ◌+◌, ◌<◌, ◌≤◌, ◌⊎◌, inl, inr, Bool, true, false, List, [], ◌∷◌, length, map, set, get_or, refl, sym, ap, subst, ◌∙◌, arith, Option, Some, None}
use Rattle.std.specs.Prelude.{slice_get, nat_lt, min}
use Rattle.std.specs.Option.{option_map_or}
use Rattle.std.proofs.Math.Logic.{⊎_elim}
use Rattle.std.proofs.Math.Nat.{min-eq_left}
use Rattle.std.proofs.lemmas.Bool.{ltb-true, ltb-false, cases_eq, false_from_ne_true}
use Rattle.bc_bio.specs.declared.marked_bio.MarkedBio.{MarkedBio}
use Rattle.bc_bio.specs.declared.unit_place.UnitPlace.{UnitPlace}
use Rattle.bc_bio.specs.Windows.{TaggedBio}
use Rattle.bc_bio.specs.Requests.{tagged_bios, place_of, place_in, first_fault, is_after, is_over}
use Rattle.bc_queue.specs.RequestUnits.{faults_of, with_fault_at}
use Rattle.bc_queue.proofs.Lists.{get_or_set, get_or_set_other}
use Rattle.bc_queue.proofs.Contents.{in_order}

abbrev pub over : List TaggedBio → List (Option ℕ) → ℕ → Bool
over tagged faults n = is_after (place_of tagged n).unit (get_or faults (place_of tagged n).bio None)

pub over_is : (bios : List MarkedBio) (n : ℕ) → is_over bios n ≡ over (tagged_bios bios) (faults_of bios) n
over_is bios n = at bios (place_in bios n).bio
  where
    at : (bs : List MarkedBio) (k : ℕ) → option_map_or (λ (m : MarkedBio). is_after (place_in bios n).unit m.fault) (slice_get bs k) false ≡ is_after (place_in bios n).unit (get_or (faults_of bs) k None)
    at [] k = refl
    at (m ∷ bs) zero = refl
    at (m ∷ bs) (suc k) = at bs k

not_less : (a b : ℕ) → b ≤ a → nat_lt a b ≡ false
not_less a b le = false_from_ne_true (nat_lt a b) (λ t. let lt = ltb-true a b t in absurd (omega arith))

-- a unit up to the one that met the fault, of the same bio
kept : (m_unit n_unit : ℕ) (fault : Option ℕ) → m_unit ≤ n_unit → is_after n_unit fault ≡ false → is_after m_unit (Some (first_fault n_unit fault)) ≡ is_after m_unit fault
kept m_unit n_unit None le tried = not_less n_unit m_unit le
kept m_unit n_unit (Some fault) le tried =
    let least : n_unit ≤ fault = ltb-false fault n_unit tried in
    ap (λ (k : ℕ). nat_lt k m_unit) (min-eq_left least) ∙ not_less n_unit m_unit le ∙ sym (not_less fault m_unit (omega (arith, le, least)))

pub keeps_over : (tagged : List TaggedBio) (faults : List (Option ℕ)) (n m : ℕ) → over tagged faults n ≡ false → m ≤ n → over tagged (with_fault_at tagged faults n) m ≡ over tagged faults m
keeps_over tagged faults n m tried le =
    let pn : UnitPlace = place_of tagged n in
    let pm : UnitPlace = place_of tagged m in
    let value : Option ℕ = Some (first_fault pn.unit (get_or faults pn.bio None)) in
    ⊎_elim
    (λ (same : pm.bio ≡ pn.bio).
    ⊎_elim
    (λ (here : get_or (set faults pn.bio value) pn.bio None ≡ value).
    ap (λ (k : ℕ). is_after pm.unit (get_or (set faults pn.bio value) k None)) same
    ∙ ap (is_after pm.unit) here
    ∙ kept pm.unit pn.unit (get_or faults pn.bio None) (in_order tagged n m same le) tried
    ∙ ap (λ (k : ℕ). is_after pm.unit (get_or faults k None)) (sym same))
    (λ (none : set faults pn.bio value ≡ faults). ap (λ (l : List (Option ℕ)). is_after pm.unit (get_or l pm.bio None)) none)
    (get_or_set faults pn.bio value None))
    (λ (apart : pm.bio ≢ pn.bio). ap (is_after pm.unit) (get_or_set_other faults pn.bio pm.bio value None apart))
    (cases_eq pm.bio pn.bio)
