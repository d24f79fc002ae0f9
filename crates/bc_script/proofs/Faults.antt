-- Planned faults, one after the other.
use Rattle.std.proofs.Common.{◌≡◌, ℕ, suc, ◌<◌, ◌-◌, true, List, [], ◌∷◌, ◌++◌, length, get_or, slice_get, length-append, refl, sym, ap, subst, ◌∙◌, arith}
use Rattle.std.specs.Prelude.{AllPairs}
use Rattle.std.specs.List.{AllByRecursion}
use Rattle.std.specs.Option.{option_map_or}
use Rattle.std.specs.Fmt.{decimal}
use Rattle.std.proofs.lemmas.Bool.Decides.{nat_tests}
use Rattle.std.proofs.lemmas.List.Elements.{All-from_recursion, All-get_or}
use Rattle.std.proofs.lemmas.List.Quantifiers.{all_pairs_push}
use Rattle.bc_script.specs.Script.{IsFault, AreFaults, is_before, max_faults}
use Rattle.bc_script.specs.Forms.{FaultForm}
use Rattle.bc_script.specs.ScriptErrors.{fault_in}
use Rattle.bc_script.specs.Statements.{follows_faults}
use Rattle.bc_script.proofs.Onto.{AllByRecursion-append}
use Rattle.bc_script.proofs.Fields.{number_in-decimal}

-- ---- two elements of a list

-- what holds of each two elements, in order, holds of those before an element and of it
pub pairs_before : {X : Type 0} (R : X → X → Type 0) (xs more : List X) (x : X) → AllPairs R (xs ++ x ∷ more) → AllByRecursion (λ (y : X). R y x) xs
pairs_before R [] more x pairs = tt
pairs_before {X} R (y ∷ ys) more x pairs =
    (at y ys pairs, pairs_before R ys more x (λ i j d lt within. pairs (suc i) (suc j) d (omega arith) (omega arith)))
  where
    there : (ys : List X) (d : X) → get_or (ys ++ x ∷ more) (length ys) d ≡ x
    there [] d = refl
    there (y ∷ ys) d = there ys d

    at : (y : X) (ys : List X) → AllPairs R (y ∷ ys ++ x ∷ more) → R y x
    at y ys pairs = subst (λ (z : X). R y z) (there ys y) (pairs 0 (suc (length ys)) y (omega arith) (omega (arith, length-append ys (x ∷ more))))

-- what holds of each element holds of one in the middle
pub at_middle : {X : Type 0} (P : X → Type 0) (xs more : List X) (x : X) → AllByRecursion P (xs ++ x ∷ more) → P x
at_middle P [] more x each = each.0
at_middle P (y ∷ ys) more x each = at_middle P ys more x each.1

-- ---- faults

abbrev pub IsBefore : ℕ × ℕ → ℕ × ℕ → Type 0
IsBefore first second = is_before first second ≡ true

before_both : (s t u i j k : ℕ) → IsBefore (s, i) (t, j) → IsBefore (t, j) (u, k) → IsBefore (s, i) (u, k)
before_both s t u i j k p q = grind (arith, nat_tests)

-- the last of more than one
pub after_more : (x y : ℕ × ℕ) (ys : List (ℕ × ℕ)) (fault : ℕ × ℕ) → follows_faults (x ∷ y ∷ ys) fault ≡ follows_faults (y ∷ ys) fault
after_more x y ys fault =
    let last : length (x ∷ y ∷ ys) - 1 ≡ suc (length (y ∷ ys) - 1) = omega arith in
    ap (λ (n : ℕ). option_map_or (λ (last : ℕ × ℕ). is_before last fault) (slice_get (x ∷ y ∷ ys) n) true) last

-- one that comes after the last comes after all
all_before : (faults : List (ℕ × ℕ)) (fault : ℕ × ℕ) → AllPairs IsBefore faults → follows_faults faults fault ≡ true → AllByRecursion (λ (before : ℕ × ℕ). IsBefore before fault) faults
all_before [] fault pairs after = tt
all_before (x ∷ []) fault pairs after = (after, tt)
all_before (x ∷ y ∷ ys) fault pairs after =
    let rest = all_before (y ∷ ys) fault (λ i j d lt within. pairs (suc i) (suc j) d (omega arith) (omega arith)) (sym (after_more x y ys fault) ∙ after) in
    (before_both x.0 y.0 fault.0 x.1 y.1 fault.1 (pairs 0 1 x (omega arith) (omega arith)) rest.0, rest)

-- one that comes after all comes after the last
after_all : (faults : List (ℕ × ℕ)) (fault : ℕ × ℕ) → AllByRecursion (λ (before : ℕ × ℕ). IsBefore before fault) faults → follows_faults faults fault ≡ true
after_all [] fault each = refl
after_all (x ∷ []) fault each = each.0
after_all (x ∷ y ∷ ys) fault each = after_more x y ys fault ∙ after_all (y ∷ ys) fault each.1

pub no_faults : AreFaults []
no_faults = record { count = omega arith; each = tt; ascend = λ i j d lt within. absurd (omega arith) }

-- one more fault, which comes after the last
pub AreFaults-push : (faults : List (ℕ × ℕ)) (fault : ℕ × ℕ) → AreFaults faults → IsFault fault → follows_faults faults fault ≡ true → length faults < max_faults → AreFaults (faults ++ fault ∷ [])
AreFaults-push faults fault are valid after room =
    let Before : ℕ × ℕ → Type 0 = λ before. IsBefore before fault in
    let all = All-from_recursion Before faults (all_before faults fault are.ascend after) in
    record {
      count = omega (arith, length-append faults (fault ∷ []));
      each = AllByRecursion-append IsFault faults (fault ∷ []) are.each (valid, tt);
      ascend = all_pairs_push IsBefore faults fault are.ascend (λ k d lt. All-get_or Before faults k d lt all);
    }

-- each of some faults comes after those before it, and there was room for it
pub record IsNextFault (faults : List (ℕ × ℕ)) (fault : ℕ × ℕ) : Type 0 where
  pub valid : IsFault fault
  pub after : follows_faults faults fault ≡ true
  pub room : length faults < max_faults

pub next_fault : (faults more : List (ℕ × ℕ)) (fault : ℕ × ℕ) → AreFaults (faults ++ fault ∷ more) → IsNextFault faults fault
next_fault faults more fault are =
    let count = are.count in
    record {
      valid = at_middle IsFault faults more fault are.each;
      after = after_all faults fault (pairs_before IsBefore faults more fault are.ascend);
      room = omega (arith, length-append faults (fault ∷ more));
    }

-- ---- the fields of a fault's line

abbrev pub fault_fields : ℕ × ℕ → FaultForm
fault_fields fault = record { shard = decimal fault.0; access = decimal fault.1 }

pub fault_in-fault_fields : (fault : ℕ × ℕ) → IsFault fault → fault_in (fault_fields fault) ≡ fault
fault_in-fault_fields fault valid =
    let shard = valid.shard in
    let access = valid.access in
    let first = number_in-decimal fault.0 (omega arith) in
    let second = number_in-decimal fault.1 (omega arith) in
    λ i. (first i, second i)
