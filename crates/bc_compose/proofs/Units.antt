-- The units of a section: each has its operation's number, no two have one name, and those of an operation are its bio's.
use Rattle.std.proofs.Common.{◌≡◌, ℕ, zero, suc, ◌+◌, ◌≤◌, Bool, false, cond, List, [], ◌∷◌, ◌++◌, map, append-nil, refl, ap, ◌∙◌, arith, Option, Some, None}
use Rattle.std.specs.Prelude.{◌==◌, ◌&&◌, filter, flat_map, is_none}
use Rattle.std.specs.List.{range_with_len, enumerate_from, AllByRecursion}
use Rattle.std.proofs.Math.Logic.{⊎_elim}
use Rattle.std.proofs.lemmas.Bool.{eq-eqb, ne_eqb, and_left, and_right}
use Rattle.std.proofs.lemmas.List.Elements.{filter-append}
use Rattle.bc_key.specs.KeyData.{KeyData}
use Rattle.bc_bio.specs.declared.access.Access.TheVariants as access
use Rattle.bc_bio.specs.declared.refusal.Refusal.{Refusal}
use Rattle.bc_bio.specs.declared.extent.Extent.{Extent}
use Rattle.bc_bio.specs.PlannedUnit.{PlannedUnit}
use Rattle.bc_script.specs.declared.op.Op.{Op}
use Rattle.bc_script.specs.declared.op.Op.TheVariants as ops
use Rattle.bc_script.specs.Bios.{bio_of, refusal_of}
use Rattle.bc_script.specs.Script.{Script, keys_of}
use Rattle.bc_script.specs.Plan.{unit_at, units_of, units_of_bio, units_of_section}
use Rattle.bc_compose.proofs.Names.{Apart, shares}
use Rattle.bc_base.proofs.Members.{In, all_append, all_of}

-- ---- facts of each element

pub all_map : {A B : Type 0} (P : B → Type 0) (f : A → B) (xs : List A) → AllByRecursion (λ x. P (f x)) xs → AllByRecursion P (map f xs)
all_map P f [] ps = tt
all_map P f (x ∷ xs) ps = (ps.0, all_map P f xs ps.1)

-- ---- units of one thread

apart_append : (us vs : List PlannedUnit) → Apart us → Apart vs → AllByRecursion (λ u. AllByRecursion (λ v. shares u v ≡ false) vs) us → Apart (us ++ vs)
apart_append [] vs ps qs cross = qs
apart_append (u ∷ us) vs ps qs cross =
    (all_append (λ (v : PlannedUnit). shares u v ≡ false) us vs ps.0 cross.0, apart_append us vs ps.1 qs cross.1)

-- the units of a bio, from number first on
module _ (keys : List KeyData) (op : ℕ) (operation : Op) (bio : Extent) where
  pub later_units : (first n : ℕ) → AllByRecursion (λ u. first ≤ u.unit) (map (unit_at keys op operation bio) (range_with_len first n))
  later_units first zero = tt
  later_units first (suc n) =
      (omega arith, all_of (λ (u : PlannedUnit). first + 1 ≤ u.unit) (λ (u : PlannedUnit). first ≤ u.unit) (map (unit_at keys op operation bio) (range_with_len (first + 1) n)) (λ u low. omega arith) (later_units (first + 1) n))

  pub apart_bio : (first n : ℕ) → Apart (map (unit_at keys op operation bio) (range_with_len first n))
  apart_bio first zero = tt
  apart_bio first (suc n) = (
    all_of (λ (u : PlannedUnit). first + 1 ≤ u.unit) (λ (u : PlannedUnit). ((op == u.tag) && (first == u.unit)) ≡ false) (map (unit_at keys op operation bio) (range_with_len (first + 1) n))
        (λ u low. and_right (op == u.tag) (first == u.unit) (ne_eqb first u.unit (λ e. omega arith))) (later_units (first + 1) n),
    apart_bio (first + 1) n,
  )

  pub ops_bio : (first n : ℕ) → AllByRecursion (λ u. u.tag ≡ op) (map (unit_at keys op operation bio) (range_with_len first n))
  ops_bio first zero = tt
  ops_bio first (suc n) = (refl, ops_bio (first + 1) n)

pub accepted_or : (P : List PlannedUnit → Type 0) (script : Script) (op : ℕ) (operation : Op) (bio : Extent) → P []
    → (refusal_of script bio ≡ None → P (map (unit_at (keys_of script) op operation bio) (range_with_len 0 bio.units)))
    → P (units_of_bio script op operation bio)
accepted_or P script op operation bio none some =
    elim (refusal_of script bio) as (λ (r : Option Refusal). refusal_of script bio ≡ r → P (cond (is_none r) (map (unit_at (keys_of script) op operation bio) (range_with_len 0 bio.units)) [])) [
      | None ↦ some
      | Some refusal ↦ λ e. none
    ] refl

-- what holds of no units, and of the units of an accepted bio, holds of the units of an operation
pub by_bio : (P : List PlannedUnit → Type 0) (script : Script) (op : ℕ) (operation : Op) → P []
    → ((bio : Extent) → bio_of operation ≡ Some bio → refusal_of script bio ≡ None → P (map (unit_at (keys_of script) op operation bio) (range_with_len 0 bio.units)))
    → P (units_of script (op, operation))
by_bio P script op (ops.Write context sector units text) none some =
    let bio : Extent = record { access = access.Write; context = context; sector = sector; units = units } in
    accepted_or P script op (ops.Write context sector units text) bio none (some bio refl)
by_bio P script op (ops.Read context sector units) none some =
    let bio : Extent = record { access = access.Read; context = context; sector = sector; units = units } in
    accepted_or P script op (ops.Read context sector units) bio none (some bio refl)
by_bio P script op (ops.Evict key) none some = none
by_bio P script op (ops.Reset device) none some = none
by_bio P script op ops.Plug none some = none
by_bio P script op ops.Unplug none some = none

module _ (script : Script) where
  pub ops_of : (op : ℕ) (operation : Op) → AllByRecursion (λ u. u.tag ≡ op) (units_of script (op, operation))
  ops_of op operation =
      by_bio (AllByRecursion (λ u. u.tag ≡ op)) script op operation tt (λ bio _ _. ops_bio (keys_of script) op operation bio 0 bio.units)

  apart_of : (op : ℕ) (operation : Op) → Apart (units_of script (op, operation))
  apart_of op operation = by_bio Apart script op operation tt (λ bio _ _. apart_bio (keys_of script) op operation bio 0 bio.units)

  pub later_ops : (op : ℕ) (section : List Op) → AllByRecursion (λ u. op ≤ u.tag) (flat_map (units_of script) (enumerate_from op section))
  later_ops op [] = tt
  later_ops op (operation ∷ section) =
      all_append (λ (u : PlannedUnit). op ≤ u.tag) (units_of script (op, operation)) (flat_map (units_of script) (enumerate_from (op + 1) section))
      (all_of (λ (u : PlannedUnit). u.tag ≡ op) (λ (u : PlannedUnit). op ≤ u.tag) (units_of script (op, operation)) (λ u e. omega arith) (ops_of op operation))
      (all_of (λ (u : PlannedUnit). op + 1 ≤ u.tag) (λ (u : PlannedUnit). op ≤ u.tag) (flat_map (units_of script) (enumerate_from (op + 1) section)) (λ u low. omega arith) (later_ops (op + 1) section))

  apart_from : (op : ℕ) (section : List Op) → Apart (flat_map (units_of script) (enumerate_from op section))
  apart_from op [] = tt
  apart_from op (operation ∷ section) =
      let rest = flat_map (units_of script) (enumerate_from (op + 1) section) in
      apart_append (units_of script (op, operation)) rest (apart_of op operation) (apart_from (op + 1) section)
      (all_of (λ (u : PlannedUnit). u.tag ≡ op) (λ (u : PlannedUnit). AllByRecursion (λ v. shares u v ≡ false) rest) (units_of script (op, operation))
      (λ u here. all_of (λ (v : PlannedUnit). op + 1 ≤ v.tag) (λ (v : PlannedUnit). shares u v ≡ false) rest
      (λ v low. and_left (u.tag == v.tag) (u.unit == v.unit) (ne_eqb u.tag v.tag (λ e. omega arith))) (later_ops (op + 1) section))
      (ops_of op operation))

  pub apart_section : (section : List Op) → Apart (units_of_section script section)
  apart_section section = apart_from 0 section

-- ---- the units of one operation among its section's

ops_same : (op : ℕ) (us : List PlannedUnit) → AllByRecursion (λ u. u.tag ≡ op) us → filter (λ u. u.tag == op) us ≡ us
ops_same op [] all = refl
ops_same op (u ∷ us) all =
    ap (λ (t : Bool). cond t (u ∷ filter (λ v. v.tag == op) us) (filter (λ v. v.tag == op) us)) (eq-eqb u.tag op all.0)
    ∙ ap (λ (l : List PlannedUnit). u ∷ l) (ops_same op us all.1)

ops_other : (op : ℕ) (us : List PlannedUnit) → AllByRecursion (λ u. u.tag ≡ op → ⊥) us → filter (λ u. u.tag == op) us ≡ []
ops_other op [] all = refl
ops_other op (u ∷ us) all =
    ap (λ (t : Bool). cond t (u ∷ filter (λ v. v.tag == op) us) (filter (λ v. v.tag == op) us)) (ne_eqb u.tag op all.0)
    ∙ ops_other op us all.1

later_numbers : (op : ℕ) (section : List Op) (x : ℕ × Op) → In x (enumerate_from op section) → op ≤ x.0
later_numbers op [] x at = absurd at
later_numbers op (operation ∷ section) x at =
    ⊎_elim
    (λ (e : (op, operation) ≡ x). let n : op ≡ x.0 = ap (λ (y : ℕ × Op). y.0) e in omega arith)
    (λ (more : In x (enumerate_from (op + 1) section)). let le = later_numbers (op + 1) section x more in omega arith)
    at

module _ (script : Script) where
  pub own_units : (first : ℕ) (section : List Op) (x : ℕ × Op) → In x (enumerate_from first section)
      → filter (λ u. u.tag == x.0) (flat_map (units_of script) (enumerate_from first section)) ≡ units_of script x
  own_units first [] x at = absurd at
  own_units first (operation ∷ section) x at =
      let mine = units_of script (first, operation) in
      let rest = flat_map (units_of script) (enumerate_from (first + 1) section) in
      filter-append (λ (u : PlannedUnit). u.tag == x.0) mine rest
      ∙ ⊎_elim
      (λ (e : (first, operation) ≡ x).
      let n : first ≡ x.0 = ap (λ (y : ℕ × Op). y.0) e in
      ap (λ (l : List PlannedUnit). l ++ filter (λ (u : PlannedUnit). u.tag == x.0) rest) (ops_same x.0 mine (all_of (λ (u : PlannedUnit). u.tag ≡ first) (λ (u : PlannedUnit). u.tag ≡ x.0) mine (λ u is. is ∙ n) (ops_of script first operation)))
      ∙ ap (λ (l : List PlannedUnit). mine ++ l) (ops_other x.0 rest (all_of (λ (u : PlannedUnit). first + 1 ≤ u.tag) (λ (u : PlannedUnit). u.tag ≡ x.0 → ⊥) rest (λ u low e'. omega arith) (later_ops script (first + 1) section)))
      ∙ append-nil mine
      ∙ ap (units_of script) e)
      (λ (more : In x (enumerate_from (first + 1) section)).
      let low = later_numbers (first + 1) section x more in
      ap (λ (l : List PlannedUnit). l ++ filter (λ (u : PlannedUnit). u.tag == x.0) rest) (ops_other x.0 mine (all_of (λ (u : PlannedUnit). u.tag ≡ first) (λ (u : PlannedUnit). u.tag ≡ x.0 → ⊥) mine (λ u is e'. omega arith) (ops_of script first operation)))
      ∙ own_units (first + 1) section x more)
      at
