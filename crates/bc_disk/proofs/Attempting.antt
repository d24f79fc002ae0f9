-- Which units were attempted, of requests that are carried out one after the other.
use Rattle.std.proofs.Common.{◌≡◌, ℕ, ◌+◌, false, List, [], ◌∷◌, ◌++◌, length, map, sym, ap, subst, ◌∙◌, arith}
use Rattle.std.specs.Prelude.{◌==◌, ◌&&◌, nat_lt, flat_map}
use Rattle.std.specs.List.{range_with_len}
use Rattle.std.proofs.Math.Logic.{⊎_elim}
use Rattle.std.proofs.lemmas.Bool.{and_parts, eqb-true, false_from_ne_true}
use Rattle.std.proofs.lemmas.Grind.{flat_map-append}
use Rattle.std.proofs.lemmas.List.{map-append}
use Rattle.bc_key.specs.KeyData.{KeyData}
use Rattle.bc_bio.specs.declared.bio.Bio.{Bio}
use Rattle.bc_bio.specs.declared.marked_bio.MarkedBio.{MarkedBio}
use Rattle.bc_bio.specs.PlannedUnit.{PlannedUnit}
use Rattle.bc_bio.specs.Requests.{tagged_bios, tagged_of}
use Rattle.bc_bio.specs.Windows.{TaggedBio}
use Rattle.bc_medium.specs.declared.entry.Entry.{Entry}
use Rattle.bc_medium.specs.declared.unit_name.UnitName.{UnitName}
use Rattle.bc_medium.specs.LawfulOrders.{unit_name_of, is_earlier}
use Rattle.bc_medium.specs.Growth.{failed_names, Attempts}
use Rattle.bc_queue.specs.Laws.{TagsDiffer}
use Rattle.bc_queue.proofs.Lists.{at_append}
use Rattle.bc_pieces.specs.Becoming.{planned_in, planned_units}
use Rattle.bc_disk.specs.Submissions.{bare_bios}
use Rattle.bc_disk.proofs.Members.{at_behind, at_below, in_at}
use Rattle.bc_base.proofs.Members.{In, in_of_map, in_of_flat_map}
use Rattle.bc_medium.proofs.Growing.{attempts_append, attempts_fresh, failed_are}

-- ---- attempts of other bios

-- ---- bios whose tags differ

other_op : (f g : UnitName) → (f.op ≡ g.op → ⊥) → is_earlier f g ≡ false
other_op f g differ =
    false_from_ne_true (is_earlier f g)
    (λ is.
    let both = and_parts ((f.thread == g.thread) && (f.op == g.op)) (nat_lt f.unit g.unit) is in
    let ops = and_parts (f.thread == g.thread) (f.op == g.op) both.0 in
    absurd (differ (eqb-true f.op g.op ops.1)))

tags_front : (xs ys : List TaggedBio) → TagsDiffer (xs ++ ys) → TagsDiffer xs
tags_front xs ys differ i j first second at at' same = differ i j first second (at_append xs ys i first at) (at_append xs ys j second at') same

tags_back : (xs ys : List TaggedBio) → TagsDiffer (xs ++ ys) → TagsDiffer ys
tags_back xs ys differ i j first second at at' same =
    let are = differ (length xs + i) (length xs + j) first second (at_behind xs ys i first at) (at_behind xs ys j second at') same in
    omega (arith, are)

tags_apart : (xs ys : List TaggedBio) → TagsDiffer (xs ++ ys) → (x y : TaggedBio) → In x xs → In y ys → x.tag ≡ y.tag → ⊥
tags_apart xs ys differ x y at at' same =
    let i = in_at xs x at in
    let j = in_at ys y at' in
    let less = at_below xs i.0 x i.1 in
    let are = differ i.0 (length xs + j.0) x y (at_append xs ys i.0 x i.1) (at_behind xs ys j.0 y j.1) same in
    absurd (omega (arith, less, are))

-- the units of bios
abbrev pub units_planned : List KeyData → List MarkedBio → List PlannedUnit
units_planned keys bios = flat_map (planned_units keys) (bare_bios bios)

in_map : {X Y : Type 0} (f : X → Y) (xs : List X) (x : X) → In x xs → In (f x) (map f xs)
in_map f [] x at = absurd at
in_map f (y ∷ ys) x at = ⊎_elim (λ (e : y ≡ x). Rattle.std.proofs.Common.inl (ap f e)) (λ (more : In x ys). Rattle.std.proofs.Common.inr (in_map f ys x more)) at

unit_tag : (keys : List KeyData) (bios : List MarkedBio) (u : PlannedUnit) → In u (units_planned keys bios) → (t : TaggedBio) × In t (tagged_bios bios) × (u.tag ≡ t.tag)
unit_tag keys bios u at =
    let bio = in_of_flat_map (planned_units keys) (bare_bios bios) u at in
    let marked = in_of_map (λ (m : MarkedBio). m.bio) bios bio.0 bio.1 in
    let unit = in_of_map (planned_in keys bio.0) (range_with_len 0 (length bio.0.units)) u bio.2 in
    (tagged_of marked.0.bio, in_map (λ (m : MarkedBio). tagged_of m.bio) bios marked.0 marked.1, sym (ap (λ (v : PlannedUnit). v.tag) unit.2) ∙ sym (ap (λ (b : Bio). b.tag) marked.2))

pub planned_append : (keys : List KeyData) (xs ys : List MarkedBio) → units_planned keys (xs ++ ys) ≡ units_planned keys xs ++ units_planned keys ys
planned_append keys xs ys = ap (flat_map (planned_units keys)) (map-append (λ (m : MarkedBio). m.bio) xs ys) ∙ flat_map-append (planned_units keys) (bare_bios xs) (bare_bios ys)

module _ (caller : ℕ) (keys : List KeyData) (xs ys : List MarkedBio) (differ : TagsDiffer (tagged_bios (xs ++ ys))) where
  split : TagsDiffer (tagged_bios xs ++ tagged_bios ys)
  split = subst TagsDiffer (map-append (λ (m : MarkedBio). tagged_of m.bio) xs ys) differ

  pub differ_front : TagsDiffer (tagged_bios xs)
  differ_front = tags_front (tagged_bios xs) (tagged_bios ys) split

  pub differ_back : TagsDiffer (tagged_bios ys)
  differ_back = tags_back (tagged_bios xs) (tagged_bios ys) split

  units_apart : (u v : PlannedUnit) → In u (units_planned keys xs) → In v (units_planned keys ys) → u.tag ≡ v.tag → ⊥
  units_apart u v at at' same =
      let t = unit_tag keys xs u at in
      let w = unit_tag keys ys v at' in
      tags_apart (tagged_bios xs) (tagged_bios ys) split t.0 w.0 t.1 w.1 (sym t.2 ∙ same ∙ w.2)

  -- the entries of the first bios, and of the others after them
  pub attempts_on : (es fs : List Entry) → Attempts caller [] (units_planned keys xs) es → Attempts caller [] (units_planned keys ys) fs → Attempts caller [] (units_planned keys (xs ++ ys)) (es ++ fs)
  attempts_on es fs p q =
      subst (λ (us : List PlannedUnit). Attempts caller [] us (es ++ fs)) (sym (planned_append keys xs ys))
      (attempts_append caller [] (units_planned keys xs) (units_planned keys ys) es fs
      (λ u v at at'. other_op (unit_name_of caller v) (unit_name_of caller u) (λ same. units_apart u v at at' (sym same))) p
      (attempts_fresh caller (failed_names es) (units_planned keys ys) fs
      (λ f v at at'. let r = failed_are caller [] (units_planned keys xs) es p f at in other_op f (unit_name_of caller v) (λ same. units_apart r.0 v r.1 at' (sym (ap (λ (n : UnitName). n.op) r.2) ∙ same))) q))
