-- The units for which a window takes holds are units of its bios.
use Rattle.std.proofs.Common.{◌≡◌, ℕ, zero, suc, ◌+◌, ◌<◌, true, false, Option, Some, None, List, [], ◌∷◌, ◌++◌, map, sym, ap, subst, ◌∙◌, arith}
use Rattle.std.specs.Prelude.{◌==◌, ◌&&◌, flat_map, filter}
use Rattle.std.specs.List.{AllByRecursion, list_any, range_with_len}
use Rattle.std.specs.Option.{option_map_or}
use Rattle.std.proofs.Math.Logic.{⊎_elim}
use Rattle.std.proofs.lemmas.Bool.{eqb-true, and_parts, false_from_ne_true}
use Rattle.bc_key.specs.KeyData.{KeyData}
use Rattle.bc_key.specs.declared.keys.KeyNo.{KeyNo}
use Rattle.bc_bio.specs.declared.extent.Extent.{Extent}
use Rattle.bc_bio.specs.Windows.{TaggedBio, NamedUnit, named_unit, named_units, units_of_request, joins, requests_of}
use Rattle.bc_bio.proofs.ChunkLaws.{chunks_join}
use Rattle.bc_medium.specs.declared.unit_name.UnitName.{UnitName}
use Rattle.bc_medium.specs.LawfulOrders.{is_same}
use Rattle.bc_script.specs.Script.{Script, keys_of}
use Rattle.bc_script.specs.Windows as turns
use Rattle.bc_stack.specs.Pieces.{same_device}
use Rattle.bc_report.specs.SerialRun.{DeviceUse, inline_key, is_on, name_at, pieces_of_request, holds_for, uses_of_turn}
use Rattle.bc_section.specs.Uses.{is_for}
use Rattle.bc_serial.specs.InTurn.{first_units_of}
use Rattle.bc_serial.proofs.Pieces.{hold_of}
use Rattle.bc_base.proofs.Members.{In, in_append_left, in_append_right, in_append_cases, in_of_map, in_of_filter, in_of_flat_map, any_in, all_at}

in_joined : {X : Type 0} (chunks : List (List X)) (chunk : List X) (x : X) → In x chunk → In chunk chunks → In x (flat_map (λ c. c) chunks)
in_joined [] chunk x at at' = absurd at'
in_joined {X} (c ∷ cs) chunk x at at' =
    ⊎_elim (λ (e : c ≡ chunk). in_append_left c (flat_map (λ c. c) cs) x (subst (λ (l : List X). In x l) (sym e) at))
    (λ (more : In chunk cs). in_append_right c (flat_map (λ c. c) cs) x (in_joined cs chunk x at more)) at'

in_range : (first n i : ℕ) → In i (range_with_len first n) → i < first + n
in_range first zero i at = absurd at
in_range first (suc n) i at =
    ⊎_elim (λ (e : first ≡ i). omega arith) (λ (more : In i (range_with_len (first + 1) n)). let lt = in_range (first + 1) n i more in omega arith) at

-- a unit of a bio of the window has this name
pub record IsUnitOf (bios : List TaggedBio) (name : UnitName) : Type 0 where
  pub tagged : TaggedBio
  pub among : In tagged bios
  pub op : tagged.tag ≡ name.op
  pub within : name.unit < tagged.bio.units

module _ (script : Script) (device thread : ℕ) where
  of_request : (bios request : List TaggedBio) (u : DeviceUse) (name : UnitName) → In request (requests_of (keys_of script) bios) → In u (holds_for script device thread request) → is_for name u ≡ true
      → IsUnitOf bios name
  of_request bios request u name at-request at-use is = by (inline_key script request) at-use
    where
      keys : List KeyData
      keys = keys_of script

      of_unit : (piece : List NamedUnit) (x : NamedUnit) (n : UnitName) → In piece (pieces_of_request script request) → In x piece → name_at thread x ≡ n → is_same name n ≡ true → IsUnitOf bios name
      of_unit piece x n at-piece at-x named same =
          let in_units : In x (units_of_request keys request) =
          subst (λ (l : List NamedUnit). In x l) (chunks_join (same_device script.targets) (units_of_request keys request)) (in_joined (pieces_of_request script request) piece x at-x at-piece) in
          let a = in_of_flat_map (named_units keys) request x in_units in
          let b = in_of_map (named_unit keys a.0) (range_with_len 0 a.0.bio.units) x a.2 in
          let lt = in_range 0 a.0.bio.units b.0 b.1 in
          let in_bios : In a.0 bios =
          subst (λ (l : List TaggedBio). In a.0 l) (chunks_join (joins keys) bios) (in_joined (requests_of keys bios) request a.0 a.1 at-request) in
          let parts = and_parts ((name.thread == n.thread) && (name.op == n.op)) (name.unit == n.unit) same in
          let op : name.op ≡ n.op = eqb-true name.op n.op (and_parts (name.thread == n.thread) (name.op == n.op) parts.0).1 in
          let unit : name.unit ≡ n.unit = eqb-true name.unit n.unit parts.1 in
          let tag : a.0.tag ≡ n.op = ap (λ (v : NamedUnit). v.tag) b.2 ∙ ap (λ (m : UnitName). m.op) named in
          let place : b.0 ≡ n.unit = ap (λ (v : NamedUnit). v.unit) b.2 ∙ ap (λ (m : UnitName). m.unit) named in
          record { tagged = a.0; among = in_bios; op = tag ∙ sym op; within = omega arith }

      by : (o : Option KeyNo) → In u (option_map_or (λ key. map (hold_of thread key) (filter (is_on script device) (pieces_of_request script request))) o []) → IsUnitOf bios name
      by None at' = absurd at'
      by (Some key) at' =
          let a = in_of_map (hold_of thread key) (filter (is_on script device) (pieces_of_request script request)) u at' in
          let b = in_of_filter (is_on script device) (pieces_of_request script request) a.0 a.1 in
          let c = any_in (is_same name) u.units is in
          let d = in_of_map (name_at thread) a.0 c.0 (subst (λ (v : DeviceUse). In c.0 v.units) (sym a.2) c.1) in
          of_unit a.0 d.0 c.0 b.0 d.1 d.2 c.2

  pub window_names : (bios : List TaggedBio) (name : UnitName) → list_any (is_for name) (uses_of_turn script device thread (turns.Window bios)) ≡ true → IsUnitOf bios name
  window_names bios name is =
      let a = any_in (is_for name) (uses_of_turn script device thread (turns.Window bios)) is in
      let b = in_of_flat_map (holds_for script device thread) (requests_of (keys_of script) bios) a.0 a.1 in
      of_request bios b.0 a.0 name b.1 b.2 a.2

  -- none is for unit number n of the bio of which n units were gone over
  pub name_free : (done : List TaggedBio) (op n : ℕ) (bio : Extent) (name : UnitName) → AllByRecursion (λ (tagged : TaggedBio). tagged.tag < op) done → name.op ≡ op → name.unit ≡ n
      → list_any (is_for name) (uses_of_turn script device thread (turns.Window (done ++ first_units_of op bio n ∷ []))) ≡ false
  name_free done op n bio name below op_is unit_is =
      false_from_ne_true (list_any (is_for name) (uses_of_turn script device thread (turns.Window (done ++ first_units_of op bio n ∷ []))))
      (λ is.
      let r = window_names (done ++ first_units_of op bio n ∷ []) name is in
      let op' = r.op in
      let within = r.within in
      ⊎_elim
      (λ (old : In r.tagged done). let lt = all_at (λ (tagged : TaggedBio). tagged.tag < op) done r.tagged below old in absurd (omega arith))
      (λ (new : In r.tagged (first_units_of op bio n ∷ [])).
      ⊎_elim (λ (e : first_units_of op bio n ≡ r.tagged). let units : n ≡ r.tagged.bio.units = ap (λ (t : TaggedBio). t.bio.units) e in absurd (omega arith)) (λ (no : ⊥). absurd no) new)
      (in_append_cases done (first_units_of op bio n ∷ []) r.tagged r.among))
