-- A bio of which no unit was gone over yet follows the others of a window: it adds nothing.
use Rattle.std.proofs.Common.{◌≡◌, ℕ, ◌≤◌, Bool, true, false, cond, List, [], ◌∷◌, ◌++◌, map, append-nil, refl, sym, ap, subst, ◌∙◌, Option, Some, None}
use Rattle.std.specs.Prelude.{filter, flat_map, unwrap_or, option_and_then, option_map, IfSome}
use Rattle.std.specs.Option.{option_map_or}
use Rattle.std.specs.List.{AllByRecursion, last_or}
use Rattle.std.proofs.lemmas.Bool.{true≢false}
use Rattle.std.proofs.lemmas.Grind.{flat_map-append}
use Rattle.bc_base.specs.Lists.{list_at}
use Rattle.bc_key.specs.declared.keys.KeyNo.{KeyNo}
use Rattle.bc_bio.specs.declared.extent.Extent.{Extent}
use Rattle.bc_bio.specs.Chunks.{chunk_by, chunks_and, chunks_with, joins_last}
use Rattle.bc_bio.specs.Windows.{NamedUnit, TaggedBio, joins, requests_of, units_of_request}
use Rattle.bc_stack.specs.Pieces.{device_of, pieces_of}
use Rattle.bc_medium.specs.declared.entry.Entry.{Entry}
use Rattle.bc_medium.specs.declared.via.Via.{Via}
use Rattle.bc_medium.specs.declared.via.Via.TheVariants as vias
use Rattle.bc_profile.specs.declared.event.Event.{Event}
use Rattle.bc_profile.specs.declared.uses.Use.TheVariants as uses
use Rattle.bc_script.specs.Script.{Script, keys_of}
use Rattle.bc_script.specs.Windows as turns
use Rattle.bc_report.specs.SerialRun.{DeviceUse, holds_for, inline_key, is_on, name_at, uses_of_turn}
use Rattle.bc_serial.specs.declared.open_hold.OpenHold.{OpenHold}
use Rattle.bc_serial.specs.Standing.{CourseData}
use Rattle.bc_section.specs.Uses.{MakesUses, NamesOwnUse, NamesUse, after_uses}
use Rattle.bc_serial.specs.InTurn.{InTurn, MayFollow, StillHolds, last_request, last_unit, first_units_of, under_hold}

-- ---- chunks with one more element

module _ {X : Type 0} (together : X → X → Bool) where
  with_and : (z x : X) (chunks : List (List X)) → chunks_with together z (chunks_and together chunks x) ≡ chunks_and together (chunks_with together z chunks) x
  with_and z x [] = refl
  with_and z x ([] ∷ []) = refl
  with_and z x ((c ∷ cs) ∷ []) =
      elim (joins_last together (c ∷ cs) x) as (λ (j : Bool).
      chunks_with together z (cond j ((c ∷ cs ++ x ∷ []) ∷ []) ((c ∷ cs) ∷ (x ∷ []) ∷ []))
      ≡ chunks_and_by j (together z c)) [
        | true ↦ refl
        | false ↦ refl
      ] ∙ elim (together z c) as (λ (t : Bool). chunks_and_by (joins_last together (c ∷ cs) x) t ≡ chunks_and together (cond t ((z ∷ c ∷ cs) ∷ []) ((z ∷ []) ∷ (c ∷ cs) ∷ [])) x) [
        | true ↦ refl
        | false ↦ refl
      ]
    where
      chunks_and_by : Bool → Bool → List (List X)
      chunks_and_by j t = cond t (cond j ((z ∷ c ∷ cs ++ x ∷ []) ∷ []) ((z ∷ c ∷ cs) ∷ (x ∷ []) ∷ [])) ((z ∷ []) ∷ cond j ((c ∷ cs ++ x ∷ []) ∷ []) ((c ∷ cs) ∷ (x ∷ []) ∷ []))
  with_and z x ([] ∷ d ∷ ds) = refl
  with_and z x ((c ∷ cs) ∷ d ∷ ds) =
      elim (together z c) as (λ (t : Bool).
      cond t ((z ∷ c ∷ cs) ∷ chunks_and together (d ∷ ds) x) ((z ∷ []) ∷ (c ∷ cs) ∷ chunks_and together (d ∷ ds) x)
      ≡ chunks_and together (cond t ((z ∷ c ∷ cs) ∷ d ∷ ds) ((z ∷ []) ∷ (c ∷ cs) ∷ d ∷ ds)) x) [
        | true ↦ refl
        | false ↦ refl
      ]

  pub chunk_push : (xs : List X) (x : X) → chunk_by together (xs ++ x ∷ []) ≡ chunks_and together (chunk_by together xs) x
  chunk_push [] x = refl
  chunk_push (z ∷ zs) x = ap (chunks_with together z) (chunk_push zs x) ∙ with_and z x (chunk_by together zs)

  abbrev last_chunk : List (List X) → List X
  last_chunk chunks = unwrap_or (last_or None chunks) []

  any_last : (o p : Option (List X)) (chunks : List (List X)) (x : X) → last_or o (chunks_and together chunks x) ≡ last_or p (chunks_and together chunks x)
  any_last o p [] x = refl
  any_last o p (c ∷ []) x =
      elim (joins_last together c x) as (λ (j : Bool). last_or o (cond j ((c ++ x ∷ []) ∷ []) (c ∷ (x ∷ []) ∷ [])) ≡ last_or p (cond j ((c ++ x ∷ []) ∷ []) (c ∷ (x ∷ []) ∷ []))) [
        | true ↦ refl
        | false ↦ refl
      ]
  any_last o p (c ∷ d ∷ ds) x = refl

  -- an element that joins the last chunk is in it
  pub last_joined : (chunks : List (List X)) (x : X) → joins_last together (last_chunk chunks) x ≡ true → last_chunk (chunks_and together chunks x) ≡ last_chunk chunks ++ x ∷ []
  last_joined [] x is = absurd (true≢false (sym is))
  last_joined (c ∷ []) x is = ap (λ (j : Bool). last_chunk (cond j ((c ++ x ∷ []) ∷ []) (c ∷ (x ∷ []) ∷ []))) is
  last_joined (c ∷ d ∷ ds) x is = ap (λ (o : Option (List X)). unwrap_or o []) (any_last (Some c) None (d ∷ ds) x) ∙ last_joined (d ∷ ds) x is

  -- and one that doesn't is a chunk by itself
  pub last_alone : (chunks : List (List X)) (x : X) → joins_last together (last_chunk chunks) x ≡ false → last_chunk (chunks_and together chunks x) ≡ x ∷ []
  last_alone [] x is = refl
  last_alone (c ∷ []) x is = ap (λ (j : Bool). last_chunk (cond j ((c ++ x ∷ []) ∷ []) (c ∷ (x ∷ []) ∷ []))) is
  last_alone (c ∷ d ∷ ds) x is = ap (λ (o : Option (List X)). unwrap_or o []) (any_last (Some c) None (d ∷ ds) x) ∙ last_alone (d ∷ ds) x is

-- ---- a bio without units

module _ (script : Script) (op : ℕ) (bio : Extent) where
  abbrev none_of : TaggedBio
  none_of = first_units_of op bio 0

  -- it joins where the whole bio does
  joins_same : (xs : List TaggedBio) → joins_last (joins (keys_of script)) xs none_of ≡ joins_last (joins (keys_of script)) xs (first_units_of op bio bio.units)
  joins_same [] = refl
  joins_same (x ∷ []) = refl
  joins_same (x ∷ y ∷ ys) = joins_same (y ∷ ys)

  no_units : (request : List TaggedBio) → units_of_request (keys_of script) (request ++ none_of ∷ []) ≡ units_of_request (keys_of script) request
  no_units request = flat_map-append _ request (none_of ∷ []) ∙ append-nil (units_of_request (keys_of script) request)

  -- a request that it joins has the key that it had
  same_key : (request : List TaggedBio) → joins_last (joins (keys_of script)) request none_of ≡ true → inline_key script (request ++ none_of ∷ []) ≡ inline_key script request
  same_key [] is = absurd (true≢false (sym is))
  same_key (tagged ∷ others) is = refl

  module _ (device thread : ℕ) where
    abbrev holds_by : Option KeyNo → List NamedUnit → List DeviceUse
    holds_by under units = option_map_or
        (λ key. map (λ piece. record { use' = uses.Hold key; units = map (name_at thread) piece }) (filter (is_on script device) (pieces_of script.targets units)))
        under []

    holds_alone : holds_for script device thread (none_of ∷ []) ≡ []
    holds_alone = elim (inline_key script (none_of ∷ [])) as (λ (o : Option KeyNo). holds_by o [] ≡ []) [
      | None ↦ refl
      | Some key ↦ refl
    ]

    holds_joined : (request : List TaggedBio) → joins_last (joins (keys_of script)) request none_of ≡ true → holds_for script device thread (request ++ none_of ∷ []) ≡ holds_for script device thread request
    holds_joined request is = ap (λ (o : Option KeyNo). holds_by o (units_of_request (keys_of script) (request ++ none_of ∷ []))) (same_key request is)
        ∙ ap (holds_by (inline_key script request)) (no_units request)

    same_holds : (requests : List (List TaggedBio)) → flat_map (holds_for script device thread) (chunks_and (joins (keys_of script)) requests none_of) ≡ flat_map (holds_for script device thread) requests
    same_holds [] = ap (λ l. l ++ []) holds_alone
    same_holds (last ∷ []) =
        (elim (joins_last (joins (keys_of script)) last none_of) as (λ (j : Bool). joins_last (joins (keys_of script)) last none_of ≡ j
        → flat_map (holds_for script device thread) (cond j ((last ++ none_of ∷ []) ∷ []) (last ∷ (none_of ∷ []) ∷ [])) ≡ holds_for script device thread last ++ []) [
          | true ↦ λ is. ap (λ l. l ++ []) (holds_joined last is)
          | false ↦ λ is. ap (λ l. holds_for script device thread last ++ (l ++ [])) holds_alone
        ]) refl
    same_holds (first ∷ second ∷ others) = ap (λ l. holds_for script device thread first ++ l) (same_holds (second ∷ others))

    pub same_uses : (done : List TaggedBio) → uses_of_turn script device thread (turns.Window (done ++ none_of ∷ [])) ≡ uses_of_turn script device thread (turns.Window done)
    same_uses done = ap (flat_map (holds_for script device thread)) (chunk_push (joins (keys_of script)) done none_of) ∙ same_holds (requests_of (keys_of script) done)

  abbrev open_by : Option KeyNo → List NamedUnit → Option (ℕ × ℕ)
  open_by under units = option_and_then (λ key. option_map (λ u. (device_of script.targets u, key.0)) (last_unit units)) under

-- ---- the turn

-- what is known of uses, by other names for the same ones
uses_same : (script : Script) (old new : ℕ → List Event) (done other : ℕ → List DeviceUse) (made : List Entry) → ((device : ℕ) → done device ≡ other device)
    → MakesUses script old new done made → MakesUses script old new other made
uses_same script old new done other made same u = record {
  journals = λ device within. u.journals device within ∙ ap (after_uses script device (old device)) (same device);
  holds = all made u.holds;
}
  where
    names : (e : Entry) (via : Via) → NamesUse script old done e via → NamesUse script old other e via
    names e vias.Plain n = tt
    names e vias.Soft n = tt
    names e (vias.Inline device slot event) n = subst (λ l. NamesOwnUse script (old device) l e device slot event) (same device) n

    all : (es : List Entry) → AllByRecursion (λ e. NamesUse script old done e e.via) es → AllByRecursion (λ e. NamesUse script old other e e.via) es
    all [] ns = tt
    all (e ∷ es) ns = (names e e.via ns.0, all es ns.1)

pub bio_begins : (start now : CourseData) (done : List TaggedBio) (op : ℕ) (bio : Extent) (was : Option OpenHold) (made : List Entry) → 1 ≤ bio.units
    → MayFollow start.script done (first_units_of op bio bio.units) was now.opened
    → InTurn start (record now { opened = was }) done made → InTurn start now (done ++ first_units_of op bio 0 ∷ []) made
bio_begins start now done op bio was made some follow p =
    let script = start.script in
    let next = first_units_of op bio 0 in
    let keys = keys_of script in
    let requests = requests_of keys done in
    let last = last_request script done in
    let pushed : last_request script (done ++ next ∷ []) ≡ last_chunk (joins keys) (chunks_and (joins keys) requests next) = ap (last_chunk (joins keys)) (chunk_push (joins keys) done next) in
    (elim (joins_last (joins keys) last next) as (λ (j : Bool). joins_last (joins keys) last next ≡ j → InTurn start now (done ++ next ∷ []) made) [
      | true ↦ λ is.
          let same : now.opened ≡ was = follow.goes_on (sym (joins_same script op bio last) ∙ is) in
          let whole : last_request script (done ++ next ∷ []) ≡ last ++ next ∷ [] = pushed ∙ last_joined (joins keys) requests next is in
          record {
            script_is = p.script_is;
            thread_is = p.thread_is;
            begun_is = p.begun_is;
            same_devices = p.same_devices;
            uses = uses_same script (list_at start.journals) (list_at now.journals) (λ device. uses_of_turn script device start.thread (turns.Window done))
                (λ device. uses_of_turn script device start.thread (turns.Window (done ++ next ∷ []))) made (λ device. sym (same_uses script op bio device start.thread done)) p.uses;
            rises = p.rises;
            none_later = p.none_later;
            opened = ap (option_map under_hold) same ∙ p.opened
                ∙ sym (ap (λ r. open_by script op bio (inline_key script r) (units_of_request keys r)) whole
                ∙ ap (λ o. open_by script op bio o (units_of_request keys (last ++ next ∷ []))) (same_key script op bio last is)
                ∙ ap (open_by script op bio (inline_key script last)) (no_units script op bio last));
            still = subst (λ (o : Option OpenHold). IfSome o (StillHolds now)) (sym same) p.still;
          }
      | false ↦ λ is.
          let none : now.opened ≡ None = follow.starts (sym (joins_same script op bio last) ∙ is) in
          let whole : last_request script (done ++ next ∷ []) ≡ next ∷ [] = pushed ∙ last_alone (joins keys) requests next is in
          record {
            script_is = p.script_is;
            thread_is = p.thread_is;
            begun_is = p.begun_is;
            same_devices = p.same_devices;
            uses = uses_same script (list_at start.journals) (list_at now.journals) (λ device. uses_of_turn script device start.thread (turns.Window done))
                (λ device. uses_of_turn script device start.thread (turns.Window (done ++ next ∷ []))) made (λ device. sym (same_uses script op bio device start.thread done)) p.uses;
            rises = p.rises;
            none_later = p.none_later;
            opened = ap (option_map under_hold) none
                ∙ sym (ap (λ r. open_by script op bio (inline_key script r) (units_of_request keys r)) whole ∙ none_open script op bio (inline_key script (next ∷ [])));
            still = subst (λ (o : Option OpenHold). IfSome o (StillHolds now)) (sym none) tt;
          }
    ]) refl
  where
    none_open : (script : Script) (op : ℕ) (bio : Extent) (o : Option KeyNo) → open_by script op bio o [] ≡ None
    none_open script op bio None = refl
    none_open script op bio (Some key) = refl
