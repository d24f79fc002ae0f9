-- A window whose last bio has some of its units: its requests but the last, and the last request without that bio.
use Rattle.std.proofs.Common.{◌≡◌, ℕ, ◌+◌, ◌⊎◌, inl, inr, Bool, true, false, cond, Option, Some, None, List, [], ◌∷◌, ◌++◌, map, refl, sym, ap, ◌∙◌, arith}
use Rattle.std.specs.Prelude.{◌==◌, ◌&&◌, flat_map, unwrap_or, option_map, option_and_then}
use Rattle.std.specs.List.{last_or, range_with_len}
use Rattle.std.specs.Option.{option_map_or}
use Rattle.std.proofs.lemmas.Bool.{true≢false, eqb-true, and_parts}
use Rattle.std.proofs.lemmas.List.{append-nil, map-append, append_assoc}
use Rattle.std.proofs.lemmas.List.Concat.{flat_map-append}
use Rattle.bc_key.specs.declared.keys.KeyNo.{KeyNo}
use Rattle.bc_bio.specs.declared.context.Context.{Context}
use Rattle.bc_bio.specs.declared.extent.Extent.{Extent}
use Rattle.bc_bio.specs.BackRuns.{context_runs_on, same_access}
use Rattle.bc_bio.specs.Extent.{end_of}
use Rattle.bc_bio.specs.Chunks.{chunk_by, chunks_and, joins_last, Linked}
use Rattle.bc_bio.specs.Windows.{TaggedBio, NamedUnit, named_unit, named_units, units_of_request, joins, requests_of}
use Rattle.bc_bio.proofs.ChunkLaws.{chunks_and-joined, chunk_by-more}
use Rattle.bc_script.specs.Script.{Script, keys_of}
use Rattle.bc_script.specs.Bios.{is_inline}
use Rattle.bc_script.specs.Windows as turns
use Rattle.bc_stack.specs.Pieces.{device_of}
use Rattle.bc_report.specs.SerialRun.{DeviceUse, inline_key, holds_for, uses_of_turn}
use Rattle.bc_serial.specs.InTurn.{last_request, last_unit, hold_open_after, first_units_of}
use Rattle.bc_serial.proofs.Cutting.{last_push, joins_by_last, LastChunk, last_chunk, apart_more}
use Rattle.bc_serial.proofs.Pieces.{holds_under}
use Rattle.bc_base.proofs.Members.{range_push}

-- ---- the key of a request

context_key : (script : Script) (first second : Option Context) (units : ℕ) → context_runs_on first units second ≡ true
    → option_map_or (λ context. cond (is_inline script context.key) (Some context.key) None) first None
    ≡ option_map_or (λ context. cond (is_inline script context.key) (Some context.key) None) second None
context_key script None None units is = refl
context_key script None (Some second) units is = absurd (true≢false (sym is))
context_key script (Some first) None units is = absurd (true≢false (sym is))
context_key script (Some first) (Some second) units is =
    ap (λ (k : ℕ). cond (is_inline script (record { 0 = k })) (Some (record { 0 = k })) None) (eqb-true first.key.0 second.key.0 (and_parts (first.key.0 == second.key.0) _ is).0)

joined_key : (script : Script) (first second : TaggedBio) → joins (keys_of script) first second ≡ true → inline_key script (first ∷ []) ≡ inline_key script (second ∷ [])
joined_key script first second is =
    context_key script first.bio.context second.bio.context first.bio.units
    (and_parts (same_access first.bio.access second.bio.access && (second.bio.sector == end_of (keys_of script) first.bio)) (context_runs_on first.bio.context first.bio.units second.bio.context) is).1

same_key : (script : Script) (first : TaggedBio) (others : List TaggedBio) (next : TaggedBio) → Linked (joins (keys_of script)) (first ∷ others)
    → joins_last (joins (keys_of script)) (first ∷ others) next ≡ true → inline_key script (first ∷ others) ≡ inline_key script (next ∷ [])
same_key script first [] next linked is = joined_key script first next is
same_key script first (second ∷ others) next linked is = joined_key script first second linked.0 ∙ same_key script second others next linked.1 is

-- ---- the last request

-- the device of the last unit and the key of a request, if it goes inline and has a unit
abbrev pub open_by : Script → List TaggedBio → Option (ℕ × ℕ)
open_by script request =
    option_and_then (λ key. option_map (λ u. (device_of script.targets u, key.0)) (last_unit (units_of_request (keys_of script) request))) (inline_key script request)

pub record Split (script : Script) (op : ℕ) (bio : Extent) (done : List TaggedBio) : Type 0 where
  pub front : List (List TaggedBio)
  pub tail : List TaggedBio
  pub is : (n : ℕ) → requests_of (keys_of script) (done ++ first_units_of op bio n ∷ []) ≡ front ++ (tail ++ first_units_of op bio n ∷ []) ∷ []
  pub key : (n : ℕ) → inline_key script (tail ++ first_units_of op bio n ∷ []) ≡ inline_key script (first_units_of op bio 0 ∷ [])
  pub was : (device thread : ℕ) → uses_of_turn script device thread (turns.Window done)
      ≡ flat_map (holds_for script device thread) front ++ holds_for script device thread tail
  pub follows : ((joins_last (joins (keys_of script)) (last_request script done) (first_units_of op bio 0) ≡ false) × (tail ≡ []))
      ⊎ (hold_open_after script done ≡ open_by script tail)

pub split_at : (script : Script) (op : ℕ) (bio : Extent) (done : List TaggedBio) → Split script op bio done
split_at script op bio [] = record { front = []; tail = []; is = λ n. refl; key = λ n. refl; was = λ device thread. refl; follows = inl (refl, refl) }
split_at script op bio (y ∷ ys) = by (joins_last together (y ∷ ys) (first_units_of op bio 0)) refl
  where
    together : TaggedBio → TaggedBio → Bool
    together = joins (keys_of script)

    c : LastChunk TaggedBio together (y ∷ ys)
    c = last_chunk together y ys

    last_is : last_request script (y ∷ ys) ≡ c.last
    last_is =
        ap (λ (cs : List (List TaggedBio)). unwrap_or (last_or None cs) []) c.cut
        ∙ ap (λ (o : Option (List TaggedBio)). unwrap_or o []) (last_push None c.before c.last)

    by_chunk : (n : ℕ) → joins_last together c.last (first_units_of op bio n) ≡ joins_last together (y ∷ ys) (first_units_of op bio 0)
    by_chunk n =
        joins_by_last together c.last (first_units_of op bio n)
        ∙ ap (λ (o : Option TaggedBio). option_map_or (λ l. together l (first_units_of op bio n)) o false) c.ends
        ∙ sym (joins_by_last together (y ∷ ys) (first_units_of op bio 0))

    keyed : (n : ℕ) (tail : List TaggedBio) → Linked together tail → joins_last together tail (first_units_of op bio n) ≡ true
        → inline_key script (tail ++ first_units_of op bio n ∷ []) ≡ inline_key script (first_units_of op bio 0 ∷ [])
    keyed n [] linked is = absurd (true≢false (sym is))
    keyed n (t ∷ ts) linked is = same_key script t ts (first_units_of op bio n) linked is

    by : (b : Bool) → joins_last together (y ∷ ys) (first_units_of op bio 0) ≡ b → Split script op bio (y ∷ ys)
    by true is = record {
      front = c.before;
      tail = c.last;
      is = λ n.
          chunk_by-more together (y ∷ ys) (first_units_of op bio n) ∙ ap (λ (cs : List (List TaggedBio)). chunks_and together cs (first_units_of op bio n)) c.cut
          ∙ chunks_and-joined together c.before c.last (first_units_of op bio n) (by_chunk n ∙ is);
      key = λ n. keyed n c.last c.linked (by_chunk n ∙ is);
      was = λ device thread.
          ap (flat_map (holds_for script device thread)) c.cut ∙ flat_map-append (holds_for script device thread) c.before (c.last ∷ [])
          ∙ ap (λ (l : List DeviceUse). flat_map (holds_for script device thread) c.before ++ l) (append-nil (holds_for script device thread c.last));
      follows = inr (ap (open_by script) last_is);
    }
    by false is = record {
      front = chunk_by together (y ∷ ys);
      tail = [];
      is = λ n. apart_more together (y ∷ ys) (first_units_of op bio n) (joins_by_last together (y ∷ ys) (first_units_of op bio n) ∙ sym (joins_by_last together (y ∷ ys) (first_units_of op bio 0)) ∙ is);
      key = λ n. refl;
      was = λ device thread. sym (append-nil (flat_map (holds_for script device thread) (chunk_by together (y ∷ ys))));
      follows = inl (ap (λ (l : List TaggedBio). joins_last together l (first_units_of op bio 0)) last_is ∙ by_chunk 0 ∙ is, refl);
    }

module _ (script : Script) (op : ℕ) (bio : Extent) (done : List TaggedBio) (s : Split script op bio done) where
  -- the uses of a window
  pub uses_window : (device thread n : ℕ) → uses_of_turn script device thread (turns.Window (done ++ first_units_of op bio n ∷ []))
      ≡ flat_map (holds_for script device thread) s.front ++ holds_for script device thread (s.tail ++ first_units_of op bio n ∷ [])
  uses_window device thread n =
      ap (flat_map (holds_for script device thread)) (s.is n) ∙ flat_map-append (holds_for script device thread) s.front ((s.tail ++ first_units_of op bio n ∷ []) ∷ [])
      ∙ ap (λ (l : List DeviceUse). flat_map (holds_for script device thread) s.front ++ l) (append-nil (holds_for script device thread (s.tail ++ first_units_of op bio n ∷ [])))

  -- what is open after it
  pub open_window : (n : ℕ) → hold_open_after script (done ++ first_units_of op bio n ∷ []) ≡ open_by script (s.tail ++ first_units_of op bio n ∷ [])
  open_window n =
      ap (λ (cs : List (List TaggedBio)). open_by script (unwrap_or (last_or None cs) [])) (s.is n)
      ∙ ap (λ (o : Option (List TaggedBio)). open_by script (unwrap_or o [])) (last_push None s.front (s.tail ++ first_units_of op bio n ∷ []))

-- ---- its units

-- unit number n of the bio
abbrev pub unit_of_part : Script → ℕ → Extent → ℕ → NamedUnit
unit_of_part script op bio n = named_unit (keys_of script) (first_units_of op bio 0) n

-- one unit more
pub units_next : (script : Script) (op : ℕ) (bio : Extent) (tail : List TaggedBio) (n : ℕ)
    → units_of_request (keys_of script) (tail ++ first_units_of op bio (n + 1) ∷ [])
    ≡ units_of_request (keys_of script) (tail ++ first_units_of op bio n ∷ []) ++ unit_of_part script op bio n ∷ []
units_next script op bio tail n =
    let keys = keys_of script in
    let f = named_unit keys (first_units_of op bio 0) in
    let first = units_of_request keys tail in
    let range : range_with_len 0 (n + 1) ≡ range_with_len 0 n ++ n ∷ [] = range_push 0 n ∙ ap (λ (k : ℕ). range_with_len 0 n ++ k ∷ []) (omega arith) in
    flat_map-append (named_units keys) tail (first_units_of op bio (n + 1) ∷ [])
    ∙ ap (λ (l : List NamedUnit). first ++ l) (append-nil (map f (range_with_len 0 (n + 1))) ∙ ap (map f) range ∙ map-append f (range_with_len 0 n) (n ∷ []))
    ∙ sym (append_assoc first (map f (range_with_len 0 n)) (f n ∷ []))
    ∙ ap (λ (l : List NamedUnit). l ++ f n ∷ [])
    (ap (λ (l : List NamedUnit). first ++ l) (sym (append-nil (map f (range_with_len 0 n)))) ∙ sym (flat_map-append (named_units keys) tail (first_units_of op bio n ∷ [])))

-- none yet
pub units_none : (script : Script) (op : ℕ) (bio : Extent) (tail : List TaggedBio)
    → units_of_request (keys_of script) (tail ++ first_units_of op bio 0 ∷ []) ≡ units_of_request (keys_of script) tail
units_none script op bio tail = flat_map-append (named_units (keys_of script)) tail (first_units_of op bio 0 ∷ []) ∙ append-nil (units_of_request (keys_of script) tail)

-- so a bio that has none yet adds no hold
pub holds_begin : (script : Script) (op : ℕ) (bio : Extent) (device thread : ℕ) (tail : List TaggedBio)
    → holds_for script device thread (tail ++ first_units_of op bio 0 ∷ []) ≡ holds_for script device thread tail
holds_begin script op bio device thread [] =
    elim (inline_key script (first_units_of op bio 0 ∷ [])) as (λ (o : Option KeyNo). option_map_or (λ key. holds_under script device thread key []) o [] ≡ []) [
      | None ↦ refl
      | Some key ↦ refl
    ]
holds_begin script op bio device thread (t ∷ ts) =
    ap (λ (units : List NamedUnit). option_map_or (λ key. holds_under script device thread key units) (inline_key script (t ∷ ts)) []) (units_none script op bio (t ∷ ts))

pub open_begin : (script : Script) (op : ℕ) (bio : Extent) (t : TaggedBio) (ts : List TaggedBio) → open_by script (t ∷ ts ++ first_units_of op bio 0 ∷ []) ≡ open_by script (t ∷ ts)
open_begin script op bio t ts =
    ap (λ (units : List NamedUnit). option_and_then (λ key. option_map (λ u. (device_of script.targets u, key.0)) (last_unit units)) (inline_key script (t ∷ ts)))
    (units_none script op bio (t ∷ ts))

pub open_first : (script : Script) (op : ℕ) (bio : Extent) → open_by script (first_units_of op bio 0 ∷ []) ≡ None
open_first script op bio =
    elim (inline_key script (first_units_of op bio 0 ∷ [])) as (λ (o : Option KeyNo). option_and_then {U = ℕ × ℕ} (λ key. None) o ≡ None) [
      | None ↦ refl
      | Some key ↦ refl
    ]
