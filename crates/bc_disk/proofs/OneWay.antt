-- A request whose units all go one way that isn't inline.
use Rattle.std.proofs.Common.{◌≡◌, ℕ, ◌<◌, List, [], ◌∷◌, ◌++◌, append-nil, length, not, refl, sym, ap, subst, arith, Option, Some, None}
use Rattle.std.specs.Prelude.{MatchOption}
use Rattle.std.specs.List.{AllZip, range_with_len}
use Rattle.bc_base.specs.Lists.{Each, list_at}
use Rattle.bc_base.specs.Story.{own, StartsWith}
use Rattle.bc_bio.specs.declared.bio.Bio.{Bio}
use Rattle.bc_bio.specs.declared.marked_bio.MarkedBio.{MarkedBio}
use Rattle.bc_bio.specs.Requests.{RequestParts, is_over, tagged_bios}
use Rattle.bc_bio.specs.Windows.{NamedUnit, count_units}
use Rattle.bc_medium.specs.declared.entry.Entry.{Entry}
use Rattle.bc_medium.specs.declared.unit_at.UnitAt.{UnitAt}
use Rattle.bc_medium.specs.declared.via.Via.{Via}
use Rattle.bc_profile.specs.declared.noted.Noted.{Noted}
use Rattle.bc_profile.specs.Story.{author_of}
use Rattle.bc_queue.specs.Carrying.{AccessFacts, CarriesOut, IsCarried}
use Rattle.bc_queue.specs.RequestUnits.{attempted_in, named_at}
use Rattle.bc_queue.proofs.Lists.{each_filter, each_range}
use Rattle.bc_queue.proofs.Queues.{zip_right}
use Rattle.bc_pieces.specs.Laws.{OneWayIsWhole}
use Rattle.bc_pieces.specs.Pieces.{DeviceFacts, access_by}
use Rattle.bc_pieces.specs.PieceEffects.{IsHoldOf, NamesNoEarlier, Rise}
use Rattle.bc_pieces.specs.Becoming.{Becomes, IsAnswered, IsStopped}
use Rattle.bc_pieces.specs.AttemptedRequest.{IsWholeRequest, by_way}
use Rattle.bc_pieces.proofs.Telling.{each_more}
use Rattle.bc_disk.specs.Submissions.{CarriesRequest, GoesItsWay, HasItsHold, IsInline, IsWayOf, inline_pieces}
use Rattle.bc_disk.proofs.Adding.{inline_of}
use Rattle.bc_medium.proofs.Growing.{begins_itself}
use Rattle.bc_pieces.proofs.Whole.{zip_each}

-- ---- what became of a bio says nothing of the way, of what else was seen, or of room

-- the same caller, by another way, who has seen these orders and has this room
abbrev pub moved : Via → List (List Entry) → (ℕ → ℕ) → AccessFacts → AccessFacts
moved via fronts room facts = record facts { via = via; seen = fronts; spare = room }

module _ (via : Via) (fronts : List (List Entry)) (room : ℕ → ℕ) (facts : AccessFacts) (seen : List (List Entry)) where
  answered_by : (old new : Bio) (i : ℕ) (failed : Rattle.std.specs.Prelude.Bool) → IsAnswered (moved via fronts room facts) seen old new i failed → IsAnswered facts seen old new i failed
  answered_by old new i failed a = record {
    place = a.place;
    shard = a.shard;
    bytes = a.bytes;
    content = a.content;
    full = a.full;
    written = a.written;
    told = a.told;
    known = a.known;
  }

  stopped_by : (old new : Bio) (unit : ℕ) → IsStopped (moved via fronts room facts) seen old new unit → IsStopped facts seen old new unit
  stopped_by old new unit s = record {
    within = s.within;
    fault = answered_by old new unit Rattle.std.specs.Prelude.true s.fault;
    done = λ i less. answered_by old new i Rattle.std.specs.Prelude.false (s.done i less);
    left = s.left;
  }

  outcome_by : (old new : Bio) (fault : Option ℕ) → MatchOption fault ((i : ℕ) → i < length old.units → IsAnswered (moved via fronts room facts) seen old new i Rattle.std.specs.Prelude.false) (IsStopped (moved via fronts room facts) seen old new)
      → MatchOption fault ((i : ℕ) → i < length old.units → IsAnswered facts seen old new i Rattle.std.specs.Prelude.false) (IsStopped facts seen old new)
  outcome_by old new None all = λ i less. answered_by old new i Rattle.std.specs.Prelude.false (all i less)
  outcome_by old new (Some unit) is = stopped_by old new unit is

  pub becomes_by : (old new : MarkedBio) → Becomes (moved via fronts room facts) seen old new → Becomes facts seen old new
  becomes_by old new b = record {
    same = b.same;
    outcome = outcome_by old.bio new.bio new.fault b.outcome;
    known = b.known;
  }

pub whole_by : (via : Via) (old new : AccessFacts) (before after : RequestParts) (made : List Entry) → IsWholeRequest (by_way via old) (by_way via new) before after made → IsWholeRequest old new before after made
whole_by via old new before after made w = record {
  attempts = w.attempts;
  marks = w.marks;
  becomes = zip_each (Becomes (by_way via old) new.seen) (Becomes old new.seen) before.bios after.bios (becomes_by via old.seen old.spare old new.seen) w.becomes;
}

-- ---- entries that aren't inline

pub rises_none : (es : List Entry) → Each (λ e. IsInline e.via → ⊥) es → Rise es
rises_none [] none = tt
rises_none (e ∷ es) none = (
  each_more (λ (f : Entry). IsInline f.via → ⊥) (NamesNoEarlier e)
      (λ f no device slot event other later key is is' under under'. absurd (none.0 (inline_of e.via device slot event is))) es none.1,
  rises_none es none.1,
)

module _ (law : OneWayIsWhole) (via : Via) (other : IsInline via → ⊥) (old new : DeviceFacts) (before after : RequestParts) where
  -- what each entry of such a request is, from what each of its units is
  pub entries_are : (On : ℕ → Type 0) (P : Entry → Type 0) (p : CarriesOut (access_by via old) (access_by via new) before after 0 (count_units (tagged_bios before.bios)))
      → ((n : ℕ) (e : Entry) → On n → IsCarried (access_by via old) new.access.seen before.bios after.bios n e → P e) → ((n : ℕ) → n < count_units (tagged_bios before.bios) → On n) → Each P p.made
  entries_are On P p f on =
      zip_right On (IsCarried (access_by via old) new.access.seen before.bios after.bios) P (attempted_in after.bios 0 (count_units (tagged_bios before.bios))) p.made f
      (each_filter On (λ n. not (is_over after.bios n)) (range_with_len 0 (count_units (tagged_bios before.bios))) (each_range On 0 (count_units (tagged_bios before.bios)) (λ n least below. on n (omega (arith, below))))) p.carried

  unfoldable pub carries_by : CarriesOut (access_by via old) (access_by via new) before after 0 (count_units (tagged_bios before.bios)) → new.targets ≡ old.targets → new.slots ≡ old.slots → new.noted ≡ old.noted
      → inline_pieces old.targets old.access.keys (tagged_bios before.bios) ≡ []
      → ((n : ℕ) → n < count_units (tagged_bios before.bios) → IsWayOf old.targets old.access.keys (named_at old.access.keys before.bios n).context (named_at old.access.keys before.bios n).sector via)
      → CarriesRequest old new before after
  carries_by p targets slots noted none go =
      let On : ℕ → Type 0 = λ n. IsWayOf old.targets old.access.keys (named_at old.access.keys before.bios n).context (named_at old.access.keys before.bios n).sector via in
      let goes : Each (GoesItsWay old.targets old.access.keys) p.made =
      entries_are On (GoesItsWay old.targets old.access.keys) p
      (λ n e is c. subst (λ (u : UnitAt). IsWayOf old.targets old.access.keys u.context u.sector e.via) (sym c.entry.unit)
      (subst (λ (v : Via). IsWayOf old.targets old.access.keys (named_at old.access.keys before.bios n).context (named_at old.access.keys before.bios n).sector v) (sym c.way) is)) go in
      let nots : Each (λ e. IsInline e.via → ⊥) p.made =
      entries_are (λ n. n ≡ n) (λ e. IsInline e.via → ⊥) p (λ n e is c inline. other (subst IsInline c.way inline)) (λ n less. refl) in
      record {
        adds = record {
          same = record { keys = ap (λ (f : AccessFacts). f.keys) p.same; shards = ap (λ (f : AccessFacts). f.shards) p.same; caller = ap (λ (f : AccessFacts). f.caller) p.same; targets = targets; slots = slots };
          made = p.made;
          holds = [];
          one_for_each = subst (λ (ps : List (List NamedUnit)). AllZip (IsHoldOf old.targets) ps []) (sym none) tt;
          grows = p.grows;
          ways = goes;
          notes = λ device. record {
            front = subst (λ (l : List (List Noted)). StartsWith (list_at l device) (list_at old.noted device)) (sym noted) (begins_itself (list_at old.noted device));
            adds = subst (λ (l : List (List Noted)). own author_of old.access.caller (list_at l device) ≡ own author_of old.access.caller (list_at old.noted device) ++ []) (sym noted) (sym (append-nil (own author_of old.access.caller (list_at old.noted device))));
          };
          held = each_more (λ e. IsInline e.via → ⊥) (HasItsHold old.slots old.noted new.noted) (λ e no inline. absurd (no inline)) p.made nots;
          rises = rises_none p.made nots;
        };
        whole = λ fine. whole_by via old.access new.access before after p.made (law (access_by via old) (access_by via new) before after p fine);
        bios = p.bios;
        room = p.room;
      }
