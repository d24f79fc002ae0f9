-- What requests that are carried out one after the other add together.
use Rattle.std.proofs.Common.{◌≡◌, ℕ, ◌+◌, List, [], ◌∷◌, ◌++◌, append-nil, refl, sym, ap, subst, ◌∙◌, length}
use Rattle.std.specs.Prelude.{filter}
use Rattle.std.specs.List.{AllZip}
use Rattle.std.proofs.lemmas.Grind.{flat_map-append}
use Rattle.std.proofs.lemmas.List.{length-append}
use Rattle.std.proofs.lemmas.List.Elements.{filter-append}
use Rattle.bc_base.specs.Lists.{Each, list_at}
use Rattle.bc_base.specs.Story.{own, StartsWith}
use Rattle.bc_key.specs.KeyData.{KeyData}
use Rattle.bc_bio.specs.Windows.{NamedUnit}
use Rattle.bc_medium.specs.declared.entry.Entry.{Entry}
use Rattle.bc_medium.specs.declared.via.Via.{Via}
use Rattle.bc_medium.specs.declared.via.Via.TheVariants as ways
use Rattle.bc_medium.specs.Growth.{Grows}
use Rattle.bc_profile.specs.declared.noted.Noted.{Noted}
use Rattle.bc_profile.specs.Story.{author_of}
use Rattle.bc_profile.specs.Laws.{HoldsNameProgrammings, LaterHoldsNameLater}
use Rattle.bc_stack.specs.declared.target.Target.{Target}
use Rattle.bc_pieces.specs.Pieces.{DeviceFacts, NotesOn, SameDisk, at_device, pieces_on, is_piece_on}
use Rattle.bc_pieces.specs.PieceEffects.{IsHoldOf, NamesNoEarlier, OneHold, events_on}
use Rattle.bc_pieces.proofs.Telling.{across_holds, each_append, each_more, held_more, notes_append, rise_append}
use Rattle.bc_disk.specs.Submissions.{Adds, GoesItsWay, HasItsHold, IsInline}
use Rattle.bc_base.proofs.Members.{zip_append}
use Rattle.bc_medium.proofs.Growing.{begins_itself, grows_append, grows_none}

pub inline_of : (via : Via) (device slot event : ℕ) → via ≡ ways.Inline device slot event → IsInline via
inline_of via device slot event is = subst IsInline (sym is) tt

pub events_append : (holds others : List OneHold) (device : ℕ) → events_on (holds ++ others) device ≡ events_on holds device ++ events_on others device
events_append holds others device = flat_map-append (λ (hold : OneHold). at_device hold.device hold.made device) holds others

pub its_hold_more : (slots : ℕ → ℕ) (older old new newer : List (List Noted)) → ((device : ℕ) → StartsWith (list_at old device) (list_at older device)) → ((device : ℕ) → StartsWith (list_at newer device) (list_at new device)) → (e : Entry) → HasItsHold slots old new e → HasItsHold slots older newer e
its_hold_more slots older old new newer before after e h inline = held_more slots older old new newer before after e (h inline)

module _ (name : HoldsNameProgrammings) (name_later : LaterHoldsNameLater) where
  pub names_across : (slots : ℕ → ℕ) (old mid new : List (List Noted)) (e f : Entry) → HasItsHold slots old mid e → HasItsHold slots mid new f → NamesNoEarlier e f
  names_across slots old mid new e f h k device slot event other later key is is' under under' =
      (across_holds name name_later slots old mid new (e ∷ []) (f ∷ []) (h (inline_of e.via device slot event is), tt) (k (inline_of f.via device other later is'), tt)).0.0
      device slot event other later key is is' under under'

  pub all_across : (slots : ℕ → ℕ) (old mid new : List (List Noted)) (es fs : List Entry) → Each (HasItsHold slots old mid) es → Each (HasItsHold slots mid new) fs → Each (λ e. Each (NamesNoEarlier e) fs) es
  all_across slots old mid new es fs before after =
      each_more (HasItsHold slots old mid) (λ e. Each (NamesNoEarlier e) fs)
      (λ e h. each_more (HasItsHold slots mid new) (NamesNoEarlier e) (λ f k. names_across slots old mid new e f h k) fs after) es before

  pub same_trans : (old mid new : DeviceFacts) → SameDisk old mid → SameDisk mid new → SameDisk old new
  same_trans old mid new p q = record {
    keys = q.keys ∙ p.keys;
    shards = q.shards ∙ p.shards;
    caller = q.caller ∙ p.caller;
    targets = q.targets ∙ p.targets;
    slots = q.slots ∙ p.slots;
  }

  unfoldable pub adds_append : (old mid new : DeviceFacts) (pieces others : List (List NamedUnit)) → Adds old mid pieces → Adds mid new others → Adds old new (pieces ++ others)
  adds_append old mid new pieces others p q =
      let grows : Grows old.access.shards old.access.caller mid.access.seen new.access.seen q.made =
      subst (λ c. Grows old.access.shards c mid.access.seen new.access.seen q.made) p.same.caller (subst (λ k. Grows k mid.access.caller mid.access.seen new.access.seen q.made) p.same.shards q.grows) in
      let noted : (device : ℕ) → NotesOn old.access.caller (list_at mid.noted device) (list_at new.noted device) (events_on q.holds device) =
      λ device. subst (λ c. NotesOn c (list_at mid.noted device) (list_at new.noted device) (events_on q.holds device)) p.same.caller (q.notes device) in
      let held : Each (HasItsHold old.slots mid.noted new.noted) q.made = subst (λ (s : ℕ → ℕ). Each (HasItsHold s mid.noted new.noted) q.made) p.same.slots q.held in
      let goes : Each (GoesItsWay old.targets old.access.keys) q.made =
      subst (λ (ts : List Target). Each (GoesItsWay ts old.access.keys) q.made) p.same.targets (subst (λ (ks : List KeyData). Each (GoesItsWay mid.targets ks) q.made) p.same.keys q.ways) in
      record {
        same = same_trans old mid new p.same q.same;
        made = p.made ++ q.made;
        holds = p.holds ++ q.holds;
        one_for_each = zip_append (IsHoldOf old.targets) pieces others p.holds q.holds p.one_for_each (subst (λ (ts : List Target). AllZip (IsHoldOf ts) others q.holds) p.same.targets q.one_for_each);
        grows = grows_append old.access.shards old.access.caller old.access.seen mid.access.seen new.access.seen p.made q.made p.grows grows;
        ways = each_append (GoesItsWay old.targets old.access.keys) p.made q.made p.ways goes;
        notes = λ device. subst (λ es. NotesOn old.access.caller (list_at old.noted device) (list_at new.noted device) es) (sym (events_append p.holds q.holds device))
            (notes_append old.access.caller (list_at old.noted device) (list_at mid.noted device) (list_at new.noted device) (events_on p.holds device) (events_on q.holds device) (p.notes device) (noted device));
        held = each_append (HasItsHold old.slots old.noted new.noted) p.made q.made
            (each_more (HasItsHold old.slots old.noted mid.noted) (HasItsHold old.slots old.noted new.noted)
            (its_hold_more old.slots old.noted old.noted mid.noted new.noted (λ device. begins_itself (list_at old.noted device)) (λ device. (q.notes device).front)) p.made p.held)
            (each_more (HasItsHold old.slots mid.noted new.noted) (HasItsHold old.slots old.noted new.noted)
            (its_hold_more old.slots old.noted mid.noted new.noted new.noted (λ device. (p.notes device).front) (λ device. begins_itself (list_at new.noted device))) q.made held);
        rises = rise_append p.made q.made p.rises q.rises (all_across old.slots old.noted mid.noted new.noted p.made q.made p.held held);
      }

-- nothing was added
unfoldable pub adds_none : (facts : DeviceFacts) → Adds facts facts []
adds_none facts = record {
  same = record { keys = refl; shards = refl; caller = refl; targets = refl; slots = refl };
  made = [];
  holds = [];
  one_for_each = tt;
  grows = grows_none facts.access.shards facts.access.caller facts.access.seen;
  ways = tt;
  notes = λ device. record { front = begins_itself (list_at facts.noted device); adds = sym (append-nil (own author_of facts.access.caller (list_at facts.noted device))) };
  held = tt;
  rises = tt;
}

pub pieces_append : (targets : List Target) (device : ℕ) (pieces others : List (List NamedUnit)) → pieces_on targets device (pieces ++ others) ≡ pieces_on targets device pieces + pieces_on targets device others
pieces_append targets device pieces others = ap length (filter-append (is_piece_on targets device) pieces others) ∙ length-append (filter (is_piece_on targets device) pieces) (filter (is_piece_on targets device) others)
