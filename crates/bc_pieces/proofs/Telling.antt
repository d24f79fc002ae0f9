-- What pieces tell together.
use Rattle.std.proofs.Common.{◌≡◌, ℕ, ◌+◌, ◌<◌, ◌≤◌, List, [], ◌∷◌, ◌++◌, length, append-nil, append_assoc, refl, sym, ap, subst, ◌∙◌, arith, Option, Some, None, not}
use Rattle.std.specs.Prelude.{sum_by, IsSomeAnd}
use Rattle.std.specs.List.{AllZip, range_with_len}
use Rattle.std.proofs.lemmas.List.Sums.{sum_by-cons}
use Rattle.std.proofs.lemmas.List.{map-append}
use Rattle.bc_base.specs.Lists.{Each, list_at}
use Rattle.bc_base.specs.Story.{own, StartsWith}
use Rattle.bc_bio.specs.declared.context.Context.{Context}
use Rattle.bc_bio.specs.Windows.{NamedUnit, count_units}
use Rattle.bc_bio.specs.Requests.{RequestParts, is_over, tagged_bios}
use Rattle.bc_medium.specs.declared.entry.Entry.{Entry}
use Rattle.bc_medium.specs.declared.unit_at.UnitAt.{UnitAt}
use Rattle.bc_medium.specs.declared.via.Via.{Via}
use Rattle.bc_medium.specs.declared.via.Via.TheVariants as ways
use Rattle.bc_medium.specs.Growth.{Grows}
use Rattle.bc_profile.specs.declared.event.Event.{Event}
use Rattle.bc_profile.specs.declared.noted.Noted.{Noted}
use Rattle.bc_profile.specs.Story.{Holds, Programs, author_of, note, notes}
use Rattle.bc_profile.specs.Laws.{HoldsNameProgrammings, LaterHoldsNameLater}
use Rattle.bc_stack.specs.declared.target.Target.{Target}
use Rattle.bc_stack.specs.Devices.{device_at}
use Rattle.bc_queue.specs.RequestUnits.{attempted_in, named_at}
use Rattle.bc_queue.specs.Carrying.{IsCarried}
use Rattle.bc_queue.specs.Queues.{IsUnderKey}
use Rattle.bc_queue.proofs.Lists.{each_filter, each_range}
use Rattle.bc_queue.proofs.Queues.{zip_right}
use Rattle.bc_pieces.specs.Pieces.{DeviceFacts, CarriesPiece, CarriesFirst, NotesOn, access_by, at_device, is_piece_on, is_piece_under, named_on, piece_part}
use Rattle.bc_pieces.specs.PieceEffects.{GoesByDevice, HasHoldBetween, IsHoldOf, NamesNoEarlier, Rise, AddsByDevice, events_on}
use Rattle.bc_pieces.proofs.Units.{part_on, piece_on, piece_under, sector_on}
use Rattle.bc_medium.proofs.Growing.{begins_itself, begins_trans, grows_none, grows_append}

pub each_append : {X : Type 0} (P : X → Type 0) (xs ys : List X) → Each P xs → Each P ys → Each P (xs ++ ys)
each_append P [] ys p q = q
each_append P (x ∷ xs) ys p q = (p.0, each_append P xs ys p.1 q)

pub each_more : {X : Type 0} (P Q : X → Type 0) → ((x : X) → P x → Q x) → (xs : List X) → Each P xs → Each Q xs
each_more P Q more [] p = tt
each_more P Q more (x ∷ xs) p = (more x p.0, each_more P Q more xs p.1)

pub notes_append : (caller : ℕ) (a b c : List Noted) (es fs : List Event) → NotesOn caller a b es → NotesOn caller b c fs → NotesOn caller a c (es ++ fs)
notes_append caller a b c es fs p q = record {
  front = begins_trans a b c p.front q.front;
  adds =
      q.adds
      ∙ ap (λ l. l ++ notes caller fs) p.adds
      ∙ append_assoc (own author_of caller a) (notes caller es) (notes caller fs)
      ∙ ap (λ l. own author_of caller a ++ l) (sym (map-append (note caller) es fs));
}

pub held_more : (slots : ℕ → ℕ) (older old new newer : List (List Noted)) → ((device : ℕ) → StartsWith (list_at old device) (list_at older device)) → ((device : ℕ) → StartsWith (list_at newer device) (list_at new device)) → (e : Entry) → HasHoldBetween slots old new e → HasHoldBetween slots older newer e
held_more slots older old new newer before after e h = record {
  device = h.device;
  slot = h.slot;
  epoch = h.epoch;
  key = h.key;
  way = h.way;
  under = h.under;
  front = h.front;
  begins = begins_trans (list_at older h.device) (list_at old h.device) h.front (before h.device) h.begins;
  seen = begins_trans h.front (list_at new h.device) (list_at newer h.device) h.seen (after h.device);
  holds = h.holds;
}

-- the entries of one piece
pub entries_held : (old new : DeviceFacts) (before after : RequestParts) (first device count : ℕ) (p : CarriesPiece old new before after first device count) (numbers : List ℕ) (es : List Entry)
    → AllZip (IsCarried (access_by (ways.Inline device p.slot p.epoch) old) new.access.seen before.bios after.bios) numbers es → Each (IsUnderKey p.under.key.0) es → Each (HasHoldBetween old.slots old.noted new.noted) es
entries_held old new before after first device count p [] [] all keyed = tt
entries_held old new before after first device count p [] (e ∷ es) all keyed = absurd all
entries_held old new before after first device count p (n ∷ numbers) [] all keyed = absurd all
entries_held old new before after first device count p (n ∷ numbers) (e ∷ es) all keyed = (
  record {
    device = device;
    slot = p.slot;
    epoch = p.epoch;
    key = p.under.key.0;
    way = all.0.way;
    under = keyed.0;
    front = p.front;
    begins = p.begins;
    seen = p.seen;
    holds = p.holds;
  },
  entries_held old new before after first device count p numbers es all.1 keyed.1,
)

-- each entry of one piece goes by the device of its sector
pub entries_go : (old new : DeviceFacts) (before after : RequestParts) (first device count : ℕ) (p : CarriesPiece old new before after first device count) → ((n : ℕ) → first ≤ n → n < first + count → device_at old.targets (named_at old.access.keys before.bios n).sector ≡ Some device)
    → Each (GoesByDevice old.targets) p.carries.made
entries_go old new before after first device count p on =
    let On : ℕ → Type 0 = λ n. device_at old.targets (named_at old.access.keys before.bios n).sector ≡ Some device in
    zip_right On (IsCarried (access_by (ways.Inline device p.slot p.epoch) old) new.access.seen before.bios after.bios) (GoesByDevice old.targets) (attempted_in after.bios first count) p.carries.made
    (λ n e is c. (device, p.slot, p.epoch, c.way, ap (λ (u : UnitAt). device_at old.targets u.sector) c.entry.unit ∙ is))
    (each_filter On (λ n. not (is_over after.bios n)) (range_with_len first count) (each_range On first count on)) p.carries.carried

-- ---- which events entries name

-- Private: the device, and the event, of an entry that went by one.
abbrev device_of_way : Via → ℕ
device_of_way (ways.Inline device slot event) = device
device_of_way ways.Plain = 0
device_of_way ways.Soft = 0

abbrev event_of_way : Via → ℕ
event_of_way (ways.Inline device slot event) = event
event_of_way ways.Plain = 0
event_of_way ways.Soft = 0

-- an entry is under one key
one_key : (o : Option Context) (key other : ℕ) → IsSomeAnd o (λ c. c.key.0 ≡ key) → IsSomeAnd o (λ c. c.key.0 ≡ other) → key ≡ other
one_key None key other is is' = absurd is
one_key (Some context) key other is is' = sym is ∙ is'

-- entries of one hold name one event
one_event : (device slot epoch : ℕ) (e f : Entry) → e.via ≡ ways.Inline device slot epoch → f.via ≡ ways.Inline device slot epoch → NamesNoEarlier e f
one_event device slot epoch e f p q device' slot' event other later key is is' under under' =
    let here : epoch ≡ event = ap event_of_way (sym p ∙ is) in
    let there : epoch ≡ later = ap event_of_way (sym q ∙ is') in
    omega (arith, here, there)

one_hold_rises : (device slot epoch : ℕ) (es : List Entry) → Each (λ e. e.via ≡ ways.Inline device slot epoch) es → Rise es
one_hold_rises device slot epoch [] each = tt
one_hold_rises device slot epoch (e ∷ es) each = (
  each_more (λ f. f.via ≡ ways.Inline device slot epoch) (NamesNoEarlier e) (λ f is. one_event device slot epoch e f each.0 is) es each.1,
  one_hold_rises device slot epoch es each.1,
)

pub entries_rise : (old new : DeviceFacts) (before after : RequestParts) (first device count : ℕ) (p : CarriesPiece old new before after first device count) → Rise p.carries.made
entries_rise old new before after first device count p =
    one_hold_rises device p.slot p.epoch p.carries.made
    (zip_right (λ n. n ≡ n) (IsCarried (access_by (ways.Inline device p.slot p.epoch) old) new.access.seen before.bios after.bios) (λ e. e.via ≡ ways.Inline device p.slot p.epoch) (attempted_in after.bios first count) p.carries.made
    (λ n e is c. c.way)
    (each_filter (λ n. n ≡ n) (λ n. not (is_over after.bios n)) (range_with_len first count) (each_range (λ n. n ≡ n) first count (λ n least below. refl))) p.carries.carried)

pub rise_append : (es fs : List Entry) → Rise es → Rise fs → Each (λ e. Each (NamesNoEarlier e) fs) es → Rise (es ++ fs)
rise_append [] fs p q across = q
rise_append (e ∷ es) fs p q across = (each_append (NamesNoEarlier e) es fs p.0 across.0, rise_append es fs p.1 q across.1)

module _ (name : HoldsNameProgrammings) (name_later : LaterHoldsNameLater) where
  -- of two holds of one key on one device the later one names no earlier event
  names_later : (slots : ℕ → ℕ) (old mid new : List (List Noted)) (e f : Entry) → HasHoldBetween slots old mid e → HasHoldBetween slots mid new f → NamesNoEarlier e f
  names_later slots old mid new e f h k device slot event other later key is is' under under' =
      let devices : k.device ≡ h.device = ap device_of_way (sym k.way ∙ is') ∙ sym (ap device_of_way (sym h.way ∙ is)) in
      let keys : k.key ≡ h.key = one_key f.at.context k.key key k.under under' ∙ sym (one_key e.at.context h.key key h.under under) in
      let begins : StartsWith k.front h.front = begins_trans h.front (list_at mid h.device) k.front h.seen (subst (λ d. StartsWith k.front (list_at mid d)) devices k.begins) in
      let holds : Holds (slots h.device) k.front h.key k.slot k.epoch = subst (λ d. Holds (slots d) k.front h.key k.slot k.epoch) devices (subst (λ n. Holds (slots k.device) k.front n k.slot k.epoch) keys k.holds) in
      let programs : Programs h.front h.epoch h.slot h.key = name (slots h.device) h.front h.key h.slot h.epoch h.holds in
      let least : h.epoch ≤ k.epoch = name_later (slots h.device) h.front k.front h.key k.slot k.epoch h.slot h.epoch begins programs holds in
      let here : h.epoch ≡ event = ap event_of_way (sym h.way ∙ is) in
      let there : k.epoch ≡ later = ap event_of_way (sym k.way ∙ is') in
      omega (arith, least, here, there)

  pub across_holds : (slots : ℕ → ℕ) (old mid new : List (List Noted)) (es fs : List Entry) → Each (HasHoldBetween slots old mid) es → Each (HasHoldBetween slots mid new) fs → Each (λ e. Each (NamesNoEarlier e) fs) es
  across_holds slots old mid new es fs before after =
      each_more (HasHoldBetween slots old mid) (λ e. Each (NamesNoEarlier e) fs)
      (λ e h. each_more (HasHoldBetween slots mid new) (NamesNoEarlier e) (λ f k. names_later slots old mid new e f h k) fs after) es before

-- ---- what pieces tell

unfoldable pub tells_none : (facts : DeviceFacts) → AddsByDevice facts facts []
tells_none facts = record {
  same = record { keys = refl; shards = refl; caller = refl; targets = refl; slots = refl };
  made = [];
  holds = [];
  one_for_each = tt;
  grows = grows_none facts.access.shards facts.access.caller facts.access.seen;
  ways = tt;
  notes = λ device. record { front = begins_itself (list_at facts.noted device); adds = sym (append-nil (own author_of facts.access.caller (list_at facts.noted device))) };
  held = tt;
  rises = tt;
  spare = λ shard. omega arith;
}

module _ (name : HoldsNameProgrammings) (name_later : LaterHoldsNameLater) (Exact : DeviceFacts → DeviceFacts → ℕ → List NamedUnit → Type 0) (old mid new : DeviceFacts) (before after : RequestParts) (first : ℕ) (piece : List NamedUnit) (pieces : List (List NamedUnit)) where
  unfoldable pub tells_more : CarriesFirst Exact old.access.keys old.targets old mid before after first piece → first + length piece ≤ count_units (tagged_bios before.bios) → AddsByDevice mid new pieces → AddsByDevice old new (piece ∷ pieces)
  tells_more f within q =
      let p : CarriesPiece old mid before after first f.device (length piece) = f.carries in
      let device : ℕ = f.device in
      let hold : IsHoldOf old.targets piece (record { device = device; key = p.under.key.0; slot = p.slot; made = p.made; is = p.one_hold }) = record {
        on_device = ap (is_piece_on old.targets device) f.piece_is ∙ piece_on old.access.keys old.targets before first (length piece) device f.some within (f.on_device first (omega arith) (omega (arith, f.some)));
        under = ap (is_piece_under p.under.key.0) f.piece_is ∙ piece_under old.access.keys before first (length piece) p.under f.some within p.first_context;
      } in
      let grows : Grows old.access.shards old.access.caller mid.access.seen new.access.seen q.made =
      subst (λ c. Grows old.access.shards c mid.access.seen new.access.seen q.made) p.same.caller (subst (λ k. Grows k mid.access.caller mid.access.seen new.access.seen q.made) p.same.shards q.grows) in
      let noted : (device : ℕ) → NotesOn old.access.caller (list_at mid.noted device) (list_at new.noted device) (events_on q.holds device) =
      λ device. subst (λ c. NotesOn c (list_at mid.noted device) (list_at new.noted device) (events_on q.holds device)) p.same.caller (q.notes device) in
      let here : Each (HasHoldBetween old.slots old.noted mid.noted) p.carries.made = entries_held old mid before after first device (length piece) p (attempted_in after.bios first (length piece)) p.carries.made p.carries.carried p.keyed in
      let held : Each (HasHoldBetween old.slots mid.noted new.noted) q.made = subst (λ (s : ℕ → ℕ). Each (HasHoldBetween s mid.noted new.noted) q.made) p.same.slots q.held in record {
        same = record {
          keys = q.same.keys ∙ p.same.keys;
          shards = q.same.shards ∙ p.same.shards;
          caller = q.same.caller ∙ p.same.caller;
          targets = q.same.targets ∙ p.same.targets;
          slots = q.same.slots ∙ p.same.slots;
        };
        made = p.carries.made ++ q.made;
        holds = record { device = device; key = p.under.key.0; slot = p.slot; made = p.made; is = p.one_hold } ∷ q.holds;
        one_for_each = (hold, subst (λ (ts : List Target). AllZip (IsHoldOf ts) pieces q.holds) p.same.targets q.one_for_each);
        grows = grows_append old.access.shards old.access.caller old.access.seen mid.access.seen new.access.seen p.carries.made q.made p.carries.grows grows;
        ways = each_append (GoesByDevice old.targets) p.carries.made q.made
            (entries_go old mid before after first device (length piece) p (λ n least below. sector_on old.access.keys old.targets before n device f.has_device (f.on_device n least below)))
            (subst (λ (ts : List Target). Each (GoesByDevice ts) q.made) p.same.targets q.ways);
        notes = λ other. notes_append old.access.caller (list_at old.noted other) (list_at mid.noted other) (list_at new.noted other) (at_device device p.made other) (events_on q.holds other) (p.notes other) (noted other);
        held = each_append (HasHoldBetween old.slots old.noted new.noted) p.carries.made q.made
            (each_more (HasHoldBetween old.slots old.noted mid.noted) (HasHoldBetween old.slots old.noted new.noted)
            (held_more old.slots old.noted old.noted mid.noted new.noted (λ device. begins_itself (list_at old.noted device)) (λ device. (q.notes device).front)) p.carries.made here)
            (each_more (HasHoldBetween old.slots mid.noted new.noted) (HasHoldBetween old.slots old.noted new.noted)
            (held_more old.slots old.noted mid.noted new.noted new.noted (λ device. (p.notes device).front) (λ device. begins_itself (list_at new.noted device))) q.made held);
        rises = rise_append p.carries.made q.made (entries_rise old mid before after first device (length piece) p) q.rises (across_holds name name_later old.slots old.noted mid.noted new.noted p.carries.made q.made here held);
        spare = λ shard.
            let spent = p.carries.spare shard in
            let part = part_on old.access.keys before old.access.shards shard first (length piece) within in
            let same : named_on old.access.shards shard piece ≡ named_on old.access.shards shard (piece_part old.access.keys before first (length piece)) = ap (named_on old.access.shards shard) f.piece_is in
            let rest : mid.access.spare shard ≤ new.access.spare shard + sum_by (named_on old.access.shards shard) pieces = subst (λ (k : ℕ). mid.access.spare shard ≤ new.access.spare shard + sum_by (named_on k shard) pieces) p.same.shards (q.spare shard) in
            let sum = sum_by-cons (named_on old.access.shards shard) piece pieces in
            omega (arith, spent, part, same, rest, sum);
      }
