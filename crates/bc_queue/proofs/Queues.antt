-- The parts of a queue and of its passes; what a hold serves; and the one key of a request.
use Rattle.std.proofs.Common.{◌≡◌, ◌≢◌, ℕ, zero, suc, ◌+◌, ◌-◌, ◌<◌, ◌≤◌, ◌⊎◌, Bool, true, false, cond, List, [], ◌∷◌, length, map, set, get_or, refl, sym, ap, subst, ◌∙◌, arith, Option, Some, None}
use Rattle.std.specs.Prelude.{◌&&◌, ◌==◌, IsSomeAnd, slice_get, is_some, not}
use Rattle.std.specs.Option.{option_map, unwrap_or}
use Rattle.std.specs.List.{AllZip, range_with_len}
use Rattle.std.proofs.Math.Logic.{⊎_elim}
use Rattle.std.proofs.lemmas.Bool.{and_parts, eqb-true, false≢true}
use Rattle.std.proofs.lemmas.Option.{none-some, same_Some, slice_get_within}
use Rattle.std.proofs.lemmas.List.{length-append, length-map, set-set}
use Rattle.bc_base.specs.Lists.{At, AllAt, ChangesAt, Each, EachFrom}
use Rattle.bc_base.proofs.Lists.{each_at, each_append, each_set, at_one}
use Rattle.bc_key.specs.KeyData.{KeyData}
use Rattle.bc_key.specs.KeyList.{key_at}
use Rattle.bc_modes.specs.Capabilities.{Capabilities, is_supported, index_for}
use Rattle.bc_modes.specs.Entries.{entry_words, words_of_bytes, entry_bytes}
use Rattle.bc_bio.specs.declared.context.Context.{Context}
use Rattle.bc_bio.specs.declared.marked_bio.MarkedBio.{MarkedBio}
use Rattle.bc_bio.specs.BackRuns.{back_runs_on, context_runs_on, same_access}
use Rattle.bc_bio.specs.BioUnits.{context_wrapped}
use Rattle.bc_bio.specs.Chunks.{Linked}
use Rattle.bc_bio.specs.Extent.{end_of}
use Rattle.bc_bio.specs.Windows.{TaggedBio, NamedUnit, named_unit, named_units, units_of_request, joins, IsRequest}
use Rattle.bc_bio.specs.Requests.{tagged_bios, is_over}
use Rattle.bc_medium.specs.declared.unit_at.UnitAt.{UnitAt}
use Rattle.bc_profile.specs.Rows.{cleared}
use Rattle.bc_profile.specs.Passes.{SlotFacts, HoldFacts, ProfileData, IsOf, HasSpare, Noticed, Gets, ProgramsSlot, Puts, row_at, made_by, slots_in, base_in, quota_of}
use Rattle.bc_profile.specs.declared.event.Event.{Event}
use Rattle.bc_profile.specs.declared.event.Event.TheVariants as events
use Rattle.bc_profile.specs.Story.{Holds, note, notes}
use Rattle.bc_ufs.specs.Controllers.{ControllerData, row_for, Serves}
use Rattle.bc_medium.specs.declared.entry.Entry.{Entry}
use Rattle.bc_queue.specs.RequestUnits.{named_at, no_unit, attempted_in}
use Rattle.bc_queue.specs.Carrying.{AccessFacts, IsCarried, ArePerformable}
use Rattle.bc_queue.specs.Queues.{QueueData, HasEvents, CanGo, IsHolding, PassHasHold, HasGot, HasPut, HoldsOnce, IsController, TakesInline, TakesUnder, InlineData, IsUnderKey}
use Rattle.bc_queue.proofs.Lists.{each_range, each_filter}
use Rattle.bc_base.proofs.Members.{at_set}

-- ---- lists beside each other

pub zip_at : {X Y : Type 0} (R : X → Y → Type 0) (xs : List X) (ys : List Y) (k : ℕ) (x : X) (y : Y) → AllZip R xs ys → At xs k x → At ys k y → R x y
zip_at R [] ys k x y all at other = absurd (none-some x at)
zip_at R (z ∷ xs) [] k x y all at other = absurd (none-some y other)
zip_at R (z ∷ xs) (w ∷ ys) zero x y all at other = subst (λ a. R a y) (same_Some z x at) (subst (R z) (same_Some w y other) all.0)
zip_at R (z ∷ xs) (w ∷ ys) (suc k) x y all at other = zip_at R xs ys k x y all.1 at other

pub zip_set : {X Y : Type 0} (R : X → Y → Type 0) (xs : List X) (ys : List Y) (k : ℕ) (y : Y) → AllZip R xs ys → AllAt xs k (λ x. R x y) → AllZip R xs (set ys k y)
zip_set R [] [] k y all is = tt
zip_set R [] (w ∷ ys) k y all is = absurd all
zip_set R (z ∷ xs) [] k y all is = absurd all
zip_set R (z ∷ xs) (w ∷ ys) zero y all is = (is z refl, all.1)
zip_set R (z ∷ xs) (w ∷ ys) (suc k) y all is = (all.0, zip_set R xs ys k y all.1 is)

pub zip_right : {X Y : Type 0} (P : X → Type 0) (R : X → Y → Type 0) (Q : Y → Type 0) (xs : List X) (ys : List Y) → ((x : X) (y : Y) → P x → R x y → Q y) → Each P xs → AllZip R xs ys → Each Q ys
zip_right P R Q [] [] f each all = tt
zip_right P R Q [] (y ∷ ys) f each all = absurd all
zip_right P R Q (x ∷ xs) [] f each all = absurd all
zip_right P R Q (x ∷ xs) (y ∷ ys) f each all = (f x y each.0 all.0, zip_right P R Q xs ys f each.1 all.1)

pub from_at : {X : Type 0} (P : ℕ → X → Type 0) (first : ℕ) (xs : List X) (k : ℕ) (x : X) → EachFrom P first xs → At xs k x → P (first + k) x
from_at P first [] k x all at = absurd (none-some x at)
from_at P first (z ∷ xs) zero x all at = subst (λ n. P n x) (plus first) (subst (P first) (same_Some z x at) all.0)
  where
    plus : (n : ℕ) → n ≡ n + 0
    plus n = omega arith
from_at P first (z ∷ xs) (suc k) x all at = subst (λ n. P n x) (over first k) (from_at P (first + 1) xs k x all.1 at)
  where
    over : (n k : ℕ) → n + 1 + k ≡ n + suc k
    over n k = omega arith

pub from_start : {X : Type 0} (P : ℕ → X → Type 0) (xs : List X) (k : ℕ) (x : X) → EachFrom P 0 xs → At xs k x → P k x
from_start P xs k x all at = subst (λ n. P n x) (plus k) (from_at P 0 xs k x all at)
  where
    plus : (n : ℕ) → 0 + n ≡ n
    plus n = omega arith

-- ---- what a hold serves

-- a key that is supported has an entry
entry_there : (key : KeyData) (caps : Capabilities) → is_supported caps key.config ≡ true → entry_words key caps ≡ Some (unwrap_or (entry_words key caps) cleared)
unfolding entry_words
entry_there key caps supported = of_index (index_for caps key.config.mode key.config.unit) (and_parts _ _ supported).0
  where
    of_index : (o : Option ℕ) → is_some o ≡ true → option_map (λ i. words_of_bytes (entry_bytes key i)) o ≡ Some (unwrap_or (option_map (λ i. words_of_bytes (entry_bytes key i)) o) cleared)
    of_index None none = absurd (false≢true none)
    of_index (Some i) some = refl

-- the row of a key that is supported is its entry
row_is : (keys : List KeyData) (device k : ℕ) (controller : ControllerData) (key : KeyData) → IsController keys device controller → slice_get keys k ≡ Some key → is_supported controller.caps key.config ≡ true → row_at controller.profile k ≡ unwrap_or (entry_words key controller.caps) cleared
row_is keys device k controller key is at supported =
    ap (λ (rows : List (List ℕ)). get_or rows k cleared) is.rows
    ∙ Rattle.bc_queue.proofs.Lists.get_or_map (row_for controller.caps) keys k key cleared at
    ∙ ap (λ (b : Bool). cond b (unwrap_or (entry_words key controller.caps) cleared) cleared) supported

pub rows_length : (keys : List KeyData) (device : ℕ) (controller : ControllerData) → IsController keys device controller → length controller.profile.rows ≡ length keys
rows_length keys device controller is = ap length is.rows ∙ length-map keys (row_for controller.caps)

serves : (keys : List KeyData) (device : ℕ) (controller : ControllerData) (context : Option Context) (hold : HoldFacts) → IsController keys device controller → IsSomeAnd context (λ c. IsSomeAnd (key_at keys c.key) (λ key. is_supported controller.caps key.config ≡ true))
    → IsSomeAnd context (λ c. c.key.0 ≡ hold.key) → Serves controller keys context hold
serves keys device controller None hold is supported under = absurd supported
serves keys device controller (Some c) hold is supported under = of_key (key_at keys c.key) refl supported
  where
    of_key : (o : Option KeyData) → key_at keys c.key ≡ o → IsSomeAnd o (λ key. is_supported controller.caps key.config ≡ true) → Serves controller keys (Some c) hold
    of_key None at supported = absurd supported
    of_key (Some key) at supported = record {
      under = c;
      has_context = refl;
      same_key = under;
      key = key;
      is_key = at;
      supported = supported;
      entry =
          entry_there key controller.caps supported
          ∙ ap (λ (row : List ℕ). Some row) (sym (row_is keys device c.key.0 controller key is at supported))
          ∙ ap (λ (k : ℕ). Some (row_at controller.profile k)) under;
    }

pub all_under : {S : Type 0} (owns : S → ℕ → Bool) (way : InlineData S) (keys : List KeyData) (device first count : ℕ) (bios : List MarkedBio) → keys ≡ way.medium.keys.keys → IsController keys device way.controller
    → ArePerformable keys (TakesInline owns way.medium way.controller.caps) bios first count → ((n : ℕ) → first ≤ n → n < first + count → IsSomeAnd (named_at keys bios n).context (λ c. c.key.0 ≡ way.hold.key))
    → ArePerformable keys (TakesUnder owns way) bios first count
all_under owns way keys device first count bios same is can under n from below =
    let one = can n from below in record {
      full = one.full;
      taken = record {
        sectors = one.taken.sectors;
        serves = subst (λ ks. Serves way.controller ks (named_at keys bios n).context way.hold) same (serves keys device way.controller (named_at keys bios n).context way.hold is
            (subst (λ ks. IsSomeAnd (named_at keys bios n).context (λ c. IsSomeAnd (key_at ks c.key) (λ key. is_supported way.controller.caps key.config ≡ true))) (sym same) one.taken.supported) (under n from below));
      };
    }

-- ---- a hold that is taken

module _ {S : Type 0} (queue : QueueData S) (slots : List SlotFacts) (device : ℕ) (controller : ControllerData) (pass : SlotFacts) where
  pub record Chosen : Type 0 where
    pub controller_at : At queue.controllers device controller
    pub pass_at : At slots device pass
    pub is_of : IsOf controller.profile pass
    pub free : pass.hold ≡ None
    pub spare : HasSpare controller.profile pass 2

  pub chosen : At queue.controllers device controller → At slots device pass → AllZip (λ c p. IsOf c.profile p) queue.controllers slots → Each (λ p. p.hold ≡ None) slots → HasEvents queue slots device 2 → Chosen
  chosen at here each free events = record {
    controller_at = at;
    pass_at = here;
    is_of = zip_at (λ (c : ControllerData) (p : SlotFacts). IsOf c.profile p) queue.controllers slots device controller pass each at here;
    free = each_at (λ (p : SlotFacts). p.hold ≡ None) slots device pass free here;
    spare = events controller at pass here;
  }

-- ---- the one key of a request

pub key_of : Option Context → Option ℕ
key_of None = None
key_of (Some c) = Some c.key.0

pub same_key : (first : Option Context) (units : ℕ) (second : Option Context) → context_runs_on first units second ≡ true → key_of second ≡ key_of first
unfolding key_of
same_key None units None is = refl
same_key None units (Some second) is = absurd (false≢true is)
same_key (Some first) units None is = absurd (false≢true is)
same_key (Some first) units (Some second) is = ap (λ (k : ℕ). Some k) (sym (eqb-true first.key.0 second.key.0 (and_parts _ _ is).0))

pub linked_keys : (keys : List KeyData) (t : TaggedBio) (bios : List TaggedBio) → Linked (joins keys) (t ∷ bios) → Each (λ b. key_of b.bio.context ≡ key_of t.bio.context) bios
linked_keys keys t [] linked = tt
linked_keys keys t (b ∷ bios) linked =
    let runs : back_runs_on keys t.bio b.bio ≡ true = linked.0 in
    let first : key_of b.bio.context ≡ key_of t.bio.context = same_key t.bio.context t.bio.units b.bio.context (and_parts (same_access t.bio.access b.bio.access && (b.bio.sector == end_of keys t.bio)) (context_runs_on t.bio.context t.bio.units b.bio.context) runs).1 in
    (first, all_more bios (linked_keys keys b bios linked.1) first)
  where
    all_more : (bs : List TaggedBio) → Each (λ x. key_of x.bio.context ≡ key_of b.bio.context) bs → key_of b.bio.context ≡ key_of t.bio.context → Each (λ x. key_of x.bio.context ≡ key_of t.bio.context) bs
    all_more [] each same = tt
    all_more (x ∷ xs) each same = (each.0 ∙ same, all_more xs each.1 same)

pub wrapped_key : (i : ℕ) (context : Option Context) → key_of (context_wrapped i context) ≡ key_of context
unfolding key_of
wrapped_key i None = refl
wrapped_key i (Some c) = refl

pub units_key : (keys : List KeyData) (k : Option ℕ) (bios : List TaggedBio) → Each (λ b. key_of b.bio.context ≡ k) bios → Each (λ u. key_of u.context ≡ k) (units_of_request keys bios)
units_key keys k [] each = tt
units_key keys k (b ∷ bios) each =
    each_append (λ u. key_of u.context ≡ k) (named_units keys b) (units_of_request keys bios) (of_range (range_with_len 0 b.bio.units)) (units_key keys k bios each.1)
  where
    of_range : (ns : List ℕ) → Each (λ u. key_of u.context ≡ k) (map (named_unit keys b) ns)
    of_range [] = tt
    of_range (n ∷ ns) = (wrapped_key n b.bio.context ∙ each.0, of_range ns)

request_key : (keys : List KeyData) (bios : List TaggedBio) → IsRequest keys bios → (k : Option ℕ) × Each (λ u. key_of u.context ≡ k) (units_of_request keys bios)
request_key keys [] is = (None, tt)
request_key keys (t ∷ bios) is = (key_of t.bio.context, units_key keys (key_of t.bio.context) (t ∷ bios) (refl, linked_keys keys t bios is.joined))

-- the key of a unit that has a context
named_key : (keys : List KeyData) (bios : List MarkedBio) (k : Option ℕ) (n : ℕ) (c : Context) → Each (λ u. key_of u.context ≡ k) (units_of_request keys (tagged_bios bios)) → (named_at keys bios n).context ≡ Some c → k ≡ Some c.key.0
unfolding key_of
named_key keys bios k n c each is = of_unit (slice_get (units_of_request keys (tagged_bios bios)) n) refl is
  where
    of_unit : (o : Option NamedUnit) → slice_get (units_of_request keys (tagged_bios bios)) n ≡ o → (unwrap_or o no_unit).context ≡ Some c → k ≡ Some c.key.0
    of_unit None at none = absurd (none-some c none)
    of_unit (Some u) at some = sym (each_at (λ (x : NamedUnit). key_of x.context ≡ k) (units_of_request keys (tagged_bios bios)) n u each at) ∙ ap key_of some

pub one_key : {S : Type 0} (owns : S → ℕ → Bool) (m : Rattle.bc_medium.specs.Medium.MediumData S) (caps : Capabilities) (bios : List MarkedBio) (first count : ℕ) (c : Context) → IsRequest m.keys.keys (tagged_bios bios) → (named_at m.keys.keys bios first).context ≡ Some c
    → ArePerformable m.keys.keys (TakesInline owns m caps) bios first count → (n : ℕ) → first ≤ n → n < first + count → IsSomeAnd (named_at m.keys.keys bios n).context (λ d. d.key.0 ≡ c.key.0)
one_key owns m caps bios first count c request at can n from below =
    let key = request_key m.keys.keys (tagged_bios bios) request in
    of_context (named_at m.keys.keys bios n).context refl (can n from below).taken.supported key
  where
    of_context : (o : Option Context) → (named_at m.keys.keys bios n).context ≡ o → IsSomeAnd o (λ d. IsSomeAnd (key_at m.keys.keys d.key) (λ key. is_supported caps key.config ≡ true))
        → (k : Option ℕ) × Each (λ u. key_of u.context ≡ k) (units_of_request m.keys.keys (tagged_bios bios)) → IsSomeAnd o (λ d. d.key.0 ≡ c.key.0)
    of_context None is none key = absurd none
    of_context (Some d) is some key = same_Some d.key.0 c.key.0 (sym (named_key m.keys.keys bios key.0 n d key.1 is) ∙ named_key m.keys.keys bios key.0 first c key.1 at)

-- ---- spares of events

pub inside : (k n len : ℕ) (controllers : ℕ) → k ≡ n → n < controllers → len ≡ controllers → k < len
inside k n len controllers same less long = omega (arith, same, less, long)

-- a hold that was taken leaves a spare of an event
pub spare_left : (profile : ProfileData) (slots key slot : ℕ) (old new : SlotFacts) → HasSpare profile old 2 → Gets slots old new key slot → HasSpare profile new 1
spare_left profile slots key slot old new spare gets =
    ⊎_elim
    (λ (n : Noticed old new []). left old new [] n (omega arith) spare)
    (λ (p : ProgramsSlot slots old new key slot). left old new (events.Program slot key p.skipped ∷ []) p.noticed (omega arith) spare)
    gets
  where
    left : (o w : SlotFacts) (events : List Event) → Noticed o w events → length events ≤ 1 → HasSpare profile o 2 → HasSpare profile w 1
    left o w events n few has =
        let many : length (made_by w) ≡ length (made_by o) + length (notes o.caller events) = ap length n.own_events ∙ length-append (made_by o) (notes o.caller events) in
        let mapped : length (notes o.caller events) ≡ length events = length-map events (note o.caller) in
        let same : quota_of (base_in profile) w.caller ≡ quota_of (base_in profile) o.caller = ap (quota_of (base_in profile)) n.caller in
        omega (arith, many, mapped, same, few, has)

pub got : {S : Type 0} (queue : QueueData S) (slots : List SlotFacts) (device key : ℕ) (controller : ControllerData) (before after : SlotFacts) (hold : HoldFacts) → Chosen queue slots device controller before → IsOf controller.profile after → after.hold ≡ Some hold → hold.key ≡ key
    → Gets (slots_in controller.profile) before after key hold.slot → Holds (slots_in controller.profile) after.seen key hold.slot hold.epoch → HasGot queue slots (set slots device after) device key hold
got queue slots device key controller before after hold c is_of held named gets holds = record {
  holding = record {
    controller = controller;
    controller_at = c.controller_at;
    pass = after;
    pass_at = at_set slots device before after c.pass_at;
    is_of = is_of;
    held = held;
    spare = spare_left controller.profile (slots_in controller.profile) key hold.slot before after c.spare gets;
  };
  before = before;
  before_at = c.pass_at;
  sets = refl;
  key_is = named;
  gets = gets;
  holds = holds;
}

-- ---- under a hold

module _ {S : Type 0} (queue : QueueData S) (slots : List SlotFacts) (device : ℕ) (hold : HoldFacts) (controller : ControllerData) where
  -- the way through the device's controller under the hold
  abbrev pub way_of : InlineData S
  way_of = record { controller = controller; hold = hold; medium = queue.medium; slots = slots }

  pub has_hold : IsHolding queue slots device hold → At queue.controllers device controller → IsController queue.medium.keys.keys device controller → PassHasHold way_of slots
  has_hold h at is =
      let same : h.controller ≡ controller = at_one queue.controllers device h.controller controller h.controller_at at in record {
        same = refl;
        pass = h.pass;
        pass_at = subst (λ k. At slots k h.pass) (sym is.device_is) h.pass_at;
        is_of = subst (λ (x : ControllerData). IsOf x.profile h.pass) same h.is_of;
        held = h.held;
      }

-- the context of the first unit of a part that can go
pub first_context : {S : Type 0} (owns : S → ℕ → Bool) (queue : QueueData S) (device : ℕ) (controller : ControllerData) (bios : List MarkedBio) (first count : ℕ) → At queue.controllers device controller → CanGo owns queue device bios first count → 1 ≤ count
    → IsSomeAnd (named_at queue.medium.keys.keys bios first).context (λ c. IsSomeAnd (key_at queue.medium.keys.keys c.key) (λ key. is_supported controller.caps key.config ≡ true))
first_context owns queue device controller bios first count at can some = (can controller at first (omega arith) (omega (arith, some))).taken.supported

pub named_is : (keys : List KeyData) (bios : List MarkedBio) (n : ℕ) (u : NamedUnit) → slice_get (units_of_request keys (tagged_bios bios)) n ≡ Some u → named_at keys bios n ≡ u
named_is keys bios n u at = ap (λ o. unwrap_or o no_unit) at

pub no_context : (keys : List KeyData) (o : Option Context) (P : Context → Type 0) → o ≡ None → IsSomeAnd o P → ⊥
no_context keys o P none some = subst (λ x. IsSomeAnd x P) none some

pub key_within : (keys : List KeyData) (o : Option Context) (c : Context) (P : KeyData → Type 0) → o ≡ Some c → IsSomeAnd o (λ d. IsSomeAnd (key_at keys d.key) P) → c.key.0 < length keys
key_within keys o c P is some = of_key (key_at keys c.key) refl (subst (λ x. IsSomeAnd x (λ d. IsSomeAnd (key_at keys d.key) P)) is some)
  where
    of_key : (k : Option KeyData) → key_at keys c.key ≡ k → IsSomeAnd k P → c.key.0 < length keys
    of_key None at p = absurd p
    of_key (Some key) at p = slice_get_within keys c.key.0 key at

-- ---- a whole dispatch

module _ {S : Type 0} (queue : QueueData S) (old mid new : List SlotFacts) (device key : ℕ) (hold : HoldFacts) where
  abbrev EachIsOf : List SlotFacts → Type 0
  EachIsOf slots = AllZip (λ (c : ControllerData) (p : SlotFacts). IsOf c.profile p) queue.controllers slots

  pub each_of : EachIsOf old → HasGot queue old mid device key hold → HasPut queue mid new device hold → EachIsOf new
  each_of each got put =
      let during : EachIsOf mid = subst EachIsOf (sym got.sets)
      (zip_set (λ (c : ControllerData) (p : SlotFacts). IsOf c.profile p) queue.controllers old device got.holding.pass each
      (λ x at. subst (λ (y : ControllerData). IsOf y.profile got.holding.pass) (at_one queue.controllers device got.holding.controller x got.holding.controller_at at) got.holding.is_of)) in
      subst EachIsOf (sym put.sets) (zip_set (λ (c : ControllerData) (p : SlotFacts). IsOf c.profile p) queue.controllers mid device put.after during put.is_of)

  -- the pass of the device is the only one that changed
  pub once_set : (got : HasGot queue old mid device key hold) (put : HasPut queue mid new device hold) → new ≡ set old device put.after
  once_set got put = put.sets ∙ ap (λ l. set l device put.after) got.sets ∙ set-set old device got.holding.pass put.after

  pub each_free : Each (λ p. p.hold ≡ None) old → HasGot queue old mid device key hold → HasPut queue mid new device hold → Each (λ p. p.hold ≡ None) new
  each_free free got put =
      subst (Each (λ (p : SlotFacts). p.hold ≡ None)) (sym (once_set got put)) (each_set (λ (p : SlotFacts). p.hold ≡ None) old device put.after free put.free)

  pub one_hold : HasGot queue old mid device key hold → HasPut queue mid new device hold → AllAt queue.controllers device (λ controller. ChangesAt old new device (λ o n. HoldsOnce controller.profile o n key hold.slot hold.epoch))
  one_hold got put controller at =
      let same : got.holding.controller ≡ controller = at_one queue.controllers device got.holding.controller controller got.holding.controller_at at in
      let held : got.holding.pass ≡ put.during = at_one mid device got.holding.pass put.during got.holding.pass_at put.during_at in
      subst (λ (x : ControllerData). ChangesAt old new device (λ o n. HoldsOnce x.profile o n key hold.slot hold.epoch)) same (
        got.before,
        put.after,
        got.before_at,
        once_set got put,
        record { during = got.holding.pass; gets = got.gets; holds = got.holds; puts = subst (λ d. Puts d put.after hold.slot) (sym held) put.puts },
      )

-- the entries are under the key
pub all_keyed : (facts : AccessFacts) (seen : List (List Entry)) (before after : List MarkedBio) (first count key : ℕ) (made : List Entry) → ((n : ℕ) → first ≤ n → n < first + count → IsSomeAnd (named_at facts.keys before n).context (λ d. d.key.0 ≡ key))
    → AllZip (IsCarried facts seen before after) (attempted_in after first count) made → Each (IsUnderKey key) made
all_keyed facts seen before after first count key made under carried =
    zip_right (λ n. IsSomeAnd (named_at facts.keys before n).context (λ d. d.key.0 ≡ key)) (IsCarried facts seen before after) (IsUnderKey key) (attempted_in after first count) made
    (λ n e is c. subst (λ (o : Option Context). IsSomeAnd o (λ d. d.key.0 ≡ key)) (sym (ap (λ (u : UnitAt). u.context) c.entry.unit)) is)
    (each_filter (λ n. IsSomeAnd (named_at facts.keys before n).context (λ d. d.key.0 ≡ key)) (λ n. not (is_over after n)) (range_with_len first count) (each_range (λ n. IsSomeAnd (named_at facts.keys before n).context (λ d. d.key.0 ≡ key)) first count under)) carried
