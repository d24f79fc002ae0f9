-- The way of many callers to the devices of a disk: what a dispatch of a piece is, and the room that it leaves.
use Rattle.std.proofs.Common.{◌≡◌, ◌≢◌, ℕ, zero, suc, ◌+◌, ◌*◌, ◌<◌, ◌≤◌, Bool, true, false, cond, List, [], ◌∷◌, ◌++◌, length, map, set, take, append-nil, refl, sym, ap, subst, ◌∙◌, arith, Option, None}
use Rattle.std.specs.Prelude.{filter, sum_by}
use Rattle.std.specs.Option.{option_map_or}
use Rattle.std.proofs.Math.Logic.{⊎_elim}
use Rattle.std.proofs.lemmas.Bool.{eq-eqb, ne_eqb, cases_eq}
use Rattle.std.proofs.lemmas.List.{length-append, length-map}
use Rattle.std.proofs.lemmas.List.Sums.{sum_by-cons}
use Rattle.bc_base.specs.Lists.{At, Each, list_at}
use Rattle.bc_base.specs.Sectors.{Sectors}
use Rattle.bc_base.specs.Story.{own, StartsWith}
use Rattle.bc_base.proofs.Lists.{at_one, each_at, each_set}
use Rattle.bc_key.specs.KeyData.{KeyData}
use Rattle.bc_bio.specs.Windows.{NamedUnit, count_units}
use Rattle.bc_bio.specs.Requests.{RequestParts, tagged_bios}
use Rattle.bc_turn.specs.PassParts.{Pass}
use Rattle.bc_medium.specs.declared.entry.Entry.{Entry}
use Rattle.bc_medium.specs.Medium.{OpeningData, shards_of}
use Rattle.bc_profile.specs.declared.event.Event.{Event}
use Rattle.bc_profile.specs.declared.event.Event.TheVariants as events
use Rattle.bc_profile.specs.declared.noted.Noted.{Noted}
use Rattle.bc_profile.specs.declared.skips.Skip.{Skip}
use Rattle.bc_profile.specs.Passes.{SlotFacts, HasSpare, Gets, Puts, Noticed, ProgramsSlot, base_in, made_by, quota_of, slots_in}
use Rattle.bc_profile.specs.Story.{Holds, author_of, note, notes}
use Rattle.bc_ufs.specs.Controllers.{ControllerData}
use Rattle.bc_queue.specs.RequestUnits.{planned_part, count_units_on}
use Rattle.bc_queue.specs.Queues.{QueueData, CanGo, Dispatches, HasEvents, HasSpareOfUnits, HoldsOnce, IsPass}
use Rattle.bc_queue.specs.Carrying.{ArePerformable}
use Rattle.bc_queue.proofs.Lists.{get_or_map, get_or_set_other, get_set_other, map-set}
use Rattle.bc_pieces.specs.Pieces.{CarriesPiece, IsOnDevice, NotesOn, at_device, is_piece_on, named_on, piece_part, pieces_on}
use Rattle.bc_pieces.specs.ManyCallers.{QueueDevicesData, HasRoomFor, IsReady, TakesOn, facts_over}
use Rattle.bc_pieces.proofs.Telling.{notes_append}
use Rattle.bc_pieces.proofs.Units.{at_within, part_on, piece_on}
use Rattle.bc_base.proofs.Members.{at_set}
use Rattle.bc_medium.proofs.Growing.{begins_itself, begins_trans}

-- ---- one hold

-- what a hold adds, once taken and given back
pub record Added (old during new : SlotFacts) (key slot : ℕ) : Type 0 where
  pub skipped : List Skip
  pub programs : ℕ
  pub idles : ℕ
  pub one_program : programs ≤ 1
  pub one_idle : idles ≤ 1
  pub gets : Noticed old during (take programs (events.Program slot key skipped ∷ []))
  pub puts : Noticed during new (take idles (events.Idle slot ∷ []))

added : (slots key slot : ℕ) (old during new : SlotFacts) → Gets slots old during key slot → Puts during new slot → Added old during new key slot
added slots key slot old during new gets puts =
    ⊎_elim
    (λ (n : Noticed old during []). then_put [] 0 (omega arith) n puts)
    (λ (p : ProgramsSlot slots old during key slot). then_put p.skipped 1 (omega arith) p.noticed puts)
    gets
  where
    then_put : (skipped : List Skip) (programs : ℕ) → programs ≤ 1 → Noticed old during (take programs (events.Program slot key skipped ∷ [])) → Puts during new slot → Added old during new key slot
    then_put skipped programs one got puts =
        ⊎_elim
        (λ (n : Noticed during new []). record { skipped = skipped; programs = programs; idles = 0; one_program = one; one_idle = omega arith; gets = got; puts = n })
        (λ (n : Noticed during new (events.Idle slot ∷ [])). record { skipped = skipped; programs = programs; idles = 1; one_program = one; one_idle = omega arith; gets = got; puts = n })
        puts

-- what it adds, in order
abbrev events_of_hold : (key slot : ℕ) (old during new : SlotFacts) → Added old during new key slot → List Event
events_of_hold key slot old during new a = take a.programs (events.Program slot key a.skipped ∷ []) ++ take a.idles (events.Idle slot ∷ [])

noticed_begins : (old new : SlotFacts) (es : List Event) → Noticed old new es → StartsWith new.seen old.seen
noticed_begins old new es n = begins_trans old.seen n.front new.seen n.begins (notes old.caller es, n.ends)

noticed_notes : (caller : ℕ) (old new : SlotFacts) (es : List Event) → old.caller ≡ caller → Noticed old new es → NotesOn caller old.seen new.seen es
noticed_notes caller old new es is n = record {
  front = noticed_begins old new es n;
  adds =
      subst (λ c. own author_of c new.seen ≡ own author_of c old.seen ++ notes c es) is
      (sym (ap (λ c. own author_of c new.seen) n.caller) ∙ n.own_events);
}

pub noticed_made : (old new : SlotFacts) (es : List Event) → Noticed old new es → length (made_by new) ≡ length (made_by old) + length es
noticed_made old new es n =
    let many = ap length n.own_events in
    let both = length-append (made_by old) (notes old.caller es) in
    let mapped = length-map es (note old.caller) in
    omega (arith, many, both, mapped)

pub length_one : {X : Type 0} (n : ℕ) (x : X) → n ≤ 1 → length (take n (x ∷ [])) ≤ 1
length_one zero x few = omega arith
length_one (suc zero) x few = omega arith
length_one (suc (suc n)) x few = absurd (omega (arith, few))

-- a hold adds two events at most
hold_made : (key slot : ℕ) (old during new : SlotFacts) → Added old during new key slot → length (made_by new) ≤ length (made_by old) + 2
hold_made key slot old during new a =
    let first = noticed_made old during (take a.programs (events.Program slot key a.skipped ∷ [])) a.gets in
    let second = noticed_made during new (take a.idles (events.Idle slot ∷ [])) a.puts in
    let one = length_one a.programs (events.Program slot key a.skipped) a.one_program in
    let other = length_one a.idles (events.Idle slot) a.one_idle in
    omega (arith, first, second, one, other)

hold_notes : (caller key slot : ℕ) (old during new : SlotFacts) → old.caller ≡ caller → (a : Added old during new key slot) → NotesOn caller old.seen new.seen (events_of_hold key slot old during new a)
hold_notes caller key slot old during new is a =
    notes_append caller old.seen during.seen new.seen (take a.programs (events.Program slot key a.skipped ∷ [])) (take a.idles (events.Idle slot ∷ []))
    (noticed_notes caller old during (take a.programs (events.Program slot key a.skipped ∷ [])) is a.gets)
    (noticed_notes caller during new (take a.idles (events.Idle slot ∷ [])) (a.gets.caller ∙ is) a.puts)

-- each device's journal goes on, and the others' stay
notes_each : (caller : ℕ) (slots : List SlotFacts) (device : ℕ) (before after : SlotFacts) (made : List Event) → At slots device before → NotesOn caller before.seen after.seen made
    → (other : ℕ) → NotesOn caller (list_at (map (λ (pass : SlotFacts). pass.seen) slots) other) (list_at (map (λ (pass : SlotFacts). pass.seen) (set slots device after)) other) (at_device device made other)
notes_each caller slots device before after made at is other =
    ⊎_elim
    (λ (same : other ≡ device).
    subst (λ k. NotesOn caller (list_at seen k) (list_at now k) (at_device device made k)) (sym same)
    (subst (λ (b : Bool). NotesOn caller (list_at seen device) (list_at now device) (cond b made [])) (sym (eq-eqb device device refl))
    (subst (λ l. NotesOn caller l (list_at now device) made) (sym (get_or_map (λ (pass : SlotFacts). pass.seen) slots device before [] at))
    (subst (λ l. NotesOn caller before.seen l made) (sym (get_or_map (λ (pass : SlotFacts). pass.seen) (set slots device after) device after [] (at_set slots device before after at))) is))))
    (λ (differ : other ≢ device).
    subst (λ (b : Bool). NotesOn caller (list_at seen other) (list_at now other) (cond b made [])) (sym (ne_eqb other device differ))
    (subst (λ l. NotesOn caller (list_at seen other) l []) (sym (ap (λ l. list_at l other) (map-set (λ (pass : SlotFacts). pass.seen) slots device after) ∙ get_or_set_other seen device other after.seen [] differ))
    (record { front = begins_itself (list_at seen other); adds = sym (append-nil (own author_of caller (list_at seen other))) })))
    (cases_eq other device)
  where
    seen : List (List Noted)
    seen = map (λ (pass : SlotFacts). pass.seen) slots

    now : List (List Noted)
    now = map (λ (pass : SlotFacts). pass.seen) (set slots device after)

-- ---- a piece

module _ {S : Type 0} (devices : QueueDevicesData S) (device : ℕ) where
  pub can_go : (owns : S → ℕ → Bool) (queue : QueueData S) (keys : List KeyData) (request : RequestParts) (first count : ℕ) → queue ≡ devices.queue → devices.queue.medium.keys.keys ≡ keys
      → ArePerformable keys (TakesOn owns devices.queue device) request.bios first count → CanGo owns queue device request.bios first count
  can_go owns queue keys request first count same keyed can =
      subst (λ q. CanGo owns q device request.bios first count) (sym same)
      (λ controller at n from below.
      let one = subst (λ ks. ArePerformable ks (TakesOn owns devices.queue device) request.bios first count) (sym keyed) can n from below in
      record { full = one.full; taken = one.taken controller at })

  module _ (keys : List KeyData) (request : RequestParts) (first count : ℕ) (keyed : devices.queue.medium.keys.keys ≡ keys) (some : 1 ≤ count) (within : first + count ≤ count_units (tagged_bios request.bios))
      (on : IsOnDevice keys devices.targets request first device) where
    -- the pieces with this one first are one more on its device
    more_here : (rest : List (List NamedUnit)) → pieces_on devices.targets device (piece_part keys request first count ∷ rest) ≡ suc (pieces_on devices.targets device rest)
    more_here rest =
        ap (λ (b : Bool). length (cond b (piece_part keys request first count ∷ filter (is_piece_on devices.targets device) rest) (filter (is_piece_on devices.targets device) rest)))
        (piece_on keys devices.targets request first count device some within on)

    no_fewer : (other : ℕ) (rest : List (List NamedUnit)) → pieces_on devices.targets other rest ≤ pieces_on devices.targets other (piece_part keys request first count ∷ rest)
    no_fewer other rest = of_bool (is_piece_on devices.targets other (piece_part keys request first count))
      where
        of_bool : (b : Bool) → length (filter (is_piece_on devices.targets other) rest) ≤ length (cond b (piece_part keys request first count ∷ filter (is_piece_on devices.targets other) rest) (filter (is_piece_on devices.targets other) rest))
        of_bool true = omega arith
        of_bool false = omega arith

    entries_more : (shard : ℕ) (rest : List (List NamedUnit)) → sum_by (named_on (shards_of devices.queue.medium) shard) (piece_part keys request first count ∷ rest)
        ≡ count_units_on (shards_of devices.queue.medium) shard (planned_part devices.queue.medium.keys.keys request.bios first count) + sum_by (named_on (shards_of devices.queue.medium) shard) rest
    entries_more shard rest =
        let sum = sum_by-cons (named_on (shards_of devices.queue.medium) shard) (piece_part keys request first count) rest in
        let part = part_on keys request (shards_of devices.queue.medium) shard first count within in
        let same = ap (λ ks. count_units_on (shards_of devices.queue.medium) shard (planned_part ks request.bios first count)) keyed in
        omega (arith, sum, part, same)

    pub room_events : (queue : QueueData S) (slots : List SlotFacts) (units : Pass Entry (OpeningData S)) (rest : List (List NamedUnit)) → queue ≡ devices.queue → HasRoomFor devices slots units (piece_part keys request first count ∷ rest) → HasEvents queue slots device 2
    room_events queue slots units rest same has =
        subst (λ q. HasEvents q slots device 2) (sym same)
        (λ controller at pass here.
        let spare = has.events device controller at pass here in
        let more = more_here rest in
        omega (arith, spare, more))

    pub room_entries : (queue : QueueData S) (slots : List SlotFacts) (units : Pass Entry (OpeningData S)) (rest : List (List NamedUnit)) → queue ≡ devices.queue → HasRoomFor devices slots units (piece_part keys request first count ∷ rest) → HasSpareOfUnits queue units request.bios first count
    room_entries queue slots units rest same has =
        subst (λ q. HasSpareOfUnits q units request.bios first count) (sym same)
        (λ shard.
        let room = has.entries shard in
        let more = entries_more shard rest in
        omega (arith, room, more))

  -- a piece that was dispatched
  module _ (contents : S → Option Sectors) (old new : List SlotFacts) (old_units new_units : Pass Entry (OpeningData S)) (before after : RequestParts) (first count : ℕ)
      (there : device < length devices.queue.controllers) (d : Dispatches contents devices.queue old new old_units new_units before after device first count) where
    -- the hold of its device's controller, and the passes of keyslots with it
    record Held : Type 0 where
      controller : ControllerData
      controller_at : At devices.queue.controllers device controller
      was : SlotFacts
      is : SlotFacts
      was_at : At old device was
      sets : new ≡ set old device is
      once : HoldsOnce controller.profile was is d.under.key.0 d.slot d.epoch
      adds : Added was once.during is d.under.key.0 d.slot

    held : Held
    held =
        let controller = at_within devices.queue.controllers device there in
        let changes = d.one_hold controller.0 controller.1 in record {
          controller = controller.0;
          controller_at = controller.1;
          was = changes.0;
          is = changes.1;
          was_at = changes.2;
          sets = changes.3;
          once = changes.4;
          adds = added (slots_in controller.0.profile) d.under.key.0 d.slot changes.0 changes.4.during changes.1 changes.4.gets changes.4.puts;
        }

    pub ready_after : (caller now : ℕ) → now ≡ caller → IsReady devices.queue caller old old_units → IsPass devices.queue now new new_units → Each (λ pass. pass.hold ≡ None) new → IsReady devices.queue now new new_units
    ready_after caller now same ready pass free =
        let h = held in record {
          pass = pass;
          free = free;
          callers =
              subst (λ l. Each (λ (p : SlotFacts). p.caller ≡ now) l) (sym h.sets)
              (each_set (λ (p : SlotFacts). p.caller ≡ now) old device h.is (subst (λ k. Each (λ (p : SlotFacts). p.caller ≡ k) old) (sym same) ready.callers)
              (h.adds.puts.caller ∙ h.adds.gets.caller ∙ each_at (λ (p : SlotFacts). p.caller ≡ caller) old device h.was ready.callers h.was_at ∙ sym same));
        }

    pub carries_piece : (caller : ℕ) → IsReady devices.queue caller old old_units → CarriesPiece (facts_over contents devices old old_units) (facts_over contents devices new new_units) before after first device count
    carries_piece caller ready =
        let h = held in
        let key : ℕ = d.under.key.0 in
        let made : List Event = events_of_hold key d.slot h.was h.once.during h.is h.adds in
        let whose : h.was.caller ≡ old_units.caller = each_at (λ (p : SlotFacts). p.caller ≡ caller) old device h.was ready.callers h.was_at ∙ sym ready.pass.number in
        let noted = notes_each old_units.caller old device h.was h.is made h.was_at (hold_notes old_units.caller key d.slot h.was h.once.during h.is whose h.adds) in record {
          same = record { keys = refl; shards = refl; caller = ap (λ f. f.caller) d.carries.same; targets = refl; slots = refl };
          under = d.under;
          first_context = d.first_context;
          slot = d.slot;
          epoch = d.epoch;
          carries = d.carries;
          keyed = d.keyed;
          made = made;
          one_hold = record { skipped = h.adds.skipped; programs = h.adds.programs; idles = h.adds.idles; one_program = h.adds.one_program; one_idle = h.adds.one_idle; events = refl };
          notes = λ other. subst (λ l. NotesOn old_units.caller (list_at (map (λ (p : SlotFacts). p.seen) old) other) (list_at (map (λ (p : SlotFacts). p.seen) l) other) (at_device device made other)) (sym h.sets) (noted other);
          front = h.once.during.seen;
          begins = subst (λ l. StartsWith h.once.during.seen l) (sym (get_or_map (λ (p : SlotFacts). p.seen) old device h.was [] h.was_at)) (noticed_begins h.was h.once.during (take h.adds.programs (events.Program d.slot key h.adds.skipped ∷ [])) h.adds.gets);
          seen =
              subst (λ l. StartsWith (list_at (map (λ (p : SlotFacts). p.seen) l) device) h.once.during.seen) (sym h.sets)
              (subst (λ l. StartsWith l h.once.during.seen) (sym (get_or_map (λ (p : SlotFacts). p.seen) (set old device h.is) device h.is [] (at_set old device h.was h.is h.was_at)))
              (noticed_begins h.once.during h.is (take h.adds.idles (events.Idle d.slot ∷ [])) h.adds.puts));
          holds = subst (λ (n : ℕ). Holds n h.once.during.seen key d.slot d.epoch) (sym (ap (λ o. option_map_or (λ (c : ControllerData). slots_in c.profile) o 0) h.controller_at)) h.once.holds;
        }

    pub room_after : (keys : List KeyData) → devices.queue.medium.keys.keys ≡ keys → 1 ≤ count → first + count ≤ count_units (tagged_bios before.bios) → IsOnDevice keys devices.targets before first device → (rest : List (List NamedUnit))
        → HasRoomFor devices old old_units (piece_part keys before first count ∷ rest) → HasRoomFor devices new new_units rest
    room_after keys keyed some within on rest has = record {
      entries = λ shard.
          let room = has.entries shard in
          let more = entries_more keys before first count keyed some within on shard rest in
          let spent = d.carries.spare shard in
          omega (arith, room, more, spent);
      events = λ other controller at pass here. ⊎_elim (of_this other controller at pass here) (of_other other controller at pass here) (cases_eq other device);
    }
      where
        of_this : (other : ℕ) (controller : ControllerData) → At devices.queue.controllers other controller → (pass : SlotFacts) → At new other pass → other ≡ device → HasSpare controller.profile pass (2 * pieces_on devices.targets other rest)
        of_this other controller at pass here same =
            let h = held in
            let here_now : At (set old device h.is) device pass = subst (λ l. At l device pass) h.sets (subst (λ k. At new k pass) same here) in
            let is : h.is ≡ pass = at_one (set old device h.is) device h.is pass (at_set old device h.was h.is h.was_at) here_now in
            let spare = has.events device controller (subst (λ k. At devices.queue.controllers k controller) same at) h.was h.was_at in
            let more = more_here keys before first count keyed some within on rest in
            let few = hold_made d.under.key.0 d.slot h.was h.once.during h.is h.adds in
            let quota : quota_of (base_in controller.profile) h.is.caller ≡ quota_of (base_in controller.profile) h.was.caller = ap (quota_of (base_in controller.profile)) (h.adds.puts.caller ∙ h.adds.gets.caller) in
            let left : HasSpare controller.profile h.is (2 * pieces_on devices.targets device rest) = omega (arith, spare, more, few, quota) in
            subst (λ k. HasSpare controller.profile pass (2 * pieces_on devices.targets k rest)) (sym same) (subst (λ p. HasSpare controller.profile p (2 * pieces_on devices.targets device rest)) is left)

        of_other : (other : ℕ) (controller : ControllerData) → At devices.queue.controllers other controller → (pass : SlotFacts) → At new other pass → other ≢ device → HasSpare controller.profile pass (2 * pieces_on devices.targets other rest)
        of_other other controller at pass here differ =
            let h = held in
            let before_it : At old other pass = sym (get_set_other old device other h.is differ) ∙ subst (λ l. At l other pass) h.sets here in
            let spare = has.events other controller at pass before_it in
            let fewer = no_fewer keys before first count keyed some within on other rest in
            omega (arith, spare, fewer)
