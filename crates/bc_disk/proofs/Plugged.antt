-- The requests of a plug, carried out one after the other.
use Rattle.std.proofs.Common.{◌≡◌, ℕ, zero, suc, ◌+◌, ◌*◌, ◌≤◌, List, [], ◌∷◌, ◌++◌, length, map, set, append-nil, append_assoc, refl, sym, ap, subst, ◌∙◌, arith, Option, None}
use Rattle.std.specs.Prelude.{filter, flat_map, slice_get, sum_by, vec_len}
use Rattle.std.specs.List.{AllZip}
use Rattle.std.proofs.lemmas.Grind.{flat_map-append}
use Rattle.std.proofs.lemmas.List.{length-append, length-map}
use Rattle.std.proofs.lemmas.List.Concat.{flat_map-cons}
use Rattle.std.proofs.lemmas.List.Elements.{filter-append}
use Rattle.std.proofs.lemmas.List.Folds.{flat_map-map}
use Rattle.std.proofs.lemmas.List.Sums.{sum_by-cons, sum_by-append}
use Rattle.std.proofs.lemmas.Option.{none-some, same_Some}
use Rattle.bc_base.specs.Lists.{At, Each}
use Rattle.bc_base.specs.Sectors.{Sectors}
use Rattle.bc_base.proofs.Lists.{each_append, each_back, each_front}
use Rattle.bc_bio.specs.declared.marked_bio.MarkedBio.{MarkedBio}
use Rattle.bc_bio.specs.PlannedUnit.{PlannedUnit}
use Rattle.bc_bio.specs.Requests.{RequestParts, reply_of, tagged_bios, tagged_of}
use Rattle.bc_bio.specs.Windows.{IsRequest, NamedUnit, TaggedBio}
use Rattle.bc_medium.specs.Layout.{shard_of}
use Rattle.bc_medium.specs.Medium.{shards_of}
use Rattle.bc_profile.specs.Laws.{HoldsNameProgrammings, LaterHoldsNameLater}
use Rattle.bc_queue.specs.Carrying.{AccessFacts, HasSameWay}
use Rattle.bc_queue.specs.Plugs.{IsOfWindow, IsPlug, IsWaiting, PlugParts, bios_in, count_bios}
use Rattle.bc_queue.specs.RequestUnits.{count_units_on}
use Rattle.bc_pieces.specs.Laws.{BecomesStays, PlannedByBios}
use Rattle.bc_pieces.specs.AttemptedRequest.{HasNoFault}
use Rattle.bc_pieces.specs.Pieces.{pieces_on}
use Rattle.bc_pieces.proofs.Telling.{each_more}
use Rattle.bc_disk.specs.Disks.{DiskData, IsPassOf, PassData, events_left, facts_on, keys_in}
use Rattle.bc_disk.specs.Submissions.{AreTaken, CarriesRequest, HasEntriesFor, IsTaken, LeavesEntries, Submits, bare_bios, events_for, inline_events, inline_pieces, window_pieces}
use Rattle.bc_disk.proofs.Adding.{pieces_append}
use Rattle.bc_disk.proofs.Attempting.{planned_append, units_planned}
use Rattle.bc_disk.proofs.Sending.{Sent, bare_tags, sent_more, sent_none, submits_all}

-- ---- lists

split_at : {X : Type 0} (xs ys : List X) (k : ℕ) (x : X) → length xs ≡ k → At (xs ++ ys) k x → (zs : List X) × (ys ≡ x ∷ zs)
split_at [] [] k x long at = absurd (none-some x at)
split_at [] (y ∷ ys) zero x long at = (ys, ap (λ z. z ∷ ys) (same_Some y x at))
split_at [] (y ∷ ys) (suc k) x long at = absurd (omega (arith, long))
split_at (w ∷ xs) ys zero x long at = absurd (omega (arith, long))
split_at (w ∷ xs) ys (suc k) x long at = split_at xs ys k x (omega (arith, long)) at

set_at : {X : Type 0} (xs ys : List X) (k : ℕ) (x y : X) → length xs ≡ k → set (xs ++ x ∷ ys) k y ≡ (xs ++ y ∷ []) ++ ys
set_at [] ys zero x y long = refl
set_at [] ys (suc k) x y long = absurd (omega (arith, long))
set_at (w ∷ xs) ys zero x y long = absurd (omega (arith, long))
set_at (w ∷ xs) ys (suc k) x y long = ap (λ l. w ∷ l) (set_at xs ys k x y (omega (arith, long)))

-- ---- what requests have together

-- the pieces of all requests
abbrev pub all_pieces : {S : Type 0} → DiskData S → List RequestParts → List (List NamedUnit)
all_pieces disk requests = flat_map (λ (r : RequestParts). inline_pieces disk.targets (keys_in disk) (tagged_bios r.bios)) requests

bios_cons : (r : RequestParts) (requests : List RequestParts) → bios_in (r ∷ requests) ≡ r.bios ++ bios_in requests
bios_cons r requests = flat_map-cons (λ (x : RequestParts). x.bios) r requests

bios_append : (xs ys : List RequestParts) → bios_in (xs ++ ys) ≡ bios_in xs ++ bios_in ys
bios_append xs ys = flat_map-append (λ (x : RequestParts). x.bios) xs ys

bios_push : (xs : List RequestParts) (r : RequestParts) → bios_in (xs ++ r ∷ []) ≡ bios_in xs ++ r.bios
bios_push xs r = bios_append xs (r ∷ []) ∙ ap (λ l. bios_in xs ++ l) (bios_cons r [] ∙ append-nil r.bios)

bios_split : (xs ys : List RequestParts) (r : RequestParts) → bios_in (xs ++ r ∷ ys) ≡ bios_in xs ++ (r.bios ++ bios_in ys)
bios_split xs ys r = bios_append xs (r ∷ ys) ∙ ap (λ l. bios_in xs ++ l) (bios_cons r ys)

units_split : (keys : List Rattle.bc_key.specs.KeyData.KeyData) (shards shard : ℕ) (xs ys : List MarkedBio) → count_units_on shards shard (units_planned keys (xs ++ ys)) ≡ count_units_on shards shard (units_planned keys xs) + count_units_on shards shard (units_planned keys ys)
units_split keys shards shard xs ys =
    ap (count_units_on shards shard) (planned_append keys xs ys)
    ∙ ap length (filter-append (λ (u : PlannedUnit). Rattle.std.specs.Prelude.◌==◌ (shard_of shards u.sector) shard) (units_planned keys xs) (units_planned keys ys))
    ∙ length-append (filter (λ (u : PlannedUnit). Rattle.std.specs.Prelude.◌==◌ (shard_of shards u.sector) shard) (units_planned keys xs)) (filter (λ (u : PlannedUnit). Rattle.std.specs.Prelude.◌==◌ (shard_of shards u.sector) shard) (units_planned keys ys))

module _ {S : Type 0} (contents : S → Option Sectors) (disk : DiskData S) (start : PassData S) where
  pieces_push : (xs : List RequestParts) (r : RequestParts) → all_pieces disk (xs ++ r ∷ []) ≡ all_pieces disk xs ++ inline_pieces disk.targets (keys_in disk) (tagged_bios r.bios)
  pieces_push xs r =
      flat_map-append (λ (x : RequestParts). inline_pieces disk.targets (keys_in disk) (tagged_bios x.bios)) xs (r ∷ [])
      ∙ ap (λ l. all_pieces disk xs ++ l) (flat_map-cons (λ (x : RequestParts). inline_pieces disk.targets (keys_in disk) (tagged_bios x.bios)) r [] ∙ append-nil (inline_pieces disk.targets (keys_in disk) (tagged_bios r.bios)))

  pieces_split : (xs ys : List RequestParts) (r : RequestParts) (device : ℕ) → pieces_on disk.targets device (all_pieces disk (xs ++ r ∷ ys))
      ≡ pieces_on disk.targets device (all_pieces disk xs) + (pieces_on disk.targets device (inline_pieces disk.targets (keys_in disk) (tagged_bios r.bios)) + pieces_on disk.targets device (all_pieces disk ys))
  pieces_split xs ys r device =
      ap (pieces_on disk.targets device) (flat_map-append (λ (x : RequestParts). inline_pieces disk.targets (keys_in disk) (tagged_bios x.bios)) xs (r ∷ ys))
      ∙ pieces_append disk.targets device (all_pieces disk xs) (all_pieces disk (r ∷ ys))
      ∙ ap (λ (n : ℕ). pieces_on disk.targets device (all_pieces disk xs) + n)
      (ap (pieces_on disk.targets device) (flat_map-cons (λ (x : RequestParts). inline_pieces disk.targets (keys_in disk) (tagged_bios x.bios)) r ys)
      ∙ pieces_append disk.targets device (inline_pieces disk.targets (keys_in disk) (tagged_bios r.bios)) (all_pieces disk ys))

  -- so many of a plug's requests were carried out, and the others are as they were
  pub record Sending (pass : PassData S) (requests now : List RequestParts) (number : ℕ) : Type 0 where
    pub done : List RequestParts
    pub after : List RequestParts
    pub rest : List RequestParts
    pub all : requests ≡ done ++ rest
    pub is : now ≡ after ++ rest
    pub many : length done ≡ number
    pub many_after : length after ≡ number
    pub ready : IsPassOf disk pass
    pub sent : Sent (facts_on contents disk start) (facts_on contents disk pass) (bios_in done) (bios_in after) (all_pieces disk done)
    pub waiting : Each IsWaiting after
    pub count : count_bios after ≡ count_bios done
    pub entries : LeavesEntries (facts_on contents disk start) (facts_on contents disk pass) (bare_bios (bios_in done))
    pub left : (device : ℕ) → events_left disk start device ≤ events_left disk pass device + 2 * pieces_on disk.targets device (all_pieces disk done)

  pub sending_none : (requests : List RequestParts) → IsPassOf disk start → Sending start requests requests 0
  sending_none requests ready = record {
    done = [];
    after = [];
    rest = requests;
    all = refl;
    is = refl;
    many = refl;
    many_after = refl;
    ready = ready;
    sent = sent_none (facts_on contents disk start);
    waiting = tt;
    count = refl;
    entries = λ shard. omega arith;
    left = λ device. omega arith;
  }

  pub sending_start : (pass : PassData S) (requests : List RequestParts) → pass ≡ start → IsPassOf disk start → Sending pass requests requests 0
  sending_start pass requests is ready = subst (λ (p : PassData S). Sending p requests requests 0) (sym is) (sending_none requests ready)

  pub no_faults : (bios : List MarkedBio) → AreTaken disk bios → HasNoFault bios
  no_faults bios taken = each_more (λ (m : MarkedBio). (m.fault ≡ None) × IsTaken disk m.bio) (λ (m : MarkedBio). m.fault ≡ None) (λ m is. is.0) bios taken

  -- the next request, and what is asked for it
  module _ (pass : PassData S) (requests now : List RequestParts) (number : ℕ) (r : RequestParts) (s : Sending pass requests now number) (at : At now number r) where
    here : (ys : List RequestParts) × (s.rest ≡ r ∷ ys)
    here = split_at s.after s.rest number r s.many_after (subst (λ l. At l number r) s.is at)

    whole : requests ≡ s.done ++ r ∷ here.0
    whole = s.all ∙ ap (λ l. s.done ++ l) here.1

    pub next_has : (P : RequestParts → Type 0) → Each P requests → P r
    next_has P each = (each_back P s.done (r ∷ here.0) (subst (Each P) whole each)).0

    pub next_taken : (P : MarkedBio → Type 0) → Each P (bios_in requests) → Each P r.bios
    next_taken P each =
        each_front P r.bios (bios_in here.0)
        (each_back P (bios_in s.done) (r.bios ++ bios_in here.0) (subst (Each P) (ap bios_in whole ∙ bios_split s.done here.0 r) each))

    pub next_entries : HasEntriesFor (facts_on contents disk start) (bare_bios (bios_in requests)) → HasEntriesFor (facts_on contents disk pass) (bare_bios r.bios)
    next_entries has shard =
        let total = has shard in
        let less = s.entries shard in
        let all = ap (λ (bs : List MarkedBio). count_units_on (shards_of disk.queue.medium) shard (units_planned (keys_in disk) bs)) (ap bios_in whole ∙ bios_split s.done here.0 r) in
        let first = units_split (keys_in disk) (shards_of disk.queue.medium) shard (bios_in s.done) (r.bios ++ bios_in here.0) in
        let second = units_split (keys_in disk) (shards_of disk.queue.medium) shard r.bios (bios_in here.0) in
        omega (arith, total, less, all, first, second)

    pub next_events : ((device : ℕ) → 2 * pieces_on disk.targets device (all_pieces disk requests) ≤ events_left disk start device) → (device : ℕ) → inline_events disk (tagged_bios r.bios) device ≤ events_left disk pass device
    next_events has device =
        let total = has device in
        let less = s.left device in
        let all = ap (λ (rs : List RequestParts). pieces_on disk.targets device (all_pieces disk rs)) whole ∙ pieces_split s.done here.0 r device in
        omega (arith, total, less, all)

    -- and what it was carried out to
    pub sending_more : HoldsNameProgrammings → LaterHoldsNameLater → BecomesStays → PlannedByBios → (pass' : PassData S) (r' : RequestParts) → IsPassOf disk pass' → HasNoFault r.bios → IsWaiting r
        → CarriesRequest (facts_on contents disk pass) (facts_on contents disk pass') r r' → LeavesEntries (facts_on contents disk pass) (facts_on contents disk pass') (bare_bios r.bios)
        → ((device : ℕ) → events_left disk pass device ≤ events_left disk pass' device + inline_events disk (tagged_bios r.bios) device)
        → Sending pass' requests (set now number r') (number + 1)
    sending_more name name_later stays by_bios pass' r' ready fine waits carries entries events =
        let same : length r'.bios ≡ length r.bios =
        sym (length-map r'.bios (λ (m : MarkedBio). tagged_of m.bio)) ∙ ap length carries.bios ∙ length-map r.bios (λ (m : MarkedBio). tagged_of m.bio) in
        let goes : HasSameWay (facts_on contents disk pass).access (facts_on contents disk pass').access =
        ap (λ (c : ℕ). let f : AccessFacts = record (facts_on contents disk pass').access { caller = c } in f) carries.adds.same.caller in
        record {
          done = s.done ++ r ∷ [];
          after = s.after ++ r' ∷ [];
          rest = here.0;
          all = whole ∙ sym (append_assoc s.done (r ∷ []) here.0);
          is = ap (λ l. set l number r') (s.is ∙ ap (λ l. s.after ++ l) here.1) ∙ set_at s.after here.0 number r r' s.many_after;
          many = let long = length-append s.done (r ∷ []) in let was = s.many in omega (arith, long, was);
          many_after = let long = length-append s.after (r' ∷ []) in let was = s.many_after in omega (arith, long, was);
          ready = ready;
          sent =
              subst (λ (bs : List MarkedBio). Sent (facts_on contents disk start) (facts_on contents disk pass') bs (bios_in (s.after ++ r' ∷ [])) (all_pieces disk (s.done ++ r ∷ []))) (sym (bios_push s.done r))
              (subst (λ (bs : List MarkedBio). Sent (facts_on contents disk start) (facts_on contents disk pass') (bios_in s.done ++ r.bios) bs (all_pieces disk (s.done ++ r ∷ []))) (sym (bios_push s.after r'))
              (subst (λ (ps : List (List NamedUnit)). Sent (facts_on contents disk start) (facts_on contents disk pass') (bios_in s.done ++ r.bios) (bios_in s.after ++ r'.bios) ps) (sym (pieces_push s.done r))
              (sent_more name name_later stays by_bios (facts_on contents disk start) (facts_on contents disk pass) (facts_on contents disk pass') (bios_in s.done) (bios_in s.after) (all_pieces disk s.done) r r' s.sent fine goes carries)));
          waiting = each_append IsWaiting s.after (r' ∷ []) s.waiting (
            record {
              some = let some = waits.some in omega (arith, some, same);
              room = let room = waits.room in let spare = carries.room in omega (arith, room, same, spare);
            },
            tt,
          );
          count =
              let one = sum_by-append (λ (x : RequestParts). length x.bios) s.after (r' ∷ []) in
              let other = sum_by-append (λ (x : RequestParts). length x.bios) s.done (r ∷ []) in
              let was = s.count in
              let new = sum_by-cons (λ (x : RequestParts). length x.bios) r' [] in
              let old = sum_by-cons (λ (x : RequestParts). length x.bios) r [] in
              omega (arith, one, other, was, new, old, same);
          entries = λ shard.
              let first = s.entries shard in
              let second = entries shard in
              let all = ap (λ (bs : List MarkedBio). count_units_on (shards_of disk.queue.medium) shard (units_planned (keys_in disk) bs)) (bios_push s.done r) ∙ units_split (keys_in disk) (shards_of disk.queue.medium) shard (bios_in s.done) r.bios in
              omega (arith, first, second, all);
          left = λ device.
              let first = s.left device in
              let second = events device in
              let all = ap (pieces_on disk.targets device) (pieces_push s.done r) ∙ pieces_append disk.targets device (all_pieces disk s.done) (inline_pieces disk.targets (keys_in disk) (tagged_bios r.bios)) in
              omega (arith, first, second, all);
        }

  -- ---- the whole plug

  no_more : {X : Type 0} (xs : List X) → length xs ≡ 0 → xs ≡ []
  no_more [] none = refl
  no_more (x ∷ xs) none = absurd (omega (arith, none))

  module _ (requests : List RequestParts) (window : IsOfWindow (keys_in disk) requests (tagged_bios (bios_in requests))) where
    pub window_is : all_pieces disk requests ≡ window_pieces disk.targets (keys_in disk) (bare_bios (bios_in requests))
    window_is =
        sym (flat_map-map (inline_pieces disk.targets (keys_in disk)) (λ (r : RequestParts). tagged_bios r.bios) requests)
        ∙ ap (flat_map (inline_pieces disk.targets (keys_in disk))) (window ∙ ap (Rattle.bc_bio.specs.Windows.requests_of (keys_in disk)) (sym (bare_tags (bios_in requests))))

    pub window_events : (pass : PassData S) → ((device : ℕ) → events_for disk.targets (keys_in disk) (bare_bios (bios_in requests)) device ≤ events_left disk pass device) → (device : ℕ) → 2 * pieces_on disk.targets device (all_pieces disk requests) ≤ events_left disk pass device
    window_events pass has device = subst (λ (ps : List (List NamedUnit)). 2 * pieces_on disk.targets device ps ≤ events_left disk pass device) (sym window_is) (has device)

    module _ (pass : PassData S) (now : List RequestParts) (number : ℕ) (s : Sending pass requests now number) (end : number ≡ length requests) where
      none : s.rest ≡ []
      none =
          let long = ap length s.all ∙ length-append s.done s.rest in
          let many = s.many in
          no_more s.rest (omega (arith, long, many, end))

      all_done : requests ≡ s.done
      all_done = s.all ∙ ap (λ l. s.done ++ l) none ∙ append-nil s.done

      all_after : now ≡ s.after
      all_after = s.is ∙ ap (λ l. s.after ++ l) none ∙ append-nil s.after

      pub still_count : count_bios now ≡ count_bios requests
      still_count = ap count_bios all_after ∙ s.count ∙ sym (ap count_bios all_done)

      pub still_plug : (plug : PlugParts) → IsPlug (record { requests = requests; count = plug.count }) → plug.requests ≡ now → IsPlug plug
      still_plug plug was is = record {
        waiting = subst (Each IsWaiting) (sym all_after ∙ sym is) s.waiting;
        count = was.count ∙ sym still_count ∙ ap count_bios (sym is);
        most = was.most;
      }

      pub sent_all : HasNoFault (bios_in requests) → Submits (facts_on contents disk start) (facts_on contents disk pass) (bare_bios (bios_in requests)) (map reply_of (bios_in now))
      sent_all fine =
          submits_all (facts_on contents disk start) (facts_on contents disk pass) (bios_in requests) (bios_in now) (all_pieces disk requests)
          (subst (λ rs. Sent (facts_on contents disk start) (facts_on contents disk pass) (bios_in rs) (bios_in now) (all_pieces disk rs)) (sym all_done)
          (subst (λ rs. Sent (facts_on contents disk start) (facts_on contents disk pass) (bios_in s.done) (bios_in rs) (all_pieces disk s.done)) (sym all_after) s.sent)) fine window_is

      pub entries_all : LeavesEntries (facts_on contents disk start) (facts_on contents disk pass) (bare_bios (bios_in requests))
      entries_all = subst (λ rs. LeavesEntries (facts_on contents disk start) (facts_on contents disk pass) (bare_bios (bios_in rs))) (sym all_done) s.entries

      pub events_all : (device : ℕ) → events_left disk start device ≤ events_left disk pass device + events_for disk.targets (keys_in disk) (bare_bios (bios_in requests)) device
      events_all device =
          subst (λ (ps : List (List NamedUnit)). events_left disk start device ≤ events_left disk pass device + 2 * pieces_on disk.targets device ps) window_is
          (subst (λ rs. events_left disk start device ≤ events_left disk pass device + 2 * pieces_on disk.targets device (all_pieces disk rs)) (sym all_done) (s.left device))
