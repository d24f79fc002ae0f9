-- The pieces of a request, as one.
use Rattle.std.proofs.Common.{◌≡◌, ℕ, zero, suc, ◌+◌, ◌<◌, ◌≤◌, inl, inr, Bool, true, false, cond, not, List, [], ◌∷◌, ◌++◌, length, take, drop, map, append-nil, append_assoc, refl, sym, ap, subst, ◌∙◌, arith, length-drop}
use Rattle.std.specs.Prelude.{filter, sum_by}
use Rattle.std.specs.List.{AllZip, range_with_len}
use Rattle.std.proofs.Math.Logic.{⊎_elim}
use Rattle.std.proofs.lemmas.Bool.{cases_lt}
use Rattle.std.proofs.lemmas.List.Elements.{filter-append}
use Rattle.std.proofs.lemmas.List.Sums.{sum_by-cons, fold-append}
use Rattle.bc_base.specs.Lists.{Each, list_at}
use Rattle.bc_base.specs.Story.{StartsWith}
use Rattle.bc_key.specs.KeyData.{KeyData}
use Rattle.bc_bio.specs.declared.marked_bio.MarkedBio.{MarkedBio}
use Rattle.bc_bio.specs.Windows.{NamedUnit, TaggedBio, count_units}
use Rattle.bc_bio.specs.Requests.{RequestParts, tagged_bios, place_of, is_after, is_over, unit_in}
use Rattle.bc_medium.specs.declared.entry.Entry.{Entry}
use Rattle.bc_medium.specs.declared.unit_name.UnitName.{UnitName}
use Rattle.bc_medium.specs.declared.via.Via.{Via}
use Rattle.bc_medium.specs.declared.via.Via.TheVariants as ways
use Rattle.bc_medium.specs.Growth.{failed_names, Attempts, IsEntryOf}
use Rattle.bc_medium.specs.LawfulOrders.{unit_name_of, is_attempted}
use Rattle.bc_medium.specs.Laws.{AnswersStay}
use Rattle.bc_profile.specs.Laws.{HoldsNameProgrammings, LaterHoldsNameLater}
use Rattle.bc_stack.specs.declared.target.Target.{Target}
use Rattle.bc_queue.specs.RequestUnits.{planned_at, planned_part, faults_of, with_fault_at, with_faults, attempted_in, failed_among}
use Rattle.bc_queue.specs.Carrying.{AccessFacts, HasSameWay, IsCarried, CarriesOut}
use Rattle.bc_queue.specs.Laws.{AttemptedByNames, TagsDiffer, MarkSame}
use Rattle.bc_queue.proofs.Lists.{zip_more, range_split, each_filter, each_range, filter_same}
use Rattle.bc_queue.proofs.Marks.{over, over_is}
use Rattle.bc_queue.proofs.Walk.{same_named_at, same_planned, carried_more}
use Rattle.bc_stack.specs.Pieces.{pieces_of}
use Rattle.bc_pieces.specs.Pieces.{DeviceFacts, CarriesFirst, CarriesPieces, HasCarried, pieces_in, request_units, piece_part, access_by}
use Rattle.bc_pieces.specs.PieceEffects.{AddsByDevice}
use Rattle.bc_pieces.specs.AttemptedRequest.{by_way, IsCarriedItsWay, CarriesUnits, CarriesWhole, HasNoFault, IsWholeRequest}
use Rattle.bc_pieces.proofs.Walk.{drop_all}
use Rattle.bc_pieces.proofs.Telling.{tells_none, tells_more}
use Rattle.bc_pieces.proofs.Marks.{all_stay, failed_within, failed_append, names_append, no_fault_at}
use Rattle.bc_pieces.proofs.Becoming.{becomes_all, marks_all}
use Rattle.bc_base.proofs.Members.{zip_append}
use Rattle.bc_stack.proofs.PieceLaws.{length-units_of_request}

-- ---- one unit, over longer orders, and of the request as it was at first

carried_first : (facts mid : AccessFacts) (seen : List (List Entry)) (first old new : List MarkedBio) (n : ℕ) (e : Entry) → HasSameWay facts mid → tagged_bios old ≡ tagged_bios first → unit_in old n ≡ unit_in first n
    → IsCarried mid seen old new n e → IsCarried facts seen first new n e
carried_first facts mid seen first old new n e goes tags unit c =
    let d : IsCarried (record facts { seen = mid.seen; spare = mid.spare }) seen old new n e = subst (λ f. IsCarried f seen old new n e) goes c in record {
      entry = subst (λ u. IsEntryOf facts.caller u e) (same_planned facts.keys first old n tags unit) d.entry;
      way = d.way;
      place = d.place;
      shard = d.shard;
      stands = d.stands;
      bytes = d.bytes;
      content = d.content;
      full = d.full;
      back = λ writes. sym unit ∙ d.back writes;
      told = d.told;
    }

-- ---- units of one way are units each of its own

pub zip_each : {X Y : Type 0} (R S : X → Y → Type 0) (xs : List X) (ys : List Y) → ((x : X) (y : Y) → R x y → S x y) → AllZip R xs ys → AllZip S xs ys
zip_each R S [] [] f all = tt
zip_each R S [] (y ∷ ys) f all = absurd all
zip_each R S (x ∷ xs) [] f all = absurd all
zip_each R S (x ∷ xs) (y ∷ ys) f all = (f x y all.0, zip_each R S xs ys f all.1)

each_its_way : (old new : AccessFacts) (before after : RequestParts) (first count : ℕ) (p : CarriesOut old new before after first count) → CarriesUnits old new before after first count p.made
each_its_way old new before after first count p = record {
  carried = zip_each (IsCarried old new.seen before.bios after.bios) (IsCarriedItsWay old new.seen before.bios after.bios) (attempted_in after.bios first count) p.made
      (λ n e c. subst (λ v. IsCarried (by_way v old) new.seen before.bios after.bios n e) (sym c.way) c) p.carried;
  faults = p.faults;
  others = p.others;
  bios = p.bios;
  room = p.room;
}

its_way : (via : Via) (old new : AccessFacts) (before after : RequestParts) (first count : ℕ) (p : CarriesOut (by_way via old) (by_way via new) before after first count) → CarriesUnits old new before after first count p.made
its_way via old new before after first count p =
    let u = each_its_way (by_way via old) (by_way via new) before after first count p in
    record { carried = u.carried; faults = u.faults; others = u.others; bios = u.bios; room = u.room }

-- ---- units end to end

units_none : (old new : AccessFacts) (request : RequestParts) (first : ℕ) → CarriesUnits old new request request first 0 []
units_none old new request first = record {
  carried = tt;
  faults = refl;
  others = λ n left. refl;
  bios = refl;
  room = refl;
}

module _ (stay : AnswersStay) (old mid new : AccessFacts) (before now after : RequestParts) (first count more : ℕ) (es fs : List Entry) where
  pub units_append : ((via : Via) → HasSameWay (by_way via old) (by_way via mid)) → ((shard : ℕ) → StartsWith (list_at new.seen shard) (list_at mid.seen shard))
      → CarriesUnits old mid before now first count es → CarriesUnits mid new now after (first + count) more fs → CarriesUnits old new before after first (count + more) (es ++ fs)
  units_append goes fronts p q =
      let next : ℕ = first + count in
      let tagged : List TaggedBio = tagged_bios before.bios in
      let ns : List ℕ = attempted_in now.bios first count in
      let ms : List ℕ = attempted_in after.bios next more in
      let later : Each (λ n. next ≤ n) ms = each_filter (λ n. next ≤ n) (λ n. not (is_over after.bios n)) (range_with_len next more) (each_range (λ n. next ≤ n) next more (λ k from below. from)) in
      let kept : (m : ℕ) → m < next → is_over after.bios m ≡ is_over now.bios m = λ m less.
      over_is after.bios m
      ∙ ap (λ ts. over ts (faults_of after.bios) m) q.bios
      ∙ ap (λ fs. over (tagged_bios now.bios) fs m) q.faults
      ∙ all_stay (tagged_bios now.bios) (faults_of now.bios) (failed_among ms fs) m (failed_within (λ n. m ≤ n) ms fs (each_weaker ms m less later))
      ∙ sym (over_is now.bios m) in
      let numbers : attempted_in after.bios first (count + more) ≡ ns ++ ms =
      ap (filter (λ n. not (is_over after.bios n))) (range_split first count more)
      ∙ filter-append (λ n. not (is_over after.bios n)) (range_with_len first count) (range_with_len next more)
      ∙ ap (λ l. l ++ ms) (filter_same (λ n. not (is_over after.bios n)) (λ n. not (is_over now.bios n)) (range_with_len first count) (each_range (λ n. not (is_over after.bios n) ≡ not (is_over now.bios n)) first count (λ k from below. ap not (kept k below)))) in
      let was : AllZip (IsCarriedItsWay old new.seen before.bios after.bios) ns es =
      zip_more (λ n. n < next) (IsCarriedItsWay old mid.seen before.bios now.bios) (IsCarriedItsWay old new.seen before.bios after.bios) ns es
      (λ n e less c. carried_more stay (by_way e.via old) mid.seen new.seen before.bios now.bios after.bios n e fronts (q.others n (inl less)) c)
      (each_filter (λ n. n < next) (λ n. not (is_over now.bios n)) (range_with_len first count) (each_range (λ n. n < next) first count (λ k from below. below))) p.carried in
      let is : AllZip (IsCarriedItsWay old new.seen before.bios after.bios) ms fs =
      zip_more (λ n. next ≤ n) (IsCarriedItsWay mid new.seen now.bios after.bios) (IsCarriedItsWay old new.seen before.bios after.bios) ms fs
      (λ n e least c. carried_first (by_way e.via old) (by_way e.via mid) new.seen before.bios now.bios after.bios n e (goes e.via) p.bios (p.others n (inr (inl least))) c) later q.carried in record {
        carried = subst (λ l. AllZip (IsCarriedItsWay old new.seen before.bios after.bios) l (es ++ fs)) (sym numbers) (zip_append (IsCarriedItsWay old new.seen before.bios after.bios) ns ms es fs was is);
        faults =
            q.faults
            ∙ ap (λ t. with_faults t (faults_of now.bios) (failed_among ms fs)) p.bios
            ∙ ap (λ f. with_faults tagged f (failed_among ms fs)) p.faults
            ∙ sym (fold-append (with_fault_at tagged) (faults_of before.bios) (failed_among ns es) (failed_among ms fs))
            ∙ ap (λ l. with_faults tagged (faults_of before.bios) l) (sym (failed_append (IsCarriedItsWay old mid.seen before.bios now.bios) ns ms es fs p.carried))
            ∙ ap (λ l. with_faults tagged (faults_of before.bios) (failed_among l (es ++ fs))) (sym numbers);
        others = λ n left. ⊎_elim
            (λ (h : n < first). q.others n (inl (omega (arith, h))) ∙ p.others n (inl h))
            (λ left'. ⊎_elim
            (λ (h : first + (count + more) ≤ n). q.others n (inr (inl (omega (arith, h)))) ∙ p.others n (inr (inl (omega (arith, h)))))
            (λ (h : is_over after.bios n ≡ true). ⊎_elim
            (λ (less : n < next). q.others n (inl less) ∙ p.others n (inr (inr (sym (kept n less) ∙ h))))
            (λ (least : next ≤ n). q.others n (inr (inr h)) ∙ p.others n (inr (inl least)))
            (cases_lt n next))
            left')
            left;
        bios = q.bios ∙ p.bios;
        room = q.room ∙ p.room;
      }
    where
      each_weaker : (ns : List ℕ) (m : ℕ) → m < first + count → Each (λ n. first + count ≤ n) ns → Each (λ n. m ≤ n) ns
      each_weaker [] m less each = tt
      each_weaker (n ∷ ns) m less each = (let least = each.0 in omega (arith, less, least), each_weaker ns m less each.1)

-- ---- what the pieces tell, with what became of the units

-- a piece of a request reaches no further than its units
take_short : {X : Type 0} (xs : List X) (k : ℕ) → length (take k xs) ≤ length xs
take_short [] zero = omega arith
take_short [] (suc k) = omega arith
take_short (x ∷ xs) zero = omega arith
take_short (x ∷ xs) (suc k) = let rest = take_short xs k in omega (arith, rest)

piece_within : (keys : List KeyData) (request : RequestParts) (first : ℕ) (piece : List NamedUnit) → piece ≡ piece_part keys request first (length piece) → first ≤ count_units (tagged_bios request.bios) → first + length piece ≤ count_units (tagged_bios request.bios)
piece_within keys request first piece is within =
    let units = length-units_of_request keys (tagged_bios request.bios) in
    let left = length-drop first (request_units keys request) in
    let short = take_short (drop first (request_units keys request)) (length piece) in
    let same : length piece ≡ length (piece_part keys request first (length piece)) = ap length is in
    omega (arith, units, left, short, same, within)

fresh : (keys : List KeyData) (caller : ℕ) (bios : List MarkedBio) → HasNoFault bios → MarkSame keys caller [] bios
fresh keys caller bios none n within = ap not (sym (over_is bios n ∙ ap (is_after (place_of (tagged_bios bios) n).unit) (no_fault_at bios (place_of (tagged_bios bios) n).bio none)))

-- what pieces tell; what became of the units; and that the marks are those of the failed entries' names
pub record Follows (old new : DeviceFacts) (before after : RequestParts) (first count : ℕ) (pieces : List (List NamedUnit)) : Type 0 where
  pub tells : AddsByDevice old new pieces
  pub units : CarriesUnits old.access new.access before after first count tells.made
  pub marks : (met : List UnitName) → TagsDiffer (tagged_bios before.bios) → MarkSame old.access.keys old.access.caller met before.bios → MarkSame old.access.keys old.access.caller (met ++ failed_names tells.made) after.bios

follows_none : (facts : DeviceFacts) (request : RequestParts) (first : ℕ) → Follows facts facts request request first 0 []
unfolding tells_none
follows_none facts request first = record {
  tells = tells_none facts;
  units = units_none facts.access facts.access request first;
  marks = λ met differ same. subst (λ names. MarkSame facts.access.keys facts.access.caller names request.bios) (sym (append-nil met)) same;
}

module _ (stay : AnswersStay) (law : AttemptedByNames) (name : HoldsNameProgrammings) (name_later : LaterHoldsNameLater) (Exact : DeviceFacts → DeviceFacts → ℕ → List NamedUnit → Type 0) where
  follows_more : (old mid new : DeviceFacts) (before now after : RequestParts) (first more : ℕ) (piece : List NamedUnit) (pieces : List (List NamedUnit)) → CarriesFirst Exact old.access.keys old.targets old mid before now first piece
      → first + length piece ≤ count_units (tagged_bios before.bios) → Follows mid new now after (first + length piece) more pieces → Follows old new before after first (length piece + more) (piece ∷ pieces)
  unfolding tells_more
  follows_more old mid new before now after first more piece pieces f within q =
      let p = f.carries in
      let way : Via = ways.Inline f.device p.slot p.epoch in record {
        tells = tells_more name name_later Exact old mid new before now first piece pieces f within q.tells;
        units = units_append stay old.access mid.access new.access before now after first (length piece) more p.carries.made q.tells.made (λ via. ap (by_way via) p.carries.same) q.tells.grows.fronts (its_way way old.access mid.access before now first (length piece) p.carries) q.units;
        marks = λ met differ same.
            let names : List UnitName = met ++ failed_names p.carries.made in
            let here : MarkSame old.access.keys old.access.caller names now.bios = (law (access_by way old) (access_by way mid) before now first (length piece) met p.carries within differ same).marks in
            let there : MarkSame mid.access.keys mid.access.caller names now.bios = subst (λ k. MarkSame k mid.access.caller names now.bios) (sym p.same.keys) (subst (λ c. MarkSame old.access.keys c names now.bios) (sym p.same.caller) here) in
            let then' : MarkSame mid.access.keys mid.access.caller (names ++ failed_names q.tells.made) after.bios = q.marks names (subst (λ (ts : List TaggedBio). TagsDiffer ts) (sym p.carries.bios) differ) there in
            subst (λ l. MarkSame old.access.keys old.access.caller l after.bios) (append_assoc met (failed_names p.carries.made) (failed_names q.tells.made) ∙ ap (λ l. met ++ l) (sym (names_append p.carries.made q.tells.made)))
            (subst (λ k. MarkSame k old.access.caller (names ++ failed_names q.tells.made) after.bios) p.same.keys (subst (λ c. MarkSame mid.access.keys c (names ++ failed_names q.tells.made) after.bios) p.same.caller then'));
      }

  follows : (old new : DeviceFacts) (before after : RequestParts) (first : ℕ) (pieces : List (List NamedUnit)) → CarriesPieces Exact old.access.keys old.targets old new before after first pieces
      → first ≤ count_units (tagged_bios before.bios) → Follows old new before after first (sum_by length pieces) pieces
  follows old new before after first [] p within = subst (λ f. Follows old f before after first 0 []) (sym p.0) (subst (λ r. Follows old old before r first 0 []) (sym p.1) (follows_none old before first))
  follows old new before after first (piece ∷ pieces) p within =
      let reach = piece_within old.access.keys before first piece p.2.piece_is within in
      let many : count_units (tagged_bios p.1.bios) ≡ count_units (tagged_bios before.bios) = ap count_units p.2.carries.carries.bios in
      let sum : length piece + sum_by length pieces ≡ sum_by length (piece ∷ pieces) = sym (sum_by-cons (λ (l : List NamedUnit). length l) piece pieces) in
      let rest : CarriesPieces Exact p.0.access.keys p.0.targets p.0 new p.1 after (first + length piece) pieces =
      subst (λ (ts : List Target). CarriesPieces Exact p.0.access.keys ts p.0 new p.1 after (first + length piece) pieces) (sym p.2.carries.same.targets)
      (subst (λ (ks : List KeyData). CarriesPieces Exact ks old.targets p.0 new p.1 after (first + length piece) pieces) (sym p.2.carries.same.keys) p.3) in
      subst (λ k. Follows old new before after first k (piece ∷ pieces)) sum
      (follows_more old p.0 new before p.1 after first (sum_by length pieces) piece pieces p.2 reach
      (follows p.0 new p.1 after (first + length piece) pieces rest (omega (arith, reach, many))))

-- ---- entries of attempted units

entries_of : (old : AccessFacts) (seen : List (List Entry)) (before after : List MarkedBio) (ns : List ℕ) (es : List Entry) → AllZip (IsCarriedItsWay old seen before after) ns es → AllZip (IsEntryOf old.caller) (map (planned_at old.keys before) ns) es
entries_of old seen before after [] [] all = tt
entries_of old seen before after [] (e ∷ es) all = absurd all
entries_of old seen before after (n ∷ ns) [] all = absurd all
entries_of old seen before after (n ∷ ns) (e ∷ es) all = (all.0.entry, entries_of old seen before after ns es all.1)

filter_mapped : {A B : Type 0} (f : A → B) (p : B → Bool) (xs : List A) → filter p (map f xs) ≡ map f (filter (λ x. p (f x)) xs)
filter_mapped f p [] = refl
filter_mapped f p (x ∷ xs) = of_bool (p (f x)) (filter_mapped f p xs)
  where
    of_bool : (b : Bool) → filter p (map f xs) ≡ map f (filter (λ y. p (f y)) xs) → cond b (f x ∷ filter p (map f xs)) (filter p (map f xs)) ≡ map f (cond b (x ∷ filter (λ y. p (f y)) xs) (filter (λ y. p (f y)) xs))
    of_bool true rest = ap (λ l. f x ∷ l) rest
    of_bool false rest = rest

attempts_all : (old new : AccessFacts) (before after : RequestParts) (made : List Entry) → CarriesUnits old new before after 0 (count_units (tagged_bios before.bios)) made → MarkSame old.keys old.caller (failed_names made) after.bios
    → Attempts old.caller [] (planned_part old.keys before.bios 0 (count_units (tagged_bios before.bios))) made
attempts_all old new before after made units marks =
    let total : ℕ = count_units (tagged_bios before.bios) in
    let many : count_units (tagged_bios after.bios) ≡ total = ap count_units units.bios in
    let test : ℕ → Bool = λ n. is_attempted (failed_names made) (unit_name_of old.caller (planned_at old.keys before.bios n)) in
    let named : (n : ℕ) → n < total → test n ≡ not (is_over after.bios n) = λ n within.
    ap (λ (u : NamedUnit). is_attempted (failed_names made) (record { thread = old.caller; op = u.tag; unit = u.unit })) (sym (same_named_at old.keys before.bios after.bios n units.bios))
    ∙ marks n (omega (arith, within, many)) in
    let numbers : filter test (range_with_len 0 total) ≡ attempted_in after.bios 0 total =
    filter_same test (λ n. not (is_over after.bios n)) (range_with_len 0 total) (each_range (λ n. test n ≡ not (is_over after.bios n)) 0 total (λ k from below. named k (omega (arith, below)))) in
    subst (λ us. AllZip (IsEntryOf old.caller) us made)
    (sym (filter_mapped (planned_at old.keys before.bios) (λ u. is_attempted (failed_names made) (unit_name_of old.caller u)) (range_with_len 0 total) ∙ ap (map (planned_at old.keys before.bios)) numbers))
    (entries_of old new.seen before.bios after.bios (attempted_in after.bios 0 total) made units.carried)

-- ---- a whole request

whole_of : (old new : AccessFacts) (before after : RequestParts) (made : List Entry) → CarriesUnits old new before after 0 (count_units (tagged_bios before.bios)) made → (TagsDiffer (tagged_bios before.bios) → MarkSame old.keys old.caller (failed_names made) after.bios)
    → HasNoFault before.bios → IsWholeRequest old new before after made
whole_of old new before after made units marks none = record {
  attempts = λ differ. attempts_all old new before after made units (marks differ);
  marks = λ differ. marks_all old new before after made units none differ;
  becomes = becomes_all old new before after made units none;
}

pub carries_whole : AnswersStay → AttemptedByNames → HoldsNameProgrammings → LaterHoldsNameLater → (Exact : DeviceFacts → DeviceFacts → ℕ → List NamedUnit → Type 0) (keys : List KeyData) (targets : List Target) (old new : DeviceFacts) (before after : RequestParts) (pieces : List (List NamedUnit))
    → old.access.keys ≡ keys → old.targets ≡ targets → CarriesPieces Exact keys targets old new before after 0 pieces → sum_by length pieces ≡ count_units (tagged_bios before.bios) → CarriesWhole old new before after pieces
carries_whole stay law name name_later Exact keys targets old new before after pieces keyed laid p reaches =
    let p' : CarriesPieces Exact old.access.keys old.targets old new before after 0 pieces =
    subst (λ (ts : List Target). CarriesPieces Exact old.access.keys ts old new before after 0 pieces) (sym laid) (subst (λ (ks : List KeyData). CarriesPieces Exact ks targets old new before after 0 pieces) (sym keyed) p) in
    let f : Follows old new before after 0 (count_units (tagged_bios before.bios)) pieces = subst (λ k. Follows old new before after 0 k pieces) reaches (follows stay law name name_later Exact old new before after 0 pieces p' (omega arith)) in record {
      tells = f.tells;
      units = f.units;
      whole = λ none. whole_of old.access new.access before after f.tells.made f.units (λ differ. f.marks [] differ (fresh old.access.keys old.access.caller before.bios none)) none;
    }

pub one_way : AttemptedByNames → (old new : AccessFacts) (before after : RequestParts) (p : CarriesOut old new before after 0 (count_units (tagged_bios before.bios))) → HasNoFault before.bios → IsWholeRequest old new before after p.made
one_way law old new before after p none =
    let total : ℕ = count_units (tagged_bios before.bios) in
    whole_of old new before after p.made (each_its_way old new before after 0 total p)
    (λ differ. (law old new before after 0 total [] p (omega arith) differ (fresh old.keys old.caller before.bios none)).marks) none

-- the pieces of a request have all its units
pub pieces_reach : (Exact : DeviceFacts → DeviceFacts → ℕ → List NamedUnit → Type 0) (keys : List KeyData) (targets : List Target) (old new : DeviceFacts) (before after : RequestParts) (first : ℕ) → HasCarried Exact keys targets old new before after first → count_units (tagged_bios before.bios) ≤ first
    → sum_by length (pieces_in keys targets before) ≡ count_units (tagged_bios before.bios)
pieces_reach Exact keys targets old new before after first h past =
    let units = length-units_of_request keys (tagged_bios before.bios) in
    let none = drop_all (request_units keys before) first (omega (arith, units, past)) in
    let same : pieces_in keys targets before ≡ h.done = h.whole ∙ ap (λ us. h.done ++ pieces_of targets us) none ∙ append-nil h.done in
    ap (λ (ps : List (List NamedUnit)). sum_by length ps) same ∙ omega (arith, h.reaches, h.within, past)
