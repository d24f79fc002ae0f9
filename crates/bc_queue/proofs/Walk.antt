-- Units of a request, one after the other.
use Rattle.std.proofs.Common.{◌≡◌, ◌≢◌, ℕ, ◌+◌, ◌-◌, ◌<◌, ◌≤◌, ◌⊎◌, inl, inr, Bool, true, false, cond, not, List, [], ◌∷◌, ◌++◌, length, map, append-nil, refl, sym, ap, subst, ◌∙◌, arith, Option, Some, None}
use Rattle.std.specs.Prelude.{◌==◌, filter, zip, fold, slice_get, IsSomeAnd}
use Rattle.std.specs.Option.{option_map, option_map_or}
use Rattle.std.specs.List.{AllZip, range_with_len}
use Rattle.std.proofs.Math.Logic.{⊎_elim}
use Rattle.std.proofs.lemmas.Bool.{true≢false, cases_lt}
use Rattle.std.proofs.lemmas.List.{map-append, length-append}
use Rattle.std.proofs.lemmas.List.Elements.{filter-append}
use Rattle.std.proofs.lemmas.List.Sums.{fold-append}
use Rattle.bc_base.specs.Lists.{list_at}
use Rattle.bc_base.specs.Story.{StartsWith}
use Rattle.bc_key.specs.KeyData.{KeyData}
use Rattle.bc_bio.specs.declared.access.Access.{Access}
use Rattle.bc_bio.specs.declared.access.Access.TheVariants.{Read}
use Rattle.bc_bio.specs.declared.context.Context.{Context}
use Rattle.bc_bio.specs.declared.unit.Unit.{Unit}
use Rattle.bc_bio.specs.declared.marked_bio.MarkedBio.{MarkedBio}
use Rattle.bc_bio.specs.Conditions.{IsFull}
use Rattle.bc_bio.specs.Extent.{unit_sectors}
use Rattle.bc_bio.specs.PlannedUnit.{PlannedUnit}
use Rattle.bc_bio.specs.Windows.{TaggedBio, NamedUnit, units_of_request}
use Rattle.bc_bio.specs.Requests.{RequestParts, tagged_of, tagged_bios, place_of, place_in, is_over, unit_in}
use Rattle.bc_medium.specs.declared.entry.Entry.{Entry}
use Rattle.bc_medium.specs.Layout.{shard_of}
use Rattle.bc_medium.specs.Laws.{AnswersStay}
use Rattle.bc_medium.specs.Entries.{name_of_entry}
use Rattle.bc_queue.specs.RequestUnits.{named_at, access_at, written_bytes, planned_at, planned_part, count_units_on, faults_of, with_fault_at, with_faults, attempted_in, failed_among}
use Rattle.bc_queue.specs.Carrying.{AccessFacts, HasSameWay, one_on, answer_of, IsCarried, CarriesOut, AttemptsOne, PassesOver, TriesUnit, IsPerformableUnit, ArePerformable, HasSpareFor, faults_then}
use Rattle.bc_queue.proofs.Lists.{at_append, get_map, zip_more, pairs_append, range_split, each_filter, each_range, filter_same}
use Rattle.bc_queue.proofs.Marks.{over, over_is, keeps_over}
use Rattle.bc_queue.proofs.Growing.{grows_one, told_more}
use Rattle.bc_base.proofs.Members.{range_push, zip_append}
use Rattle.bc_medium.proofs.Growing.{grows_none, grows_append}

-- ---- units of requests with the same bios

access_by_tags : (bios : List MarkedBio) (n : ℕ) → access_at bios n ≡ option_map_or (λ (t : TaggedBio). t.bio.access) (slice_get (tagged_bios bios) (place_of (tagged_bios bios) n).bio) Read
access_by_tags bios n =
    of_option (slice_get bios (place_in bios n).bio)
    ∙ ap (λ (o : Option TaggedBio). option_map_or (λ (t : TaggedBio). t.bio.access) o Read) (sym (get_map (λ (m : MarkedBio). tagged_of m.bio) bios (place_in bios n).bio))
  where
    of_option : (o : Option MarkedBio) → option_map_or (λ (m : MarkedBio). m.bio.access) o Read ≡ option_map_or (λ (t : TaggedBio). t.bio.access) (option_map (λ (m : MarkedBio). tagged_of m.bio) o) Read
    of_option None = refl
    of_option (Some m) = refl

pub same_access_at : (old new : List MarkedBio) (n : ℕ) → tagged_bios new ≡ tagged_bios old → access_at new n ≡ access_at old n
same_access_at old new n tags =
    access_by_tags new n
    ∙ ap (λ (ts : List TaggedBio). option_map_or (λ (t : TaggedBio). t.bio.access) (slice_get ts (place_of ts n).bio) Read) tags
    ∙ sym (access_by_tags old n)

pub same_named_at : (keys : List KeyData) (old new : List MarkedBio) (n : ℕ) → tagged_bios new ≡ tagged_bios old → named_at keys new n ≡ named_at keys old n
same_named_at keys old new n tags = ap (λ (ts : List TaggedBio). Rattle.std.specs.Option.unwrap_or (slice_get (units_of_request keys ts) n) Rattle.bc_queue.specs.RequestUnits.no_unit) tags

pub same_planned : (keys : List KeyData) (old new : List MarkedBio) (n : ℕ) → tagged_bios new ≡ tagged_bios old → unit_in new n ≡ unit_in old n → planned_at keys new n ≡ planned_at keys old n
same_planned keys old new n tags unit =
    ap (λ (u : NamedUnit). let p : PlannedUnit = record { tag = u.tag; unit = u.unit; access = access_at new n; context = u.context; sector = u.sector; bytes = written_bytes (access_at new n) (unit_in new n) } in p) (same_named_at keys old new n tags)
    ∙ ap (λ (a : Access). let p : PlannedUnit = record { tag = (named_at keys old n).tag; unit = (named_at keys old n).unit; access = a; context = (named_at keys old n).context; sector = (named_at keys old n).sector; bytes = written_bytes a (unit_in new n) } in p) (same_access_at old new n tags)
    ∙ ap (λ (x : Option Unit). let p : PlannedUnit = record { tag = (named_at keys old n).tag; unit = (named_at keys old n).unit; access = access_at old n; context = (named_at keys old n).context; sector = (named_at keys old n).sector; bytes = written_bytes (access_at old n) x } in p) unit

-- ---- one unit more

-- what is known of a unit that was attempted, over longer orders and with the same content
pub carried_more : AnswersStay → (facts : AccessFacts) (seen seen' : List (List Entry)) (old mid new : List MarkedBio) (n : ℕ) (e : Entry) → ((shard : ℕ) → StartsWith (list_at seen' shard) (list_at seen shard))
    → unit_in new n ≡ unit_in mid n → IsCarried facts seen old mid n e → IsCarried facts seen' old new n e
carried_more stay facts seen seen' old mid new n e fronts same c =
    let begins = fronts c.place.shard in record {
      entry = c.entry;
      way = c.way;
      place = c.place;
      shard = c.shard;
      stands = subst (λ l. slice_get l c.place.index ≡ Some e) (sym begins.1) (at_append (list_at seen c.place.shard) begins.0 c.place.index e c.stands);
      bytes = c.bytes;
      content = same ∙ c.content;
      full = c.full;
      back = c.back;
      told = told_more stay facts.keys (facts.opening c.place.shard) (list_at seen c.place.shard) (list_at seen' c.place.shard) c.place.index (name_of_entry e) (answer_of e.access e.failed c.bytes) begins c.told;
    }

-- the same of the request as it was at first, and of the way as it was at first
carried_first : (facts mid : AccessFacts) (seen : List (List Entry)) (first old new : List MarkedBio) (n : ℕ) (e : Entry) → HasSameWay facts mid → tagged_bios old ≡ tagged_bios first → unit_in old n ≡ unit_in first n
    → IsCarried mid seen old new n e → IsCarried facts seen first new n e
carried_first facts mid seen first old new n e goes tags unit c =
    let d : IsCarried (record facts { seen = mid.seen; spare = mid.spare }) seen old new n e = subst (λ f. IsCarried f seen old new n e) goes c in record {
      entry = subst (λ u. Rattle.bc_medium.specs.Growth.IsEntryOf facts.caller u e) (same_planned facts.keys first old n tags unit) d.entry;
      way = d.way;
      place = d.place;
      shard = d.shard;
      stands = d.stands;
      bytes = d.bytes;
      content = d.content;
      full = d.full;
      back = λ writes. sym unit ∙ d.back writes;
      told = d.told;
    }

-- a unit that was attempted isn't over, nor do those before it change
over_kept : (now after : RequestParts) (n m : ℕ) (failed : Bool) → is_over now.bios n ≡ false → tagged_bios after.bios ≡ tagged_bios now.bios → faults_of after.bios ≡ faults_then failed (tagged_bios now.bios) (faults_of now.bios) n → m ≤ n
    → is_over after.bios m ≡ is_over now.bios m
over_kept now after n m failed tried tags faults le =
    over_is after.bios m
    ∙ ap (λ ts. over ts (faults_of after.bios) m) tags
    ∙ ap (λ fs. over (tagged_bios now.bios) fs m) faults
    ∙ of_bool failed
    ∙ sym (over_is now.bios m)
  where
    of_bool : (b : Bool) → over (tagged_bios now.bios) (faults_then b (tagged_bios now.bios) (faults_of now.bios) n) m ≡ over (tagged_bios now.bios) (faults_of now.bios) m
    of_bool true = keeps_over (tagged_bios now.bios) (faults_of now.bios) n m (sym (over_is now.bios n) ∙ tried) le
    of_bool false = refl

-- the attempted units up to the next one
attempted_push : (bios : List MarkedBio) (first i : ℕ) → attempted_in bios first (i + 1) ≡ attempted_in bios first i ++ cond (not (is_over bios (first + i))) ((first + i) ∷ []) []
attempted_push bios first i =
    ap (filter (λ n. not (is_over bios n))) (range_push first i) ∙ filter-append (λ n. not (is_over bios n)) (range_with_len first i) ((first + i) ∷ [])

pub units_push : (shards shard : ℕ) (keys : List KeyData) (bios : List MarkedBio) (first i : ℕ) → count_units_on shards shard (planned_part keys bios first (i + 1)) ≡ count_units_on shards shard (planned_part keys bios first i) + one_on shards shard (named_at keys bios (first + i)).sector
units_push shards shard keys bios first i =
    let p : PlannedUnit → Bool = λ u. shard_of shards u.sector == shard in
    let u : PlannedUnit = planned_at keys bios (first + i) in
    ap (λ l. length (filter p (map (planned_at keys bios) l))) (range_push first i)
    ∙ ap (λ l. length (filter p l)) (map-append (planned_at keys bios) (range_with_len first i) ((first + i) ∷ []))
    ∙ ap length (filter-append p (planned_part keys bios first i) (u ∷ []))
    ∙ length-append (filter p (planned_part keys bios first i)) (filter p (u ∷ []))
    ∙ ap (λ k. length (filter p (planned_part keys bios first i)) + k) (of_bool (p u) u)
  where
    of_bool : (b : Bool) (u : PlannedUnit) → length (cond b (u ∷ []) []) ≡ cond b 1 0
    of_bool true u = refl
    of_bool false u = refl

pub units_less : (shards shard : ℕ) (keys : List KeyData) (bios : List MarkedBio) (first i count : ℕ) → i ≤ count → count_units_on shards shard (planned_part keys bios first i) ≤ count_units_on shards shard (planned_part keys bios first count)
units_less shards shard keys bios first i count le =
    let p : PlannedUnit → Bool = λ u. shard_of shards u.sector == shard in
    let rest : List ℕ = range_with_len (first + i) (count - i) in
    let whole : i + (count - i) ≡ count = omega arith in
    let all : planned_part keys bios first count ≡ planned_part keys bios first i ++ map (planned_at keys bios) rest =
    ap (λ n. map (planned_at keys bios) (range_with_len first n)) (sym whole) ∙ ap (map (planned_at keys bios)) (range_split first i (count - i)) ∙ map-append (planned_at keys bios) (range_with_len first i) rest in
    let sum : count_units_on shards shard (planned_part keys bios first count) ≡ count_units_on shards shard (planned_part keys bios first i) + length (filter p (map (planned_at keys bios) rest)) =
    ap (λ l. length (filter p l)) all ∙ ap length (filter-append p (planned_part keys bios first i) (map (planned_at keys bios) rest)) ∙ length-append (filter p (planned_part keys bios first i)) (filter p (map (planned_at keys bios) rest)) in
    omega (arith, sum)

-- the failed ones of one more
failed_push : (R : ℕ → Entry → Type 0) (xs : List ℕ) (es : List Entry) (n : ℕ) (e : Entry) → AllZip R xs es → failed_among (xs ++ n ∷ []) (es ++ e ∷ []) ≡ failed_among xs es ++ cond e.failed (n ∷ []) []
failed_push R xs es n e all =
    ap (λ (l : List (ℕ × Entry)). map (λ (made : ℕ × Entry). made.0) (filter (λ (made : ℕ × Entry). made.1.failed) l)) (pairs_append R xs (n ∷ []) es (e ∷ []) all)
    ∙ ap (map (λ (made : ℕ × Entry). made.0)) (filter-append (λ (made : ℕ × Entry). made.1.failed) (zip xs es) ((n, e) ∷ []))
    ∙ map-append (λ (made : ℕ × Entry). made.0) (filter (λ (made : ℕ × Entry). made.1.failed) (zip xs es)) (filter (λ (made : ℕ × Entry). made.1.failed) ((n, e) ∷ []))
    ∙ ap (λ l. failed_among xs es ++ l) (of_bool e.failed)
  where
    of_bool : (b : Bool) → map (λ (made : ℕ × Entry). made.0) (cond b ((n, e) ∷ []) []) ≡ cond b (n ∷ []) []
    of_bool true = refl
    of_bool false = refl

pub done_none : (facts : AccessFacts) (request : RequestParts) (first : ℕ) → CarriesOut facts facts request request first 0
done_none facts request first = record {
  made = [];
  same = refl;
  grows = grows_none facts.shards facts.caller facts.seen;
  carried = tt;
  faults = refl;
  others = λ n left. refl;
  bios = refl;
  room = refl;
  spare = λ shard. omega arith;
}

module _ (stay : AnswersStay) (old mid new : AccessFacts) (before now after : RequestParts) (first i : ℕ) where
  pass_over : CarriesOut old mid before now first i → PassesOver mid new now after (first + i) → CarriesOut old new before after first (i + 1)
  pass_over p s =
      let less : (shard : ℕ) → old.spare shard ≤ mid.spare shard + count_units_on old.shards shard (planned_part old.keys before.bios first (i + 1)) = λ shard.
      omega (arith, p.spare shard, units_less old.shards shard old.keys before.bios first i (i + 1) (omega arith)) in
      let numbers : attempted_in now.bios first (i + 1) ≡ attempted_in now.bios first i =
      attempted_push now.bios first i ∙ ap (λ (b : Bool). attempted_in now.bios first i ++ cond (not b) ((first + i) ∷ []) []) s.over ∙ append-nil (attempted_in now.bios first i) in
      subst (λ f. CarriesOut old f before after first (i + 1)) (sym s.facts)
      (subst (λ r. CarriesOut old mid before r first (i + 1)) (sym s.request) (record {
        made = p.made;
        same = p.same;
        grows = p.grows;
        carried = subst (λ l. AllZip (IsCarried old mid.seen before.bios now.bios) l p.made) (sym numbers) p.carried;
        faults = p.faults ∙ ap (λ l. with_faults (tagged_bios before.bios) (faults_of before.bios) (failed_among l p.made)) (sym numbers);
        others = λ n left. p.others n (⊎_elim
            (λ (h : n < first). inl h)
            (λ more. ⊎_elim (λ (h : first + (i + 1) ≤ n). inr (inl (omega (arith, h)))) (λ (h : is_over now.bios n ≡ true). inr (inr h)) more) left);
        bios = p.bios;
        room = p.room;
        spare = less;
      }))

  attempt : CarriesOut old mid before now first i → is_over now.bios (first + i) ≡ false → AttemptsOne mid new now after (first + i) → CarriesOut old new before after first (i + 1)
  attempt p tried s =
      let n : ℕ = first + i in
      let kept : (m : ℕ) → m ≤ n → is_over after.bios m ≡ is_over now.bios m = λ m le. over_kept now after n m s.e.failed tried s.bios s.faults le in
      let same : attempted_in after.bios first i ≡ attempted_in now.bios first i =
      filter_same (λ m. not (is_over after.bios m)) (λ m. not (is_over now.bios m)) (range_with_len first i) (each_range (λ m. not (is_over after.bios m) ≡ not (is_over now.bios m)) first i (λ k from below. ap not (kept k (omega (arith, below))))) in
      let numbers : attempted_in after.bios first (i + 1) ≡ attempted_in now.bios first i ++ n ∷ [] =
      attempted_push after.bios first i
      ∙ ap (λ (b : Bool). attempted_in after.bios first i ++ cond (not b) (n ∷ []) []) (kept n (omega arith) ∙ tried)
      ∙ ap (λ l. l ++ n ∷ []) same in
      let unit_first : unit_in now.bios n ≡ unit_in before.bios n = p.others n (inr (inl (omega arith))) in
      let goes : new ≡ record old { seen = new.seen; spare = new.spare } =
      s.access.same ∙ ap (λ (f : AccessFacts). let g : AccessFacts = record f { seen = new.seen; spare = new.spare } in g) p.same in
      let caller : mid.caller ≡ old.caller = ap (λ (f : AccessFacts). f.caller) p.same in
      let shards : mid.shards ≡ old.shards = ap (λ (f : AccessFacts). f.shards) p.same in
      let by : s.e.at.caller ≡ mid.caller = ap (λ (u : Rattle.bc_medium.specs.declared.unit_at.UnitAt.UnitAt). u.caller) s.carried.entry.unit in
      let one : Rattle.bc_medium.specs.Growth.Grows mid.shards mid.caller mid.seen new.seen (s.e ∷ []) =
      grows_one mid.shards mid.caller s.place.shard mid.seen new.seen s.access.before s.e
      (subst (λ c. Rattle.bc_medium.specs.Growth.Appended c s.place.shard mid.seen new.seen s.access.before s.e) by s.access.performs.appended) by (sym s.access.performs.shard) in
      let grows : Rattle.bc_medium.specs.Growth.Grows old.shards old.caller mid.seen new.seen (s.e ∷ []) =
      subst (λ k. Rattle.bc_medium.specs.Growth.Grows k old.caller mid.seen new.seen (s.e ∷ [])) shards (subst (λ c. Rattle.bc_medium.specs.Growth.Grows mid.shards c mid.seen new.seen (s.e ∷ [])) caller one) in
      let was : AllZip (IsCarried old new.seen before.bios after.bios) (attempted_in now.bios first i) p.made =
      zip_more (λ m. m < n) (IsCarried old mid.seen before.bios now.bios) (IsCarried old new.seen before.bios after.bios) (attempted_in now.bios first i) p.made
      (λ m e less c. carried_more stay old mid.seen new.seen before.bios now.bios after.bios m e grows.fronts (s.others m (λ is. let no_lt = less in absurd (omega (arith, is, no_lt)))) c)
      (each_filter (λ m. m < n) (λ m. not (is_over now.bios m)) (range_with_len first i) (each_range (λ m. m < n) first i (λ k from below. below))) p.carried in
      let is : IsCarried old new.seen before.bios after.bios n s.e = carried_first old mid new.seen before.bios now.bios after.bios n s.e p.same p.bios unit_first s.carried in
      let sector : s.e.at.sector ≡ (named_at old.keys before.bios n).sector = ap (λ (u : Rattle.bc_medium.specs.declared.unit_at.UnitAt.UnitAt). u.sector) is.entry.unit in record {
        made = p.made ++ s.e ∷ [];
        same = goes;
        grows = grows_append old.shards old.caller old.seen mid.seen new.seen p.made (s.e ∷ []) p.grows grows;
        carried =
            subst (λ l. AllZip (IsCarried old new.seen before.bios after.bios) l (p.made ++ s.e ∷ [])) (sym numbers)
            (zip_append (IsCarried old new.seen before.bios after.bios) (attempted_in now.bios first i) (n ∷ []) p.made (s.e ∷ []) was (is, tt));
        faults =
            s.faults
            ∙ ap (λ t. faults_then s.e.failed t (faults_of now.bios) n) p.bios
            ∙ ap (λ f. faults_then s.e.failed (tagged_bios before.bios) f n) p.faults
            ∙ of_bool s.e.failed (with_faults (tagged_bios before.bios) (faults_of before.bios) (failed_among (attempted_in now.bios first i) p.made))
            ∙ sym (fold-append (with_fault_at (tagged_bios before.bios)) (faults_of before.bios) (failed_among (attempted_in now.bios first i) p.made) (cond s.e.failed (n ∷ []) []))
            ∙ ap (λ l. with_faults (tagged_bios before.bios) (faults_of before.bios) l) (sym (failed_push (IsCarried old mid.seen before.bios now.bios) (attempted_in now.bios first i) p.made n s.e p.carried))
            ∙ ap (λ l. with_faults (tagged_bios before.bios) (faults_of before.bios) (failed_among l (p.made ++ s.e ∷ []))) (sym numbers);
        others = λ m left.
            let apart : m ≢ n = λ is_n. ⊎_elim
            (λ (h : m < first). absurd (omega (arith, h, is_n)))
            (λ more. ⊎_elim (λ (h : first + (i + 1) ≤ m). absurd (omega (arith, h, is_n))) (λ (h : is_over after.bios m ≡ true). true≢false (sym h ∙ kept m (omega (arith, is_n)) ∙ ap (is_over now.bios) is_n ∙ tried)) more) left in
            s.others m apart ∙ p.others m (⊎_elim
            (λ (h : m < first). inl h)
            (λ more. ⊎_elim
            (λ (h : first + (i + 1) ≤ m). inr (inl (omega (arith, h))))
            (λ (h : is_over after.bios m ≡ true). ⊎_elim (λ (less : m < n). inr (inr (sym (kept m (omega (arith, less))) ∙ h))) (λ (past : n ≤ m). inr (inl past)) (cases_lt m n)) more) left);
        bios = s.bios ∙ p.bios;
        room = s.room ∙ p.room;
        spare = λ shard.
            let step : mid.spare shard ≤ new.spare shard + one_on old.shards shard (named_at old.keys before.bios n).sector =
            subst (λ k. mid.spare shard ≤ new.spare shard + one_on old.shards shard k) sector (subst (λ k. mid.spare shard ≤ new.spare shard + one_on k shard s.e.at.sector) shards (s.access.spare shard)) in
            omega (arith, p.spare shard, step, units_push old.shards shard old.keys before.bios first i);
      }
    where
      of_bool : (b : Bool) (faults : List (Option ℕ)) → faults_then b (tagged_bios before.bios) faults (first + i) ≡ fold (with_fault_at (tagged_bios before.bios)) faults (cond b ((first + i) ∷ []) [])
      of_bool true faults = refl
      of_bool false faults = refl

  pub done_more : CarriesOut old mid before now first i → TriesUnit mid new now after (first + i) → CarriesOut old new before after first (i + 1)
  done_more p s =
      ⊎_elim (λ (over' : PassesOver mid new now after (first + i)). pass_over p over') (λ (one : (is_over now.bios (first + i) ≡ false) × AttemptsOne mid new now after (first + i)). attempt p one.0 one.1) s

-- ---- the next unit can be performed

module _ (old mid : AccessFacts) (before now : RequestParts) (first i count : ℕ) where
  pub next_performable : (Takes : ℕ → Option Context → Type 0) → CarriesOut old mid before now first i → i < count → ArePerformable old.keys Takes before.bios first count → IsPerformableUnit old.keys Takes now.bios (first + i)
  next_performable Takes p less can =
      let n : ℕ = first + i in
      let is = can n (omega arith) (omega (arith, less)) in
      let named : named_at old.keys now.bios n ≡ named_at old.keys before.bios n = same_named_at old.keys before.bios now.bios n p.bios in
      let unit : unit_in now.bios n ≡ unit_in before.bios n = p.others n (inr (inl (omega arith))) in record {
        full = subst (λ (u : NamedUnit). IsSomeAnd (unit_in now.bios n) (IsFull (unit_sectors old.keys u.context))) (sym named) (subst (λ o. IsSomeAnd o (IsFull (unit_sectors old.keys (named_at old.keys before.bios n).context))) (sym unit) is.full);
        taken = subst (λ (u : NamedUnit). Takes u.sector u.context) (sym named) is.taken;
      }

  pub next_spare : CarriesOut old mid before now first i → i < count → HasSpareFor old before.bios first count → 1 ≤ mid.spare (shard_of old.shards (named_at old.keys before.bios (first + i)).sector)
  next_spare p less has =
      let sector : ℕ = (named_at old.keys before.bios (first + i)).sector in
      let shard : ℕ = shard_of old.shards sector in
      let here : one_on old.shards shard sector ≡ 1 = ap (λ (b : Bool). cond b 1 0) (Rattle.std.proofs.lemmas.Bool.eq-eqb (shard_of old.shards sector) shard refl) in
      omega (arith, p.spare shard, has shard, here, units_push old.shards shard old.keys before.bios first i, units_less old.shards shard old.keys before.bios first (i + 1) count (omega (arith, less)))
