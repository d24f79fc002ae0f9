-- Callers of one device: what they were answered stays true, and all of them come back.
use Rattle.std.proofs.Common.{◌≡◌, ◌⊎◌, inl, inr, ⊎_elim, Some, None, ℕ, zero, suc, ◌+◌, ◌<◌, ◌≤◌, Bool, true, List, [], ◌∷◌, ◌++◌, map, length, get_or, drop, refl, sym, ap, ap₂, ◌∙◌, subst, arith, append-nil, eq-eqb}
use Rattle.std.specs.Prelude.{◌==◌, ◌||◌, false, slice_index_or, All, IfSome, Option}
use Rattle.std.specs.List.{list_any, range_with_len}
use Rattle.std.proofs.lemmas.List.FromFn.{length-range_with_len}
use Rattle.std.proofs.lemmas.List.{append_assoc, length-append, length-map, map-append}
use Rattle.bc_base.specs.Lists.{Each, EachFrom, list_at}
use Rattle.bc_base.specs.Story.{own, StartsWith, IsFront}
use Rattle.bc_profile.specs.declared.event.Event.{Event}
use Rattle.bc_profile.specs.declared.noted.Noted.{Noted}
use Rattle.bc_profile.specs.Laws.{ProgrammingsStay}
use Rattle.bc_profile.specs.SlotJournal.{IsLawful}
use Rattle.bc_profile.specs.Story.{author_of, events_of, note, notes}
use Rattle.bc_profile.specs.Passes.{ProfileData, SlotFacts, IsFree, IsOf, Noticed, AreAllHere, IsClosedStory, base_in, made_by, new_pass, slots_in}
use Rattle.std.specs.Option.{option_map}
use Rattle.uses.specs.declared.keyslots.SlotCall.{SlotCall}
use Rattle.uses.specs.declared.keyslots.SlotAnswer.{SlotAnswer}
use Rattle.uses.specs.declared.keyslots.SlotAnswer.TheVariants as answers
use Rattle.uses.specs.declared.keyslots.CallerDone.{CallerDone}
use Rattle.uses.specs.Keyslots.{AddsToJournal, Answers, Asked, CallIsLeft, CallProgress, Reaches, Names, Tells, AreTrueAnswers, CameBackFrom, SlotCallersCameBack, IsToldIn, IsFresh, IsRun, after, answers_of_caller, progress, quota_in, start, to_the_end}

-- ---- one call

begins : (old new : SlotFacts) (made : List Event) → Noticed old new made → StartsWith new.seen old.seen
begins old new made n = (
  n.begins.0 ++ notes old.caller made,
  n.ends ∙ ap (λ l. l ++ notes old.caller made) n.begins.1 ∙ append_assoc old.seen n.begins.0 (notes old.caller made),
)

pub unchanged : (pass : SlotFacts) → Noticed pass pass []
unchanged pass = record {
  front = pass.seen;
  begins = ([], sym (append-nil pass.seen));
  own_front = refl;
  ends = sym (append-nil pass.seen);
  own_events = sym (append-nil (made_by pass));
  caller = refl;
  cell = refl;
}

pub left : (profile : ProfileData) (pass : SlotFacts) (call : SlotCall) → CallIsLeft (length profile.rows) (quota_in profile pass.caller) (progress pass) call → Tells profile pass pass call answers.Left
left profile pass call is = record { made = []; noticed = unchanged pass; adds = refl; is_answer = is; held = refl; names = tt }

-- ---- one call after the others

reach_more : (keys quota : ℕ) (from to : CallProgress) (asked : List SlotCall) (told : List SlotAnswer) (made : List Event) (call : SlotCall) (answer : SlotAnswer) (more : List Event) → Reaches keys quota from asked told made to → AddsToJournal answer more → Answers keys quota to call answer
    → Reaches keys quota from (asked ++ call ∷ []) (told ++ answer ∷ []) (made ++ more) (after to answer more)
reach_more keys quota from to [] [] made call answer more all adds is = (
  more,
  [],
  ap (λ l. l ++ more) all.0 ∙ sym (append-nil more),
  adds,
  subst (λ p. Answers keys quota p call answer) (sym all.1) is,
  (refl, ap (λ p. after p answer more) all.1),
)
reach_more keys quota from to [] (a ∷ told) made call answer more all adds is = absurd all
reach_more keys quota from to (c ∷ asked) [] made call answer more all adds is = absurd all
reach_more keys quota from to (c ∷ asked) (a ∷ told) made call answer more all adds is = (
  all.0,
  all.1 ++ more,
  ap (λ l. l ++ more) all.2 ∙ append_assoc all.0 all.1 more,
  all.3,
  all.4,
  reach_more keys quota (after from a all.0) to asked told all.1 call answer more all.5 adds is,
)

names_stay : ProgrammingsStay → (rows : List (List ℕ)) (before front : List Noted) (answer : SlotAnswer) → StartsWith front before → Names rows before answer → Names rows front answer
names_stay stays rows before front (answers.Held slot key epoch) begins is = (stays before front epoch slot key begins is).0
names_stay stays rows before front (answers.Back slot) begins is = tt
names_stay stays rows before front (answers.Evicted key) begins is = tt
names_stay stays rows before front (answers.Busy slot key refs) begins is = tt
names_stay stays rows before front answers.Reset begins is = tt
names_stay stays rows before front (answers.Loaded key register value) begins is = is
names_stay stays rows before front answers.Left begins is = tt

names_more : ProgrammingsStay → (rows : List (List ℕ)) (before front : List Noted) (told : List SlotAnswer) (answer : SlotAnswer) → StartsWith front before → Each (Names rows before) told → Names rows front answer → Each (Names rows front) (told ++ answer ∷ [])
names_more stays rows before front [] answer begins all one = (one, tt)
names_more stays rows before front (a ∷ told) answer begins all one =
    (names_stay stays rows before front a begins all.0, names_more stays rows before front told answer begins all.1 one)

-- what the caller of a pass was answered, and how far it is then
abbrev pub ToldBy : ProfileData → ℕ → SlotFacts → List SlotCall → List SlotAnswer → Type 0
ToldBy profile caller pass asked told = (pass.caller ≡ caller) × AreTrueAnswers profile.rows (quota_in profile caller) caller pass.seen asked told (progress pass)

pub nothing_told : (profile : ProfileData) (pass : SlotFacts) → pass.seen ≡ [] → pass.hold ≡ None → ToldBy profile pass.caller pass [] []
nothing_told profile pass none free = (
  refl,
  record {
    made = [];
    own_events = ap (own author_of pass.caller) none;
    reached = (
      refl,
      ap₂ (λ (h : Option ℕ) (n : ℕ). record { held = h; made = n }) (sym (ap (option_map (λ h. h.key)) free))
          (sym (ap (λ l. length (own author_of pass.caller l)) none)),
    );
    names = tt;
  },
)

pub told_more : ProgrammingsStay → (profile : ProfileData) (caller : ℕ) (old new : SlotFacts) (asked : List SlotCall) (told : List SlotAnswer) (call : SlotCall) (answer : SlotAnswer) → ToldBy profile caller old asked told → Tells profile old new call answer
    → ToldBy profile caller new (asked ++ call ∷ []) (told ++ answer ∷ [])
told_more stays profile caller old new asked told call answer by more =
    let n = more.noticed in let is = by.1 in let c : new.caller ≡ caller = n.caller ∙ by.0 in
    let l = ap length n.own_events ∙ length-append (made_by old) (notes old.caller more.made) in
    let m = length-map more.made (note old.caller) in
    let so_far : after (progress old) answer more.made ≡ progress new =
    ap₂ (λ (h : Option ℕ) (k : ℕ). record { held = h; made = k }) (sym more.held) (omega (arith, l, m)) in
    let reached = reach_more (length profile.rows) (quota_in profile caller) start (progress old) asked told is.made call answer more.made is.reached more.adds
    (subst (λ k. Answers (length profile.rows) (quota_in profile k) (progress old) call answer) by.0 more.is_answer) in (
      c,
      record {
        made = is.made ++ more.made;
        own_events =
            ap (λ k. own author_of k new.seen) (sym c) ∙ n.own_events
            ∙ ap (λ k. own author_of k old.seen ++ notes k more.made) by.0
            ∙ ap (λ l. l ++ notes caller more.made) is.own_events ∙ sym (map-append (note caller) is.made more.made);
        reached = subst (Reaches (length profile.rows) (quota_in profile caller) start (asked ++ call ∷ []) (told ++ answer ∷ []) (is.made ++ more.made)) so_far reached;
        names = names_more stays profile.rows old.seen new.seen told answer (begins old new more.made n) is.names more.names;
      },
    )

-- ---- all callers

-- the callers came back, the first having this number
abbrev AllBack : ProfileData → List (List SlotCall) → ℕ → List CallerDone → Type 0
AllBack profile lists first done = EachFrom (λ caller one. CameBackFrom profile caller (list_at lists caller) one) first done

pub all_back : (profile : ProfileData) (lists : List (List SlotCall)) (first count : ℕ) (passes : List SlotFacts) (done : List CallerDone) → passes ≡ map (new_pass profile) (range_with_len first count) → length done ≡ length passes → SlotCallersCameBack profile lists passes done → AllBack profile lists first done
all_back profile lists first zero [] [] is long back = tt
all_back profile lists first zero [] (d ∷ done) is long back = absurd (omega (arith, long))
all_back profile lists first zero (p ∷ passes) done is long back = absurd (let l = ap length is in omega (arith, l))
all_back profile lists first (suc count) [] done is long back = absurd (let l = ap length is in omega (arith, l))
all_back profile lists first (suc count) (p ∷ passes) [] is long back = absurd (omega (arith, long))
all_back profile lists first (suc count) (p ∷ passes) (d ∷ done) is long back = (
  subst (λ n. CameBackFrom profile n (list_at lists n) d) (ap (λ l. (get_or l 0 p).caller) is) (back 0 p d (omega arith)),
  all_back profile lists (first + 1) count passes done (ap (drop 1) is) (omega (arith, long)) (λ k pass one less. back (suc k) pass one (omega (arith, less))),
)

each_all : {A : Type 0} (P : A → Type 0) (xs : List A) → Each P xs → All P xs
each_all P [] each k d less = absurd (omega (arith, less))
each_all P (x ∷ xs) each zero d less = each.0
each_all P (x ∷ xs) each (suc k) d less = each_all P xs each.1 k d (omega (arith, less))

new_fresh : (profile : ProfileData) (first count : ℕ) → Each (IsFree profile) (map (new_pass profile) (range_with_len first count)) → Each (IsFresh profile) (map (new_pass profile) (range_with_len first count))
new_fresh profile first zero free = tt
new_fresh profile first (suc count) free = ((free.0, refl), new_fresh profile (first + 1) count free.1)

pub all_fresh : (profile : ProfileData) (count : ℕ) (passes : List SlotFacts) → passes ≡ map (new_pass profile) (range_with_len 0 count) → Each (IsFree profile) passes → All (IsFresh profile) passes
all_fresh profile count passes is free =
    each_all (IsFresh profile) passes (subst (Each (IsFresh profile)) (sym is) (new_fresh profile 0 count (subst (Each (IsFree profile)) is free)))

pub as_many : (count : ℕ) (profile : ProfileData) (passes : List SlotFacts) (done : List CallerDone) (told : List (Option (List SlotAnswer))) → passes ≡ map (new_pass profile) (range_with_len 0 count) → length done ≡ length passes → told ≡ map answers_of_caller done → (length done ≡ count) × (length told ≡ count)
as_many count profile passes done told is long same =
    let a = ap length is ∙ length-map (range_with_len 0 count) (new_pass profile) ∙ length-range_with_len 0 count in
    let b = ap length same ∙ length-map done answers_of_caller in (omega (arith, a, long), omega (arith, a, b, long))

pub free_passes : (profile : ProfileData) (lists : List (List SlotCall)) (first : ℕ) (done : List CallerDone) → AllBack profile lists first done
    → Each (IsOf profile) (map (λ d. d.pass) done) × Each (λ pass. pass.hold ≡ None) (map (λ d. d.pass) done)
free_passes profile lists first [] back = (tt, tt)
free_passes profile lists first (d ∷ done) back =
    let others = free_passes profile lists (first + 1) done back.1 in let free = back.0.free in
    ((free.0, others.0), (free.1, others.1))

here_from : (profile : ProfileData) (lists : List (List SlotCall)) (first caller : ℕ) (done : List CallerDone) → AllBack profile lists first done → first ≤ caller → caller < first + length done → list_any (λ (pass : SlotFacts). pass.caller == caller) (map (λ d. d.pass) done) ≡ true
here_from profile lists first caller [] back from below = absurd (omega (arith, from, below))
here_from profile lists first caller (d ∷ done) back from below =
    ⊎_elim
    (λ (same : first ≡ caller). rw (eq-eqb d.pass.caller caller (back.0.number ∙ same)) refl)
    (λ (more : first + 1 ≤ caller). rest (d.pass.caller == caller) (list_any (λ (pass : SlotFacts). pass.caller == caller) (map (λ d. d.pass) done)) (here_from profile lists (first + 1) caller done back.1 more (omega (arith, below))))
    (split first caller from)
  where
    split : (first caller : ℕ) → first ≤ caller → (first ≡ caller) ⊎ (first + 1 ≤ caller)
    split zero zero le = inl refl
    split zero (suc caller) le = inr (omega arith)
    split (suc first) zero le = absurd (omega (arith, le))
    split (suc first) (suc caller) le = ⊎_elim (λ e. inl (ap suc e)) (λ l. inr (omega (arith, l))) (split first caller (omega (arith, le)))

    rest : (b c : Bool) → c ≡ true → (b || c) ≡ true
    rest true c is = refl
    rest false c is = is

pub here : (profile : ProfileData) (lists : List (List SlotCall)) (done : List CallerDone) → AllBack profile lists 0 done → length done ≡ profile.turns.callers → AreAllHere profile (map (λ d. d.pass) done)
here profile lists done back long = λ caller below. here_from profile lists 0 caller done back (omega arith) (omega (arith, long, below))

-- ---- the journal

pub all_told : (profile : ProfileData) (asked : Asked) (story : List Noted) (first : ℕ) (done : List CallerDone) (told : List (List SlotAnswer)) → profile.rows ≡ asked.rows → (base_in profile).quotas ≡ asked.quotas → AllBack profile asked.lists first done → map (λ t. Some t) told ≡ map answers_of_caller done
    → Each (λ (pass : SlotFacts). IsFront author_of pass.caller pass.seen story) (map (λ d. d.pass) done) → EachFrom (IsToldIn asked story) first told
all_told profile asked story first done [] rows quotas back same fronts = tt
all_told profile asked story first [] (t ∷ told) rows quotas back same fronts = absurd (let l = ap length same in omega (arith, l))
all_told profile asked story first (d ∷ done) (t ∷ told) rows quotas back same fronts =
    let one : Some t ≡ answers_of_caller d = ap (λ l. get_or l 0 None) same in
    let is = subst (λ o. IfSome o (λ told. (end : CallProgress) × AreTrueAnswers profile.rows (quota_in profile first) first d.pass.seen (to_the_end (list_at asked.lists first)) told end)) (sym one) back.0.told in (
      record {
        front = d.pass.seen;
        is_front = subst (λ n. IsFront author_of n d.pass.seen story) back.0.number fronts.0;
        end = is.0;
        is_told = subst (λ q. AreTrueAnswers asked.rows (slice_index_or q first 0) first d.pass.seen (to_the_end (list_at asked.lists first)) t is.0) quotas
            (subst (λ r. AreTrueAnswers r (quota_in profile first) first d.pass.seen (to_the_end (list_at asked.lists first)) t is.0) rows is.1);
      },
      all_told profile asked story (first + 1) done told rows quotas back.1 (ap (drop 1) same) fronts.1,
    )

pub some_of : {V A : Type 0} (items : V → A) (vs : List V) → map (λ a. Some a) (map items vs) ≡ map (λ v. Some (items v)) vs
some_of items [] = refl
some_of items (v ∷ vs) = ap (λ l. Some (items v) ∷ l) (some_of items vs)

pub run_of : (profile : ProfileData) (asked : Asked) (done : List CallerDone) (told : List (List SlotAnswer)) (journal : List Event) → base_in profile ≡ record { slots = asked.slots; quotas = asked.quotas } → profile.rows ≡ asked.rows → AllBack profile asked.lists 0 done → length done ≡ profile.turns.callers
    → map (λ t. Some t) told ≡ map answers_of_caller done → (story : List Noted) × (journal ≡ events_of story) × IsClosedStory profile (map (λ d. d.pass) done) story → IsRun asked journal told
run_of profile asked done told journal base rows back long same closed =
    let story = closed.0 in let is = closed.2 in
    let l = sym (length-map told (λ t. Some t)) ∙ ap length same ∙ length-map done answers_of_caller in record {
      story = story;
      is_journal = closed.1;
      lawful = subst (λ n. IsLawful n journal) (ap (λ b. b.slots) base) (subst (IsLawful (slots_in profile)) (sym closed.1) is.lawful);
      callers = all_told profile asked story 0 done told rows (ap (λ b. b.quotas) base) back same is.fronts;
      strangers = λ caller past. is.strangers caller (omega (arith, l, long, past));
    }
