-- Sections that follow one another.
use Rattle.std.proofs.Common.{◌≡◌, ℕ, zero, suc, ◌+◌, ◌<◌, ◌≤◌, List, [], ◌∷◌, ◌++◌, length, map, take, drop, get_or, false, None, append-nil, refl, sym, ap, subst, ◌∙◌, arith, length-append}
use Rattle.std.specs.Prelude.{◌==◌, filter, flat_map, IsTrue, sum_by}
use Rattle.std.specs.List.{AllByRecursion, enumerate_from, list_any}
use Rattle.std.proofs.Math.Path.{fun_ext}
use Rattle.std.proofs.Math.Seq.{drop-append_seam}
use Rattle.std.proofs.Math.Logic.{⊎_elim}
use Rattle.std.proofs.lemmas.Bool.{ne_eqb, cases_lt}
use Rattle.std.proofs.lemmas.List.{length-take}
use Rattle.std.proofs.lemmas.List.Elements.{filter-append}
use Rattle.std.proofs.lemmas.List.Sums.{sum_by-append, sum_by-cons}
use Rattle.std.proofs.lemmas.Grind.{flat_map-append}
use Rattle.bc_base.specs.Lists.{EachFrom, list_at}
use Rattle.bc_base.specs.Story.{own, StartsWith, IsFront}
use Rattle.bc_medium.specs.declared.entry.Entry.{Entry}
use Rattle.bc_medium.specs.Entries.{caller_of, name_of_entry}
use Rattle.bc_medium.specs.Growth.{lies_in}
use Rattle.bc_medium.specs.Shards.{orders_of}
use Rattle.bc_script.specs.declared.op.Op.{Op}
use Rattle.bc_script.specs.declared.op.Op.TheVariants as ops
use Rattle.bc_profile.specs.declared.event.Event.{Event}
use Rattle.bc_profile.specs.declared.noted.Noted.{Noted}
use Rattle.bc_profile.specs.Story.{author_of, events_of, notes}
use Rattle.bc_script.specs.Script.{unit_count, unit_count_of_section}
use Rattle.bc_script.specs.Plan.{units_of_section}
use Rattle.bc_report.specs.declared.answer.Answer.{Answer}
use Rattle.bc_report.specs.Report.{IsAnswer}
use Rattle.bc_report.specs.SerialRun.{DeviceUse, uses_of_section}
use Rattle.bc_compose.specs.SectionDone.{SectionDone}
use Rattle.bc_section.specs.Sections.{DeviceData, SectionsDone, journal_seen, cost, cost_of_section}
use Rattle.bc_section.specs.SectionProgress.{CarriesSection}
use Rattle.bc_serial.specs.Keyslots.{stories_of}
use Rattle.bc_serial.specs.Standing.{CourseData, HasBegun, own_device}
use Rattle.bc_section.specs.Uses.{MakesUses, is_for}
use Rattle.bc_section.proofs.Lists.{from_append, filter_none, list_at_left, list_at_last, take_next, enumerate_push}
use Rattle.bc_serial.proofs.Sectioning.{begun_itself, same_section, list_at_each, length-each, same_by_places, told_on, events_at, events_are, told_are, told_same, told_own, told_front, told_below, not_of_sections}
use Rattle.bc_serial.proofs.Stories.{own_notes_other, story_at}
use Rattle.bc_section.proofs.Using.{uses_append}
use Rattle.bc_base.proofs.Members.{In, in_of_filter, in_of_flat_map, all_at, all_from_in, all_append}
use Rattle.bc_medium.proofs.Growing.{begins_itself, begins_trans, made_by}

pub sections_none : (d : CourseData) → HasBegun d.begun d.journals → ((shard : ℕ) → list_at (orders_of d.shards) shard ≡ []) → ((device : ℕ) → list_at d.journals device ≡ []) → SectionsDone (own_device d) (own_device d) [] []
sections_none d has untouched unused = record {
  made = [];
  seen = [];
  noted = [];
  stories = map (λ journal. []) d.journals;
  same = refl;
  each_made = refl;
  each_seen = refl;
  each_noted = refl;
  each_answered = refl;
  each_done = λ t lt. absurd (none t lt);
  callers = tt;
  fronts = λ t shard lt. absurd (none t lt);
  orders = untouched;
  told = λ t device lt. absurd (none t lt);
  authors = λ device. subst (AllByRecursion (λ n. author_of n < 0)) (sym (no_story d.journals device)) tt;
  journals = same_by_places (map events_of (map (λ journal. []) d.journals)) d.journals
      (length-each events_of (map (λ journal. []) d.journals) ∙ length-each (λ journal. []) d.journals)
      (λ k. list_at_each events_of refl (map (λ journal. []) d.journals) k ∙ ap events_of (no_story d.journals k) ∙ sym (unused k))
      ∙ sym (events_are d.thread d.begun d.journals has);
  uses = record {
    journals = λ device inside. events_at d.thread d.begun d.journals has device ∙ unused device;
    holds = tt;
  };
  ranges = tt;
}
  where
    none : (t : ℕ) → t < 0 → ⊥
    none t lt = omega arith

    no_story : (journals : List (List Event)) (device : ℕ) → list_at {A = Noted} (map (λ journal. []) journals) device ≡ []
    no_story [] device = refl
    no_story (x ∷ xs) zero = refl
    no_story (x ∷ xs) (suc device) = no_story xs device

-- entries that were made by earlier callers
pub callers_below : (n : ℕ) (made : List (List Entry)) → EachFrom (λ t es. AllByRecursion (λ e. caller_of e ≡ t) es) n made → (es : List Entry) (e : Entry) → In es made → In e es
    → (n ≤ caller_of e) × (caller_of e < n + length made)
callers_below n [] all es e at at' = absurd at
callers_below n (fs ∷ made) all es e at at' =
    ⊎_elim (λ (same : fs ≡ es).
    let by : caller_of e ≡ n = all_at (λ (x : Entry). caller_of x ≡ n) fs e all.0 (subst (In e) (sym same) at') in (omega arith, omega arith))
    (λ (more : In es made). let r = callers_below (n + 1) made all.1 es e more at' in let a = r.0 in let b = r.1 in (omega arith, omega arith)) at

module _ (a : DeviceData) (alone : IsTrue a.alone) (thread thread' : ℕ) (seen seen' : List (List Entry)) (begun_before before after : List (List Event)) (spare spare' : ℕ)
    (has : HasBegun begun_before before) (has' : HasBegun before after) where
  abbrev now : DeviceData
  now = record a { thread = thread; seen = seen; noted = stories_of thread begun_before before; begun = begun_before; spare = spare }

  abbrev begun : DeviceData
  begun = record a { thread = thread'; seen = seen; noted = stories_of thread' before before; begun = before; spare = spare }

  abbrev new : DeviceData
  new = record a { thread = thread'; seen = seen'; noted = stories_of thread' before after; begun = before; spare = spare' }

  -- a thread sees the same journals as it begins as the one before it did as it ended
  between : journal_seen now ≡ journal_seen begun
  between = fun_ext (λ device. events_at thread begun_before before has device ∙ sym (events_at thread' before before (begun_itself before) device))

  more : (sections : List (List Op)) (answers : List (List Answer)) (section : List Op) (told : List Answer) → thread' ≡ length sections
      → SectionsDone a now sections answers → CarriesSection begun new section told → SectionsDone a new (sections ++ section ∷ []) (answers ++ told ∷ [])
  more sections answers section told turn p q = record {
    made = p.made ++ q.made ∷ [];
    seen = p.seen ++ seen' ∷ [];
    noted = p.noted ++ true_stories ∷ [];
    stories = true_stories;
    same = refl;
    each_made = longer p.made sections q.made section p.each_made;
    each_seen = longer p.seen sections seen' section p.each_seen;
    each_noted = longer p.noted sections true_stories section p.each_noted;
    each_answered = longer answers sections told section p.each_answered;
    each_done = λ t lt. ⊎_elim
        (λ (before : t < length sections).
        subst (λ es. SectionDone a.script a.shards a.base t (list_at (sections ++ section ∷ []) t) (list_at (p.seen ++ seen' ∷ []) t) (list_at (p.noted ++ true_stories ∷ []) t) (list_at (answers ++ told ∷ []) t) es) (sym (list_at_left p.made q.made t (within p.made sections t p.each_made before)))
        (subst (λ l. SectionDone a.script a.shards a.base t (list_at (sections ++ section ∷ []) t) (list_at (p.seen ++ seen' ∷ []) t) (list_at (p.noted ++ true_stories ∷ []) t) l (list_at p.made t)) (sym (list_at_left answers told t (within answers sections t p.each_answered before)))
        (subst (λ l. SectionDone a.script a.shards a.base t (list_at (sections ++ section ∷ []) t) (list_at (p.seen ++ seen' ∷ []) t) l (list_at answers t) (list_at p.made t)) (sym (list_at_left p.noted true_stories t (within p.noted sections t p.each_noted before)))
        (subst (λ l. SectionDone a.script a.shards a.base t (list_at (sections ++ section ∷ []) t) l (list_at p.noted t) (list_at answers t) (list_at p.made t)) (sym (list_at_left p.seen seen' t (within p.seen sections t p.each_seen before)))
        (subst (λ l. SectionDone a.script a.shards a.base t l (list_at p.seen t) (list_at p.noted t) (list_at answers t) (list_at p.made t)) (sym (list_at_left sections section t before))
        (p.each_done t before))))))
        (λ (last : length sections ≤ t).
        let is : t ≡ length sections = last_one sections section t lt last in
        subst (λ es. SectionDone a.script a.shards a.base t (list_at (sections ++ section ∷ []) t) (list_at (p.seen ++ seen' ∷ []) t) (list_at (p.noted ++ true_stories ∷ []) t) (list_at (answers ++ told ∷ []) t) es) (sym (list_at_last p.made q.made t (is ∙ sym p.each_made)))
        (subst (λ l. SectionDone a.script a.shards a.base t (list_at (sections ++ section ∷ []) t) (list_at (p.seen ++ seen' ∷ []) t) (list_at (p.noted ++ true_stories ∷ []) t) l q.made) (sym (list_at_last answers told t (is ∙ sym p.each_answered)))
        (subst (λ l. SectionDone a.script a.shards a.base t (list_at (sections ++ section ∷ []) t) (list_at (p.seen ++ seen' ∷ []) t) l told q.made) (sym (list_at_last p.noted true_stories t (is ∙ sym p.each_noted)))
        (subst (λ l. SectionDone a.script a.shards a.base t (list_at (sections ++ section ∷ []) t) l true_stories told q.made) (sym (list_at_last p.seen seen' t (is ∙ sym p.each_seen)))
        (subst (λ l. SectionDone a.script a.shards a.base t l seen' true_stories told q.made) (sym (list_at_last sections section t is))
        (subst (λ n. SectionDone a.script a.shards a.base n section seen' true_stories told q.made) (turn ∙ sym is) over_stories))))))
        (cases_lt t (length sections));
    callers = from_append (λ t es. AllByRecursion (λ e. caller_of e ≡ t) es) 0 p.made q.made p.callers
        (all_from_in (λ e. caller_of e ≡ 0 + length p.made) q.made
        (λ e at. made_by thread' [] (units_of_section a.script section) q.made q.done.attempts e at ∙ turn ∙ sym p.each_made ∙ zero_first (length p.made)));
    fronts = λ t shard lt. ⊎_elim
        (λ (before : t < length sections).
        subst (λ l. StartsWith (list_at seen' shard) (list_at l shard)) (sym (list_at_left p.seen seen' t (within p.seen sections t p.each_seen before)))
        (begins_trans (list_at (list_at p.seen t) shard) (list_at seen shard) (list_at seen' shard) (p.fronts t shard before) (q.fronts shard)))
        (λ (last : length sections ≤ t).
        subst (λ l. StartsWith (list_at seen' shard) (list_at l shard)) (sym (list_at_last p.seen seen' t (last_one sections section t lt last ∙ sym p.each_seen)))
        (begins_itself (list_at seen' shard)))
        (cases_lt t (length sections));
    orders = λ shard.
        let keep = filter (lies_in a.shards shard) in
        q.alone alone shard ∙ ap (λ l. l ++ keep q.made) (p.orders shard)
        ∙ ap (λ l. flat_map keep p.made ++ l) (sym (append-nil (keep q.made)))
        ∙ sym (flat_map-append keep p.made (q.made ∷ []));
    told = λ t device lt. ⊎_elim
        (λ (earlier : t < length sections).
        subst (λ l. IsFront author_of t (list_at l device) (list_at true_stories device)) (sym (list_at_left p.noted true_stories t (within p.noted sections t p.each_noted earlier)))
        (told_front thread' before after has' p.stories journals_before below t device (list_at (list_at p.noted t) device) (omega arith) (p.told t device earlier)))
        (λ (last : length sections ≤ t).
        subst (λ l. IsFront author_of t (list_at l device) (list_at true_stories device)) (sym (list_at_last p.noted true_stories t (last_one sections section t lt last ∙ sym p.each_noted)))
        (record { begins = begins_itself (list_at true_stories device); own_entries = refl }))
        (cases_lt t (length sections));
    authors = λ device. subst (λ n. AllByRecursion (λ m. author_of m < n) (list_at true_stories device)) (ap (λ n. n + 1) turn ∙ sym (length-append sections (section ∷ [])))
        (told_below thread' before after has' p.stories journals_before below device);
    journals = told_are thread' before after has' p.stories journals_before below ∙ sym (events_are thread' before after has');
    uses = subst (λ (done : ℕ → List DeviceUse). MakesUses a.script (λ device. []) (journal_seen new) done (flat_map (λ es. es) (p.made ++ q.made ∷ []))) (sym (fun_ext all_uses))
        (subst (λ (es : List Entry). MakesUses a.script (λ device. []) (journal_seen new) (λ device. of_sections device ++ uses_of_section a.script device (thread', section)) es) (sym all_made)
        (uses_append a.script (λ device. []) (journal_seen begun) (journal_seen new) of_sections (λ device. uses_of_section a.script device (thread', section)) (flat_map (λ es. es) p.made) q.made
        (λ device.
        all_from_in (λ e. list_any (is_for (name_of_entry e)) (of_sections device) ≡ false) q.made
        (λ e at.
        not_of_sections a.script device 0 (name_of_entry e) sections
        (let by = made_by thread' [] (units_of_section a.script section) q.made q.done.attempts e at in omega (arith, by, turn))))
        (subst (λ (mid : ℕ → List Event). MakesUses a.script (λ device. []) mid of_sections (flat_map (λ es. es) p.made)) between p.uses)
        (q.uses alone)));
    ranges = all_append (AllByRecursion IsAnswer) answers (told ∷ []) p.ranges (q.ranges, tt);
  }
    where
      zero_first : (n : ℕ) → n ≡ 0 + n
      zero_first n = omega arith

      journals_before : map events_of p.stories ≡ before
      journals_before = p.journals ∙ events_are thread begun_before before has

      below : (device : ℕ) → AllByRecursion (λ n. author_of n < thread') (list_at p.stories device)
      below device = subst (λ n. AllByRecursion (λ m. author_of m < n) (list_at p.stories device)) (sym turn) (p.authors device)

      true_stories : List (List Noted)
      true_stories = told_on thread' p.stories before after

      -- the section that was done now, over the true stories
      over_stories : SectionDone a.script a.shards a.base thread' section seen' true_stories told q.made
      over_stories = same_section a.script a.shards a.base thread' section seen' (stories_of thread' before after) true_stories told q.made
          (told_same thread' before after has' p.stories journals_before below) (told_own thread' before after has' p.stories journals_before below) q.done

      of_sections : ℕ → List DeviceUse
      of_sections device = flat_map (uses_of_section a.script device) (enumerate_from 0 sections)

      all_uses : (device : ℕ) → flat_map (uses_of_section a.script device) (enumerate_from 0 (sections ++ section ∷ [])) ≡ of_sections device ++ uses_of_section a.script device (thread', section)
      all_uses device =
          ap (flat_map (uses_of_section a.script device)) (enumerate_push 0 sections section ∙ ap (λ (n : ℕ). enumerate_from 0 sections ++ (n, section) ∷ []) (sym (zero_first (length sections)) ∙ sym turn))
          ∙ flat_map-append (uses_of_section a.script device) (enumerate_from 0 sections) ((thread', section) ∷ [])
          ∙ ap (λ l. of_sections device ++ l) (append-nil (uses_of_section a.script device (thread', section)))

      all_made : flat_map (λ es. es) (p.made ++ q.made ∷ []) ≡ flat_map (λ es. es) p.made ++ q.made
      all_made = flat_map-append (λ (es : List Entry). es) p.made (q.made ∷ []) ∙ ap (λ l. flat_map (λ es. es) p.made ++ l) (append-nil q.made)

      longer : {X Y : Type 0} (xs : List X) (ys : List Y) (x : X) (y : Y) → length xs ≡ length ys → length (xs ++ x ∷ []) ≡ length (ys ++ y ∷ [])
      longer xs ys x y e = length-append xs (x ∷ []) ∙ ap (λ n. n + 1) e ∙ sym (length-append ys (y ∷ []))

      within : {X Y : Type 0} (xs : List X) (ys : List Y) (t : ℕ) → length xs ≡ length ys → t < length ys → t < length xs
      within xs ys t e lt = omega arith

      last_one : {X : Type 0} (xs : List X) (x : X) (t : ℕ) → t < length (xs ++ x ∷ []) → length xs ≤ t → t ≡ length xs
      last_one xs x t lt le = omega (arith, length-append xs (x ∷ []))

pub length-taken : (sections : List (List Op)) (i : ℕ) → i < length sections → length (take i sections) ≡ i
length-taken sections i lt = omega (arith, length-take i sections)

-- the next thread has no entry yet
pub new_thread : (a b : DeviceData) (sections : List (List Op)) (answers : List (List Answer)) (thread shard : ℕ) → thread ≡ length sections → SectionsDone a b sections answers
    → own caller_of thread (list_at b.seen shard) ≡ []
new_thread a b sections answers thread shard turn p =
    filter_none (λ e. caller_of e == thread) (list_at b.seen shard)
    (λ e at.
    let r = in_of_flat_map (filter (lies_in a.shards shard)) p.made e (subst (In e) (p.orders shard) at) in
    let below = (callers_below 0 p.made p.callers r.0 e r.1 (in_of_filter (lies_in a.shards shard) r.0 e r.2).0).1 in
    let m = p.each_made in
    ne_eqb (caller_of e) thread (λ same. omega arith))

-- no event of the next thread
pub no_events : (thread : ℕ) (journals : List (List Event)) (device : ℕ) → own author_of thread (list_at (stories_of thread journals journals) device) ≡ []
no_events thread journals device =
    ap (own author_of thread) (story_at thread journals journals device refl)
    ∙ filter-append (λ n. author_of n == thread) (notes (thread + 1) (list_at journals device)) (notes thread (drop (length (list_at journals device)) (list_at journals device)))
    ∙ ap (λ l. l ++ own author_of thread (notes thread (drop (length (list_at journals device)) (list_at journals device)))) (own_notes_other thread (thread + 1) (list_at journals device) (λ same. omega arith))
    ∙ ap (λ l. own author_of thread (notes thread l)) (ap (drop (length (list_at journals device))) (sym (append-nil (list_at journals device))) ∙ drop-append_seam (list_at journals device) [])

-- the same of courses
pub sections_more : (a b d : CourseData) (thread : ℕ) (sections : List (List Op)) (i : ℕ) (answers answers' : List (List Answer)) (section : List Op) (told : List Answer)
    → HasBegun b.begun b.journals → HasBegun d.begun d.journals → thread ≡ i → i < length sections → section ≡ get_or sections i section → answers' ≡ answers ++ told ∷ []
    → SectionsDone (own_device a) (own_device b) (take i sections) answers
    → CarriesSection (own_device (record b { thread = thread; begun = b.journals; opened = None })) (own_device d) section told
    → SectionsDone (own_device a) (own_device d) (take (i + 1) sections) answers'
sections_more a b d thread sections i answers answers' section told has has' turn lt read grown p q =
    let long : length (take i sections) ≡ i = omega (arith, length-take i sections) in
    let x : DeviceData = own_device a in
    let begun_is : d.begun ≡ b.journals = ap (λ (y : DeviceData). y.begun) q.same in
    let thread_is : d.thread ≡ thread = ap (λ (y : DeviceData). y.thread) q.same in
    let before : DeviceData = record x { thread = b.thread; seen = orders_of b.shards; noted = stories_of b.thread b.begun b.journals; begun = b.begun; spare = b.left } in
    let start : DeviceData = record x { thread = thread; seen = orders_of b.shards; noted = stories_of thread b.journals b.journals; begun = b.journals; spare = b.left } in
    let new : DeviceData = record x { thread = thread; seen = orders_of d.shards; noted = stories_of thread b.journals d.journals; begun = b.journals; spare = d.left } in
    let start_is : own_device (record b { thread = thread; begun = b.journals; opened = None }) ≡ start =
    ap (λ (y : DeviceData). record y { thread = thread; noted = stories_of thread b.journals b.journals; begun = b.journals }) p.same in
    let new_is : own_device d ≡ new =
    q.same ∙ ap (λ (y : DeviceData). record y { seen = orders_of d.shards; noted = stories_of d.thread d.begun d.journals; spare = d.left }) start_is
    ∙ ap (λ (n : ℕ). record start { seen = orders_of d.shards; noted = stories_of n d.begun d.journals; spare = d.left }) thread_is
    ∙ ap (λ (l : List (List Event)). record start { seen = orders_of d.shards; noted = stories_of thread l d.journals; spare = d.left }) begun_is in
    let q1 = subst (λ (y : DeviceData). CarriesSection y new section told) start_is
    (subst (λ (y : DeviceData). CarriesSection (own_device (record b { thread = thread; begun = b.journals; opened = None })) y section told) new_is q) in
    subst (λ (y : DeviceData). SectionsDone x y (take (i + 1) sections) answers') (sym new_is)
    (subst (λ l. SectionsDone x new l answers') (sym (take_next sections i section lt read))
    (subst (λ l. SectionsDone x new (take i sections ++ section ∷ []) l) (sym grown)
    (more x refl b.thread thread (orders_of b.shards) (orders_of d.shards) b.begun b.journals d.journals b.left d.left has (subst (λ l. HasBegun l d.journals) begun_is has')
    (take i sections) answers section told (turn ∙ sym long)
    (subst (λ (y : DeviceData). SectionsDone x y (take i sections) answers) p.same p) q1)))

-- how much is left
pub left_more : (b d : CourseData) (thread : ℕ) (sections : List (List Op)) (i : ℕ) (section : List Op) (told : List Answer) (first : ℕ) → i < length sections → section ≡ get_or sections i section
    → first ≤ b.left + sum_by cost_of_section (take i sections) → CarriesSection (own_device (record b { thread = thread; begun = b.journals; opened = None })) (own_device d) section told
    → first ≤ d.left + sum_by cost_of_section (take (i + 1) sections)
left_more b d thread sections i section told first lt read before q =
    let here = q.spare in
    omega (arith, ap (sum_by cost_of_section) (take_next sections i section lt read), sum_by-append cost_of_section (take i sections) (section ∷ []), sum_by-cons cost_of_section section [])

sum_take : (sections : List (List Op)) (n : ℕ) → sum_by cost_of_section (take n sections) ≤ sum_by cost_of_section sections
sum_take sections zero = omega arith
sum_take [] (suc n) = omega arith
sum_take (section ∷ sections) (suc n) =
    let more = sum_take sections n in
    omega (arith, sum_by-cons cost_of_section section (take n sections), sum_by-cons cost_of_section section sections)

pub left_next : (spare first : ℕ) (sections : List (List Op)) (i : ℕ) (section : List Op) → i < length sections → section ≡ get_or sections i section
    → sum_by cost_of_section sections ≤ first → first ≤ spare + sum_by cost_of_section (take i sections) → cost_of_section section ≤ spare
left_next spare first sections i section lt read all before =
    let most = sum_take sections (i + 1) in
    omega (arith, ap (sum_by cost_of_section) (take_next sections i section lt read), sum_by-append cost_of_section (take i sections) (section ∷ []), sum_by-cons cost_of_section section [])

-- a section takes no more than its data units and its operations
cost_one : (section : List Op) → cost_of_section section ≤ unit_count_of_section section + length section
cost_one [] = omega arith
cost_one (operation ∷ section) =
    let rest = cost_one section in
    let here = first operation in
    omega (arith, sum_by-cons cost operation section, sum_by-cons unit_count operation section)
  where
    first : (operation : Op) → cost operation ≤ unit_count operation + 1
    first (ops.Write context sector units text) = omega arith
    first (ops.Read context sector units) = omega arith
    first (ops.Evict key) = omega arith
    first (ops.Reset device) = omega arith
    first ops.Plug = omega arith
    first ops.Unplug = omega arith

pub cost_all : (sections : List (List Op)) → sum_by cost_of_section sections ≤ sum_by unit_count_of_section sections + sum_by length sections
cost_all [] = omega arith
cost_all (section ∷ sections) =
    let rest = cost_all sections in
    let here = cost_one section in
    omega (arith, sum_by-cons cost_of_section section sections, sum_by-cons unit_count_of_section section sections, sum_by-cons length section sections)

-- a section has few operations
pub few_ops : (sections : List (List Op)) (i : ℕ) (section : List Op) → i < length sections → section ≡ get_or sections i section → length section ≤ sum_by length sections
few_ops [] i section lt read = absurd (omega arith)
few_ops (x ∷ xs) zero section lt read = omega (arith, ap length read, sum_by-cons length x xs)
few_ops (x ∷ xs) (suc i) section lt read = let more = few_ops xs i section (omega arith) read in omega (arith, sum_by-cons length x xs)
