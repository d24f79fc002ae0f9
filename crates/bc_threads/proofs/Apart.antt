-- Lists by their places; jobs, made and taken apart one by one.
use Rattle.std.proofs.Common.{◌≡◌, ℕ, zero, suc, ◌+◌, ◌<◌, ◌≤◌, ◌⊎◌, inl, inr, Bool, true, false, cond, List, [], ◌∷◌, ◌++◌, Option, Some, None, Result, Ok, Err, IfOk, length, map, take, refl, sym, ap, subst, ◌∙◌, arith}
use Rattle.std.specs.Prelude.{◌==◌, IfSome, IsSomeAnd, filter_map}
use Rattle.std.specs.List.{AllZip, cons_option, list_any}
use Rattle.std.proofs.Math.Logic.{⊎_elim}
use Rattle.std.proofs.lemmas.Bool.{eq-eqb, cases_lt, true≢false}
use Rattle.std.proofs.lemmas.List.{length-map, map-append}
use Rattle.std.proofs.lemmas.Option.{none-some, same_Some, slice_get_within}
use Rattle.bc_base.specs.Lists.{At, AllAt, Each, list_at}
use Rattle.bc_base.specs.RamStores.{RamData}
use Rattle.bc_base.specs.Story.{own}
use Rattle.bc_medium.specs.Medium.{EachTwoFrom}
use Rattle.bc_report.specs.declared.answer.Answer.{Answer}
use Rattle.bc_script.specs.declared.op.Op.{Op}
use Rattle.bc_script.specs.Script.{Script}
use Rattle.bc_section.proofs.Lists.{all_by_place, at_exists, at_map, at_of_map, at_one, list_at_map}
use Rattle.bc_disk.specs.Disks.{DiskData, PassData}
use Rattle.bc_threads.specs.declared.outcome.Outcome.{Outcome}
use Rattle.bc_threads.specs.PreparedBios.{SectionData}
use Rattle.bc_threads.specs.Jobs.{HasWorked, IsDone, IsReadyJob}
use Rattle.bc_threads.specs.Quotas.{sections_of, unit_row}
use Rattle.bc_threads.specs.Runs.{AreCarriedOut, AreJobs, IsSectionCarriedOut, IsOpenedFor, answers_in, contents_told}
use Rattle.bc_threads.proofs.Ready.{may_work}
use Rattle.bc_base.proofs.Members.{In, any_from}

-- ---- lists by places

pub at_end : {X : Type 0} (xs : List X) (x y : X) (k : ℕ) → At (xs ++ x ∷ []) k y → At xs k y ⊎ ((k ≡ length xs) × (x ≡ y))
at_end [] x y zero at = inr (refl, same_Some x y at)
at_end [] x y (suc k) at = absurd (none-some y at)
at_end (z ∷ xs) x y zero at = inl at
at_end (z ∷ xs) x y (suc k) at = ⊎_elim (λ (old : At xs k y). inl old) (λ (new : (k ≡ length xs) × (x ≡ y)). inr (ap suc new.0, new.1)) (at_end xs x y k at)

pub in_of_at : {X : Type 0} (xs : List X) (k : ℕ) (x : X) → At xs k x → In x xs
in_of_at [] k x at = absurd (none-some x at)
in_of_at (y ∷ ys) zero x at = inl (same_Some y x at)
in_of_at (y ∷ ys) (suc k) x at = inr (in_of_at ys k x at)

pub any_at : {X : Type 0} (p : X → Bool) (xs : List X) (k : ℕ) (x : X) → At xs k x → p x ≡ true → list_any p xs ≡ true
any_at p xs k x at passes = any_from p xs x (in_of_at xs k x at) passes

pub list_at_is : {A : Type 0} (lists : List (List A)) (k : ℕ) (list : List A) → At lists k list → list_at lists k ≡ list
list_at_is [] k list at = absurd (none-some list at)
list_at_is (x ∷ lists) zero list at = same_Some x list at
list_at_is (x ∷ lists) (suc k) list at = list_at_is lists k list at

pub two_long : {A C : Type 0} (P : ℕ → A → C → Type 0) (place : ℕ) (xs : List A) (ys : List C) → EachTwoFrom P place xs ys → length ys ≡ length xs
two_long P place [] [] all = refl
two_long P place [] (y ∷ ys) all = absurd all
two_long P place (x ∷ xs) [] all = absurd all
two_long P place (x ∷ xs) (y ∷ ys) all = ap suc (two_long P (place + 1) xs ys all.1)

two_from : {A C : Type 0} (P : ℕ → A → C → Type 0) (place : ℕ) (xs : List A) (ys : List C) → EachTwoFrom P place xs ys → (k : ℕ) (x : A) (y : C) → At xs k x → At ys k y → P (place + k) x y
two_from P place [] ys all k a c at bt = absurd (none-some a at)
two_from P place (x ∷ xs) [] all k a c at bt = absurd (none-some c bt)
two_from P place (x ∷ xs) (y ∷ ys) all zero a c at bt =
    subst (λ (m : ℕ). P m a c) (none place) (subst (λ (z : _). P place z c) (same_Some x a at) (subst (λ (z : _). P place x z) (same_Some y c bt) all.0))
  where
    none : (n : ℕ) → n ≡ n + 0
    none n = omega arith
two_from P place (x ∷ xs) (y ∷ ys) all (suc k) a c at bt = subst (λ (m : ℕ). P m a c) (over place k) (two_from P (place + 1) xs ys all.1 k a c at bt)
  where
    over : (n m : ℕ) → n + 1 + m ≡ n + suc m
    over n m = omega arith

pub two_at : {A C : Type 0} (P : ℕ → A → C → Type 0) (xs : List A) (ys : List C) → EachTwoFrom P 0 xs ys → (k : ℕ) (x : A) (y : C) → At xs k x → At ys k y → P k x y
two_at P xs ys all k x y at bt = subst (λ (m : ℕ). P m x y) (none k) (two_from P 0 xs ys all k x y at bt)
  where
    none : (n : ℕ) → 0 + n ≡ n
    none n = omega arith

pub zip_by_place : {A C : Type 0} (R : A → C → Type 0) (xs : List A) (ys : List C) → length ys ≡ length xs → ((k : ℕ) → AllAt xs k (λ x. AllAt ys k (λ y. R x y))) → AllZip R xs ys
zip_by_place R [] [] same all = tt
zip_by_place R [] (y ∷ ys) same all = absurd (omega arith)
zip_by_place R (x ∷ xs) [] same all = absurd (omega arith)
zip_by_place R (x ∷ xs) (y ∷ ys) same all = (all 0 x refl y refl, zip_by_place R xs ys (omega arith) (λ k. all (suc k)))

pub zip_length : {A C : Type 0} (R : A → C → Type 0) (xs : List A) (ys : List C) → AllZip R xs ys → length ys ≡ length xs
zip_length R [] [] all = refl
zip_length R [] (y ∷ ys) all = absurd all
zip_length R (x ∷ xs) [] all = absurd all
zip_length R (x ∷ xs) (y ∷ ys) all = ap suc (zip_length R xs ys all.1)

pub zip_at : {A C : Type 0} (R : A → C → Type 0) (xs : List A) (ys : List C) → AllZip R xs ys → (k : ℕ) (x : A) (y : C) → At xs k x → At ys k y → R x y
zip_at R [] ys all k x y at bt = absurd (none-some x at)
zip_at R (a ∷ xs) [] all k x y at bt = absurd (none-some y bt)
zip_at R (a ∷ xs) (c ∷ ys) all zero x y at bt = subst (λ (z : _). R z y) (same_Some a x at) (subst (λ (z : _). R a z) (same_Some c y bt) all.0)
zip_at R (a ∷ xs) (c ∷ ys) all (suc k) x y at bt = zip_at R xs ys all.1 k x y at bt

-- where there is a source of each element, there is a list of sources
pub choose : {C J S : Type 0} (f : S → J) (R : ℕ → C → S → Type 0) (cs : List C) (js : List J) → length js ≡ length cs → ((k : ℕ) → AllAt cs k (λ c. AllAt js k (λ j. (s : S) × (j ≡ f s) × R k c s)))
    → (ss : List S) × (js ≡ map f ss) × ((k : ℕ) → AllAt cs k (λ c. AllAt ss k (λ s. R k c s)))
choose f R [] [] same all = ([], refl, λ k c at. absurd (none-some c at))
choose f R [] (j ∷ js) same all = absurd (omega arith)
choose f R (c ∷ cs) [] same all = absurd (omega arith)
choose {C} {J} {S} f R (c ∷ cs) (j ∷ js) same all =
    let first = all 0 c refl j refl in
    let rest = choose f (λ k. R (suc k)) cs js (omega arith) (λ k. all (suc k)) in
    (first.0 ∷ rest.0, ap (λ (x : J). x ∷ js) first.1 ∙ ap (λ (l : List J). f first.0 ∷ l) rest.1, places first.0 rest.0 first.2 rest.2)
  where
    places : (s : S) (ss : List S) → R 0 c s → ((k : ℕ) → AllAt cs k (λ c. AllAt ss k (λ s. R (suc k) c s))) → (k : ℕ) → AllAt (c ∷ cs) k (λ c. AllAt (s ∷ ss) k (λ s. R k c s))
    places s ss here more zero d at t bt = subst (λ (z : C). R 0 z t) (same_Some c d at) (subst (λ (z : S). R 0 c z) (same_Some s t bt) here)
    places s ss here more (suc k) d at t bt = more k d at t bt

-- what holds of all that a list's elements have holds of what one of them has
pub of_some : {X Y : Type 0} (f : X → Option Y) (P : Y → Type 0) (xs : List X) (k : ℕ) (x : X) (y : Y) → At xs k x → f x ≡ Some y → Each P (filter_map f xs) → P y
of_some f P [] k x y at is all = absurd (none-some x at)
of_some {X} {Y} f P (z ∷ xs) zero x y at is all = (subst (λ (o : Option Y). Each P (cons_option o (filter_map f xs))) (ap f (same_Some z x at) ∙ is) all).0
of_some {X} {Y} f P (z ∷ xs) (suc k) x y at is all = of_some f P xs k x y at is (rest (f z) all)
  where
    rest : (o : Option Y) → Each P (cons_option o (filter_map f xs)) → Each P (filter_map f xs)
    rest None all = all
    rest (Some w) all = all.1

-- where no caller from m on has an entry, each entry is of a caller below
pub few_from : {E : Type 0} (by : E → ℕ) (es : List E) (m : ℕ) → ((c : ℕ) → m ≤ c → own by c es ≡ []) → Each (λ e. by e < m) es
few_from by [] m none = tt
few_from {E} by (e ∷ es) m none = (
  ⊎_elim (λ (lt : by e < m). lt) (λ (le : m ≤ by e). absurd (first (by e == by e) (eq-eqb (by e) (by e) refl) (own by (by e) es) (none (by e) le))) (cases_lt (by e) m),
  few_from by es m (λ c le. rest (by e == c) (own by c es) (none c le)),
)
  where
    first : (b : Bool) → b ≡ true → (l : List E) → cond b (e ∷ l) l ≡ [] → ⊥
    first true is l same = let long = ap length same in absurd (omega arith)
    first false is l same = absurd (true≢false (sym is))

    rest : (b : Bool) (l : List E) → cond b (e ∷ l) l ≡ [] → l ≡ []
    rest true l same = let long = ap length same in absurd (omega arith)
    rest false l same = same

-- ---- jobs

more_jobs : (script : Script) (passes : List (PassData RamData)) (pass : PassData RamData) (jobs : List (PassData RamData × Option SectionData)) → AreJobs script passes jobs
    → AreJobs script (passes ++ pass ∷ []) (jobs ++ (pass, Some (record { script = script; thread = length jobs })) ∷ [])
more_jobs script passes pass jobs is = record {
  same_passes = map-append (λ job. job.0) jobs ((pass, Some (record { script = script; thread = length jobs })) ∷ []) ∙ ap (λ (l : List (PassData RamData)). l ++ pass ∷ []) is.same_passes;
  sections = λ t job at.
      ⊎_elim (λ (old : At jobs t job). is.sections t job old)
      (λ (new : (t ≡ length jobs) × ((pass, Some (record { script = script; thread = length jobs })) ≡ job)).
      subst (λ (j : PassData RamData × Option SectionData). j.1 ≡ Some (record { script = script; thread = t })) new.1
      (ap (λ (n : ℕ). Some (record { script = script; thread = n })) (sym new.0)))
      (at_end jobs (pass, Some (record { script = script; thread = length jobs })) job t at);
}

-- of jobs of any kind that have a pass and a section
pub next_jobs : {J : Type 0} (f : J → PassData RamData × Option SectionData) (script : Script) (passes : List (PassData RamData)) (pass : PassData RamData) (jobs new : List J) (job : J) (thread : ℕ) (section : SectionData)
    → thread ≡ length jobs → section ≡ record { script = script; thread = thread } → f job ≡ (pass, Some section) → new ≡ jobs ++ job ∷ [] → AreJobs script passes (map f jobs) → AreJobs script (passes ++ pass ∷ []) (map f new)
next_jobs f script passes pass jobs new job thread section thread_is section_is job_is new_is is =
    subst (AreJobs script (passes ++ pass ∷ []))
    (ap (λ (n : ℕ). map f jobs ++ (pass, Some (record { script = script; thread = n })) ∷ []) (length-map jobs f ∙ sym thread_is)
    ∙ ap (λ (s : SectionData). map f jobs ++ (pass, Some s) ∷ []) (sym section_is)
    ∙ ap (λ (j : PassData RamData × Option SectionData). map f jobs ++ j ∷ []) (sym job_is)
    ∙ sym (map-append f jobs (job ∷ [])) ∙ ap (map f) (sym new_is))
    (more_jobs script passes pass (map f jobs) is)

-- each can be carried out, where the disk was opened for the script
pub are_ready : {J : Type 0} (pass : J → PassData RamData) (section : J → Option SectionData) (script : Script) (image : List ℕ) (n : ℕ) (disk : DiskData RamData) (passes : List (PassData RamData)) (jobs : List J)
    → IsOpenedFor script image n disk passes → length passes ≡ length script.threads → AreJobs script passes (map (λ job. (pass job, section job)) jobs)
    → Each (λ job. IsReadyJob contents_told disk (pass job) (section job)) jobs
are_ready {J} pass section script image n disk passes jobs is long are =
    all_by_place (λ (job : J). IsReadyJob contents_told disk (pass job) (section job)) jobs (λ k job at.
    let there : At (map (λ (job : J). (pass job, section job)) jobs) k (pass job, section job) = at_map (λ (job : J). (pass job, section job)) jobs k job at in
    let own : At passes k (pass job) = subst (λ (l : List (PassData RamData)). At l k (pass job)) are.same_passes (at_map (λ (j : PassData RamData × Option SectionData). j.0) (map (λ (job : J). (pass job, section job)) jobs) k (pass job, section job) there) in
    let lt = slice_get_within passes k (pass job) own in
    subst (λ (o : Option SectionData). IsReadyJob contents_told disk (pass job) o) (sym (are.sections k (pass job, section job) there))
    (may_work script image n disk passes is k (omega arith) (pass job) own))

-- what was carried out, of jobs that were done
pub are_carried : {J : Type 0} (pass : J → PassData RamData) (section : J → Option SectionData) (outcomes : J → Option (List Outcome)) (script : Script) (disk : DiskData RamData) (passes : List (PassData RamData)) (jobs after : List J)
    → ((k : ℕ) → AllAt passes k (λ p. p.caller ≡ k)) → length passes ≡ length script.threads → 1 ≤ length script.threads → AreJobs script passes (map (λ job. (pass job, section job)) jobs)
    → AllZip (λ old new. IsDone contents_told disk (pass old) (pass new) (section old) (section new) (outcomes new)) jobs after
    → AreCarriedOut script disk passes (map pass after) (map (λ job. answers_in (outcomes job)) after)
are_carried {J} pass section outcomes script disk passes jobs after numbered long some are all = record {
  answered = let m = length-map after (λ (job : J). answers_in (outcomes job)) in let c = count in omega arith;
  pass_for_each = let m = length-map after pass in let c = count in omega arith;
  each = λ thread lt before bat last lat.
      let new = at_of_map pass after thread last lat in
      let here = slice_get_within after thread new.0 new.1 in
      let same = zip_length Done jobs after all in
      let old = at_exists jobs thread (omega arith) in
      let there : At (map both jobs) thread (both old.0) = at_map both jobs thread old.0 old.1 in
      let own : At passes thread (pass old.0) = subst (λ (l : List (PassData RamData)). At l thread (pass old.0)) are.same_passes (at_map (λ (j : PassData RamData × Option SectionData). j.0) (map both jobs) thread (both old.0) there) in
      let first : pass old.0 ≡ before = at_one passes thread (pass old.0) before own bat in
      let done = zip_at Done jobs after all thread old.0 new.0 old.1 new.1 in
      subst (λ (p : PassData RamData). IsSectionCarriedOut script disk thread (list_at (map (λ (job : J). answers_in (outcomes job)) after) thread) p last) first
      (subst (λ (p : PassData RamData). IsSectionCarriedOut script disk thread (list_at (map (λ (job : J). answers_in (outcomes job)) after) thread) (pass old.0) p) new.2
      (subst (λ (l : List Answer). IsSectionCarriedOut script disk thread l (pass old.0) (pass new.0)) (sym (list_at_map (λ (job : J). answers_in (outcomes job)) after thread new.0 new.1))
      (worked thread (pass old.0) (pass new.0) (section old.0) (section new.0) (outcomes new.0) (are.sections thread (both old.0) there) (numbered thread (pass old.0) own) done)));
  none = λ none. let zero : length script.threads ≡ 0 = ap length none in absurd (omega arith);
}
  where
    both : J → PassData RamData × Option SectionData
    both job = (pass job, section job)

    Done : J → J → Type 0
    Done old new = IsDone contents_told disk (pass old) (pass new) (section old) (section new) (outcomes new)

    count : length after ≡ length passes
    count = zip_length Done jobs after all ∙ sym (length-map jobs both) ∙ sym (length-map (map both jobs) (λ (j : PassData RamData × Option SectionData). j.0)) ∙ ap length are.same_passes

    worked : (thread : ℕ) (old new : PassData RamData) (before now : Option SectionData) (outcomes : Option (List Outcome)) → before ≡ Some (record { script = script; thread = thread }) → old.caller ≡ thread
        → IsDone contents_told disk old new before now outcomes → IsSectionCarriedOut script disk thread (answers_in outcomes) old new
    worked thread old new before now outcomes is caller done =
        of outcomes (subst (λ (o : Option SectionData). IfSome o (λ section. IsSomeAnd outcomes (HasWorked contents_told disk old new section))) is done.worked)
      where
        of : (outcomes : Option (List Outcome)) → IsSomeAnd outcomes (HasWorked contents_told disk old new (record { script = script; thread = thread })) → IsSectionCarriedOut script disk thread (answers_in outcomes) old new
        of None it = absurd it
        of (Some outcomes) it = record { pass_of = it.pass_of; caller = it.caller ∙ caller; carries = it.carries }

pub taken : {X : Type 0} (xs ys : List X) (n : ℕ) → n ≡ length xs → take n (xs ++ ys) ≡ xs
taken xs ys n is = ap (λ (k : ℕ). take k (xs ++ ys)) is ∙ first xs ys
  where
    first : {X : Type 0} (xs ys : List X) → take (length xs) (xs ++ ys) ≡ xs
    first [] ys = refl
    first (x ∷ xs) ys = ap (λ l. x ∷ l) (first xs ys)

pub if_ok : {T E : Type 0} (r : Result T E) (P Q R : T → Type 0) → ((x : T) → P x → Q x → R x) → IfOk r P → IfOk r Q → IfOk r R
if_ok (Ok x) P Q R both p q = both x p q
if_ok (Err e) P Q R both p q = tt

pub are_carried_as : {J : Type 0} (pass : J → PassData RamData) (section : J → Option SectionData) (outcomes : J → Option (List Outcome)) (script : Script) (disk : DiskData RamData) (passes : List (PassData RamData)) (jobs after : List J)
    → ((k : ℕ) → AllAt passes k (λ p. p.caller ≡ k)) → length passes ≡ length script.threads → 1 ≤ length script.threads → AreJobs script passes (map (λ job. (pass job, section job)) jobs)
    → AllZip (λ old new. IsDone contents_told disk (pass old) (pass new) (section old) (section new) (outcomes new)) jobs after
    → (last : List J) → last ≡ after → (new : List (PassData RamData)) (answers : List (List Answer)) → new ≡ map pass last → answers ≡ map (λ job. answers_in (outcomes job)) last → AreCarriedOut script disk passes new answers
are_carried_as {J} pass section outcomes script disk passes jobs after numbered long some are all last last_is new answers new_is answers_are =
    subst (λ (l : List (PassData RamData)). AreCarriedOut script disk passes l answers) (sym (new_is ∙ ap (map pass) last_is))
    (subst (λ (l : List (List Answer)). AreCarriedOut script disk passes (map pass after) l) (sym (answers_are ∙ ap (map (λ (job : J). answers_in (outcomes job))) last_is))
    (are_carried pass section outcomes script disk passes jobs after numbered long some are all))

-- where there is no section there is nothing to carry out
pub none_carried : (script : Script) (disk : DiskData RamData) (passes : List (PassData RamData)) → length script.threads ≡ 0 → AreCarriedOut script disk passes passes []
none_carried script disk passes none = record {
  answered = sym none;
  pass_for_each = refl;
  each = λ thread lt. absurd (omega arith);
  none = λ _. refl;
}

-- the passes of a disk that was opened for a script with a section are those of its threads
pub pass_each : (script : Script) (image : List ℕ) (n : ℕ) (disk : DiskData RamData) (passes : List (PassData RamData)) → IsOpenedFor script image n disk passes → 1 ≤ length script.threads → length passes ≡ length script.threads
pass_each script image n disk passes is some = is.opened.pass_for_each ∙ length-map (sections_of script.threads) (unit_row script n) ∙ counted script.threads some
  where
    counted : (threads : List (List Op)) → 1 ≤ length threads → length (sections_of threads) ≡ length threads
    counted [] some = absurd (omega arith)
    counted (section ∷ sections) some = refl

pub caller_each : (script : Script) (image : List ℕ) (n : ℕ) (disk : DiskData RamData) (passes : List (PassData RamData)) → IsOpenedFor script image n disk passes → (k : ℕ) → AllAt passes k (λ p. p.caller ≡ k)
caller_each script image n disk passes is k pass at = (is.opened.are_new k pass at).caller_is
