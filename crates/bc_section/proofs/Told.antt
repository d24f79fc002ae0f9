-- Answers as a report says them, and what a device must still afford, operation by operation.
use Rattle.std.proofs.Common.{◌≡◌, ℕ, zero, suc, ◌+◌, Bool, List, [], ◌∷◌, ◌++◌, length, map, drop, append_assoc, refl, sym, ap, subst, ◌∙◌, arith, Option, Some, None}
use Rattle.std.specs.Prelude.{slice_get, slice_set}
use Rattle.std.specs.List.{enumerate_from}
use Rattle.std.specs.Option.{option_map}
use Rattle.std.proofs.lemmas.Option.{none-some, same_Some}
use Rattle.std.proofs.lemmas.List.{length-map}
use Rattle.bc_script.specs.declared.op.Op.{Op}
use Rattle.bc_report.specs.declared.answer.Answer.{Answer}
use Rattle.bc_section.specs.Sections.{DeviceData}
use Rattle.bc_section.specs.SectionProgress.{numbered, left_of, answers_by, Reached, CarriesSection}
use Rattle.bc_section.proofs.Left.{drop_next}
use Rattle.bc_section.proofs.Reaching.{numbered_push}

-- ---- answers

pub length_told : {A : Type 0} (f : A → Answer) (xs : List (Option A)) → length (answers_by f xs) ≡ length xs
length_told f xs = length-map xs (option_map f)

pub set_told : {A : Type 0} (f : A → Answer) (xs : List (Option A)) (i : ℕ) (x : A) → answers_by f (slice_set xs i (Some x)) ≡ slice_set (answers_by f xs) i (Some (f x))
set_told f [] i x = refl
set_told f (y ∷ ys) zero x = refl
set_told f (y ∷ ys) (suc i) x = ap (λ l. option_map f y ∷ l) (set_told f ys i x)

get_map : {X Y : Type 0} (g : X → Y) (xs : List X) (i : ℕ) → slice_get (map g xs) i ≡ option_map g (slice_get xs i)
get_map g [] i = refl
get_map g (x ∷ xs) zero = refl
get_map g (x ∷ xs) (suc i) = get_map g xs i

-- what stays the same is reported the same
pub get_told : {A : Type 0} (f : A → Answer) (xs ys : List (Option A)) (i : ℕ) → slice_get xs i ≡ slice_get ys i → slice_get (answers_by f xs) i ≡ slice_get (answers_by f ys) i
get_told f xs ys i same = get_map (option_map f) xs i ∙ ap (λ (o : Option (Option _)). option_map (option_map f) o) same ∙ sym (get_map (option_map f) ys i)

-- where each is reported, each is there
pub all_told : {A : Type 0} (f : A → Answer) (xs : List (Option A)) (told : List Answer) → answers_by f xs ≡ map (λ a. Some a) told
    → (replies : List A) × (xs ≡ map (λ a. Some a) replies) × (map f replies ≡ told)
all_told f [] [] is = ([], refl, refl)
all_told f [] (t ∷ ts) is = absurd (let n = ap length is in omega arith)
all_told f (x ∷ xs) [] is = absurd (let n = ap length is in omega arith)
all_told f (None ∷ xs) (t ∷ ts) is = absurd (none-some t (same_Some None (Some t) (ap (λ (l : List (Option Answer)). slice_get l 0) is)))
all_told f (Some x ∷ xs) (t ∷ ts) is =
    let rest = all_told f xs ts (ap (drop 1) is) in (
      x ∷ rest.0,
      ap (λ l. Some x ∷ l) rest.1,
      ap (λ a. a ∷ map f rest.0) (same_Some (f x) t (same_Some (Some (f x)) (Some t) (ap (λ (l : List (Option Answer)). slice_get l 0) is))) ∙ ap (λ l. t ∷ l) rest.2,
    )

-- one answer more is one that is reported
pub reached_told : {A : Type 0} (f : A → Answer) (start now new : DeviceData) (section : List Op) (op : ℕ) (plugged : Bool) (pending : List ℕ) (answers answers' : List (Option A)) (place : ℕ) (a : A) (answer : Answer)
    → new ≡ now → f a ≡ answer → answers' ≡ slice_set answers place (Some a)
    → Reached start now section op plugged pending (slice_set (answers_by f answers) place (Some answer))
    → Reached start new section op plugged pending (answers_by f answers')
reached_told f start now new section op plugged pending answers answers' place a answer same told noted r =
    subst (λ (d : DeviceData). Reached start d section op plugged pending (answers_by f answers')) (sym same)
    (subst (Reached start now section op plugged pending)
    (ap (λ (x : Answer). slice_set (answers_by f answers) place (Some x)) (sym told) ∙ sym (set_told f answers place a) ∙ ap (answers_by f) (sym noted)) r)

-- a section that is answered whole
pub carries_told : {A : Type 0} (f : A → Answer) (start new : DeviceData) (section : List Op) (answers : List (Option A))
    → (told : List Answer) × (answers_by f answers ≡ map (λ a. Some a) told) × CarriesSection start new section told
    → (replies : List A) × (answers ≡ map (λ a. Some a) replies) × CarriesSection start new section (map f replies)
carries_told f start new section answers done =
    let all = all_told f answers done.0 done.1 in
    (all.0, all.1, subst (CarriesSection start new section) (sym all.2) done.2)

-- ---- what is left

module _ (section : List Op) (op : ℕ) (operation : Op) (is : slice_get section op ≡ Some operation) where
  abbrev pub later : List (ℕ × Op)
  later = enumerate_from (op + 1) (drop (op + 1) section)

  -- the next operation comes after what is held back
  pub left_next : (pending : List ℕ) → left_of section op pending ≡ numbered section pending ++ (op, operation) ∷ later
  left_next pending = ap (λ l. numbered section pending ++ enumerate_from op l) (drop_next section op operation is)

  -- it is held back too
  pub left_push : (pending : List ℕ) → left_of section op pending ≡ left_of section (op + 1) (pending ++ op ∷ [])
  left_push pending =
      left_next pending
      ∙ sym (append_assoc (numbered section pending) ((op, operation) ∷ []) later)
      ∙ ap (λ l. l ++ later) (sym (numbered_push section pending op operation is))
