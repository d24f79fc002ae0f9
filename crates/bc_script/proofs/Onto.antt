-- Forms on those above them: what counts, sums and names say of them.
use Rattle.std.proofs.Common.{◌≡◌, ℕ, suc, ◌+◌, false, List, [], ◌∷◌, ◌++◌, map, length, flat_map, sum_by, Option, Some, refl, sym, ap, ◌∙◌, arith}
use Rattle.std.specs.List.{AllByRecursion}
use Rattle.std.proofs.lemmas.List.Sums.{sum_by-cons, sum_by-append}
use Rattle.bc_text.specs.Lines.{TextLine}
use Rattle.bc_script.specs.declared.sort.Sort.{Sort}
use Rattle.bc_script.specs.Forms.{Form, FaultForm, Version, Disk, Fallback, Device, Key, Fault, Thread, Write, Read, Evict, Reset, Plug, Unplug, End, form_of, sort_of}
use Rattle.bc_script.specs.ScriptErrors.{with_form, last_sort, declares_key, plans_fault, key_named, ascends}
use Rattle.bc_script.specs.Progress.{forms_below}

-- ---- lists

pub map-append : {X Y : Type 0} (f : X → Y) (xs ys : List X) → map f (xs ++ ys) ≡ map f xs ++ map f ys
map-append f [] ys = refl
map-append f (x ∷ xs) ys = ap (λ t. f x ∷ t) (map-append f xs ys)

pub AllByRecursion-append : {X : Type 0} (P : X → Type 0) (xs ys : List X) → AllByRecursion P xs → AllByRecursion P ys → AllByRecursion P (xs ++ ys)
AllByRecursion-append P [] ys p q = q
AllByRecursion-append P (x ∷ xs) ys p q = (p.0, AllByRecursion-append P xs ys p.1 q)

-- sums that agree element by element
pub sum_by-agree : {X : Type 0} (P : X → Type 0) (f g : X → ℕ) → ((x : X) → P x → f x ≡ g x) → (xs : List X) → AllByRecursion P xs → sum_by f xs ≡ sum_by g xs
sum_by-agree P f g same [] h = refl
sum_by-agree P f g same (x ∷ xs) h =
    let one = same x h.0 in
    let rest = sum_by-agree P f g same xs h.1 in
    sum_by-cons f x xs ∙ omega arith ∙ sym (sum_by-cons g x xs)

pub sum_by-map : {X Y : Type 0} (f : Y → ℕ) (g : X → Y) (xs : List X) → sum_by f (map g xs) ≡ sum_by (λ x. f (g x)) xs
sum_by-map f g [] = refl
sum_by-map f g (x ∷ xs) =
    let rest = sum_by-map f g xs in
    sum_by-cons f (g x) (map g xs) ∙ omega arith ∙ sym (sum_by-cons (λ y. f (g y)) x xs)

pub sum_by-flat_map : {X Y : Type 0} (f : Y → ℕ) (g : X → List Y) (xs : List X) → sum_by f (flat_map g xs) ≡ sum_by (λ x. sum_by f (g x)) xs
sum_by-flat_map f g [] = refl
sum_by-flat_map f g (x ∷ xs) =
    let rest = sum_by-flat_map f g xs in
    sum_by-append f (g x) (flat_map g xs) ∙ omega arith ∙ sym (sum_by-cons (λ y. sum_by f (g y)) x xs)

pub sum_by-zeros : {X : Type 0} (xs : List X) → sum_by (λ x. 0) xs ≡ 0
sum_by-zeros [] = refl
sum_by-zeros (x ∷ xs) = let rest = sum_by-zeros xs in sum_by-cons (λ y. 0) x xs ∙ omega arith

pub sum_by-ones : {X : Type 0} (xs : List X) → sum_by (λ x. 1) xs ≡ length xs
sum_by-ones [] = refl
sum_by-ones (x ∷ xs) = let rest = sum_by-ones xs in sum_by-cons (λ y. 1) x xs ∙ omega arith

-- ---- forms on those above them, from the first

abbrev pub onto : List Form → List Form → List Form
onto [] above = above
onto (form ∷ forms) above = onto forms (form ∷ above)

pub onto-append : (xs ys above : List Form) → onto (xs ++ ys) above ≡ onto ys (onto xs above)
onto-append [] ys above = refl
onto-append (x ∷ xs) ys above = onto-append xs ys (x ∷ above)

pub forms_below-append : (above : List Form) (xs ys : List TextLine) → forms_below above (xs ++ ys) ≡ forms_below (forms_below above xs) ys
forms_below-append above [] ys = refl
forms_below-append above (x ∷ xs) ys = forms_below-append (with_form (form_of x) above) xs ys

-- lines that have these forms
abbrev pub HaveForms : List TextLine → List Form → Type 0
HaveForms lines forms = map form_of lines ≡ map Some forms

pub HaveForms-append : (xs ys : List TextLine) (us vs : List Form) → HaveForms xs us → HaveForms ys vs → HaveForms (xs ++ ys) (us ++ vs)
HaveForms-append xs ys us vs p q =
    map-append form_of xs ys ∙ ap (λ t. t ++ map form_of ys) p ∙ ap (λ t. map Some us ++ t) q ∙ sym (map-append Some us vs)

heads : {X : Type 0} (x y : X) (xs ys : List X) → x ∷ xs ≡ y ∷ ys → x ≡ y
heads x y xs ys e = cc

tails : {X : Type 0} (x y : X) (xs ys : List X) → x ∷ xs ≡ y ∷ ys → xs ≡ ys
tails x y xs ys e = cc

pub forms_below-onto : (lines : List TextLine) (forms above : List Form) → HaveForms lines forms → forms_below above lines ≡ onto forms above
forms_below-onto [] [] above e = refl
forms_below-onto [] (f ∷ fs) above e = absurd cc
forms_below-onto (l ∷ ls) [] above e = absurd cc
forms_below-onto (l ∷ ls) (f ∷ fs) above e =
    let first : form_of l ≡ Some f = heads _ _ _ _ e in
    ap (λ (o : Option Form). forms_below (with_form o above) ls) first ∙ forms_below-onto ls fs (f ∷ above) (tails _ _ _ _ e)

pub length-onto : (forms above : List Form) → length (onto forms above) ≡ length forms + length above
length-onto [] above = omega arith
length-onto (f ∷ fs) above = let rest = length-onto fs (f ∷ above) in omega arith

pub length-HaveForms : (lines : List TextLine) (forms : List Form) → HaveForms lines forms → length lines ≡ length forms
length-HaveForms [] [] e = refl
length-HaveForms [] (f ∷ fs) e = absurd cc
length-HaveForms (l ∷ ls) [] e = absurd cc
length-HaveForms (l ∷ ls) (f ∷ fs) e = ap suc (length-HaveForms ls fs (tails _ _ _ _ e))

pub sum_by-onto : (f : Form → ℕ) (forms above : List Form) → sum_by f (onto forms above) ≡ sum_by f forms + sum_by f above
sum_by-onto f [] above = omega arith
sum_by-onto f (x ∷ xs) above =
    let rest = sum_by-onto f xs (x ∷ above) in
    let a = sum_by-cons f x above in
    let b = sum_by-cons f x xs in
    omega arith

-- the sort of the nearest, where all are of one sort
pub last_sort-onto : (sort : Sort) (forms above : List Form) → AllByRecursion (λ form. sort_of form ≡ sort) forms → last_sort above ≡ Some sort → last_sort (onto forms above) ≡ Some sort
last_sort-onto sort [] above same e = e
last_sort-onto sort (f ∷ fs) above same e = last_sort-onto sort fs (f ∷ above) same.1 (ap Some same.0)

-- ---- forms that are no keys

pub key_named-other : (name : List ℕ) (form : Form) (above : List Form) → declares_key form ≡ false → key_named name (form ∷ above) ≡ key_named name above
key_named-other name Version above e = refl
key_named-other name (Disk blocks) above e = refl
key_named-other name (Fallback on) above e = refl
key_named-other name (Device device) above e = refl
key_named-other name (Key key) above e = absurd cc
key_named-other name (Fault fault) above e = refl
key_named-other name Thread above e = refl
key_named-other name (Write bio text) above e = refl
key_named-other name (Read bio) above e = refl
key_named-other name (Evict key) above e = refl
key_named-other name (Reset device) above e = refl
key_named-other name Plug above e = refl
key_named-other name Unplug above e = refl
key_named-other name End above e = refl

pub key_named-onto : (name : List ℕ) (forms above : List Form) → AllByRecursion (λ form. declares_key form ≡ false) forms → key_named name (onto forms above) ≡ key_named name above
key_named-onto name [] above others = refl
key_named-onto name (f ∷ fs) above others = key_named-onto name fs (f ∷ above) others.1 ∙ key_named-other name f above others.0

-- ---- forms that are no faults

ascends-other : (fault : FaultForm) (form : Form) (above : List Form) → plans_fault form ≡ false → ascends (form ∷ above) fault ≡ ascends above fault
ascends-other fault Version above e = refl
ascends-other fault (Disk blocks) above e = refl
ascends-other fault (Fallback on) above e = refl
ascends-other fault (Device device) above e = refl
ascends-other fault (Key key) above e = refl
ascends-other fault (Fault planned) above e = absurd cc
ascends-other fault Thread above e = refl
ascends-other fault (Write bio text) above e = refl
ascends-other fault (Read bio) above e = refl
ascends-other fault (Evict key) above e = refl
ascends-other fault (Reset device) above e = refl
ascends-other fault Plug above e = refl
ascends-other fault Unplug above e = refl
ascends-other fault End above e = refl

pub ascends-onto : (fault : FaultForm) (forms above : List Form) → AllByRecursion (λ form. plans_fault form ≡ false) forms → ascends (onto forms above) fault ≡ ascends above fault
ascends-onto fault [] above others = refl
ascends-onto fault (f ∷ fs) above others = ascends-onto fault fs (f ∷ above) others.1 ∙ ascends-other fault f above others.0
