-- The bios of a section by their numbers, and the events of notes.
use Rattle.std.proofs.Common.{ℕ, List, [], ◌∷◌, Option, Some, None, zero, suc, ◌+◌, ◌*◌, ◌<◌, ◌≤◌, arith, sym, subst, ◌≡◌, ◌++◌, refl, ap}
use Rattle.std.specs.Prelude.{slice_get, IsSomeAnd}
use Rattle.std.specs.List.{AllByRecursion}
use Rattle.std.specs.Option.{option_map_or}
use Rattle.bc_script.specs.declared.op.Op.{Op}
use Rattle.bc_script.specs.Script.{Script, IsText}
use Rattle.bc_section.specs.SectionProgress.{numbered, IsAcceptedBio, MayBePlugged}
use Rattle.bc_key.specs.KeyData.{KeyData}
use Rattle.bc_bio.specs.declared.context.Context.{Context}
use Rattle.bc_bio.specs.Extent.{unit_sectors}
use Rattle.bc_script.specs.declared.op.Text.{Text}
use Rattle.bc_script.specs.declared.op.Text.TheVariants.{Fill, Bytes}
use Rattle.bc_script.specs.Plan.{HasUnit}
use Rattle.std.proofs.lemmas.List.{map-append}
use Rattle.bc_profile.specs.declared.noted.Noted.{Noted}
use Rattle.bc_profile.specs.Story.{events_of, notes}
use Rattle.bc_profile.specs.declared.event.Event.{Event}

-- the operations of a window have accepted bios
pub numbered_accepted : (script : Script) (section : List Op) (os : List ℕ) → AllByRecursion (MayBePlugged script section) os → AllByRecursion (λ act. IsAcceptedBio script act.1) (numbered section os)
numbered_accepted script section [] all = tt
numbered_accepted script section (o ∷ os) all = of_op (slice_get section o) all.0 (numbered_accepted script section os all.1)
  where
    of_op : (p : Option Op) → IsSomeAnd p (IsAcceptedBio script) → AllByRecursion (λ act. IsAcceptedBio script act.1) (numbered section os)
        → AllByRecursion (λ act. IsAcceptedBio script act.1) (option_map_or (λ operation. (o, operation) ∷ numbered section os) p (numbered section os))
    of_op None is rest = absurd is
    of_op (Some x) is rest = (is, rest)

-- part i ends within as many parts as there are
pub part_within : (size i n : ℕ) → i < n → size * i + size ≤ n * size
part_within size i zero lt = absurd (omega arith)
part_within size zero (suc n) lt = omega arith
part_within size (suc i) (suc n) lt = let before = part_within size i n (omega arith) in omega arith

-- a bio's text has its units, and each of them has its size
pub has_unit : (keys : List KeyData) (context : Option Context) (units : ℕ) (text : Text) (i : ℕ) → IsText keys context units text → i < units → HasUnit text (512 * unit_sectors keys context) i
has_unit keys context units (Fill byte) i rules within = tt
has_unit keys context units (Bytes bytes) i rules within =
    subst (λ (n : ℕ). 512 * unit_sectors keys context * i + 512 * unit_sectors keys context ≤ n) (sym rules.2) (part_within (512 * unit_sectors keys context) i units within)

pub events_of_append : (a b : List Noted) → events_of (a ++ b) ≡ events_of a ++ events_of b
events_of_append a b = map-append (λ (n : Noted). n.event) a b

pub events_of_notes : (caller : ℕ) (es : List Event) → events_of (notes caller es) ≡ es
events_of_notes caller [] = refl
events_of_notes caller (e ∷ es) = ap (λ l. e ∷ l) (events_of_notes caller es)
