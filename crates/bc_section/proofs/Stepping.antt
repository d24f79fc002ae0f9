-- What an operation with a bio is: refused and answered by its refusal, or acted on.
use Rattle.std.proofs.Common.{◌≡◌, ℕ, zero, suc, ◌<◌, length, [], ◌∷◌, true, false, List, refl, sym, ap, subst, ◌∙◌, arith, Option, Some, None}
use Rattle.std.specs.Prelude.{IsSomeAnd, MatchOption, is_none, slice_get}
use Rattle.std.specs.List.{AllByRecursion}
use Rattle.std.proofs.lemmas.Option.{none-some, same_Some}
use Rattle.bc_key.specs.KeyData.{KeyData}
use Rattle.bc_bio.specs.declared.context.Context.{Context}
use Rattle.bc_bio.specs.declared.extent.Extent.{Extent}
use Rattle.bc_bio.specs.declared.refusal.Refusal.{Refusal}
use Rattle.bc_medium.specs.declared.entry.Entry.{Entry}
use Rattle.bc_medium.specs.KeyedDisk.{Sectors}
use Rattle.bc_medium.specs.Outcome.{BioAnswer}
use Rattle.bc_script.specs.declared.op.Op.{Op}
use Rattle.bc_script.specs.declared.op.Op.TheVariants as ops
use Rattle.bc_script.specs.Script.{Script, IsContext, IsOp, keys_of, IsScriptOp}
use Rattle.bc_script.specs.Bios.{bio_of, refusal_of}
use Rattle.bc_script.specs.Plan.{units_of}
use Rattle.bc_report.specs.declared.answer.Answer.TheVariants as answers
use Rattle.bc_report.specs.Answers.{answer_of_outcome, IsOwnWord}
use Rattle.bc_compose.specs.SectionDone.{IsReply, IsBioAnswer}
use Rattle.bc_compose.specs.ThreadWork.{is_act}
use Rattle.bc_bio.specs.Conditions.{HasKey}
use Rattle.bc_section.specs.Sections.{DeviceData}
use Rattle.bc_section.specs.SectionProgress.{IsAcceptedBio, SeesMore}

pub within : {X : Type 0} (xs : List X) (i : ℕ) (x : X) → slice_get xs i ≡ Some x → i < length xs
within [] i x e = absurd (none-some x e)
within (y ∷ ys) zero x e = omega arith
within (y ∷ ys) (suc i) x e = let r = within ys i x e in omega arith

-- what holds of each operation of a section
pub at_place : (P : Op → Type 0) (xs : List Op) (i : ℕ) (x : Op) → AllByRecursion P xs → slice_get xs i ≡ Some x → P x
at_place P [] i x all e = absurd (none-some x e)
at_place P (y ∷ ys) zero x all e = subst P (same_Some y x e) all.0
at_place P (y ∷ ys) (suc i) x all e = at_place P ys i x all.1 e

module _ (script : Script) (op : ℕ) where
  -- whether an operation with a bio is acted on
  act_of : (operation : Op) (bio : Extent) → bio_of operation ≡ Some bio → is_act script (op, operation) ≡ is_none (refusal_of script bio)
  act_of (ops.Write c s n x) bio is = ap (λ (b : Extent). is_none (refusal_of script b)) (same_Some _ bio is)
  act_of (ops.Read c s n) bio is = ap (λ (b : Extent). is_none (refusal_of script b)) (same_Some _ bio is)
  act_of (ops.Evict key) bio is = absurd (none-some bio is)
  act_of (ops.Reset d) bio is = absurd (none-some bio is)
  act_of ops.Plug bio is = absurd (none-some bio is)
  act_of ops.Unplug bio is = absurd (none-some bio is)

  pub accepted : (operation : Op) (bio : Extent) → bio_of operation ≡ Some bio → refusal_of script bio ≡ None → is_act script (op, operation) ≡ true
  accepted operation bio is none = act_of operation bio is ∙ ap (λ (o : Option Refusal). is_none o) none

  pub is_accepted : (operation : Op) (bio : Extent) → bio_of operation ≡ Some bio → refusal_of script bio ≡ None → IsAcceptedBio script operation
  is_accepted operation bio is none = subst (λ (o : Option Extent). IsSomeAnd o (λ b. refusal_of script b ≡ None)) (sym is) none

  pub refused : (operation : Op) (bio : Extent) (refusal : Refusal) → bio_of operation ≡ Some bio → refusal_of script bio ≡ Some refusal → is_act script (op, operation) ≡ false
  refused operation bio refusal is some = act_of operation bio is ∙ ap (λ (o : Option Refusal). is_none o) some

  pub refused_reply : (shards : ℕ) (base : ℕ → Sectors) (thread : ℕ) (seen : List (List Entry)) (operation : Op) (bio : Extent) (refusal : Refusal) → bio_of operation ≡ Some bio → refusal_of script bio ≡ Some refusal
      → IsReply script shards base thread seen (op, operation) (answers.Refused refusal)
  refused_reply shards base thread seen operation bio refusal is refused =
      subst (λ (o : Option Extent). MatchOption o (IsOwnWord operation (answers.Refused refusal))
      (λ b. MatchOption (refusal_of script b)
      ((outcome : BioAnswer) × IsBioAnswer script shards base thread seen b.access (units_of script (op, operation)) outcome × (answers.Refused refusal ≡ answer_of_outcome outcome))
      (λ r. answers.Refused refusal ≡ answers.Refused r))) (sym is)
      (subst (λ (o : Option Refusal). MatchOption o
      ((outcome : BioAnswer) × IsBioAnswer script shards base thread seen bio.access (units_of script (op, operation)) outcome × (answers.Refused refusal ≡ answer_of_outcome outcome))
      (λ r. answers.Refused refusal ≡ answers.Refused r)) (sym refused) refl)

-- ---- over what the device has seen

pub refusal_at : (start now : DeviceData) (bio : Extent) (o : Option Refusal) → SeesMore start now → refusal_of now.script bio ≡ o → refusal_of start.script bio ≡ o
refusal_at start now bio o same is = subst (λ (d : DeviceData). refusal_of d.script bio ≡ o) same is

key_has : (keys : List KeyData) (context : Option Context) → IsContext keys context → HasKey keys context
key_has keys None is = tt
key_has keys (Some context) is = is.0

has_key : (devices : ℕ) (keys : List KeyData) (operation : Op) (bio : Extent) → IsOp devices keys operation → bio_of operation ≡ Some bio → HasKey keys bio.context
has_key devices keys (ops.Write c s n x) bio is e = subst (λ (b : Extent). HasKey keys b.context) (same_Some _ bio e) (key_has keys c is.0.context_is)
has_key devices keys (ops.Read c s n) bio is e = subst (λ (b : Extent). HasKey keys b.context) (same_Some _ bio e) (key_has keys c is.context_is)
has_key devices keys (ops.Evict key) bio is e = absurd (none-some bio e)
has_key devices keys (ops.Reset d) bio is e = absurd (none-some bio e)
has_key devices keys ops.Plug bio is e = absurd (none-some bio e)
has_key devices keys ops.Unplug bio is e = absurd (none-some bio e)

pub key_of_bio : (start now : DeviceData) (section : List Op) (op : ℕ) (operation : Op) (bio : Extent) → SeesMore start now → AllByRecursion (IsScriptOp start.script) section → slice_get section op ≡ Some operation
    → bio_of operation ≡ Some bio → HasKey (keys_of now.script) bio.context
key_of_bio start now section op operation bio same rules at' is =
    subst (λ (d : DeviceData). HasKey (keys_of d.script) bio.context) (sym same)
    (has_key (length start.script.targets) (keys_of start.script) operation bio (at_place (IsScriptOp start.script) section op operation rules at') is)

pub rules_at : (start now : DeviceData) (operation : Op) → SeesMore start now → IsScriptOp start.script operation → IsScriptOp now.script operation
rules_at start now operation same is = subst (λ (d : DeviceData). IsScriptOp d.script operation) (sym same) is
