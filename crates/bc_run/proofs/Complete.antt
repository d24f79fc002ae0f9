-- A run that met no fault, of a script that its text says, over an image that the folder has, ends well or out of memory.
use Rattle.std.proofs.Common.{◌≡◌, ◌⊎◌, ◌∙◌, ◌<◌, ◌≤◌, ℕ, List, length, Option, Some, None, IfSome, refl, sym, ap, inl, inr, arith, subst}
use Rattle.std.specs.Prelude.{IsSomeAnd}
use Rattle.bc_base.specs.Folders.{Files, HasLonger, Lacks}
use Rattle.bc_script.specs.Script.{Script}
use Rattle.bc_run.specs.declared.image.TheConstants.{MAX_IMAGE}
use Rattle.bc_run.specs.declared.status.Status.{Status}
use Rattle.bc_run.specs.declared.status.Status.TheVariants.{Ok, Usage, BadScript, ReadFault, WriteFault, FolderFault, ImageLength, TooLong, NoMemory, Missing}
use Rattle.bc_run.specs.Words.{IsScriptCommand, options_of}
use Rattle.bc_run.specs.Command.{HasAnotherLength, HasImageFor, IsBadScript, IsScriptTextOf, bytes_of_disk}
use Rattle.bc_run.specs.Statuses.{CommandRun, ScriptRunEndsBy, FolderRose, ReadRose, WriteRose}
use Rattle.bc_run.proofs.Texts.{NoPrefix, one_script}

-- the folder has the image, so it doesn't lack it
not_missing : (files : Option Files) (name : Option (List ℕ)) (script : Script) → HasImageFor files name script → IsSomeAnd name (Lacks files) → ⊥
not_missing files None script has lacks = lacks
not_missing None (Some n) script has lacks = has
not_missing (Some held) (Some n) script has lacks = go (held n) refl has
  where
    go : (o : Option (List ℕ)) → held n ≡ o → IsSomeAnd (held n) (λ image. (length image ≡ bytes_of_disk script) × (length image ≤ MAX_IMAGE)) → ⊥
    go None e h = rw e at h
    go (Some x) e h = let bad : Some x ≡ None = sym e ∙ lacks in cc

-- it is within the limit
not_longer : (files : Option Files) (name : Option (List ℕ)) (script : Script) → HasImageFor files name script → IsSomeAnd name (λ n. HasLonger files n MAX_IMAGE) → ⊥
not_longer files None script has longer = longer
not_longer None (Some n) script has longer = has
not_longer (Some held) (Some n) script has longer = go (held n) has longer
  where
    go : (o : Option (List ℕ)) → IsSomeAnd o (λ image. (length image ≡ bytes_of_disk script) × (length image ≤ MAX_IMAGE)) → IsSomeAnd o (λ bytes. MAX_IMAGE < length bytes) → ⊥
    go None h l = h
    go (Some x) h l = let u = h.1 in absurd (omega arith)

-- it has the length that is asked for
not_another : (files : Option Files) (name : Option (List ℕ)) (script : Script) (want got : ℕ) → HasImageFor files name script → HasAnotherLength files name script want got → ⊥
not_another files None script want got has another = another.under
not_another None (Some n) script want got has another = has
not_another (Some held) (Some n) script want got has another = go (held n) refl has
  where
    go : (o : Option (List ℕ)) → held n ≡ o → IsSomeAnd o (λ image. (length image ≡ bytes_of_disk script) × (length image ≤ MAX_IMAGE)) → ⊥
    go None e h = h
    go (Some x) e h =
        let same : Some another.image ≡ Some x = sym another.under ∙ e in
        let is : another.image ≡ x = cc in
        another.differ (another.want_is ∙ sym h.0 ∙ ap length (sym is) ∙ sym another.got_is)

complete_of : NoPrefix → (run : CommandRun) (status : Status) → ScriptRunEndsBy run status → IsScriptCommand run.words
    → (text : List ℕ) → run.text ≡ Some text → (asked : Script) → IsScriptTextOf text asked
    → HasImageFor run.effects.files_before (options_of run.words).image asked
    → (ReadRose run → ⊥) → (FolderRose run.effects → ⊥) → (WriteRose run.effects → ⊥)
    → (status ≡ Ok) ⊎ (status ≡ NoMemory)
complete_of law run Ok e cmd text is asked accepted image no_read no_folder no_write = inl refl
complete_of law run NoMemory e cmd text is asked accepted image no_read no_folder no_write = inr refl
complete_of law run Usage e cmd text is asked accepted image no_read no_folder no_write = absurd (e cmd)
complete_of law run ReadFault e cmd text is asked accepted image no_read no_folder no_write = absurd (no_read e.1)
complete_of law run FolderFault e cmd text is asked accepted image no_read no_folder no_write = absurd (no_folder e.1.holds.1)
complete_of law run WriteFault e cmd text is asked accepted image no_read no_folder no_write = absurd (no_write e.1.holds.1)
complete_of law run Missing e cmd text is asked accepted image no_read no_folder no_write =
    absurd (not_missing run.effects.files_before (options_of run.words).image asked image e.1.holds)
complete_of law run (ImageLength want got) e cmd text is asked accepted image no_read no_folder no_write =
    let same : e.1.script ≡ asked = one_script law text e.1.script asked (subst (λ o. IfSome o (λ t. IsScriptTextOf t e.1.script)) is e.1.accepted) accepted in
    absurd (not_another run.effects.files_before (options_of run.words).image asked want got image
    (subst (λ s. HasAnotherLength run.effects.files_before (options_of run.words).image s want got) same e.1.holds))
complete_of law run (BadScript why) e cmd text is asked accepted image no_read no_folder no_write =
    let bad : IsBadScript why text = subst (λ o. IfSome o (IsBadScript why)) is e.1 in
    absurd (bad.bad.none asked accepted.says.valid accepted.says.text_is)
complete_of law run (TooLong limit) e cmd text is asked accepted image no_read no_folder no_write = elim e.1 [
  | inl h ↦
      let long : limit < length text = subst (λ o. IfSome o (λ t. limit < length t)) is h.1 in
      let u = accepted.within in
      let v = h.0 in
      absurd (omega arith)
  | inr h ↦ absurd (not_longer run.effects.files_before (options_of run.words).image asked image
      (subst (λ l. IsSomeAnd (options_of run.words).image (λ n. HasLonger run.effects.files_before n l)) h.holds.0 h.holds.1))
]

pub complete : NoPrefix → (run : CommandRun) (status : Status) → ScriptRunEndsBy run status → IsScriptCommand run.words
    → IfSome run.text (λ text. (asked : Script) → IsScriptTextOf text asked
    → HasImageFor run.effects.files_before (options_of run.words).image asked
    → (ReadRose run → ⊥) → (FolderRose run.effects → ⊥) → (WriteRose run.effects → ⊥)
    → (status ≡ Ok) ⊎ (status ≡ NoMemory))
complete law run status e cmd = go run.text refl
  where
    go : (o : Option (List ℕ)) → run.text ≡ o → IfSome o (λ text. (asked : Script) → IsScriptTextOf text asked
        → HasImageFor run.effects.files_before (options_of run.words).image asked
        → (ReadRose run → ⊥) → (FolderRose run.effects → ⊥) → (WriteRose run.effects → ⊥)
        → (status ≡ Ok) ⊎ (status ≡ NoMemory))
    go None is = tt
    go (Some text) is = complete_of law run status e cmd text is
