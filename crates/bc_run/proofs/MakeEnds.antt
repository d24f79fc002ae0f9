-- How a run ends by its first word: of `make`, of a command that carries a script out, or of no command.
use Rattle.std.proofs.Common.{◌≡◌, ◌⊎◌, ◌∙◌, ℕ, false, List, Option, Some, None, codes, refl, sym, ap, inl, inr, subst, arith}
use Rattle.std.specs.Prelude.{IfErr, OnOk, Result, Ok as ok, Err as err}
use Rattle.bc_script.specs.Script.{Script}
use Rattle.bc_report.specs.Report.{Report}
use Rattle.bc_report.specs.LawfulRun.{LawfulButHolders}
use Rattle.bc_report.specs.SerialRun.{IsSerialRun}
use Rattle.bc_made.specs.Laws.{RunsLeaveTheMadeImage}
use Rattle.std.specs.Io.KnownBytes.{Appends}
use Rattle.bc_base.specs.Outside.{AppendsPrefix, HasCause, Rose}
use Rattle.bc_base.specs.Folders.{Files, HasSame}
use Rattle.bc_run.specs.declared.status.Status.{Status}
use Rattle.bc_run.specs.declared.status.Status.TheVariants.{Ok, Usage, BadScript, ReadFault, WriteFault, FolderFault, ImageLength, TooLong, NoMemory, Missing}
use Rattle.bc_run.specs.Words.{AreMakeOptions, FirstWordIs, IsCommand, IsMakeCommand, IsScriptCommand, MakeOptions, NamesCommand, NamesScript, make_options_of}
use Rattle.bc_run.specs.Making.{IsMade, make_line_of}
use Rattle.bc_script.specs.GeneratedScript.{generated}
use Rattle.bc_run.specs.Statuses.{ChangesOnly, CommandRun, EndsBy, MakeEndsBy, ScriptRunEndsBy, SinkEffects, sink_of}
use Rattle.bc_run.specs.Command.{zeros_for}
use Rattle.bc_run.specs.Stages.{status_of}

-- ---- one word

-- the first word is not both
pub not_both : (words : List (List ℕ)) → FirstWordIs (codes "make") words → NamesScript words → ⊥
not_both words make (inl serial) =
    let same : Some (codes "make") ≡ Some (codes "serial") = sym make ∙ serial in
    cc
not_both words make (inr threads) =
    let same : Some (codes "make") ≡ Some (codes "threads") = sym make ∙ threads in
    cc

-- ---- words that no command takes

pub make_usage : (words : List (List ℕ)) (e : SinkEffects) (status : Status) → FirstWordIs (codes "make") words → MakeEndsBy words e status
    → (IsCommand words → ⊥) → (status ≡ Usage) ⊎ ((status ≡ NoMemory) × NamesCommand words)
make_usage words e Ok named h none = absurd (none (inr h.0))
make_usage words e Usage named h none = inl refl
make_usage words e NoMemory named h none = inr (refl, inr named)
make_usage words e WriteFault named h none = absurd (none (inr h.0))
make_usage words e (BadScript error) named h none = absurd h
make_usage words e ReadFault named h none = absurd h
make_usage words e FolderFault named h none = absurd h
make_usage words e (ImageLength want got) named h none = absurd h
make_usage words e (TooLong limit) named h none = absurd h
make_usage words e Missing named h none = absurd h

pub script_usage : (run : CommandRun) (status : Status) → ScriptRunEndsBy run status
    → (IsCommand run.words → ⊥) → (status ≡ Usage) ⊎ ((status ≡ NoMemory) × NamesCommand run.words)
script_usage run Ok h none = absurd (none (inl h.0))
script_usage run Usage h none = inl refl
script_usage run NoMemory h none = inr (refl, inl h)
script_usage run WriteFault h none = absurd (none (inl h.0))
script_usage run (BadScript error) h none = absurd (none (inl h.0))
script_usage run ReadFault h none = absurd (none (inl h.0))
script_usage run FolderFault h none = absurd (none (inl h.0))
script_usage run (ImageLength want got) h none = absurd (none (inl h.0))
script_usage run (TooLong limit) h none = absurd (none (inl h.0))
script_usage run Missing h none = absurd (none (inl h.0))

-- ---- a run of `make` that met no fault

pub make_complete : (words : List (List ℕ)) (e : SinkEffects) (status : Status) → MakeEndsBy words e status
    → IsMakeCommand words → (Rose e.faults_before e.faults_after → ⊥) → (status ≡ Ok) ⊎ (status ≡ NoMemory)
make_complete words e Ok h taken none = inl refl
make_complete words e Usage h taken none = absurd (h taken)
make_complete words e NoMemory h taken none = inr refl
make_complete words e WriteFault h taken none = absurd (none h.2)
make_complete words e (BadScript error) h taken none = absurd h
make_complete words e ReadFault h taken none = absurd h
make_complete words e FolderFault h taken none = absurd h
make_complete words e (ImageLength want got) h taken none = absurd h
make_complete words e (TooLong limit) h taken none = absurd h
make_complete words e Missing h taken none = absurd h

-- ---- files that stay

pub stay : (files : Option Files) → HasSame files files
stay None = refl
stay (Some files) = λ name. refl

pub change_nothing : (name : Option (List ℕ)) (files : Option Files) → ChangesOnly name files files
change_nothing None files = stay files
change_nothing (Some n) None = refl
change_nothing (Some n) (Some files) = λ other differs. refl

-- ---- the line

-- what is said of a line is done with it
pub made_with : (Done : List ℕ → Type 0) (options : MakeOptions) (line : List ℕ)
    → IsMade (λ written. written ≡ line) options → Done line → IsMade Done options
made_with Done options line made done = record {
  script = made.script;
  script_is = made.script_is;
  report = made.report;
  left = made.left;
  lawful = made.lawful;
  one_caller = made.one_caller;
  left_is = made.left_is;
  done = subst Done (sym made.done) done;
}

-- the script was the generated one, and so is the image that is left the one of its number
pub is_made : RunsLeaveTheMadeImage → (options : MakeOptions) (script : Script) (report : Report) (left line : List ℕ)
    → AreMakeOptions options → script ≡ generated options.n options.slots
    → LawfulButHolders script (zeros_for script) options.shards report left
    → (options.at_once ≡ false → IsSerialRun script (zeros_for script) options.shards report left)
    → line ≡ make_line_of options.n left
    → IsMade (λ written. written ≡ line) options
is_made law options script report left line ranges is lawful one_caller e =
    let left_is = law options.n options.slots options.shards script report left is ranges.shards.0 lawful in record {
      script = script;
      script_is = is;
      report = report;
      left = left;
      lawful = lawful;
      one_caller = one_caller;
      left_is = left_is;
      done = sym (e ∙ ap (make_line_of options.n) left_is);
    }

-- ---- how a run of `make` ended

-- its words were refused
pub make_refused : (words : List (List ℕ)) (e : SinkEffects) (status : Status)
    → ((status ≡ Usage) × (IsMakeCommand words → ⊥)) ⊎ (status ≡ NoMemory) → MakeEndsBy words e status
make_refused words e status (inl h) = subst (MakeEndsBy words e) (sym h.0) h.1
make_refused words e status (inr h) = subst (MakeEndsBy words e) (sym h) tt

-- there was no memory
pub make_memory : (words : List (List ℕ)) (e : SinkEffects) (status : Status) → status ≡ NoMemory → MakeEndsBy words e status
make_memory words e status h = subst (MakeEndsBy words e) (sym h) tt

-- its line was written, or a prefix of it
pub make_written : {X : Type 0} (words : List (List ℕ)) (e : SinkEffects) (options : MakeOptions) (made text : List ℕ) (result : Result X Status)
    → IsMakeCommand words → options ≡ make_options_of words → IsMade (λ written. written ≡ made) options → text ≡ made
    → OnOk result (Appends e.held_before e.held_after text) → AppendsPrefix e.held_before e.held_after text
    → IfErr result (λ status. status ≡ WriteFault) → (result ≡ err WriteFault → Rose e.faults_before e.faults_after)
    → MakeEndsBy words e (status_of result)
make_written {X = X} words e options made text result taken is line same whole prefix fault rose = go result refl whole fault
  where
    by_words : IsMade (λ written. written ≡ text) (make_options_of words)
    by_words = subst (λ l. IsMade (λ written. written ≡ l) (make_options_of words)) (sym same) (subst (IsMade (λ written. written ≡ made)) is line)

    go : (r : Result X Status) → result ≡ r → OnOk r (Appends e.held_before e.held_after text) → IfErr r (λ status. status ≡ WriteFault)
        → MakeEndsBy words e (status_of r)
    go (ok value) at done faulted = (taken, made_with (Appends e.held_before e.held_after) (make_options_of words) text by_words done)
    go (err status) at done faulted =
        subst (MakeEndsBy words e) (sym faulted)
        (taken, made_with (AppendsPrefix e.held_before e.held_after) (make_options_of words) text by_words prefix, rose (at ∙ ap err faulted))

-- ---- how a run ended, by its first word

pub by_make : (run : CommandRun) (status : Status) → FirstWordIs (codes "make") run.words → MakeEndsBy run.words (sink_of run.effects) status → EndsBy run status
by_make run status named h = record { by_make = λ n. h; by_script = λ other. absurd (other named) }

pub by_script : (run : CommandRun) (status : Status) → (FirstWordIs (codes "make") run.words → ⊥) → ScriptRunEndsBy run status → EndsBy run status
by_script run status other h = record { by_make = λ named. absurd (other named); by_script = λ n. h }

-- where a run ended well no count rose for it
pub no_fault : (before now : ℕ) (Fails : Type 0) → HasCause before now Fails → HasCause before now (Ok ≡ WriteFault)
no_fault before now Fails cause = record { later = cause.later; rose = λ same. cc }

-- ---- what a run of `make` leaves alone

-- what doesn't fail needs no count
pub no_cause : (count : ℕ) (Fails : Type 0) → (Fails → ⊥) → HasCause count count Fails
no_cause count Fails never = record { later = omega arith; rose = λ fails. absurd (never fails) }

-- it reads nothing, and gets and puts nothing
pub not_read : (words : List (List ℕ)) (e : SinkEffects) (status : Status) → MakeEndsBy words e status → status ≡ ReadFault → ⊥
not_read words e status h is = subst (MakeEndsBy words e) is h

pub not_folder : (words : List (List ℕ)) (e : SinkEffects) (status : Status) → MakeEndsBy words e status → status ≡ FolderFault → ⊥
not_folder words e status h is = subst (MakeEndsBy words e) is h

-- words of `serial` or `threads` end as a run of those does
pub script_ends : (run : CommandRun) (status : Status) → EndsBy run status → IsScriptCommand run.words → ScriptRunEndsBy run status
script_ends run status ended serial = ended.by_script (λ make. not_both run.words make serial.named)
