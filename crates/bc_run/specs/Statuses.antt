-- How a run ends: the number of each status, and what each status says of the run.
use Rattle.std.specs.Prelude.{◌≡◌, ◌⊎◌, ◌<◌, ⊤, ℕ, List, length, Option, IfSome, IsSomeAnd, MatchOption, is_some, true}
use Rattle.std.specs.Prelude.{codes}
use Rattle.std.specs.Io.KnownBytes.{Appends}
use Rattle.bc_base.specs.Outside.{Rose, AppendsPrefix}
use Rattle.bc_base.specs.Folders.{Files, Has, HasLonger, HasSame, HasSameBut, Lacks}
use Rattle.bc_script.specs.declared.limits.TheConstants.{MAX_TEXT}
use Rattle.bc_script.specs.Script.{Script}
use Rattle.bc_run.specs.declared.status.Status.{Status}
use Rattle.bc_run.specs.declared.status.Status.TheVariants.{Ok, Usage, BadScript, ReadFault, WriteFault, FolderFault}
use Rattle.bc_run.specs.declared.status.Status.TheVariants.{ImageLength, TooLong, NoMemory, Missing}
use Rattle.bc_run.specs.declared.image.TheConstants.{MAX_IMAGE}
use Rattle.bc_run.specs.Words.{FirstWordIs, IsMakeCommand, IsScriptCommand, NamesScript, Options, make_options_of}
use Rattle.bc_run.specs.Words.{options_of}
use Rattle.bc_run.specs.Making.{IsMade}
use Rattle.bc_run.specs.Command.{HasAnotherLength, IsBadScript, IsCarriedOut, IsScriptAnd}

-- the number that the process ends with
abbrev pub code_of : Status → ℕ
code_of Ok = 0
code_of Usage = 1
code_of (BadScript e) = 2
code_of ReadFault = 3
code_of WriteFault = 4
code_of FolderFault = 5
code_of (ImageLength want got) = 6
code_of (TooLong limit) = 7
code_of NoMemory = 9
code_of Missing = 10

-- what a run does to its folder and its sink: before and after the run the files that the folder
-- has where it says so, its faults, the faults of the sink, and the bytes that the sink holds where
-- it says so
pub record Effects : Type 0 where
  pub files_before : Option Files
  pub files_after : Option Files
  pub folder_faults_before : ℕ
  pub folder_faults_after : ℕ
  pub write_faults_before : ℕ
  pub write_faults_after : ℕ
  pub held_before : Option (List ℕ)
  pub held_after : Option (List ℕ)

-- a run of a command as its caller sees it: the words, the text that was left in the source where
-- it says so, the faults of the source before and after the run, and what became of folder and sink
pub record CommandRun : Type 0 where
  pub words : List (List ℕ)
  pub text : Option (List ℕ)
  pub read_faults_before : ℕ
  pub read_faults_after : ℕ
  pub effects : Effects

-- the source counted a fault
abbrev pub ReadRose : CommandRun → Type 0
ReadRose run = Rose run.read_faults_before run.read_faults_after

-- the folder counted a fault
abbrev pub FolderRose : Effects → Type 0
FolderRose e = Rose e.folder_faults_before e.folder_faults_after

-- the sink counted a fault
abbrev pub WriteRose : Effects → Type 0
WriteRose e = Rose e.write_faults_before e.write_faults_after

-- with `--out` the folder has the image under its name
abbrev pub IsPut : Option Files → Option (List ℕ) → List ℕ → Type 0
IsPut files name image = IfSome name (λ n. Has files n image)

-- no name but that of `--out` changed, and none without it
abbrev pub ChangesOnly : Option (List ℕ) → Option Files → Option Files → Type 0
ChangesOnly name before after = MatchOption name (HasSame before after) (λ n. HasSameBut n before after)

-- the image was put, and the sink took the whole report
abbrev pub Written : Effects → Options → List ℕ → List ℕ → Type 0
Written e o report left = IsPut e.files_after o.out left × Appends e.held_before e.held_after report

-- the image was put, and the sink took a prefix of the report
abbrev pub PrefixWritten : Effects → Options → List ℕ → List ℕ → Type 0
PrefixWritten e o report left = IsPut e.files_after o.out left × AppendsPrefix e.held_before e.held_after report

-- the words name a file to get or to put
abbrev pub NamesFile : Options → Type 0
NamesFile o = (is_some o.image ≡ true) ⊎ (is_some o.out ≡ true)

-- why a run of this script by these options ended with this status, in the order of its stages
abbrev pub ScriptEndsBy : Effects → Options → Script → Status → Type 0
ScriptEndsBy e o script FolderFault = NamesFile o × FolderRose e
ScriptEndsBy e o script Missing = IsSomeAnd o.image (Lacks e.files_before)
ScriptEndsBy e o script (TooLong limit) =
    (limit ≡ MAX_IMAGE) × IsSomeAnd o.image (λ name. HasLonger e.files_before name limit)
ScriptEndsBy e o script (ImageLength want got) = HasAnotherLength e.files_before o.image script want got
ScriptEndsBy e o script WriteFault = IsCarriedOut (PrefixWritten e o) e.files_before o script × WriteRose e
ScriptEndsBy e o script Ok = IsCarriedOut (Written e o) e.files_before o script
ScriptEndsBy e o script NoMemory = ⊤
ScriptEndsBy e o script other = ⊥

-- the text that was left is a script's, and its run ended with this status
abbrev pub EndsByScript : CommandRun → Status → Type 0
EndsByScript run status =
    IsScriptAnd (λ script. ScriptEndsBy run.effects (options_of run.words) script status) run.text

-- why a run of `serial` or `threads` ended with this status, in the order of its stages; each row
-- also says what the stages before it passed
abbrev pub ScriptRunEndsBy : CommandRun → Status → Type 0
ScriptRunEndsBy run Usage = IsScriptCommand run.words → ⊥
ScriptRunEndsBy run NoMemory = NamesScript run.words
ScriptRunEndsBy run ReadFault = IsScriptCommand run.words × ReadRose run
ScriptRunEndsBy run (BadScript e) = IsScriptCommand run.words × IfSome run.text (IsBadScript e)
ScriptRunEndsBy run (TooLong limit) =
    IsScriptCommand run.words
    × (((limit ≡ MAX_TEXT) × IfSome run.text (λ text. limit < length text)) ⊎ EndsByScript run (TooLong limit))
ScriptRunEndsBy run status = IsScriptCommand run.words × EndsByScript run status

-- what a run does to its sink: its faults, and the bytes that it holds where it says so
pub record SinkEffects : Type 0 where
  pub faults_before : ℕ
  pub faults_after : ℕ
  pub held_before : Option (List ℕ)
  pub held_after : Option (List ℕ)

-- what became of the sink
abbrev pub sink_of : Effects → SinkEffects
sink_of e = record {
  faults_before = e.write_faults_before;
  faults_after = e.write_faults_after;
  held_before = e.held_before;
  held_after = e.held_after;
}

-- why a run of `make` ended with this status
abbrev pub MakeEndsBy : List (List ℕ) → SinkEffects → Status → Type 0
MakeEndsBy words e Usage = IsMakeCommand words → ⊥
MakeEndsBy words e NoMemory = ⊤
MakeEndsBy words e WriteFault =
    IsMakeCommand words × IsMade (AppendsPrefix e.held_before e.held_after) (make_options_of words)
    × Rose e.faults_before e.faults_after
MakeEndsBy words e Ok =
    IsMakeCommand words × IsMade (Appends e.held_before e.held_after) (make_options_of words)
MakeEndsBy words e other = ⊥

-- why a run ended with this status: the first word says whose reason it is, and where it is no
-- command's the words are refused
pub record EndsBy (run : CommandRun) (status : Status) : Type 0 where
  pub by_make : FirstWordIs (codes "make") run.words → MakeEndsBy run.words (sink_of run.effects) status
  pub by_script : (FirstWordIs (codes "make") run.words → ⊥) → ScriptRunEndsBy run status
