-- What the commands `serial` and `threads` carry out: the script that a text says, over the image
-- that the words name or over zeros, with the shards that they say.
use Rattle.std.specs.Prelude.{◌≡◌, ℕ, false, ◌*◌, ◌≤◌, List, length, Option, Some, MatchOption, IfSome}
use Rattle.std.specs.Prelude.{IsSomeAnd}
use Rattle.bc_base.specs.declared.geometry.TheConstants.{BLOCK_BYTES}
use Rattle.bc_base.specs.Folders.{Files, Has}
use Rattle.bc_script.specs.declared.limits.TheConstants.{MAX_TEXT}
use Rattle.bc_script.specs.Script.{Script}
use Rattle.bc_script.specs.declared.script_error.ScriptError.{ScriptError}
use Rattle.bc_script.specs.ScriptText.{SaysScript, NoScriptHas}
use Rattle.bc_script.specs.ScriptErrors.{error_of}
use Rattle.bc_report.specs.Report.{Report}
use Rattle.bc_report.specs.ReportText.{report_text}
use Rattle.bc_report.specs.LawfulRun.{LawfulButHolders}
use Rattle.bc_report.specs.SerialRun.{IsSerialRun}
pub use Rattle.bc_made.specs.MadeImage.{zeros_for}
use Rattle.bc_run.specs.Words.{Options, IsShardCount}
use Rattle.bc_run.specs.declared.image.TheConstants.{MAX_IMAGE}

-- a text has no more bytes than a script's may have, 16 MiB
abbrev pub IsWithinLimit : List ℕ → Type 0
IsWithinLimit text = length text ≤ MAX_TEXT

-- the text is this script's, within the limit
pub record IsScriptTextOf (text : List ℕ) (script : Script) : Type 0 where
  pub within : IsWithinLimit text
  pub says : SaysScript text script

-- no script has the text, by this error
pub record HasError (error : ScriptError) (text : List ℕ) : Type 0 where
  pub none : NoScriptHas text
  pub first_error : error_of text ≡ Some error

-- the text is within the limit, and no script's, by this error
pub record IsBadScript (error : ScriptError) (text : List ℕ) : Type 0 where
  pub within : IsWithinLimit text
  pub bad : HasError error text

-- how many bytes the script's disk has
abbrev pub bytes_of_disk : Script → ℕ
bytes_of_disk script = BLOCK_BYTES * script.blocks

-- where an image is named the run begins with what the folder has under the name, and else with
-- zeros
abbrev pub BeginsWith : Option Files → Option (List ℕ) → Script → List ℕ → Type 0
BeginsWith files name script image = MatchOption name (image ≡ zeros_for script) (λ n. Has files n image)

-- the image that the run begins with, of the length that the script asks for
pub record IsImageFor (files : Option Files) (name : Option (List ℕ)) (script : Script) (image : List ℕ) : Type 0 where
  pub begins : BeginsWith files name script image
  pub length_is : length image ≡ bytes_of_disk script

-- a named image is one that the folder has, of the length that the script asks for, within 64 MiB
abbrev pub HasImageFor : Option Files → Option (List ℕ) → Script → Type 0
HasImageFor files name script = IfSome name (λ n.
    IsSomeAnd files (λ held. IsSomeAnd (held n) (λ image.
    (length image ≡ bytes_of_disk script) × (length image ≤ MAX_IMAGE))))

-- where the sections weren't carried out at once, the run is lawful whole and goes section after
-- section
abbrev pub IsOneCallers : Options → Script → List ℕ → Report → List ℕ → Type 0
IsOneCallers options script image report left =
    options.at_once ≡ false → IsSerialRun script image options.shards report left

-- a report and the image that is left are those of a run of the script by these options, lawful in
-- all that every order of the sections' operations keeps
pub record IsRunOf (files : Option Files) (options : Options) (script : Script) (report : Report) (left : List ℕ)
    : Type 0 where
  pub image : List ℕ
  pub begins : IsImageFor files options.image script image
  pub shards : IsShardCount options.shards
  pub lawful : LawfulButHolders script image options.shards report left
  pub one_caller : IsOneCallers options script image report left

-- this was done with the text of the report of such a run and with the image that is left
pub record IsCarriedOut (Done : List ℕ → List ℕ → Type 0) (files : Option Files) (options : Options) (script : Script)
    : Type 0 where
  pub report : Report
  pub left : List ℕ
  pub carried_out : IsRunOf files options script report left
  pub done : Done (report_text report) left

-- there is a script of which this holds, and where the text is reported it is this script's
pub record IsScriptAnd (Holds : Script → Type 0) (text : Option (List ℕ)) : Type 0 where
  pub script : Script
  pub accepted : IfSome text (λ t. IsScriptTextOf t script)
  pub holds : Holds script

-- the script's disk has so many bytes, and the folder has another number of bytes under the name,
-- within 64 MiB
pub record HasAnotherLength (files : Option Files) (name : Option (List ℕ)) (script : Script) (want got : ℕ)
    : Type 0 where
  pub want_is : want ≡ bytes_of_disk script
  pub image : List ℕ
  pub under : IsSomeAnd name (λ n. Has files n image)
  pub within : length image ≤ MAX_IMAGE
  pub got_is : got ≡ length image
  pub differ : want ≡ got → ⊥
