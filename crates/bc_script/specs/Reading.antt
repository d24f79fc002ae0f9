-- What a reader of scripts keeps beside the progress, and what it answers. The contracts of private
-- functions speak of this; no public one does.
use Rattle.std.specs.Prelude.{◌≡◌, ℕ, ◌+◌, Bool, true, false, List, [], ◌∷◌, ◌++◌, length, sum_by, Some, None, ⊤}
use Rattle.bc_text.specs.Lines.{TextLine, nothing}
use Rattle.bc_script.specs.declared.op.Op.{Op}
use Rattle.bc_script.specs.declared.script_error.ParseError.{ParseError}
use Rattle.bc_script.specs.declared.script_error.ParseError.TheVariants as errors
use Rattle.bc_script.specs.Script.{Script, IsScript, open_after, unit_count_of_section}
use Rattle.bc_script.specs.ScriptText.{script_lines}
use Rattle.bc_script.specs.Forms.{form_of}
use Rattle.bc_script.specs.ScriptErrors.{Why, error_at, error_at_end, with_form}
use Rattle.bc_script.specs.Progress.{Progress, IsProgress, lines_read, forms_read, sections_read}

-- a progress, its counts, and whether a plug is open
pub record IsReading (p : Progress) (lines : ℕ) (plugged : Bool) (ops units : ℕ) : Type 0 where
  pub rules : IsProgress p
  pub line_count : lines ≡ length (forms_read p)
  pub plug : open_after false p.section ≡ Some plugged
  pub op_count : ops ≡ sum_by length (sections_read p)
  pub unit_count : units ≡ sum_by unit_count_of_section (sections_read p)

-- what is left of a section that has ended
abbrev pub left_section : Bool → List Op → List Op
left_section true section = []
left_section false section = section

-- the line has been read, which passes its tests
pub record TookScriptLine (old : Progress) (line : TextLine) (new : Progress) : Type 0 where
  pub passes : error_at (forms_read old) line ≡ None
  pub lines : lines_read new ≡ lines_read old ++ line ∷ []
  pub forms : forms_read new ≡ with_form (form_of line) (forms_read old)

-- the script whose lines have all been read, and which has nothing after them
pub record IsWholeScript (p : Progress) (rest : TextLine) (s : Script) : Type 0 where
  pub valid : IsScript s
  pub lines : script_lines s ≡ lines_read p
  pub rest_is : rest ≡ nothing
  pub passes : error_at_end (forms_read p) rest ≡ None

-- an error reports the next line and the test that it fails, or that there was no memory
abbrev pub ReportsNext : Progress → Why → ParseError → Type 0
ReportsNext p why (errors.Bad e) = (e.line ≡ length (forms_read p) + 1) × (why ≡ Some e.why)
ReportsNext p why errors.Memory = ⊤
