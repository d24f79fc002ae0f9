-- What a text is answered that is not read as a script.
use Rattle.std.specs.Prelude.{◌≡◌, List, ℕ, Some, ⊤}
use Rattle.bc_script.specs.declared.script_error.ParseError.{ParseError}
use Rattle.bc_script.specs.declared.script_error.ParseError.TheVariants as errors
use Rattle.bc_script.specs.ScriptText.{NoScriptHas}
use Rattle.bc_script.specs.ScriptErrors.{error_of}

-- The first line that fails a test, and the test, of a text that no script has; or nothing of the
-- text, where there was no memory.
abbrev pub IsRefusedScript : List ℕ → ParseError → Type 0
IsRefusedScript text (errors.Bad error) = (error_of text ≡ Some error) × NoScriptHas text
IsRefusedScript text errors.Memory = ⊤
