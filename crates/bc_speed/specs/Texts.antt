-- Texts that are timed.
use Rattle.std.specs.Prelude.{ℕ, List}
use Rattle.bc_script.specs.Script.{Script}
use Rattle.bc_script.specs.ScriptText.{SaysScript}

-- the text is some script's
abbrev pub SomeScriptHas : List ℕ → Type 0
SomeScriptHas text = (script : Script) × SaysScript text script
