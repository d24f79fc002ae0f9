-- How a run ends whose words are valid and whose text is a script's: as the run of the script ended.
use Rattle.std.proofs.Common.{◌≡◌, ◌≤◌, ◌++◌, ℕ, List, length, Option, Some, None, IfSome, inr, append-nil, sym, ◌∙◌, subst}
use Rattle.std.specs.Io.KnownBytes.{Consumes, IsAtEnd}
use Rattle.bc_script.specs.Script.{Script}
use Rattle.bc_script.specs.ScriptText.{SaysScript}
use Rattle.bc_script.specs.declared.limits.TheConstants.{MAX_TEXT}
use Rattle.bc_run.specs.declared.status.Status.{Status}
use Rattle.bc_run.specs.declared.status.Status.TheVariants.{Ok, Usage, BadScript, ReadFault, WriteFault, FolderFault, ImageLength, TooLong, NoMemory, Missing}
use Rattle.bc_run.specs.Words.{IsScriptCommand, options_of}
use Rattle.bc_run.specs.Command.{IsScriptTextOf}
use Rattle.bc_run.specs.Statuses.{CommandRun, ScriptRunEndsBy, ScriptEndsBy}

pub ends_by : (run : CommandRun) (script : Script) (status : Status) → IsScriptCommand run.words → IfSome run.text (λ t. IsScriptTextOf t script)
    → ScriptEndsBy run.effects (options_of run.words) script status → ScriptRunEndsBy run status
ends_by run script Ok cmd accepted h = (cmd, record { script = script; accepted = accepted; holds = h })
ends_by run script Usage cmd accepted h = absurd h
ends_by run script (BadScript e) cmd accepted h = absurd h
ends_by run script ReadFault cmd accepted h = absurd h
ends_by run script WriteFault cmd accepted h = (cmd, record { script = script; accepted = accepted; holds = h })
ends_by run script FolderFault cmd accepted h = (cmd, record { script = script; accepted = accepted; holds = h })
ends_by run script (ImageLength want got) cmd accepted h = (cmd, record { script = script; accepted = accepted; holds = h })
ends_by run script (TooLong limit) cmd accepted h = (cmd, inr (record { script = script; accepted = accepted; holds = h }))
ends_by run script NoMemory cmd accepted h = cmd.named
ends_by run script Missing cmd accepted h = (cmd, record { script = script; accepted = accepted; holds = h })

-- a text that was read to its end and says a script is the one that was left
pub accepted_of : (old new : Option (List ℕ)) (text : List ℕ) (script : Script) → Consumes old new text → IsAtEnd new → length text ≤ MAX_TEXT → SaysScript text script
    → IfSome old (λ t. IsScriptTextOf t script)
accepted_of None new text script all end within says = tt
accepted_of (Some left) None text script all end within says = absurd all
accepted_of (Some left) (Some rest) text script all end within says =
    let is : text ≡ left = sym (subst (λ r. left ≡ text ++ r) end all ∙ append-nil text) in
    subst (λ t. IsScriptTextOf t script) is (record { within = within; says = says })
