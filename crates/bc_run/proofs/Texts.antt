-- A script's text, the words and the files decide the text that is written and the image that is left.
use Rattle.std.proofs.Common.{◌≡◌, ℕ, List, [], ◌++◌, append-nil, sym, ap, subst, ◌∙◌, Option, Some, None}
use Rattle.bc_base.specs.Folders.{Files}
use Rattle.bc_script.specs.Script.{Script, IsScript}
use Rattle.bc_script.specs.ScriptText.{script_text}
use Rattle.bc_report.specs.ReportText.{report_text}
use Rattle.bc_report.specs.SerialRun.{IsSerialRun}
use Rattle.bc_compose.specs.ComposedRun.{SerialRunsAgree}
use Rattle.bc_run.specs.Command.{IsImageFor, IsScriptTextOf}
use Rattle.bc_run.specs.Laws.{WrittenTextsAgree}

-- no text is a proper prefix of another, so a text is of one script
abbrev pub NoPrefix : Type 0
NoPrefix = (a b : Script) (more : List ℕ) → IsScript a → IsScript b → script_text a ++ more ≡ script_text b → (a ≡ b) × (more ≡ [])

pub one_script : NoPrefix → (text : List ℕ) (a b : Script) → IsScriptTextOf text a → IsScriptTextOf text b → a ≡ b
one_script no_prefix text a b p q =
    (no_prefix a b [] p.says.valid q.says.valid (append-nil (script_text a) ∙ sym p.says.text_is ∙ q.says.text_is)).0

-- one image is begun with
one_image : (files : Files) (name : Option (List ℕ)) (script : Script) (a b : List ℕ) → IsImageFor (Some files) name script a → IsImageFor (Some files) name script b → a ≡ b
one_image files None script a b p q = p.begins ∙ sym q.begins
one_image files (Some n) script a b p q =
    let same : Some a ≡ Some b = sym p.begins ∙ q.begins in
    cc

pub written_texts_agree : SerialRunsAgree → NoPrefix → WrittenTextsAgree
written_texts_agree agree no_prefix files options text one other one_left other_left in_turn p q =
    let scripts = one_script no_prefix text p.script q.script p.accepted q.accepted in
    let a = p.holds in
    let b = q.holds in
    let image : a.carried_out.image ≡ b.carried_out.image =
    one_image files options.image q.script a.carried_out.image b.carried_out.image
    (subst (λ s. IsImageFor (Some files) options.image s a.carried_out.image) scripts a.carried_out.begins) b.carried_out.begins in
    let first : IsSerialRun q.script b.carried_out.image options.shards a.report a.left =
    subst (λ i. IsSerialRun q.script i options.shards a.report a.left) image
    (subst (λ s. IsSerialRun s a.carried_out.image options.shards a.report a.left) scripts
    (a.carried_out.one_caller in_turn)) in
    let same = agree q.script b.carried_out.image options.shards a.report b.report a.left b.left q.accepted.says.valid first
    (b.carried_out.one_caller in_turn) in
    (sym a.done.0 ∙ ap report_text same.0 ∙ b.done.0, sym a.done.1 ∙ same.1 ∙ b.done.1)
