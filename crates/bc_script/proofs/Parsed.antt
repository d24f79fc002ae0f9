-- A text that is read line after line, and what is found of it.
use Rattle.std.proofs.Common.{◌≡◌, ℕ, ◌+◌, List, [], ◌∷◌, ◌++◌, length, map, Option, Some, None, position, refl, sym, ap, ◌∙◌}
use Rattle.std.specs.Prelude.{◌==◌, Result, Ok, Err, IfOk, IfErr}
use Rattle.bc_text.specs.Lines.{TextLine, nothing, lines_of, parts_at, space, line_feed}
use Rattle.bc_text.proofs.Splits.{parts_at-place, parts_at-nowhere}
use Rattle.bc_text.proofs.LineLaws.{lines_text-lines_of}
use Rattle.bc_script.specs.declared.script_error.ScriptError.{ScriptError}
use Rattle.bc_script.specs.declared.script_error.ParseError.{ParseError}
use Rattle.bc_script.specs.declared.script_error.ParseError.TheVariants as errors
use Rattle.bc_script.specs.Script.{Script}
use Rattle.bc_script.specs.ScriptText.{SaysScript, script_lines}
use Rattle.bc_script.specs.Forms.{form_of}
use Rattle.bc_script.specs.ScriptErrors.{Why, with_form, or_below, error_at, error_at_end, first_error, error_of}
use Rattle.bc_script.specs.Progress.{Progress, lines_read, forms_read}
use Rattle.bc_script.specs.Reading.{IsWholeScript, ReportsNext}
use Rattle.bc_script.specs.Parsing.{IsRefusedScript}
use Rattle.bc_script.proofs.NoError.{no_script_has}

-- what has been read and what is left are the text, and the first error of what is left is that of the text
pub record Underway (text : List ℕ) (p : Progress) (left : List TextLine) : Type 0 where
  pub whole : lines_of text ≡ lines_read p ++ left
  pub error : first_error (forms_read p) left ≡ error_of text

-- a text has one line at least
some_part : (byte : ℕ) (text : List ℕ) → parts_at byte text ≡ [] → ⊥
some_part byte text none = cases (position (λ b. b == byte) text) refl
  where
    cases : (place : Option ℕ) → position (λ b. b == byte) text ≡ place → ⊥
    cases None at = let parts = parts_at-nowhere byte text at in cc
    cases (Some i) at = let parts = parts_at-place byte text i at in cc

pub some_line : (text : List ℕ) → lines_of text ≡ [] → ⊥
some_line text none = cases (parts_at line_feed text) refl
  where
    cases : (parts : List (List ℕ)) → parts_at line_feed text ≡ parts → ⊥
    cases [] at = some_part line_feed text at
    cases (part ∷ parts) at = let lines : lines_of text ≡ parts_at space part ∷ map (parts_at space) parts = ap (map (parts_at space)) at in cc

module _ (text : List ℕ) (p : Progress) (line next : TextLine) (left : List TextLine) (underway : Underway text p (line ∷ next ∷ left)) where
  pub line_refused : (e : ParseError) → ReportsNext p (error_at (forms_read p) line) e → IsRefusedScript text e
  line_refused (errors.Bad e) tells =
      let at : error_of text ≡ Some e =
      sym underway.error ∙ ap (λ (w : Why). or_below (length (forms_read p) + 1) w (first_error (with_form (form_of line) (forms_read p)) (next ∷ left))) tells.1
      ∙ (λ i. let told : ScriptError = record { line = sym tells.0 i; why = e.why } in Some told) in
      (at, no_script_has text e at)
  line_refused errors.Memory tells = tt

module _ (text : List ℕ) (p : Progress) (rest : TextLine) (underway : Underway text p (rest ∷ [])) where
  rest_refused : (e : ParseError) → ReportsNext p (error_at_end (forms_read p) rest) e → IsRefusedScript text e
  rest_refused (errors.Bad e) tells =
      let at : error_of text ≡ Some e =
      sym underway.error ∙ ap (λ (w : Why). or_below (length (forms_read p) + 1) w None) tells.1 ∙ (λ i. let told : ScriptError = record { line = sym tells.0 i; why = e.why } in Some told) in
      (at, no_script_has text e at)
  rest_refused errors.Memory tells = tt

  pub says : (r : Result Script ParseError) → IfOk r (IsWholeScript p rest) → IfOk r (SaysScript text)
  says (Ok s) whole = record {
    valid = whole.valid;
    text_is = lines_text-lines_of text (script_lines s) (underway.whole ∙ ap (λ (l : TextLine). lines_read p ++ l ∷ []) whole.rest_is ∙ sym (ap (λ (ls : List TextLine). ls ++ nothing ∷ []) whole.lines));
  }
  says (Err e) whole = tt

  pub refuses : (r : Result Script ParseError) → IfErr r (ReportsNext p (error_at_end (forms_read p) rest)) → IfErr r (IsRefusedScript text)
  refuses (Ok s) tells = tt
  refuses (Err e) tells = rest_refused e tells
