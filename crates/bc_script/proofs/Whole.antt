-- A text has no line that fails exactly where some script has it.
use Rattle.std.proofs.Common.{◌≡◌, ℕ, ◌+◌, Bool, true, false, ◌&&◌, cond, List, [], ◌∷◌, ◌++◌, length, map, flat_map, Option, Some, None, append-nil, append_assoc, refl, sym, ap, subst, ◌∙◌}
use Rattle.std.specs.Prelude.{◌↔◌, ◌==◌, ◌≤◌, sum_by}
use Rattle.std.specs.List.{onto_first}
use Rattle.std.proofs.lemmas.Bool.{and_parts}
use Rattle.bc_text.specs.Lines.{TextLine, lines_of, parts_at, line_feed, space, nothing, lines_text}
use Rattle.bc_text.proofs.LineLaws.{lines_text-lines_of, nothing_at}
use Rattle.bc_script.specs.declared.sort.Sort.{Sort}
use Rattle.bc_script.specs.declared.sort.Sort.TheVariants as sorts
use Rattle.bc_script.specs.declared.script_error.ScriptError.{ScriptError}
use Rattle.bc_script.specs.declared.script_error.ScriptWhy.{ScriptWhy}
use Rattle.bc_script.specs.declared.script_error.ScriptWhy.TheVariants as why
use Rattle.bc_script.specs.declared.op.Op.{Op}
use Rattle.bc_script.specs.Script.{Script, IsScript, max_threads, max_ops, max_units, unit_count_of_section}
use Rattle.bc_script.specs.ScriptText.{SaysScript, script_lines, version_line, disk_line, fallback_line, device_line, key_line, fault_line, section_lines, end_line}
use Rattle.bc_script.specs.Forms.{Form, form_of}
use Rattle.bc_script.specs.ScriptErrors.{Why, first_why, with_form, error_at, error_at_end, first_error, error_of, or_below, last_sort, is_end}
use Rattle.bc_text.specs.Lines.{is_nothing}
use Rattle.bc_script.specs.Progress.{Progress, IsProgress, lines_read, forms_read, forms_below}
use Rattle.bc_script.proofs.Above.{is_at_end, last_sort-read, forms_read-step}
use Rattle.bc_script.proofs.Steps.{nothing_read, IsProgress-nothing_read}
use Rattle.bc_script.proofs.Taken.{line_taken}
use Rattle.bc_script.proofs.NoError.{Pass, no_error}
use Rattle.bc_script.proofs.Devices.{are_devices}
use Rattle.bc_script.proofs.Readings.{script_read}

-- ---- the lines of a text in which none fails

none_below : (number : ℕ) (here : Why) (below : Option ScriptError) → or_below number here below ≡ None → (here ≡ None) × (below ≡ None)
none_below number None below e = (refl, e)
none_below number (Some kind) below e = absurd cc

-- all lines but the last pass, and the last is what stands after the end
record PassToEnd (above : List Form) (all : List TextLine) : Type 0 where
  lines : List TextLine
  tail : TextLine
  whole : all ≡ lines ++ tail ∷ []
  pass : Pass above lines
  ends : error_at_end (forms_below above lines) tail ≡ None

pass_to_end : (above : List Form) (line : TextLine) (lines : List TextLine) → first_error above (line ∷ lines) ≡ None → PassToEnd above (line ∷ lines)
pass_to_end above line [] e = record { lines = []; tail = line; whole = refl; pass = tt; ends = (none_below (length above + 1) (error_at_end above line) None e).0 }
pass_to_end above line (next ∷ lines) e =
    let parts = none_below (length above + 1) (error_at above line) (first_error (with_form (form_of line) above) (next ∷ lines)) e in
    let rest = pass_to_end (with_form (form_of line) above) next lines parts.1 in
    record { lines = line ∷ rest.lines; tail = rest.tail; whole = ap (λ (ls : List TextLine). line ∷ ls) rest.whole; pass = (parts.0, rest.pass); ends = rest.ends }

-- a text has one line at least
some_part : (byte : ℕ) (text : List ℕ) → (part : List ℕ) × (parts : List (List ℕ)) × (parts_at byte text ≡ part ∷ parts)
some_part byte [] = ([], [], refl)
some_part byte (b ∷ bs) = first (b == byte) refl (some_part byte bs)
  where
    first : (t : Bool) → (b == byte) ≡ t → (part : List ℕ) × (parts : List (List ℕ)) × (parts_at byte bs ≡ part ∷ parts) → (part : List ℕ) × (parts : List (List ℕ)) × (parts_at byte (b ∷ bs) ≡ part ∷ parts)
    first true is rest = ([], parts_at byte bs, ap (λ (t : Bool). cond t ([] ∷ parts_at byte bs) (onto_first b (parts_at byte bs))) is)
    first false is rest =
        (b ∷ rest.0, rest.1, ap (λ (t : Bool). cond t ([] ∷ parts_at byte bs) (onto_first b (parts_at byte bs))) is ∙ ap (onto_first b) rest.2)

-- ---- what they say

-- what has been read with all of them
record TookAll (p : Progress) (all : List TextLine) : Type 0 where
  after : Progress
  rules : IsProgress after
  lines : lines_read after ≡ lines_read p ++ all
  forms : forms_read after ≡ forms_below (forms_read p) all

all_taken : (p : Progress) (lines : List TextLine) → IsProgress p → Pass (forms_read p) lines → TookAll p lines
all_taken p [] is pass = record { after = p; rules = is; lines = sym (append-nil (lines_read p)); forms = refl }
all_taken p (line ∷ lines) is pass =
    let now = line_taken p line is pass.0 in
    let q = now.took.after in
    let forms : forms_read q ≡ with_form (form_of line) (forms_read p) =
    forms_read-step p q line now.form now.took.lines now.form_is ∙ ap (λ (o : Option Form). with_form o (forms_read p)) (sym now.form_is) in
    let rest = all_taken q lines now.took.rules (subst (λ (above : List Form). Pass above lines) (sym forms) pass.1) in
    record {
      after = rest.after;
      rules = rest.rules;
      lines = rest.lines ∙ ap (λ (ls : List TextLine). ls ++ lines) now.took.lines ∙ append_assoc (lines_read p) (line ∷ []) lines;
      forms = rest.forms ∙ ap (λ (above : List Form). forms_below above lines) forms;
    }

at_the_end : (p : Progress) → IsProgress p → p.last ≡ Some sorts.End → (IsScript (script_read p)) × (script_lines (script_read p) ≡ lines_read p)
at_the_end p is last =
    let q : Progress = record p { last = Some sorts.End } in
    let same : p ≡ q = λ i. record { last = last i; blocks = p.blocks; fallback = p.fallback; targets = p.targets; keys = p.keys; faults = p.faults; threads = p.threads; section = p.section } in
    let ended : IsProgress q = subst IsProgress same is in
    let none = append-nil p.threads in
    let valid : IsScript (script_read p) = record {
      blocks = ended.at.0;
      devices = are_devices p.targets p.blocks is.devices ended.at.2;
      keys = is.keys;
      faults = is.faults;
      threads = record {
        count = subst (λ (t : List (List Op)). length t ≤ max_threads) none ended.few_threads;
        each = is.threads;
        few_ops = subst (λ (t : List (List Op)). sum_by length t ≤ max_ops) none ended.few_ops;
        few_units = subst (λ (t : List (List Op)). sum_by unit_count_of_section t ≤ max_units) none ended.few_units;
      };
    } in (
      valid,
      ap (λ (t : List (List Op)). (version_line ∷ disk_line p.blocks ∷ fallback_line p.fallback ∷ map device_line p.targets) ++ (map key_line p.keys ++ (map fault_line p.faults ++ (flat_map (section_lines p.keys) t ++ end_line ∷ [])))) (sym none) ∙ sym (ap lines_read same),
    )

passed_test : (test : Bool) (kind : ScriptWhy) → first_why test kind None ≡ None → test ≡ true
passed_test true kind e = refl
passed_test false kind e = absurd cc

-- a text in which no line fails is a script's
pub has_script : (text : List ℕ) → error_of text ≡ None → (s : Script) × SaysScript text s
has_script text e =
    let first = some_part line_feed text in
    let all : lines_of text ≡ parts_at space first.0 ∷ map (parts_at space) first.1 = ap (map (parts_at space)) first.2 in
    let to_end = pass_to_end [] (parts_at space first.0) (map (parts_at space) first.1) (sym (ap (first_error []) all) ∙ e) in
    let took = all_taken nothing_read to_end.lines IsProgress-nothing_read to_end.pass in
    let p = took.after in
    let ends = and_parts _ _ (passed_test (is_end (last_sort (forms_below [] to_end.lines)) && is_nothing to_end.tail) why.End to_end.ends) in
    let last : p.last ≡ Some sorts.End =
    is_at_end p.last (ap (λ (l : Option Sort). is_end l) (sym (last_sort-read p took.rules)) ∙ ap (λ (above : List Form). is_end (last_sort above)) took.forms ∙ ends.0) in
    let script = at_the_end p took.rules last in
    let lines : lines_of text ≡ to_end.lines ++ nothing ∷ [] = all ∙ to_end.whole ∙ ap (λ (l : TextLine). to_end.lines ++ l ∷ []) (nothing_at to_end.tail ends.1) in
    (script_read p, record { valid = script.0; text_is = lines_text-lines_of text to_end.lines lines ∙ ap lines_text (sym took.lines ∙ sym script.1) })

-- no line of a text fails exactly where some script has the text
pub errors_exact : (text : List ℕ) → (error_of text ≡ None) ↔ ((s : Script) × SaysScript text s)
errors_exact text = (has_script text, λ said. ap error_of said.1.text_is ∙ no_error said.0 said.1.valid)
