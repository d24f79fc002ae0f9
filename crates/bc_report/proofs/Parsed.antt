-- A text that is read line after line, and what is found of it.
use Rattle.std.proofs.Common.{◌≡◌, ℕ, ◌+◌, ◌≤◌, List, [], ◌∷◌, ◌++◌, length, refl, sym, ap, subst, ◌∙◌, append_assoc, arith, length-append}
use Rattle.std.specs.Prelude.{◌==◌, Result, Ok, Err, IfOk, IfErr}
use Rattle.std.proofs.lemmas.List.{length-map}
use Rattle.std.proofs.lemmas.List.Sums.{count_by-le-length}
use Rattle.std.proofs.lemmas.List.Splits.{length-slice_split}
use Rattle.bc_text.specs.Lines.{TextLine, nothing, lines_of, parts_at, space, line_feed}
use Rattle.bc_text.proofs.LineLaws.{lines_text-lines_of, lines_of-lines_text}
use Rattle.bc_report.specs.declared.report_error.ReportError.{ReportError}
use Rattle.bc_report.specs.declared.report_error.ReportError.TheVariants as errors
use Rattle.bc_report.specs.Report.{Report, IsReport}
use Rattle.bc_report.specs.ReportText.{SaysReport, report_lines}
use Rattle.bc_report.specs.ReportErrors.{IsRefusedReport}
use Rattle.bc_report.specs.LinePlaces.{LinePlace, Head, Foot, Goes, IsStuck}
use Rattle.bc_report.specs.Progress.{Progress, IsProgress, lines_read, line_place_of, TookReportLine, IsWholeReport, TakesNone, EndsNone}
use Rattle.bc_report.proofs.Walks.{Walk, walk_append, walk_split, one_walk, report_walk}
use Rattle.bc_report.proofs.LineFields.{report_lines_are_lines}
use Rattle.bc_report.proofs.Begun.{begins}

-- ---- lists that are one

-- what goes on after a prefix, where both end
longer : (xs ys : List TextLine) (y z w : TextLine) (zs : List TextLine) → xs ++ y ∷ z ∷ zs ≡ ys ++ w ∷ [] → (c : List TextLine) × (ys ≡ xs ++ y ∷ c)
longer [] [] y z w zs e = absurd cc
longer [] (v ∷ vs) y z w zs e = let first : y ≡ v = cc in (vs, λ i. sym first i ∷ vs)
longer (x ∷ xs) [] y z w zs e = absurd (two xs y (z ∷ zs) cc)
  where
    two : (xs : List TextLine) (b : TextLine) (bs : List TextLine) → xs ++ b ∷ bs ≡ [] → ⊥
    two [] b bs f = cc
    two (a ∷ xs) b bs f = cc
longer (x ∷ xs) (v ∷ vs) y z w zs e =
    let first : v ≡ x = cc in
    let others : xs ++ y ∷ z ∷ zs ≡ vs ++ w ∷ [] = cc in
    let r = longer xs vs y z w zs others in
    (r.0, λ i. first i ∷ r.1 i)

-- the last elements, and those before them
last_same : (xs ys : List TextLine) (y w : TextLine) → xs ++ y ∷ [] ≡ ys ++ w ∷ [] → (xs ≡ ys) × (y ≡ w)
last_same [] [] y w e = (refl, cc)
last_same [] (v ∷ vs) y w e = absurd (two vs w cc)
  where
    two : (xs : List TextLine) (b : TextLine) → [] ≡ xs ++ b ∷ [] → ⊥
    two [] b f = cc
    two (a ∷ xs) b f = cc
last_same (x ∷ xs) [] y w e = absurd (two xs y cc)
  where
    two : (xs : List TextLine) (b : TextLine) → xs ++ b ∷ [] ≡ [] → ⊥
    two [] b f = cc
    two (a ∷ xs) b f = cc
last_same (x ∷ xs) (v ∷ vs) y w e =
    let first : x ≡ v = cc in
    let others : xs ++ y ∷ [] ≡ vs ++ w ∷ [] = cc in
    let r = last_same xs vs y w others in
    ((λ i. first i ∷ r.0 i), r.1)

-- ---- what has been read, and what is left

pub record Underway (text : List ℕ) (p : Progress) (left : List TextLine) (number : ℕ) : Type 0 where
  pub whole : lines_of text ≡ lines_read p ++ left
  pub number_is : number ≡ length (lines_read p) + 1
  pub walk : Walk Head (lines_read p) (line_place_of p)
  pub rules : IsProgress p

pub start : (text : List ℕ) (p : Progress) (left : List TextLine) → lines_of text ≡ left → lines_read p ≡ [] → line_place_of p ≡ Head → IsProgress p → Underway text p left 1
start text p left lines none at rules = record {
  whole = lines ∙ ap (λ (ls : List TextLine). ls ++ left) (sym none);
  number_is = omega (arith, ap length none);
  walk = subst (λ (ls : List TextLine). Walk Head ls (line_place_of p)) (sym none) (sym at);
  rules = rules;
}

pub step : (text : List ℕ) (p new : Progress) (line : TextLine) (left : List TextLine) (number : ℕ) → Underway text p (line ∷ left) number → TookReportLine p line new → Underway text new left (number + 1)
step text p new line left number u took = record {
  whole = u.whole ∙ sym (append_assoc (lines_read p) (line ∷ []) left) ∙ ap (λ (ls : List TextLine). ls ++ left) (sym took.lines);
  number_is = omega (arith, u.number_is, ap length took.lines, length-append (lines_read p) (line ∷ []));
  walk = subst (λ (ls : List TextLine). Walk Head ls (line_place_of new)) (sym took.lines) (walk_append (lines_read p) (line ∷ []) Head (line_place_of p) (line_place_of new) u.walk (line_place_of new, took.goes, refl));
  rules = took.rules;
}

-- a text has few lines
count_lines : (text : List ℕ) → length (lines_of text) ≤ length text + 1
count_lines text =
    let parts = length-slice_split (λ (b : ℕ). b == line_feed) text in
    omega (arith, parts, length-map (parts_at line_feed text) (parts_at space), count_by-le-length (λ (b : ℕ). b == line_feed) text)

pub some_line : (text : List ℕ) → lines_of text ≡ [] → ⊥
some_line text none =
    let parts = length-slice_split (λ (b : ℕ). b == line_feed) text in
    omega (arith, parts, ap length none, length-map (parts_at line_feed text) (parts_at space))

pub few_lines : (text : List ℕ) (p : Progress) (line next : TextLine) (left : List TextLine) (number : ℕ) → Underway text p (line ∷ next ∷ left) number → number ≤ length text
few_lines text p line next left number u =
    omega (arith, count_lines text, ap length u.whole, length-append (lines_read p) (line ∷ next ∷ left), u.number_is)

-- ---- no report has it

-- a line that follows nowhere
stuck_begins : (lines others : List TextLine) (at : LinePlace) (line : TextLine) (r : Report) → IsReport r → Walk Head lines at → IsStuck at line → report_lines r ≡ lines ++ line ∷ others → ⊥
stuck_begins lines others at line r valid walk stuck e =
    let all = walk_split lines (line ∷ others) Head Foot (subst (λ (ls : List TextLine). Walk Head ls Foot) e (report_walk r valid)) in
    let same = one_walk lines Head all.0 at all.1 walk in
    stuck all.2.0 (subst (λ (a : LinePlace). Goes a line all.2.0) same all.2.1)

-- then the line is the first that no report has there
pub line_refused : (text : List ℕ) (p : Progress) (line next : TextLine) (left : List TextLine) (number : ℕ) → Underway text p (line ∷ next ∷ left) number → (e : ReportError) → TakesNone p line number e → IsRefusedReport text e
line_refused text p line next left number u errors.Memory none = tt
line_refused text p line next left number u (errors.Bad named) none = record {
  no_report = λ r valid is.
      let lines : lines_read p ++ line ∷ next ∷ left ≡ report_lines r ++ nothing ∷ [] =
      sym u.whole ∙ ap lines_of is ∙ lines_of-lines_text (report_lines r) (report_lines_are_lines r valid) in
      let goes_on = longer (lines_read p) (report_lines r) line next nothing left lines in
      stuck_begins (lines_read p) goes_on.0 (line_place_of p) line r valid u.walk none.1 goes_on.1;
  above = lines_read p;
  here = line;
  below = next ∷ left;
  lines_are = u.whole;
  number = none.0 ∙ u.number_is;
  possible = begins p u.rules;
  impossible = λ some other.
      stuck_begins (lines_read p) other.others (line_place_of p) line other.report other.valid u.walk none.1 (other.lines_are ∙ append_assoc (lines_read p) (line ∷ []) other.others);
}

-- what stands after the last line feed is the first that no report has there
pub end_refused : (text : List ℕ) (p : Progress) (rest : TextLine) (number : ℕ) → Underway text p (rest ∷ []) number → (e : ReportError) → EndsNone p rest number e → IsRefusedReport text e
end_refused text p rest number u errors.Memory none = tt
end_refused text p rest number u (errors.Bad named) none = record {
  no_report = λ r valid is.
      let lines : lines_read p ++ rest ∷ [] ≡ report_lines r ++ nothing ∷ [] =
      sym u.whole ∙ ap lines_of is ∙ lines_of-lines_text (report_lines r) (report_lines_are_lines r valid) in
      let same = last_same (lines_read p) (report_lines r) rest nothing lines in
      let walk = subst (λ (ls : List TextLine). Walk Head ls Foot) (sym same.0) (report_walk r valid) in
      none.1 (one_walk (lines_read p) Head (line_place_of p) Foot u.walk walk) same.1;
  above = lines_read p;
  here = rest;
  below = [];
  lines_are = u.whole;
  number = none.0 ∙ u.number_is;
  possible = begins p u.rules;
  impossible = λ some other. some refl;
}

-- ---- a report has it

pub says : (text : List ℕ) (p : Progress) (rest : TextLine) (number : ℕ) → Underway text p (rest ∷ []) number → (report : Report) → IsWholeReport p rest report → SaysReport text report
says text p rest number u report whole = record {
  valid = whole.valid;
  text_is =
      lines_text-lines_of text (report_lines report)
      (u.whole ∙ ap (λ (l : TextLine). lines_read p ++ l ∷ []) whole.rest_is ∙ sym (ap (λ (ls : List TextLine). ls ++ nothing ∷ []) whole.lines));
}

pub all_says : (text : List ℕ) (p : Progress) (rest : TextLine) (number : ℕ) → Underway text p (rest ∷ []) number → (r : Result Report ReportError) → IfOk r (IsWholeReport p rest) → IfOk r (SaysReport text)
all_says text p rest number u (Ok report) whole = says text p rest number u report whole
all_says text p rest number u (Err e) whole = tt

pub all_refused : (text : List ℕ) (p : Progress) (rest : TextLine) (number : ℕ) → Underway text p (rest ∷ []) number → (r : Result Report ReportError) → IfErr r (EndsNone p rest number) → IfErr r (IsRefusedReport text)
all_refused text p rest number u (Ok report) none = tt
all_refused text p rest number u (Err e) none = end_refused text p rest number u e none
