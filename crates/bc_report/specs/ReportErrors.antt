-- The first line of a text that no report has there. A line is possible after the lines above it
-- where some report begins with all of them.
use Rattle.std.specs.Prelude.{◌≡◌, ◌≢◌, ℕ, ◌+◌, List, [], ◌∷◌, ◌++◌, length, ⊤}
use Rattle.bc_text.specs.Lines.{TextLine, lines_of}
use Rattle.bc_report.specs.declared.report_error.ReportError.{ReportError}
use Rattle.bc_report.specs.declared.report_error.ReportError.TheVariants as errors
use Rattle.bc_report.specs.Report.{Report, IsReport}
use Rattle.bc_report.specs.ReportText.{report_lines, report_text}

-- no report has this text
abbrev pub NoReportHas : List ℕ → Type 0
NoReportHas text = (report : Report) → IsReport report → text ≡ report_text report → ⊥

-- some report begins with these lines
pub record BeginsReport (lines : List TextLine) : Type 0 where
  pub report : Report
  pub valid : IsReport report
  pub others : List TextLine
  pub lines_are : report_lines report ≡ lines ++ others

-- No report has the text, and this line of it, from 1, is the first that no report has there: some
-- report begins with the lines above it, and none with these and the line. The last of the lines is
-- what stands after the last line feed, if only nothing; it is named where all others begin a
-- report.
pub record IsFirstBad (text : List ℕ) (line : ℕ) : Type 0 where
  pub no_report : NoReportHas text
  pub above : List TextLine
  pub here : TextLine
  pub below : List TextLine
  pub lines_are : lines_of text ≡ above ++ here ∷ below
  pub number : line ≡ length above + 1
  pub possible : BeginsReport above
  pub impossible : below ≢ [] → BeginsReport (above ++ here ∷ []) → ⊥

-- what a text is answered that isn't read as a report; nothing is said of it where the process was
-- out of memory
abbrev pub IsRefusedReport : List ℕ → ReportError → Type 0
IsRefusedReport text (errors.Bad line) = IsFirstBad text line
IsRefusedReport text errors.Memory = ⊤
