use Rattle.std.proofs.Common.{◌≡◌, ◌∙◌, ◌&&◌, Bool, false, sym, ap}
use Rattle.bc_script.specs.ScriptErrors.{is_end}
use Rattle.bc_text.specs.Lines.{is_nothing}
use Rattle.bc_text.proofs.LineLaws.{nothing_at}
use Rattle.bc_script.proofs.Refusals.{and_no}
use Rattle.bc_script.proofs.Readings.{fails_at_end, passes_at_end, and_both}
use Rattle.bc_script.proofs.reader.Reader.finish.Goals as goal
use Rattle.bc_script.proofs.reader.Reader.finish.Goals.{then-not-is_end-via-then-not-is_end, then-not-is_end-via-else-not-is_end+then-not-is_nothing}

pub returns-then-not-is_end-clause-bad : goal.returns-then-not-is_end-clause-bad
returns-then-not-is_end-clause-bad c =
    let early : (is_end c.last_sort.result && is_nothing c.args.rest) ≡ false =
    elim c.then-not-is_end.branch [
      | then-not-is_end-via-then-not-is_end w ↦ ap (λ (b : Bool). b && is_nothing c.args.rest) (sym c.is_end.ensures ∙ w.if-not-is_end.true)
      | then-not-is_end-via-else-not-is_end+then-not-is_nothing w ↦
          ap (λ (b : Bool). is_end c.last_sort.result && b) (sym w.is_nothing.ensures ∙ w.if-not-is_nothing.true) ∙ and_no (is_end c.last_sort.result)
    ] in
    (c.next_line.ensures, fails_at_end c.args.self c.last_sort.ensures.rules c.args.rest c.last_sort.result c.last_sort.ensures.value early)

pub returns-clause-ok : goal.returns-clause-ok
returns-clause-ok c =
    let ended = sym c.is_end.ensures ∙ c.if-not-is_end.false in
    let empty = sym c.is_nothing.ensures ∙ c.if-not-is_nothing.false in
    record {
      valid = c.into_script.ensures.valid;
      lines = c.into_script.ensures.lines;
      rest_is = nothing_at c.args.rest empty;
      passes = passes_at_end c.args.self c.last_sort.ensures.rules c.args.rest c.last_sort.result c.last_sort.ensures.value (and_both _ _ ended empty);
    }
