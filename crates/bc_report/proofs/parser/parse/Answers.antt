use Rattle.std.proofs.Common.{List, ◌∷◌, sym, subst, ◌∙◌, arith}
use Rattle.std.proofs.lemmas.Result.{err_from_is_err_and}
use Rattle.bc_text.specs.Lines.{TextLine}
use Rattle.bc_report.proofs.Parsed.{Underway, start, step, few_lines, some_line, line_refused, all_says, all_refused}
use Rattle.bc_report.proofs.parser.parse.Goals as goal

pub loop-next-init : goal.loop-next-init
loop-next-init c = start c.args.text.now c.new-reader.result (c.in-Some.line ∷ c.next.new.self) (sym c.new-lines.ensures ∙ c.in-Some.ensures) c.new-reader.ensures.nothing_read c.new-reader.ensures.at_head c.new-reader.ensures.rules

pub unreachable-requires : goal.unreachable-requires
unreachable-requires c = some_line c.args.text.now (sym c.new-lines.ensures ∙ c.in_default.ensures.0)

pub overflow_add-number : goal.overflow_add-number
overflow_add-number c =
    let here = c.loop-next in
    let underway = subst (λ (left : List TextLine). Underway c.args.text.now here.reader (here.line ∷ left) here.number) c.in-Some-next.ensures here.invariant in
    let few = few_lines c.args.text.now here.reader here.line c.in-Some-next.next c.next-in-loop-next.new.self here.number underway in
    omega (arith, few, c.requires)

pub loop-next-preserved : goal.loop-next-preserved
loop-next-preserved c =
    let here = c.loop-next in
    let underway = subst (λ (left : List TextLine). Underway c.args.text.now here.reader (here.line ∷ left) here.number) c.in-Some-next.ensures here.invariant in
    step c.args.text.now here.reader c.take.new.reader here.line (c.in-Some-next.next ∷ c.next-in-loop-next.new.self) here.number underway c.in_ok-take.ensures.ok

pub returns-in_err-take-clause-refused : goal.returns-in_err-take-clause-refused
returns-in_err-take-clause-refused c =
    let p = err_from_is_err_and c.from_residual.result c.from_residual.ensures.1 in
    let here = c.loop-next in
    let underway = subst (λ (left : List TextLine). Underway c.args.text.now here.reader (here.line ∷ left) here.number) c.in-Some-next.ensures here.invariant in
    rw (p.1, p.2) (line_refused c.args.text.now here.reader here.line c.in-Some-next.next c.next-in-loop-next.new.self here.number underway c.in_err-take.field-0.0 c.in_err-take.ensures.bad)

pub returns-clause-says : goal.returns-clause-says
returns-clause-says c =
    let here = c.loop-next in
    let none = rw c.in_default-next.is at c.next-in-loop-next.ensures in
    let underway = subst (λ (left : List TextLine). Underway c.args.text.now here.reader (here.line ∷ left) here.number) none.0 here.invariant in
    all_says c.args.text.now here.reader here.line here.number underway c.finish.result c.finish.ensures.ok

pub returns-clause-refused : goal.returns-clause-refused
returns-clause-refused c =
    let here = c.loop-next in
    let none = rw c.in_default-next.is at c.next-in-loop-next.ensures in
    let underway = subst (λ (left : List TextLine). Underway c.args.text.now here.reader (here.line ∷ left) here.number) none.0 here.invariant in
    all_refused c.args.text.now here.reader here.line here.number underway c.finish.result c.finish.ensures.bad
