use Rattle.std.proofs.Common.{List, ◌∷◌, sym, subst, ◌∙◌}
use Rattle.std.proofs.lemmas.Result.{err_from_is_err_and}
use Rattle.bc_text.specs.Lines.{TextLine}
use Rattle.bc_script.proofs.Parsed.{Underway, some_line, line_refused, says, refuses}
use Rattle.bc_script.proofs.parser.parse.Goals as goal

pub unreachable-requires : goal.unreachable-requires
unreachable-requires c =
    let none = rw c.in_default.is at c.next.ensures in
    some_line c.args.text.now (sym c.new-lines.ensures ∙ none.0)

pub returns-in_err-take-clause-refused : goal.returns-in_err-take-clause-refused
returns-in_err-take-clause-refused c =
    let p = err_from_is_err_and c.from_residual.result c.from_residual.ensures.1 in
    let here = c.loop-next in
    let underway = subst (λ (left : List TextLine). Underway c.args.text.now here.reader (here.line ∷ left)) c.in-Some-next.ensures here.invariant in
    rw (p.1, p.2) (line_refused c.args.text.now here.reader here.line c.in-Some-next.next c.next-in-loop-next.new.self underway c.in_err-take.field-0.0 c.in_err-take.ensures.bad)

pub returns-clause-says : goal.returns-clause-says
returns-clause-says c =
    let here = c.loop-next in
    let none = rw c.in_default-next.is at c.next-in-loop-next.ensures in
    let underway = subst (λ (left : List TextLine). Underway c.args.text.now here.reader (here.line ∷ left)) none.0 here.invariant in
    says c.args.text.now here.reader here.line underway c.finish.result c.finish.ensures.ok

pub returns-clause-refused : goal.returns-clause-refused
returns-clause-refused c =
    let here = c.loop-next in
    let none = rw c.in_default-next.is at c.next-in-loop-next.ensures in
    let underway = subst (λ (left : List TextLine). Underway c.args.text.now here.reader (here.line ∷ left)) none.0 here.invariant in
    refuses c.args.text.now here.reader here.line underway c.finish.result c.finish.ensures.bad
