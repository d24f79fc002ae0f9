use Rattle.std.proofs.Common.{sym, ◌∙◌, ap}
use Rattle.bc_script.specs.declared.sort.Sort.{Sort}
use Rattle.bc_script.specs.Order.{may_follow}
use Rattle.bc_script.specs.Lent.{form_lent}
use Rattle.bc_script.proofs.FormLines.{IsLineOf-form_of}
use Rattle.bc_script.proofs.Refusals.{behind_end, no_form_there, elsewhere, tests_are, follows_here}
use Rattle.bc_script.proofs.Sayings.{next_is, next_told}
use Rattle.bc_script.proofs.reader.Reader.statement.Goals as goal

pub returns-then-is_end-clause-bad : goal.returns-then-is_end-clause-bad
returns-then-is_end-clause-bad c = behind_end c.args.self.now c.args.line c.last_sort-last.result c.last_sort-last.ensures.rules c.last_sort-last.ensures.value (sym c.is_end.ensures ∙ c.if-is_end.true)

pub returns-in_default-clause-bad : goal.returns-in_default-clause-bad
returns-in_default-clause-bad c =
    no_form_there c.args.self.now c.args.line c.last_sort-last.result c.last_sort-last.ensures.rules c.last_sort-last.ensures.value (sym c.is_end.ensures ∙ c.if-is_end.false) c.in_default.ensures

pub returns-then-not-may_follow-clause-bad : goal.returns-then-not-may_follow-clause-bad
returns-then-not-may_follow-clause-bad c =
    elsewhere c.args.self.now c.args.line c.last_sort-last.result c.last_sort-last.ensures.rules c.last_sort-last.ensures.value (form_lent c.in-Some.form) c.in-Some.ensures (sym c.is_end.ensures ∙ c.if-is_end.false)
    (ap (λ (s : Sort). may_follow c.last_sort-last.result s) (sym c.sort.ensures) ∙ sym c.may_follow.ensures ∙ c.if-not-may_follow.true)

pub statement_of_form-requires : goal.statement_of_form-requires
statement_of_form-requires c = (IsLineOf-form_of c.args.line (form_lent c.in-Some.form) (sym c.in-Some.ensures)).agrees

pub returns-clause-ok : goal.returns-clause-ok
returns-clause-ok c =
    next_is c.args.self.now c.args.line (form_lent c.in-Some.form) c.statement_of_form.result c.last_sort-last.ensures.rules (IsLineOf-form_of c.args.line (form_lent c.in-Some.form) (sym c.in-Some.ensures)).line_is
    (follows_here c.args.self.now c.last_sort-last.result (form_lent c.in-Some.form) c.sort.result c.may_follow.result c.last_sort-last.ensures.value c.sort.ensures c.may_follow.ensures c.if-not-may_follow.false) c.statement_of_form.ensures

pub returns-clause-bad : goal.returns-clause-bad
returns-clause-bad c =
    next_told c.args.self.now c.args.line (form_lent c.in-Some.form) c.statement_of_form.result
    (tests_are c.args.self.now c.args.line c.last_sort-last.result c.last_sort-last.ensures.rules c.last_sort-last.ensures.value (form_lent c.in-Some.form) c.in-Some.ensures (sym c.is_end.ensures ∙ c.if-is_end.false)
    (ap (λ (s : Sort). may_follow c.last_sort-last.result s) (sym c.sort.ensures) ∙ sym c.may_follow.ensures ∙ c.if-not-may_follow.false))
    c.statement_of_form.ensures
