use Rattle.std.proofs.Common.{◌≡◌, ◌∙◌, codes, ap, ap₂, subst, map}
use Rattle.std.proofs.lemmas.Result.{IfOk-weaker}
use Rattle.std.specs.String.{string_bytes}
use Rattle.std.specs.Prelude.{Some}
use Rattle.clap.specs.Words.{App, FailsBy, app_of, fault_of, is_simple_and_free, with_rule}
use Rattle.clap.specs.declared.builder.value_parser.ValueParser.TheVariants.{Unsigned}
use Rattle.bc_run.specs.Words.{script_command}
use Rattle.bc_run.proofs.Given.{number_given}
use Rattle.bc_run.proofs.words.matches_of_words.Goals as goal

pub returns-clause-faults : goal.returns-clause-faults
returns-clause-faults c =
    let is : app_of c.in_ok-command.command ≡ script_command =
    c.in_ok-command.ensures.shape c.option_named-2.ensures.local
    ∙ ap₂ with_rule (c.in_ok-arg-2.ensures.shape c.option_named.ensures.local
    ∙ ap₂ with_rule (c.in_ok-arg.ensures.shape c.number_named.ensures.local ∙ ap₂ with_rule c.new.ensures.app c.number_named.ensures.rule) c.option_named.ensures.rule) c.option_named-2.ensures.rule in
    subst (λ (a : App). FailsBy (fault_of a (map string_bytes c.args.words.now)) c.try_get_matches_from.result) is
    (c.try_get_matches_from.ensures.kinds (ap is_simple_and_free is))

pub returns-clause-range : goal.returns-clause-range
returns-clause-range c =
    let ia : c.number_named.result.id.now ≡ codes "shards" = ap (λ r. r.id) c.number_named.ensures.rule in
    let ib : c.option_named.result.id.now ≡ codes "image" = ap (λ r. r.id) c.option_named.ensures.rule in
    let ic : c.option_named-2.result.id.now ≡ codes "out" = ap (λ r. r.id) c.option_named-2.ensures.rule in
    let parser : c.number_named.result.value_parser ≡ Some (Unsigned 1 64) = ap (λ r. r.parser) c.number_named.ensures.rule in
    IfOk-weaker c.try_get_matches_from.result _ _ (λ m p.
    number_given c.new.result c.in_ok-arg.field-0 c.in_ok-arg-2.field-0 c.in_ok-command.command
    c.number_named.result c.option_named.result c.option_named-2.result m 1 64
    c.in_ok-arg.ensures c.in_ok-arg-2.ensures c.in_ok-command.ensures
    c.new.ensures.empty.0 c.new.ensures.empty.1 c.new.ensures.local
    c.number_named.ensures.plain c.option_named.ensures.plain c.option_named-2.ensures.plain
    c.number_named.ensures.local c.option_named.ensures.local c.option_named-2.ensures.local
    ia ib ic parser p) c.try_get_matches_from.ensures.parsed
