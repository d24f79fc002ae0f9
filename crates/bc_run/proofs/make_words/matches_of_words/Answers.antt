use Rattle.std.proofs.Common.{◌≡◌, ◌∙◌, ap, ap₂, subst, map, IfOk}
use Rattle.std.proofs.lemmas.Result.{IfOk-weaker}
use Rattle.std.specs.String.{string_bytes}
use Rattle.clap.specs.Words.{App, FailsBy, app_of, HasMatchesOf, fault_of, is_simple_and_free, with_rule}
use Rattle.bc_run.specs.Words.{make_command}
use Rattle.bc_run.proofs.MakeWords.{numbers_given}
use Rattle.bc_run.proofs.make_words.matches_of_words.Goals as goal

pub returns-clause-found : goal.returns-clause-found
returns-clause-found c =
    let is : app_of c.in_ok-command.command ≡ make_command =
    c.in_ok-command.ensures.shape c.flag_named.ensures.local
    ∙ ap₂ with_rule (c.in_ok-arg-3.ensures.shape c.number_named-2.ensures.local
    ∙ ap₂ with_rule (c.in_ok-arg-2.ensures.shape c.number_named.ensures.local
    ∙ ap₂ with_rule (c.in_ok-arg.ensures.shape c.required_named.ensures.local ∙ ap₂ with_rule c.new.ensures.app c.required_named.ensures.rule) c.number_named.ensures.rule) c.number_named-2.ensures.rule) c.flag_named.ensures.rule in
    subst (λ (a : App). IfOk c.try_get_matches_from.result (HasMatchesOf a (map string_bytes c.args.words.now))) is c.try_get_matches_from.ensures.matches

pub returns-clause-faults : goal.returns-clause-faults
returns-clause-faults c =
    let is : app_of c.in_ok-command.command ≡ make_command =
    c.in_ok-command.ensures.shape c.flag_named.ensures.local
    ∙ ap₂ with_rule (c.in_ok-arg-3.ensures.shape c.number_named-2.ensures.local
    ∙ ap₂ with_rule (c.in_ok-arg-2.ensures.shape c.number_named.ensures.local
    ∙ ap₂ with_rule (c.in_ok-arg.ensures.shape c.required_named.ensures.local ∙ ap₂ with_rule c.new.ensures.app c.required_named.ensures.rule) c.number_named.ensures.rule) c.number_named-2.ensures.rule) c.flag_named.ensures.rule in
    subst (λ (a : App). FailsBy (fault_of a (map string_bytes c.args.words.now)) c.try_get_matches_from.result) is
    (c.try_get_matches_from.ensures.kinds (ap is_simple_and_free is))

pub returns-clause-pairs : goal.returns-clause-pairs
returns-clause-pairs c =
    IfOk-weaker c.try_get_matches_from.result _ _ (λ m p. (numbers_given c.new.result c.in_ok-arg.field-0 c.in_ok-arg-2.field-0 c.in_ok-arg-3.field-0 c.in_ok-command.command
    c.required_named.result c.number_named.result c.number_named-2.result c.flag_named.result m 2048 32 64
    c.in_ok-arg.ensures c.in_ok-arg-2.ensures c.in_ok-arg-3.ensures c.in_ok-command.ensures
    c.new.ensures.empty.0 c.new.ensures.empty.1 c.new.ensures.local
    c.required_named.ensures.plain c.number_named.ensures.plain c.number_named-2.ensures.plain c.flag_named.ensures.plain
    c.required_named.ensures.local c.number_named.ensures.local c.number_named-2.ensures.local c.flag_named.ensures.local
    (record {
      first = ap (λ r. r.id) c.required_named.ensures.rule;
      second = ap (λ r. r.id) c.number_named.ensures.rule;
      third = ap (λ r. r.id) c.number_named-2.ensures.rule;
      fourth = ap (λ r. r.id) c.flag_named.ensures.rule;
    })
    (ap (λ r. r.parser) c.required_named.ensures.rule) (ap (λ r. r.parser) c.number_named.ensures.rule) (ap (λ r. r.parser) c.number_named-2.ensures.rule) p).pairs) c.try_get_matches_from.ensures.parsed

pub returns-clause-slots : goal.returns-clause-slots
returns-clause-slots c =
    IfOk-weaker c.try_get_matches_from.result _ _ (λ m p. (numbers_given c.new.result c.in_ok-arg.field-0 c.in_ok-arg-2.field-0 c.in_ok-arg-3.field-0 c.in_ok-command.command
    c.required_named.result c.number_named.result c.number_named-2.result c.flag_named.result m 2048 32 64
    c.in_ok-arg.ensures c.in_ok-arg-2.ensures c.in_ok-arg-3.ensures c.in_ok-command.ensures
    c.new.ensures.empty.0 c.new.ensures.empty.1 c.new.ensures.local
    c.required_named.ensures.plain c.number_named.ensures.plain c.number_named-2.ensures.plain c.flag_named.ensures.plain
    c.required_named.ensures.local c.number_named.ensures.local c.number_named-2.ensures.local c.flag_named.ensures.local
    (record {
      first = ap (λ r. r.id) c.required_named.ensures.rule;
      second = ap (λ r. r.id) c.number_named.ensures.rule;
      third = ap (λ r. r.id) c.number_named-2.ensures.rule;
      fourth = ap (λ r. r.id) c.flag_named.ensures.rule;
    })
    (ap (λ r. r.parser) c.required_named.ensures.rule) (ap (λ r. r.parser) c.number_named.ensures.rule) (ap (λ r. r.parser) c.number_named-2.ensures.rule) p).slots) c.try_get_matches_from.ensures.parsed

pub returns-clause-shards : goal.returns-clause-shards
returns-clause-shards c =
    IfOk-weaker c.try_get_matches_from.result _ _ (λ m p. (numbers_given c.new.result c.in_ok-arg.field-0 c.in_ok-arg-2.field-0 c.in_ok-arg-3.field-0 c.in_ok-command.command
    c.required_named.result c.number_named.result c.number_named-2.result c.flag_named.result m 2048 32 64
    c.in_ok-arg.ensures c.in_ok-arg-2.ensures c.in_ok-arg-3.ensures c.in_ok-command.ensures
    c.new.ensures.empty.0 c.new.ensures.empty.1 c.new.ensures.local
    c.required_named.ensures.plain c.number_named.ensures.plain c.number_named-2.ensures.plain c.flag_named.ensures.plain
    c.required_named.ensures.local c.number_named.ensures.local c.number_named-2.ensures.local c.flag_named.ensures.local
    (record {
      first = ap (λ r. r.id) c.required_named.ensures.rule;
      second = ap (λ r. r.id) c.number_named.ensures.rule;
      third = ap (λ r. r.id) c.number_named-2.ensures.rule;
      fourth = ap (λ r. r.id) c.flag_named.ensures.rule;
    })
    (ap (λ r. r.parser) c.required_named.ensures.rule) (ap (λ r. r.parser) c.number_named.ensures.rule) (ap (λ r. r.parser) c.number_named-2.ensures.rule) p).shards) c.try_get_matches_from.ensures.parsed
