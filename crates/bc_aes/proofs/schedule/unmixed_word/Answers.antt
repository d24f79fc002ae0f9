use Rattle.std.proofs.Common.{◌∙◌}
use Rattle.bc_aes.proofs.ScheduleLemmas.{unmixed-substituted}
use Rattle.bc_aes.proofs.schedule.unmixed_word.Goals as goal

pub returns : goal.returns
returns c = record {
  unmixes = c.unmixed.ensures.unmixes ∙ unmixed-substituted c.args.word c.substituted_word-turned.result c.substituted_word-turned.ensures.substitutes;
}
