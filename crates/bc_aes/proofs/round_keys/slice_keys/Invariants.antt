use Rattle.bc_aes.specs.Columns.{schedule_bytes}
use Rattle.bc_aes.proofs.RoundKeyLemmas.{FirstAreRoundKeys}
use Rattle.bc_aes.proofs.round_keys.slice_keys.Given as goal

abbrev pub invariant-loop-round : goal.invariant-loop-round
invariant-loop-round l = FirstAreRoundKeys (schedule_bytes l.schedule) l.keys l.round
