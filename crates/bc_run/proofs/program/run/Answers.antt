use Rattle.std.proofs.Common.{refl, inl}
use Rattle.bc_run.proofs.Complete.{complete}
use Rattle.bc_run.proofs.MakeEnds.{by_make, by_script, change_nothing, make_complete, make_usage, no_cause, not_both, not_folder, not_read, script_usage, stay}
use Rattle.bc_run.proofs.program.run.Goals as goal

-- ---- the first word is `make`

pub returns-then-begins-clause-status : goal.returns-then-begins-clause-status
returns-then-begins-clause-status g c = by_make _ _ (c.begins.ensures.yes c.if-begins.true) c.make.ensures.status

pub returns-then-begins-clause-usage : goal.returns-then-begins-clause-usage
returns-then-begins-clause-usage g c = make_usage _ _ _ (c.begins.ensures.yes c.if-begins.true) c.make.ensures.status

pub returns-then-begins-clause-end : goal.returns-then-begins-clause-end
returns-then-begins-clause-end g c = λ serial ok. absurd (not_both _ (c.begins.ensures.yes c.if-begins.true) serial.named)

pub returns-then-begins-clause-make : goal.returns-then-begins-clause-make
returns-then-begins-clause-make g c = λ named. (refl, refl)

pub returns-then-begins-clause-untouched : goal.returns-then-begins-clause-untouched
returns-then-begins-clause-untouched g c = c.make.ensures.untouched

pub returns-then-begins-clause-same : goal.returns-then-begins-clause-same
returns-then-begins-clause-same g c = λ not_ok not_write not_put. stay _

pub returns-then-begins-clause-changes : goal.returns-then-begins-clause-changes
returns-then-begins-clause-changes g c = change_nothing _ _

pub returns-then-begins-clause-unused : goal.returns-then-begins-clause-unused
returns-then-begins-clause-unused g c = λ none. refl

pub returns-then-begins-clause-read_cause : goal.returns-then-begins-clause-read_cause
returns-then-begins-clause-read_cause g c = no_cause _ _ (not_read _ _ _ c.make.ensures.status)

pub returns-then-begins-clause-folder_cause : goal.returns-then-begins-clause-folder_cause
returns-then-begins-clause-folder_cause g c = no_cause _ _ (not_folder _ _ _ c.make.ensures.status)

pub returns-then-begins-clause-write_cause : goal.returns-then-begins-clause-write_cause
returns-then-begins-clause-write_cause g c = c.make.ensures.cause

pub returns-then-begins-clause-complete : goal.returns-then-begins-clause-complete
returns-then-begins-clause-complete g c = λ serial. absurd (not_both _ (c.begins.ensures.yes c.if-begins.true) serial.named)

pub returns-then-begins-clause-make_complete : goal.returns-then-begins-clause-make_complete
returns-then-begins-clause-make_complete g c = make_complete _ _ _ c.make.ensures.status

-- ---- it is not, and the stages ended with a status

pub returns-in-Err-clause-status : goal.returns-in-Err-clause-status
returns-in-Err-clause-status g c = by_script _ _ (c.begins.ensures.no c.if-begins.false) c.in-Err.ensures.status

pub returns-in-Err-clause-usage : goal.returns-in-Err-clause-usage
returns-in-Err-clause-usage g c = script_usage _ _ c.in-Err.ensures.status

pub returns-in-Err-clause-make : goal.returns-in-Err-clause-make
returns-in-Err-clause-make g c = λ named. absurd (c.begins.ensures.no c.if-begins.false named)

pub returns-in-Err-clause-complete : goal.returns-in-Err-clause-complete
returns-in-Err-clause-complete g c = complete c.no_proper_prefix.ensures _ _ c.in-Err.ensures.status

pub returns-in-Err-clause-make_complete : goal.returns-in-Err-clause-make_complete
returns-in-Err-clause-make_complete g c = λ taken none. absurd (c.begins.ensures.no c.if-begins.false taken.named)

-- ---- they went through

pub returns-in-Ok-clause-status : goal.returns-in-Ok-clause-status
returns-in-Ok-clause-status g c = by_script _ _ (c.begins.ensures.no c.if-begins.false) c.in-Ok.ensures.status

pub returns-in-Ok-clause-usage : goal.returns-in-Ok-clause-usage
returns-in-Ok-clause-usage g c = λ none. absurd (none (inl c.in-Ok.ensures.status.0))

pub returns-in-Ok-clause-make : goal.returns-in-Ok-clause-make
returns-in-Ok-clause-make g c = λ named. absurd (c.begins.ensures.no c.if-begins.false named)

pub returns-in-Ok-clause-make_complete : goal.returns-in-Ok-clause-make_complete
returns-in-Ok-clause-make_complete g c = λ taken none. absurd (c.begins.ensures.no c.if-begins.false taken.named)
