-- What an operation of a thread came to, and how a report says it.
use Rattle.std.specs.Prelude.{ℕ, List, [], flat_map}
use Rattle.bc_bio.specs.declared.access.Access.{Access}
use Rattle.bc_bio.specs.declared.access.Access.TheVariants.{Read, Write}
use Rattle.bc_bio.specs.declared.bio.Bio.{Bio}
use Rattle.bc_bio.specs.declared.reply.Reply.{Reply}
use Rattle.bc_bio.specs.declared.reply.Reply.TheVariants as replies
use Rattle.bc_bio.specs.declared.unit.Unit.{Unit}
use Rattle.bc_bio.specs.declared.unit.Unit.TheVariants.{Full}
use Rattle.bc_report.specs.declared.answer.Answer.{Answer}
use Rattle.bc_report.specs.declared.answer.Answer.TheVariants as answers
use Rattle.bc_report.specs.Answers.{read_answer}
use Rattle.bc_threads.specs.declared.outcome.Outcome.{Outcome}
use Rattle.bc_threads.specs.declared.outcome.Outcome.TheVariants as outcomes

-- the bytes that a unit has
abbrev pub bytes_of_unit : Unit → List ℕ
bytes_of_unit (Full bytes) = bytes
bytes_of_unit _ = []

-- the bytes of a bio: those of its units, one after the other
abbrev pub bytes_of_bio : Bio → List ℕ
bytes_of_bio bio = flat_map bytes_of_unit bio.units

-- how a report says that a bio was done
abbrev pub done_answer : Access → Bio → Answer
done_answer Write bio = answers.Wrote
done_answer Read bio = read_answer (bytes_of_bio bio)

-- how it says a reply
abbrev pub answer_of_reply : Reply → Answer
answer_of_reply (replies.Done bio) = done_answer bio.access bio
answer_of_reply (replies.Fault unit bio) = answers.Fault unit
answer_of_reply (replies.Refused refusal bio) = answers.Refused refusal

-- and an outcome
abbrev pub answer_in : Outcome → Answer
answer_in (outcomes.Replied reply) = answer_of_reply reply
answer_in outcomes.Evicted = answers.Evicted
answer_in (outcomes.Busy busy) = answers.Busy busy.device busy.slot busy.refs
answer_in outcomes.Reset = answers.Reset
answer_in outcomes.Plug = answers.Plug
answer_in outcomes.Unplug = answers.Unplug
