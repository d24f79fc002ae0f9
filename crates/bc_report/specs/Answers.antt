-- The answers of a report: a bio's is that of the outcome, or its refusal; another operation's is
-- its own word. The digest of what was read is SHA-256 (FIPS 180-4).
use Rattle.std.specs.Prelude.{◌≡◌, ℕ, ◌==◌, List, [], ◌∷◌, MatchOption, ⊤, if◌then◌else◌}
use Rattle.std.specs.List.{list_all, enumerate_from, AllZip}
use Rattle.std.specs.Option.{option_map_or}
use Rattle.sha2.specs.Sha256.{sha256}
use Rattle.bc_bio.specs.declared.extent.Extent.{Extent}
use Rattle.bc_medium.specs.Outcome.{Run, BioAnswer, Wrote, Bytes, Fault, bio_answer}
use Rattle.bc_script.specs.declared.op.Op.{Op}
use Rattle.bc_script.specs.declared.op.Op.TheVariants as ops
use Rattle.bc_script.specs.Script.{Script}
use Rattle.bc_script.specs.Bios.{bio_of, refusal_of}
use Rattle.bc_report.specs.declared.answer.Answer.{Answer}
use Rattle.bc_report.specs.declared.answer.Answer.TheVariants as answers

-- bytes that are all equal are reported by that byte, and others by SHA-256 of them
abbrev pub read_answer : List ℕ → Answer
read_answer [] = answers.ReadSum (sha256 [])
read_answer (byte ∷ bytes) =
    if list_all (λ other. other == byte) bytes then answers.ReadFill byte
    else answers.ReadSum (sha256 (byte ∷ bytes))

-- how a report gives what the keyed disk answers
abbrev pub answer_of_outcome : BioAnswer → Answer
answer_of_outcome Wrote = answers.Wrote
answer_of_outcome (Bytes bytes) = read_answer bytes
answer_of_outcome (Fault unit) = answers.Fault unit

-- the answer of a bio
abbrev pub answer_of_bio : Script → Run → ℕ → ℕ → Extent → Answer
answer_of_bio script run thread op bio =
    option_map_or answers.Refused (refusal_of script bio)
    (answer_of_outcome (bio_answer run bio.access thread op))

-- an operation that submits no bio is answered by its own word; what an eviction may be answered,
-- the point on evictions says
abbrev pub IsOwnWord : Op → Answer → Type 0
IsOwnWord (ops.Evict key) answer = ⊤
IsOwnWord (ops.Reset device) answer = answer ≡ answers.Reset
IsOwnWord ops.Plug answer = answer ≡ answers.Plug
IsOwnWord ops.Unplug answer = answer ≡ answers.Unplug
IsOwnWord _ answer = ⊥

-- what operation number op of a thread is answered
abbrev pub IsAnswerTo : Script → Run → ℕ → ℕ × Op → Answer → Type 0
IsAnswerTo script run thread (op, operation) answer =
    MatchOption (bio_of operation) (IsOwnWord operation answer)
    (λ bio. answer ≡ answer_of_bio script run thread op bio)

-- a section has an answer for each of its operations
abbrev pub AreAnswersTo : Script → Run → ℕ × List Op → List Answer → Type 0
AreAnswersTo script run (thread, section) answers =
    AllZip (IsAnswerTo script run thread) (enumerate_from 0 section) answers

-- and the report a list of answers for each section
abbrev pub HasAnswers : Script → Run → List (List Answer) → Type 0
HasAnswers script run threads =
    AllZip (AreAnswersTo script run) (enumerate_from 0 script.threads) threads
