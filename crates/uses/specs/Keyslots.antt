-- Callers of one device, each in a thread of its own: what their answers tell of the journal that they leave.
use Rattle.std.specs.Prelude.{◌≡◌, ◌⊎◌, ℕ, ◌+◌, ◌<◌, ◌≤◌, List, [], ◌∷◌, ◌++◌, length, slice_index_or, Option, Some, None, IsSome, IfSome, ⊤}
use Rattle.std.specs.Option.{option_map}
use Rattle.bc_base.specs.Lists.{Each, EachFrom, list_at}
use Rattle.bc_base.specs.Story.{own, IsFront}
use Rattle.bc_key.specs.declared.keys.KeyNo.{KeyNo}
use Rattle.bc_profile.specs.declared.event.Event.{Event}
use Rattle.bc_profile.specs.declared.event.Event.TheVariants as events
use Rattle.bc_profile.specs.declared.noted.Noted.{Noted}
use Rattle.bc_profile.specs.declared.skips.Skip.{Skip}
use Rattle.bc_profile.specs.SlotJournal.{IsLawful}
use Rattle.bc_profile.specs.Story.{Programs, author_of, events_of, notes}
use Rattle.bc_profile.specs.Passes.{ProfileData, SlotFacts, HasSpare, IsFree, IsOf, Noticed, base_in, made_by, quota_of}
use Rattle.bc_profile.specs.declared.limits.TheConstants.{ROW_WORDS}
use Rattle.uses.specs.declared.keyslots.SlotCall.{SlotCall}
use Rattle.uses.specs.declared.keyslots.SlotCall.TheVariants as calls
use Rattle.uses.specs.declared.keyslots.SlotAnswer.{SlotAnswer}
use Rattle.uses.specs.declared.keyslots.SlotAnswer.TheVariants as answers
use Rattle.uses.specs.declared.keyslots.CallerDone.{CallerDone}
use Rattle.uses.specs.declared.keyslots.Caller.{Caller}

-- what a call that was answered so adds to the journal
abbrev pub AddsToJournal : SlotAnswer → List Event → Type 0
AddsToJournal (answers.Held slot key epoch) made =
    (made ≡ []) ⊎ ((skipped : List Skip) × (made ≡ events.Program slot key skipped ∷ []))
AddsToJournal (answers.Back slot) made = (made ≡ []) ⊎ (made ≡ events.Idle slot ∷ [])
AddsToJournal (answers.Evicted key) made = (made ≡ []) ⊎ ((slot : ℕ) × (made ≡ events.Evict slot key ∷ []))
AddsToJournal (answers.Busy slot key refs) made = made ≡ events.Busy slot key refs ∷ []
AddsToJournal answers.Reset made = made ≡ events.Reset ∷ []
AddsToJournal (answers.Loaded key register value) made = made ≡ []
AddsToJournal answers.Left made = made ≡ []

-- how far a caller is: the key that it holds, and how many events it made
pub record CallProgress : Type 0 where
  pub held : Option ℕ
  pub made : ℕ

-- the caller has made nothing
abbrev pub start : CallProgress
start = record { held = None; made = 0 }

-- the key that a caller holds after an answer
abbrev pub held_after : Option ℕ → SlotAnswer → Option ℕ
held_after held (answers.Held slot key epoch) = Some key
held_after held (answers.Back slot) = None
held_after held (answers.Evicted key) = held
held_after held (answers.Busy slot key refs) = held
held_after held answers.Reset = held
held_after held (answers.Loaded key register value) = held
held_after held answers.Left = held

-- how far it is after an answer and these events
abbrev pub after : CallProgress → SlotAnswer → List Event → CallProgress
after so_far answer made =
    record { held = held_after so_far.held answer; made = so_far.made + length made }

-- why a call is left: a hold that is there or isn't, a key without a row, no such register, or too few events to spare
abbrev pub CallIsLeft : ℕ → ℕ → CallProgress → SlotCall → Type 0
CallIsLeft keys quota so_far (calls.Get key) = IsSome so_far.held ⊎ (keys ≤ key.0) ⊎ (quota < so_far.made + 2)
CallIsLeft keys quota so_far calls.Put = so_far.held ≡ None
CallIsLeft keys quota so_far (calls.Evict key) = IsSome so_far.held ⊎ (keys ≤ key.0) ⊎ (quota < so_far.made + 1)
CallIsLeft keys quota so_far calls.Reset = IsSome so_far.held ⊎ (quota < so_far.made + 1)
CallIsLeft keys quota so_far (calls.Load register) = (so_far.held ≡ None) ⊎ (ROW_WORDS ≤ register)

-- which call is answered so
abbrev pub Answers : ℕ → ℕ → CallProgress → SlotCall → SlotAnswer → Type 0
Answers keys quota so_far call (answers.Held slot key epoch) =
    (asked : KeyNo) × (call ≡ calls.Get asked) × (asked.0 ≡ key)
Answers keys quota so_far call (answers.Back slot) = call ≡ calls.Put
Answers keys quota so_far call (answers.Evicted key) =
    (asked : KeyNo) × (call ≡ calls.Evict asked) × (asked.0 ≡ key)
Answers keys quota so_far call (answers.Busy slot key refs) =
    (asked : KeyNo) × (call ≡ calls.Evict asked) × (asked.0 ≡ key)
Answers keys quota so_far call answers.Reset = call ≡ calls.Reset
Answers keys quota so_far call (answers.Loaded key register value) =
    (call ≡ calls.Load register) × (so_far.held ≡ Some key)
Answers keys quota so_far call answers.Left = CallIsLeft keys quota so_far call

-- from there these calls were answered so, one after the other, and added these events; then the caller is so far
abbrev pub Reaches : ℕ → ℕ → CallProgress → List SlotCall → List SlotAnswer → List Event → CallProgress → Type 0
Reaches keys quota so_far [] [] made end = (made ≡ []) × (so_far ≡ end)
Reaches keys quota so_far [] (answer ∷ told) made end = ⊥
Reaches keys quota so_far (call ∷ others) [] made end = ⊥
Reaches keys quota so_far (call ∷ others) (answer ∷ told) made end =
    (first : List Event) × (rest : List Event) × (made ≡ first ++ rest) × AddsToJournal answer first
    × Answers keys quota so_far call answer × Reaches keys quota (after so_far answer first) others told rest end

-- a hold names the event of the front that programmed its slot with its key, and a register is that of the key's row
abbrev pub Names : List (List ℕ) → List Noted → SlotAnswer → Type 0
Names rows front (answers.Held slot key epoch) = Programs front epoch slot key
Names rows front (answers.Back slot) = ⊤
Names rows front (answers.Evicted key) = ⊤
Names rows front (answers.Busy slot key refs) = ⊤
Names rows front answers.Reset = ⊤
Names rows front (answers.Loaded key register value) = value ≡ slice_index_or (list_at rows key) register 0
Names rows front answers.Left = ⊤

-- the key that a pass holds
abbrev pub held_in : SlotFacts → Option ℕ
held_in pass = option_map (λ hold. hold.key) pass.hold

-- how far the caller of a pass is
abbrev pub progress : SlotFacts → CallProgress
progress pass = record { held = held_in pass; made = length (made_by pass) }

-- how many events the caller of a pass may make
abbrev pub quota_in : ProfileData → ℕ → ℕ
quota_in profile caller = quota_of (base_in profile) caller

-- a call was answered so: the events that it added, and what is true of the front that its pass has seen then
pub record Tells (profile : ProfileData) (old new : SlotFacts) (call : SlotCall) (answer : SlotAnswer) : Type 0 where
  pub made : List Event
  pub noticed : Noticed old new made
  pub adds : AddsToJournal answer made
  pub is_answer : Answers (length profile.rows) (quota_in profile old.caller) (progress old) call answer
  pub held : held_in new ≡ held_after (held_in old) answer
  pub names : Names profile.rows new.seen answer

-- what a caller was answered is true of a prefix: the caller's own events are those that its answers add, in order,
-- each call was answered, and then the caller is so far
pub record AreTrueAnswers (rows : List (List ℕ)) (quota caller : ℕ) (front : List Noted) (asked : List SlotCall)
    (told : List SlotAnswer) (end : CallProgress) : Type 0 where
  pub made : List Event
  pub own_events : own author_of caller front ≡ notes caller made
  pub reached : Reaches (length rows) quota start asked told made end
  pub names : Each (Names rows front) told

-- a caller on its way: the hold that it keeps is that of its pass, and it can give it back
pub record Stands (profile : ProfileData) (caller : Caller) : Type 0 where
  pub pass : IsOf profile caller.pass
  pub hold : caller.pass.hold ≡ caller.hold
  pub spare : IfSome caller.hold (λ hold. HasSpare profile caller.pass 1)

-- a pass of this profile that has seen nothing
abbrev pub IsFresh : ProfileData → SlotFacts → Type 0
IsFresh profile pass = IsFree profile pass × (pass.seen ≡ [])

-- what a caller was answered, where it made its calls
abbrev pub answers_of_caller : CallerDone → Option (List SlotAnswer)
answers_of_caller done = option_map (λ told. told.items) done.told

-- the calls of a caller, after which it gives its hold back
abbrev pub to_the_end : List SlotCall → List SlotCall
to_the_end asked = asked ++ calls.Put ∷ []

-- the caller of this number came back with its pass and without a hold; what it was answered is true of what it has
-- seen
pub record CameBackFrom (profile : ProfileData) (caller : ℕ) (asked : List SlotCall) (done : CallerDone) : Type 0 where
  pub free : IsFree profile done.pass
  pub number : done.pass.caller ≡ caller
  pub told : IfSome (answers_of_caller done) (λ told. (end : CallProgress)
      × AreTrueAnswers profile.rows (quota_in profile caller) caller done.pass.seen (to_the_end asked) told end)

-- each caller came back
abbrev pub SlotCallersCameBack : ProfileData → List (List SlotCall) → List SlotFacts → List CallerDone → Type 0
SlotCallersCameBack profile lists passes done =
    (k : ℕ) (pass : SlotFacts) (one : CallerDone) → k < length passes
    → CameBackFrom profile (slice_index_or passes k pass).caller
    (list_at lists (slice_index_or passes k pass).caller) (slice_index_or done k one)

-- a device and what its callers ask of it: its slots, the row of each key, and by caller the events that it may make and
-- its calls
pub record Asked : Type 0 where
  pub slots : ℕ
  pub rows : List (List ℕ)
  pub quotas : List ℕ
  pub lists : List (List SlotCall)

-- these
abbrev pub asked_of : ℕ → List (List ℕ) → List ℕ → List (List SlotCall) → Asked
asked_of slots rows quotas lists = record { slots = slots; rows = rows; quotas = quotas; lists = lists }

-- what a caller was answered is true of a prefix of the story, which has all of the caller's events
pub record IsToldIn (asked : Asked) (story : List Noted) (caller : ℕ) (told : List SlotAnswer) : Type 0 where
  pub front : List Noted
  pub is_front : IsFront author_of caller front story
  pub end : CallProgress
  pub is_told : AreTrueAnswers asked.rows (slice_index_or asked.quotas caller 0) caller front
      (to_the_end (list_at asked.lists caller)) told end

-- a journal is lawful, what each caller was answered is true of a prefix of it, and nobody else has an event there
pub record IsRun (asked : Asked) (journal : List Event) (told : List (List SlotAnswer)) : Type 0 where
  pub story : List Noted
  pub is_journal : journal ≡ events_of story
  pub lawful : IsLawful asked.slots journal
  pub callers : EachFrom (IsToldIn asked story) 0 told
  pub strangers : (caller : ℕ) → length told ≤ caller → own author_of caller story ≡ []
