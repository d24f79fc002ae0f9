-- What the stages of `run` answer: the status that a stage ends with, what the options say as text,
-- why a text was not read as a script, and why there is no image. No public contract rests on
-- belief in these.
use Rattle.std.specs.Prelude.{◌≡◌, ⊤, ℕ, List, Option, Result, Ok, Err, option_map, is_some, true, IsSomeAnd}
use Rattle.std.specs.Borrow.{Bor}
use Rattle.bc_base.specs.Folders.{Files, HasLonger, Lacks}
use Rattle.bc_script.specs.Script.{Script}
use Rattle.bc_run.specs.declared.status.Status.{Status}
use Rattle.bc_run.specs.declared.status.Status.TheVariants as statuses
use Rattle.bc_run.specs.declared.image.TheConstants.{MAX_IMAGE}
use Rattle.bc_run.specs.declared.words.Options.{Options as Read}
use Rattle.bc_run.specs.declared.make_words.Making.{Making}
use Rattle.bc_run.specs.Words.{MakeOptions, Options}
use Rattle.bc_run.specs.Command.{HasAnotherLength, HasError}

-- the status of a stage: its error's, or Ok
abbrev pub status_of : {X : Type 0} → Result X Status → Status
status_of (Ok value) = statuses.Ok
status_of (Err status) = status

-- the text that a reference lends, where there is one
abbrev pub text_of : Option (Bor (List ℕ)) → Option (List ℕ)
text_of = option_map (λ s. s.now)

-- what options that were read say
abbrev pub said_by : Read → Options
said_by options = record {
  image = text_of options.image;
  out = text_of options.out;
  shards = options.shards;
  at_once = options.at_once;
}

-- what numbers of `make` that were read say
abbrev pub options_of_making : Making → MakeOptions
options_of_making making =
    record { n = making.n; slots = making.slots; shards = making.shards; at_once = making.at_once }

-- a text was not read: no script has it, and this is its error; or there was no memory
abbrev pub IsNotRead : List ℕ → Status → Type 0
IsNotRead text (statuses.BadScript error) = HasError error text
IsNotRead text statuses.NoMemory = ⊤
IsNotRead text other = ⊥

-- there is no image to begin with: getting it failed, the folder doesn't have it or has too much,
-- its length isn't the one that is asked for, or there was no memory
abbrev pub HasNoImage : Option Files → Option (List ℕ) → Script → Status → Type 0
HasNoImage files name script statuses.FolderFault = is_some name ≡ true
HasNoImage files name script statuses.Missing = IsSomeAnd name (Lacks files)
HasNoImage files name script (statuses.TooLong limit) =
    (limit ≡ MAX_IMAGE) × IsSomeAnd name (λ n. HasLonger files n limit)
HasNoImage files name script (statuses.ImageLength want got) = HasAnotherLength files name script want got
HasNoImage files name script statuses.NoMemory = ⊤
HasNoImage files name script other = ⊥
