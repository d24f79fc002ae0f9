-- The words of a command as `clap` reads them: the simple commands that stand for `serial` and
-- `threads` together and for `make`, which words they take, and the values that their options have
-- then.
use Rattle.std.specs.Prelude.{◌≡◌, ◌⊎◌, ◌≤◌, ℕ, Bool, true, false, List, [], Option, Some, codes, slice_get}
use Rattle.std.specs.Option.{option_map_or}
use Rattle.std.specs.Str.{bytes_eq}
use Rattle.std.specs.Str.Parse.{IsNumeral, digits_value, without_leading_plus}
use Rattle.clap.specs.Words.{App, Rule, fault_of, first_of, matches_of, new_app, new_rule, with_rule}
use Rattle.clap.specs.declared.builder.action.ArgAction.TheVariants.{SetTrue}
use Rattle.clap.specs.declared.builder.value_parser.ValueParser.TheVariants.{Unsigned}

-- an option `--name` with one value
abbrev pub option_rule : List ℕ → Rule
option_rule name = record (new_rule name) { long = Some name }

-- a flag `--name`
abbrev pub flag_rule : List ℕ → Rule
flag_rule name = record (option_rule name) { action = Some SetTrue }

-- an option whose value is a number in this range
abbrev pub number_rule : List ℕ → ℕ → ℕ → Rule
number_rule name least most = record (option_rule name) { parser = Some (Unsigned least most) }

-- a word that has to be given, a number in this range
abbrev pub required_number : List ℕ → ℕ → ℕ → Rule
required_number name least most =
    record (new_rule name) { required = true; parser = Some (Unsigned least most) }

-- `serial` or `threads`, then `[--image NAME] [--out NAME] [--shards N]` with N in 1..=64
abbrev pub script_command : App
script_command =
    with_rule (with_rule (with_rule (new_app (codes "script")) (number_rule (codes "shards") 1 64))
    (option_rule (codes "image"))) (option_rule (codes "out"))

-- `make N [--slots N] [--shards N] [--threads]` with N in 1..=2048, slots in 1..=32 and shards in
-- 1..=64
abbrev pub make_command : App
make_command =
    with_rule (with_rule (with_rule (with_rule (new_app (codes "make")) (required_number (codes "n") 1 2048))
    (number_rule (codes "slots") 1 32)) (number_rule (codes "shards") 1 64)) (flag_rule (codes "threads"))

-- the first word is this one
abbrev pub FirstWordIs : List ℕ → List (List ℕ) → Type 0
FirstWordIs word words = slice_get words 0 ≡ Some word

-- the first word is that of a command which carries a script out
abbrev pub NamesScript : List (List ℕ) → Type 0
NamesScript words = FirstWordIs (codes "serial") words ⊎ FirstWordIs (codes "threads") words

-- the words are those of `serial` or `threads`: that is the first one, and clap finds no fault in
-- the others
pub record IsScriptCommand (words : List (List ℕ)) : Type 0 where
  pub named : NamesScript words
  pub taken : fault_of script_command words ≡ []

-- the words are those of `make`
pub record IsMakeCommand (words : List (List ℕ)) : Type 0 where
  pub named : FirstWordIs (codes "make") words
  pub taken : fault_of make_command words ≡ []

-- the words are valid: they are those of a command
abbrev pub IsCommand : List (List ℕ) → Type 0
IsCommand words = IsScriptCommand words ⊎ IsMakeCommand words

-- the first word is a command's
abbrev pub NamesCommand : List (List ℕ) → Type 0
NamesCommand words = NamesScript words ⊎ FirstWordIs (codes "make") words

-- what the words of `serial` and `threads` say: where the image comes from, where it goes to, over
-- how many shards, and whether all sections are carried out at once
pub record Options : Type 0 where
  pub image : Option (List ℕ)
  pub out : Option (List ℕ)
  pub shards : ℕ
  pub at_once : Bool

-- the number that a value writes
abbrev pub number_of_value : List ℕ → ℕ
number_of_value value = digits_value 10 (without_leading_plus value)

-- the value of an option, where the words have it
abbrev pub option_value : List ℕ → List (List ℕ) → Option (List ℕ)
option_value name words = first_of name (matches_of script_command words)

-- the first word is `threads`
abbrev pub names_threads : List (List ℕ) → Bool
names_threads words = option_map_or (λ word. bytes_eq word (codes "threads")) (slice_get words 0) false

-- what valid words of `serial` or `threads` say: without options an image of zeros, which goes
-- nowhere, over one shard
abbrev pub options_of : List (List ℕ) → Options
options_of words = record {
  image = option_value (codes "image") words;
  out = option_value (codes "out") words;
  shards = option_map_or number_of_value (option_value (codes "shards") words) 1;
  at_once = names_threads words;
}

-- the value is a number within this range, as clap reads a number
abbrev pub IsNumberIn : ℕ → ℕ → List ℕ → Type 0
IsNumberIn least most value =
    IsNumeral 10 (without_leading_plus value) × (least ≤ number_of_value value) × (number_of_value value ≤ most)

-- a number of shards that a run may have
abbrev pub IsShardCount : ℕ → Type 0
IsShardCount n = (1 ≤ n) × (n ≤ 64)

-- what the words of `make` say: how many pairs of a write and a read each thread has, how many
-- keyslots the device has, over how many shards the image lies, and whether all sections are
-- carried out at once
pub record MakeOptions : Type 0 where
  pub n : ℕ
  pub slots : ℕ
  pub shards : ℕ
  pub at_once : Bool

-- the number that an option of `make` has, where the words have it, and else this one
abbrev pub made_number : List ℕ → ℕ → List (List ℕ) → ℕ
made_number name other words = option_map_or number_of_value (first_of name (matches_of make_command words)) other

-- whether a flag is set, by its value
abbrev pub is_set : Option (List ℕ) → Bool
is_set value = option_map_or (λ text. bytes_eq text (codes "true")) value false

-- what valid words of `make` say, which have the first number: without options one keyslot, eight
-- shards, and one section after the other
abbrev pub make_options_of : List (List ℕ) → MakeOptions
make_options_of words = record {
  n = made_number (codes "n") 1 words;
  slots = made_number (codes "slots") 1 words;
  shards = made_number (codes "shards") 8 words;
  at_once = is_set (first_of (codes "threads") (matches_of make_command words));
}

-- the numbers are in the ranges of the options of `make`
pub record AreMakeOptions (options : MakeOptions) : Type 0 where
  pub n : (1 ≤ options.n) × (options.n ≤ 2048)
  pub slots : (1 ≤ options.slots) × (options.slots ≤ 32)
  pub shards : IsShardCount options.shards
