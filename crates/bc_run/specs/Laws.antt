-- The law of runs by one caller that were written: a script's text, the words and the files decide
-- the text that `serial` writes and the image that it leaves. And what words of a command mean, for
-- examples.
use Rattle.std.specs.Prelude.{◌≡◌, ℕ, false, List, [], ◌∷◌, Some, codes}
use Rattle.bc_base.specs.Folders.{Files}
use Rattle.clap.specs.Words.{fault_of}
use Rattle.clap.specs.declared.error.kind.ErrorKind.{ErrorKind}
use Rattle.bc_run.specs.Words.{IsMakeCommand, IsScriptCommand, MakeOptions, Options, make_command}
use Rattle.bc_run.specs.Words.{make_options_of, options_of, script_command}
use Rattle.bc_run.specs.Making.{IsMade}
use Rattle.bc_run.specs.Command.{IsCarriedOut, IsScriptAnd}

-- with these files and options the text was carried out, with this report and this image
abbrev pub IsDone : Files → Options → List ℕ → List ℕ → List ℕ → Type 0
IsDone files options text report left =
    IsScriptAnd (IsCarriedOut (λ written after. (written ≡ report) × (after ≡ left)) (Some files) options) (Some text)

-- where a text is carried out twice over the same files, section after section, one text is written
-- and one image left
abbrev pub WrittenTextsAgree : Type 0
WrittenTextsAgree =
    (files : Files) (options : Options) (text one other one_left other_left : List ℕ)
    → options.at_once ≡ false
    → IsDone files options text one one_left
    → IsDone files options text other other_left
    → (one ≡ other) × (one_left ≡ other_left)

-- `serial` with these words after it
abbrev pub after_serial : List (List ℕ) → List (List ℕ)
after_serial words = codes "serial" ∷ words

-- `threads` with these words after it
abbrev pub after_threads : List (List ℕ) → List (List ℕ)
after_threads words = codes "threads" ∷ words

-- these words of a command that carries a script out are taken, with these options
abbrev pub Mean : List (List ℕ) → Options → Type 0
Mean words options = IsScriptCommand words × (options_of words ≡ options)

-- these words of such a command are refused, by this kind of error
abbrev pub AreRefused : List (List ℕ) → ErrorKind → Type 0
AreRefused words kind = fault_of script_command words ≡ kind ∷ []

-- the first number of `make` decides its line, whatever the keyslots and shards, section after
-- section or all at once
abbrev pub MadeLinesAgree : Type 0
MadeLinesAgree =
    (options other_options : MakeOptions) (one other : List ℕ)
    → options.n ≡ other_options.n
    → IsMade (λ line. line ≡ one) options
    → IsMade (λ line. line ≡ other) other_options
    → one ≡ other

-- after `make` these words are taken, with these options
abbrev pub MakeMeans : List (List ℕ) → MakeOptions → Type 0
MakeMeans words options = IsMakeCommand (codes "make" ∷ words) × (make_options_of (codes "make" ∷ words) ≡ options)

-- after `make` these words are refused, by this kind of error
abbrev pub MakeRefuses : List (List ℕ) → ErrorKind → Type 0
MakeRefuses words kind = fault_of make_command (codes "make" ∷ words) ≡ kind ∷ []
