-- What the fields of an operation's line say, after the lines that have been read. The contracts of
-- private functions speak of this; no public one does.
use Rattle.std.specs.Prelude.{◌≡◌, ◌≢◌, ℕ, ◌^◌, ◌<◌, ◌≤◌, ◌&&◌, not, true, IsTrue, List, length, Option, Some, None}
use Rattle.std.specs.Fmt.{decimal}
use Rattle.hex.specs.Hex.{IsBytes}
use Rattle.bc_key.specs.NumberText.{number_text}
use Rattle.bc_key.specs.declared.keys.KeyNo.{KeyNo}
use Rattle.bc_bio.specs.declared.context.Context.{Context}
use Rattle.bc_script.specs.declared.op.Text.{Text}
use Rattle.bc_script.specs.declared.op.Text.TheVariants as texts
use Rattle.bc_script.specs.declared.statement.Unread.{Unread}
use Rattle.bc_script.specs.declared.reader.line.BioFields.{BioFields}
use Rattle.bc_script.specs.Name.{is_name}
use Rattle.bc_script.specs.Script.{IsContext, bare_keys, max_bio_units}
use Rattle.bc_script.specs.ScriptText.{dash, key_field, number_field, text_fields}
use Rattle.bc_script.specs.Forms.{BioForm, TextForm}
use Rattle.bc_script.specs.ScriptErrors.{Why, bio_tests, is_declared, is_number_text, is_text, number_in}
use Rattle.bc_script.specs.Progress.{Progress, forms_read}
use Rattle.bc_script.specs.NamedKeys.{IsNamed, IsNoName}
use Rattle.bc_script.specs.Statements.{Reports, text_line}

-- a name that no key has yet
pub record IsNewName (p : Progress) (field name : List ℕ) : Type 0 where
  pub name_is : name ≡ field
  pub rule : IsTrue (is_name field)
  pub fresh : IsNoName p.keys field
  pub passes : (is_name field && not (is_declared field (forms_read p))) ≡ true

-- the key with this name
pub record IsDeclared (p : Progress) (field : List ℕ) (key : KeyNo) : Type 0 where
  pub named : IsNamed p.keys field key
  pub passes : is_declared field (forms_read p) ≡ true

-- the key with this name, or none where `-` stands for it
abbrev pub SaysKey : Progress → List ℕ → Option KeyNo → Type 0
SaysKey p field None = field ≡ dash
SaysKey p field (Some key) = (field ≢ dash) × IsDeclared p field key

-- a data unit number, or none where `-` stands for it
abbrev pub SaysNumberField : List ℕ → Option ℕ → Type 0
SaysNumberField field None = field ≡ dash
SaysNumberField field (Some n) = (field ≢ dash) × (is_number_text field ≡ true) × (field ≡ number_text n)
    × (n < 2 ^ 256)

-- a key and a number make a context
abbrev pub context_with : Option KeyNo → Option ℕ → Option Context
context_with (Some key) (Some n) = Some (record { key = key; dun = n })
context_with _ _ = None

-- the fields of a bio pass their tests, and say these values
pub record SaysBio (p : Progress) (bio : BioForm) (fields : BioFields) : Type 0 where
  pub passes : (next : Why) → bio_tests (forms_read p) bio next ≡ next
  pub key_is : bio.key ≡ key_field p.keys fields.context
  pub sector_is : bio.sector ≡ decimal fields.sector
  pub units_is : bio.units ≡ decimal fields.units
  pub number_is : bio.number ≡ number_field fields.context
  pub context_is : IsContext (bare_keys p.keys) fields.context
  pub sector_fits : fields.sector < 2 ^ 32
  pub few_units : fields.units ≤ max_bio_units
  pub units_in : number_in bio.units ≡ fields.units

-- the fields of a bio fail this test, whatever stands after them, or are not read since there was
-- no memory
abbrev pub RefusesBio : Progress → BioForm → Unread → Type 0
RefusesBio p bio e = (next : Why) → Reports (bio_tests (forms_read p) bio next) e

-- a byte, or so many bytes, of which there are some
abbrev pub IsTextOf : ℕ → Text → Type 0
IsTextOf size (texts.Fill byte) = byte < 256
IsTextOf size (texts.Bytes bytes) = IsBytes bytes × (0 < size) × (length bytes ≡ size)

-- the fields of a text pass their test, and say this text
pub record SaysText (size : ℕ) (form : TextForm) (text : Text) : Type 0 where
  pub passes : is_text size form ≡ true
  pub line_is : text_line form ≡ text_fields text
  pub valid : IsTextOf size text
