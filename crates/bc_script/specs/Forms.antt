-- The forms of lines: what sort of line it is, by its first word, the number of its fields and its
-- fixed words; the other fields stand as they are written.
use Rattle.std.specs.Prelude.{ℕ, Bool, true, false, not, if◌then◌else◌, List, [], ◌∷◌, codes, Option, Some, None}
use Rattle.std.specs.Str.{bytes_eq}
use Rattle.bc_text.specs.Lines.{TextLine}
use Rattle.bc_key.specs.declared.config.Mode.{Mode}
use Rattle.bc_key.specs.declared.config.Mode.TheVariants.{Aes256Xts, Aes128CbcEssiv}
use Rattle.bc_script.specs.ScriptText.{dash}
use Rattle.bc_script.specs.declared.sort.Sort.{Sort}
use Rattle.bc_script.specs.declared.sort.Sort.TheVariants as sorts

-- the fields of a device's line
pub record DeviceForm : Type 0 where
  pub first : List ℕ
  pub blocks : List ℕ
  pub slots : List ℕ
  pub xts : List ℕ
  pub essiv : List ℕ
  pub dun_bytes : List ℕ

-- the fields of a key's line; the mode is a fixed word
pub record KeyForm : Type 0 where
  pub name : List ℕ
  pub mode : Mode
  pub unit : List ℕ
  pub dun_bytes : List ℕ
  pub digits : List ℕ

-- the fields of a planned fault's line
pub record FaultForm : Type 0 where
  pub shard : List ℕ
  pub access : List ℕ

-- the fields of a bio
pub record BioForm : Type 0 where
  pub key : List ℕ
  pub sector : List ℕ
  pub units : List ℕ
  pub number : List ℕ

-- the fields of what a write writes: a byte, or all bytes, in hexadecimal digits
pub data TextForm : Type 0 where
  Fill : List ℕ → TextForm
  Hex : List ℕ → TextForm

-- a line of one of the forms that there are
pub data Form : Type 0 where
  Version : Form
  Disk : List ℕ → Form
  Fallback : Bool → Form
  Device : DeviceForm → Form
  Key : KeyForm → Form
  Fault : FaultForm → Form
  Thread : Form
  Write : BioForm → TextForm → Form
  Read : BioForm → Form
  Evict : List ℕ → Form
  Reset : List ℕ → Form
  Plug : Form
  Unplug : Form
  End : Form

-- ---- the form of a line

-- a form that has no fields but its word
abbrev pub alone : Form → TextLine → Option Form
alone form [] = Some form
alone form (field ∷ fields) = None

-- a form that has one more field, and any
abbrev pub with_one : (List ℕ → Form) → TextLine → Option Form
with_one form [] = None
with_one form (field ∷ fields) = alone (form field) fields

-- a form that has one more field, which is fixed
abbrev pub form_with_word : List ℕ → Form → TextLine → Option Form
form_with_word word form [] = None
form_with_word word form (field ∷ fields) = if bytes_eq field word then alone form fields else None

-- `on` or `off`
abbrev pub switch_of : List ℕ → Option Bool
switch_of word =
    if bytes_eq word (codes "on") then Some true else (if bytes_eq word (codes "off") then Some false else None)

-- a fallback's line, where its field is a switch
abbrev pub fallback_form : Option Bool → Option Form
fallback_form None = None
fallback_form (Some on) = Some (Fallback on)

-- `on` or `off`, and no more
abbrev pub with_switch : TextLine → Option Form
with_switch (word ∷ []) = fallback_form (switch_of word)
with_switch _ = None

-- FIRST BLOCKS SLOTS XTS ESSIV DUN
abbrev pub form_with_device : TextLine → Option Form
form_with_device (first ∷ blocks ∷ slots ∷ xts ∷ essiv ∷ dun_bytes ∷ []) = Some (Device (record {
  first = first;
  blocks = blocks;
  slots = slots;
  xts = xts;
  essiv = essiv;
  dun_bytes = dun_bytes;
}))
form_with_device _ = None

-- the mode with this word
abbrev pub mode_of_word : List ℕ → Option Mode
mode_of_word word =
    if bytes_eq word (codes "aes-256-xts") then Some Aes256Xts
    else (if bytes_eq word (codes "aes-128-cbc-essiv") then Some Aes128CbcEssiv else None)

-- a key's line, where its second field is a mode
abbrev pub key_form : List ℕ → Option Mode → List ℕ → List ℕ → List ℕ → Option Form
key_form name None unit dun_bytes digits = None
key_form name (Some mode) unit dun_bytes digits =
    Some (Key (record { name = name; mode = mode; unit = unit; dun_bytes = dun_bytes; digits = digits }))

-- NAME MODE UNIT BYTES HEX
abbrev pub with_key : TextLine → Option Form
with_key (name ∷ mode ∷ unit ∷ dun_bytes ∷ digits ∷ []) = key_form name (mode_of_word mode) unit dun_bytes digits
with_key _ = None

-- SHARD ACCESS
abbrev pub form_with_fault : TextLine → Option Form
form_with_fault (shard ∷ access ∷ []) = Some (Fault (record { shard = shard; access = access }))
form_with_fault _ = None

-- `-` stands for the key exactly where it stands for the number
abbrev pub dashes_agree : BioForm → Bool
dashes_agree bio = if bytes_eq bio.key dash then bytes_eq bio.number dash else not (bytes_eq bio.number dash)

-- what a write writes, by its fixed word and its digits
abbrev pub text_form : List ℕ → List ℕ → Option TextForm
text_form word digits =
    if bytes_eq word (codes "fill") then Some (Fill digits)
    else (if bytes_eq word (codes "hex") then Some (Hex digits) else None)

-- a read of this bio
abbrev pub read_form : BioForm → Option Form
read_form bio = if dashes_agree bio then Some (Read bio) else None

-- a write of this bio, where it has a text
abbrev pub write_form : BioForm → Option TextForm → Option Form
write_form bio None = None
write_form bio (Some text) = if dashes_agree bio then Some (Write bio text) else None

-- KEY SECTOR UNITS NUMBER
abbrev pub form_with_bio : TextLine → Option Form
form_with_bio (key ∷ sector ∷ units ∷ number ∷ []) =
    read_form (record { key = key; sector = sector; units = units; number = number })
form_with_bio _ = None

-- KEY SECTOR UNITS NUMBER, and `fill` or `hex` with digits
abbrev pub with_bio_and_text : TextLine → Option Form
with_bio_and_text (key ∷ sector ∷ units ∷ number ∷ word ∷ digits ∷ []) =
    write_form (record { key = key; sector = sector; units = units; number = number }) (text_form word digits)
with_bio_and_text _ = None

-- the form that a line has by its first word and its other fields, if it has one
abbrev pub form_of_word : List ℕ → TextLine → Option Form
form_of_word word fields =
    if bytes_eq word (codes "write") then with_bio_and_text fields
    else (if bytes_eq word (codes "read") then form_with_bio fields
    else (if bytes_eq word (codes "evict") then with_one Evict fields
    else (if bytes_eq word (codes "reset") then with_one Reset fields
    else (if bytes_eq word (codes "plug") then alone Plug fields
    else (if bytes_eq word (codes "unplug") then alone Unplug fields
    else (if bytes_eq word (codes "thread") then alone Thread fields
    else (if bytes_eq word (codes "key") then with_key fields
    else (if bytes_eq word (codes "fault") then form_with_fault fields
    else (if bytes_eq word (codes "blkcrypt") then form_with_word (codes "1") Version fields
    else (if bytes_eq word (codes "disk") then with_one Disk fields
    else (if bytes_eq word (codes "fallback") then with_switch fields
    else (if bytes_eq word (codes "device") then form_with_device fields
    else (if bytes_eq word (codes "end") then alone End fields
    else None)))))))))))))

-- the form of a line, if it has one
abbrev pub form_of : TextLine → Option Form
form_of [] = None
form_of (word ∷ fields) = form_of_word word fields

-- what a line of this form is for
abbrev pub sort_of : Form → Sort
sort_of Version = sorts.Version
sort_of (Disk blocks) = sorts.Disk
sort_of (Fallback on) = sorts.Fallback
sort_of (Device device) = sorts.Device
sort_of (Key key) = sorts.Key
sort_of (Fault fault) = sorts.Fault
sort_of Thread = sorts.Thread
sort_of End = sorts.End
sort_of _ = sorts.Operation
