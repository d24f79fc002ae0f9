-- The form of each printed line.
use Rattle.std.proofs.Common.{◌≡◌, ◌≢◌, ℕ, ◌<◌, ◌^◌, Bool, true, false, List, [], ◌∷◌, slice_get, unwrap_or, option_map, Option, Some, None, bytes_eq, refl, ap, subst, arith}
use Rattle.std.specs.List.{All}
use Rattle.std.specs.Fmt.{decimal}
use Rattle.std.proofs.Math.Logic.{⊎_elim}
use Rattle.std.proofs.lemmas.Bool.{false_from_ne_true}
use Rattle.std.proofs.lemmas.Slice.Eq.{bytes_eq-Decides}
use Rattle.hex.specs.Hex.{encode_lower}
use Rattle.bc_key.specs.DataUnits.{bytes_of}
use Rattle.bc_key.specs.declared.config.Mode.{Mode}
use Rattle.bc_key.specs.declared.config.Mode.TheVariants.{Aes256Xts, Aes128CbcEssiv}
use Rattle.bc_key.specs.declared.keys.KeyNo.{KeyNo}
use Rattle.bc_key.specs.NumberText.{number_text, IsHexDigit}
use Rattle.bc_key.proofs.NumberTextLaws.{IsNumberText-number_text}
use Rattle.bc_bio.specs.declared.context.Context.{Context}
use Rattle.bc_stack.specs.declared.target.Target.{Target}
use Rattle.bc_script.specs.declared.named_key.NamedKey.{NamedKey}
use Rattle.bc_script.specs.declared.op.Op.{Op}
use Rattle.bc_script.specs.declared.op.Op.TheVariants as ops
use Rattle.bc_script.specs.declared.op.Text.{Text}
use Rattle.bc_script.specs.declared.op.Text.TheVariants as texts
use Rattle.bc_script.specs.Name.{is_name}
use Rattle.bc_script.specs.Script.{AreKeys, IsContext, IsOp, bare_keys}
use Rattle.bc_script.specs.ScriptText.{version_line, disk_line, fallback_line, device_line, thread_line, end_line, key_line, fault_line, op_line, mode_text, key_name_of, dash, key_field, number_field}
use Rattle.bc_script.proofs.KeyNames.{is_name_of}
use Rattle.bc_script.proofs.Faults.{fault_fields}
use Rattle.bc_script.specs.Forms.{Form, KeyForm, BioForm, TextForm, Fill, Hex, Version, Disk, Fallback, Device, Key, Fault, Thread, Write, Read, Evict, Reset, Plug, Unplug, End, form_of, mode_of_word, key_form, dashes_agree}
use Rattle.bc_script.specs.DeviceFields.{device_form}

-- the fields of a key's line
abbrev pub key_fields : NamedKey → KeyForm
key_fields named =
    record {
      name = named.name;
      mode = named.key.config.mode;
      unit = decimal (bytes_of named.key.config.unit);
      dun_bytes = decimal named.key.config.dun_bytes;
      digits = encode_lower named.key.raw;
    }

-- the fields of a bio
abbrev pub bio_form : List NamedKey → Option Context → ℕ → ℕ → BioForm
bio_form keys context sector units =
    record { key = key_field keys context; sector = decimal sector; units = decimal units; number = number_field context }

abbrev pub text_form_of : Text → TextForm
text_form_of (texts.Fill byte) = Fill (encode_lower (byte ∷ []))
text_form_of (texts.Bytes bytes) = Hex (encode_lower bytes)

-- the form of an operation's line
abbrev pub op_form : List NamedKey → Op → Form
op_form keys (ops.Write context sector units text) = Write (bio_form keys context sector units) (text_form_of text)
op_form keys (ops.Read context sector units) = Read (bio_form keys context sector units)
op_form keys (ops.Evict key) = Evict (key_name_of keys key)
op_form keys (ops.Reset device) = Reset (decimal device)
op_form keys ops.Plug = Plug
op_form keys ops.Unplug = Unplug

-- ---- fields that differ

pub bytes_eq-same : (field : List ℕ) → bytes_eq field field ≡ true
bytes_eq-same field = (bytes_eq-Decides field field).1 refl

pub bytes_eq-other : (a b : List ℕ) → a ≢ b → bytes_eq a b ≡ false
bytes_eq-other a b differ = false_from_ne_true (bytes_eq a b) (λ same. differ ((bytes_eq-Decides a b).0 same))

-- no name is `-`
pub name_is_no_dash : (name : List ℕ) → is_name name ≡ true → name ≢ dash
name_is_no_dash name is e = let no : is_name dash ≡ true = subst (λ (n : List ℕ). is_name n ≡ true) e is in absurd cc

-- nor is a number
pub number_is_no_dash : (n : ℕ) → n < 2 ^ 256 → number_text n ≢ dash
number_is_no_dash n small e =
    let digits : All IsHexDigit dash = subst (All IsHexDigit) e (IsNumberText-number_text n small).digits in
    ⊎_elim (λ h. omega arith) (λ h. omega arith) (digits 0 0 (omega arith))

-- ---- names of keys

-- the name of the key at a place
pub name_at : (keys : List NamedKey) (number : KeyNo) (named : NamedKey) → slice_get keys number.0 ≡ Some named → key_name_of keys number ≡ named.name
name_at keys number named at = ap (λ (o : Option NamedKey). unwrap_or (option_map (λ (n : NamedKey). n.name) o) []) at

-- ---- lines

pub form_of-version : form_of version_line ≡ Some Version
form_of-version = refl

pub form_of-disk : (blocks : ℕ) → form_of (disk_line blocks) ≡ Some (Disk (decimal blocks))
form_of-disk blocks = refl

pub form_of-fallback : (on : Bool) → form_of (fallback_line on) ≡ Some (Fallback on)
form_of-fallback true = refl
form_of-fallback false = refl

pub form_of-device_line : (device : Target) → form_of (device_line device) ≡ Some (Device (device_form device))
form_of-device_line device = refl

pub form_of-thread : form_of thread_line ≡ Some Thread
form_of-thread = refl

pub form_of-end : form_of end_line ≡ Some End
form_of-end = refl

mode_of-mode_text : (mode : Mode) → mode_of_word (mode_text mode) ≡ Some mode
mode_of-mode_text Aes256Xts = refl
mode_of-mode_text Aes128CbcEssiv = refl

pub form_of-key_line : (named : NamedKey) → form_of (key_line named) ≡ Some (Key (key_fields named))
form_of-key_line named =
    ap (λ (mode : Option Mode). key_form named.name mode (decimal (bytes_of named.key.config.unit)) (decimal named.key.config.dun_bytes) (encode_lower named.key.raw))
    (mode_of-mode_text named.key.config.mode)

pub form_of-fault_line : (fault : ℕ × ℕ) → form_of (fault_line fault) ≡ Some (Fault (fault_fields fault))
form_of-fault_line fault = refl

-- `-` stands for the key exactly where it stands for the number
pub dashes_agree-bio_form : (keys : List NamedKey) (context : Option Context) (sector units : ℕ) → AreKeys keys → IsContext (bare_keys keys) context → dashes_agree (bio_form keys context sector units) ≡ true
dashes_agree-bio_form keys None sector units are valid = refl
dashes_agree-bio_form keys (Some context) sector units are valid =
    let key : bytes_eq (key_name_of keys context.key) dash ≡ false =
    bytes_eq-other (key_name_of keys context.key) dash (name_is_no_dash (key_name_of keys context.key) (is_name_of keys context.key are valid.0)) in
    let number : bytes_eq (number_text context.dun) dash ≡ false = bytes_eq-other (number_text context.dun) dash (number_is_no_dash context.dun valid.1) in
    rw (key, number) refl

pub form_of-op_line : (devices : ℕ) (keys : List NamedKey) (op : Op) → AreKeys keys → IsOp devices (bare_keys keys) op → form_of (op_line keys op) ≡ Some (op_form keys op)
form_of-op_line devices keys (ops.Write context sector units (texts.Fill byte)) are valid = let agree = dashes_agree-bio_form keys context sector units are valid.0.context_is in rw agree refl
form_of-op_line devices keys (ops.Write context sector units (texts.Bytes bytes)) are valid = let agree = dashes_agree-bio_form keys context sector units are valid.0.context_is in rw agree refl
form_of-op_line devices keys (ops.Read context sector units) are valid = let agree = dashes_agree-bio_form keys context sector units are valid.context_is in rw agree refl
form_of-op_line devices keys (ops.Evict key) are valid = refl
form_of-op_line devices keys (ops.Reset device) are valid = refl
form_of-op_line devices keys ops.Plug are valid = refl
form_of-op_line devices keys ops.Unplug are valid = refl
