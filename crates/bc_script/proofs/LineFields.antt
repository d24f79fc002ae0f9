-- Each line of a script is one: its fields have no space and no line feed.
use Rattle.std.proofs.Common.{◌≡◌, ◌≢◌, ℕ, zero, suc, ◌<◌, ◌≤◌, ◌/◌, ◌%◌, ◌^◌, Bool, true, false, List, [], ◌∷◌, ◌++◌, length, get_or, map, refl, arith}
use Rattle.std.specs.Prelude.{codes, ◌&&◌, flat_map, Some, None, Option}
use Rattle.std.specs.List.{AllByRecursion, list_all}
use Rattle.std.proofs.lemmas.Bool.Decides.{nat_tests}
use Rattle.std.proofs.lemmas.List.Elements.{All-from_recursion, All-get_or, recursion_from_All}
use Rattle.hex.specs.Hex.{encode_lower, encode_with, lower_digits, IsBytes}
use Rattle.bc_text.specs.Lines.{TextLine, IsField, IsLine, space, line_feed}
use Rattle.bc_text.proofs.FieldLaws.{IsField-from_test, IsField-decimal}
use Rattle.bc_key.specs.declared.config.Mode.{Mode}
use Rattle.bc_key.specs.declared.config.Mode.TheVariants.{Aes256Xts, Aes128CbcEssiv}
use Rattle.bc_key.specs.declared.config.DataUnit.{DataUnit}
use Rattle.bc_key.specs.declared.config.DataUnit.TheVariants.{Bytes512, Bytes1024, Bytes2048, Bytes4096}
use Rattle.bc_key.specs.DataUnits.{bytes_of}
use Rattle.bc_key.specs.NumberText.{number_text, IsHexDigit}
use Rattle.bc_key.specs.declared.keys.KeyNo.{KeyNo}
use Rattle.bc_key.proofs.NumberTextLaws.{IsNumberText-number_text}
use Rattle.bc_bio.specs.declared.context.Context.{Context}
use Rattle.bc_stack.specs.declared.target.Target.{Target}
use Rattle.bc_script.specs.declared.named_key.NamedKey.{NamedKey}
use Rattle.bc_script.specs.declared.op.Op.{Op}
use Rattle.bc_script.specs.declared.op.Op.TheVariants as ops
use Rattle.bc_script.specs.declared.op.Text.{Text}
use Rattle.bc_script.specs.declared.op.Text.TheVariants.{Fill, Bytes}
use Rattle.bc_script.specs.Name.{is_name, is_name_byte, is_lower_letter}
use Rattle.bc_script.specs.Script.{Script, IsScript, IsDevice, AreKeys, IsNamedKey, IsFault, IsContext, IsBio, IsText, IsOp, IsSection, bare_keys}
use Rattle.bc_script.specs.ScriptText.{script_lines, device_line, key_line, op_line, key_name_of, section_lines, mode_text, fault_line, on_off, key_field, number_field, bio_fields, text_fields}
use Rattle.bc_script.proofs.ByteLists.{IsBytes-All}
use Rattle.bc_script.proofs.KeyNames.{is_name_of}

-- ---- fields

-- a byte that may stand in a field
abbrev pub IsFieldByte : ℕ → Type 0
IsFieldByte b = (b ≢ space) × (b ≢ line_feed)

pub hex_digit : (k : ℕ) → k < 16 → IsFieldByte (get_or lower_digits k 0)
hex_digit k lt = All-get_or IsFieldByte lower_digits k 0 (omega arith) (All-from_recursion IsFieldByte lower_digits (IsField-from_test lower_digits refl))

pub IsField-encode_lower : (bytes : List ℕ) → IsBytes bytes → IsField (encode_lower bytes)
unfolding encode_with
IsField-encode_lower [] fits = tt
IsField-encode_lower (b ∷ bytes) fits =
    let small : b < 256 = fits 0 in
    (hex_digit (b / 16) (omega arith), (hex_digit (b % 16) (omega arith), IsField-encode_lower bytes (λ i. fits (suc i))))

hex_digit_byte : (c : ℕ) → IsHexDigit c → IsFieldByte c
hex_digit_byte c h = (grind (arith, nat_tests), grind (arith, nat_tests))

weaker : (P Q : ℕ → Type 0) → ((c : ℕ) → P c → Q c) → (xs : List ℕ) → AllByRecursion P xs → AllByRecursion Q xs
weaker P Q f [] h = tt
weaker P Q f (x ∷ xs) h = (f x h.0, weaker P Q f xs h.1)

pub IsField-number_text : (n : ℕ) → n < 2 ^ 256 → IsField (number_text n)
IsField-number_text n small = weaker IsHexDigit IsFieldByte hex_digit_byte (number_text n) (recursion_from_All IsHexDigit (number_text n) (IsNumberText-number_text n small).digits)

both : (a b : Bool) → (a && b) ≡ true → (a ≡ true) × (b ≡ true)
both true b h = (refl, h)
both false b h = absurd cc

name_byte : (b : ℕ) → is_name_byte b ≡ true → IsFieldByte b
name_byte b h = (grind (arith, nat_tests), grind (arith, nat_tests))

letter : (b : ℕ) → is_lower_letter b ≡ true → IsFieldByte b
letter b h = (grind (arith, nat_tests), grind (arith, nat_tests))

name_bytes : (bs : List ℕ) → list_all is_name_byte bs ≡ true → IsField bs
name_bytes [] h = tt
name_bytes (b ∷ bs) h = let p = both (is_name_byte b) (list_all is_name_byte bs) h in (name_byte b p.0, name_bytes bs p.1)

pub IsField-name : (name : List ℕ) → is_name name ≡ true → IsField name
IsField-name [] h = absurd cc
IsField-name (b ∷ bs) h =
    let p = both _ _ h in
    let q = both _ _ p.1 in
    (letter b p.0, name_bytes bs q.0)

IsField-name_of : (keys : List NamedKey) (number : KeyNo) → AreKeys keys → number.0 < length (bare_keys keys) → IsField (key_name_of keys number)
IsField-name_of keys number are lt = IsField-name (key_name_of keys number) (is_name_of keys number are lt)

IsField-mode : (mode : Mode) → IsField (mode_text mode)
IsField-mode Aes256Xts = IsField-from_test (codes "aes-256-xts") refl
IsField-mode Aes128CbcEssiv = IsField-from_test (codes "aes-128-cbc-essiv") refl

-- a data unit has few bytes
pub small_unit : (unit : DataUnit) → bytes_of unit < 2 ^ 64
small_unit Bytes512 = omega arith
small_unit Bytes1024 = omega arith
small_unit Bytes2048 = omega arith
small_unit Bytes4096 = omega arith

IsField-on_off : (b : Bool) → IsField (on_off b)
IsField-on_off true = IsField-from_test (codes "on") refl
IsField-on_off false = IsField-from_test (codes "off") refl

IsField-key : (keys : List NamedKey) (context : Option Context) → AreKeys keys → IsContext (bare_keys keys) context → IsField (key_field keys context)
IsField-key keys None are is = IsField-from_test (codes "-") refl
IsField-key keys (Some context) are is = IsField-name_of keys context.key are is.0

IsField-number : (keys : List NamedKey) (context : Option Context) → IsContext (bare_keys keys) context → IsField (number_field context)
IsField-number keys None is = IsField-from_test (codes "-") refl
IsField-number keys (Some context) is = IsField-number_text context.dun is.1

-- ---- lines

abbrev AreFields : TextLine → Type 0
AreFields fields = AllByRecursion IsField fields

key_line_is : (named : NamedKey) → IsNamedKey named → IsLine (key_line named)
key_line_is named is =
    let most = is.valid.most in (
      omega arith,
      (
        IsField-from_test (codes "key") refl,
        (IsField-name named.name is.name, (IsField-mode named.key.config.mode, (IsField-decimal _ (small_unit named.key.config.unit), (IsField-decimal _ (omega arith), (IsField-encode_lower named.key.raw (IsBytes-All named.key.raw is.valid.bytes), tt))))),
      ),
    )

key_lines_are : (keys : List NamedKey) → AllByRecursion IsNamedKey keys → AllByRecursion IsLine (map key_line keys)
key_lines_are [] each = tt
key_lines_are (k ∷ ks) each = (key_line_is k each.0, key_lines_are ks each.1)

pub IsBytes-one : (b : ℕ) → b < 256 → IsBytes (b ∷ [])
IsBytes-one b small zero = small
IsBytes-one b small (suc i) = omega arith

text_fields_are : (keys : List NamedKey) (context : Option Context) (units : ℕ) (text : Text) → IsText (bare_keys keys) context units text → AreFields (text_fields text)
text_fields_are keys context units (Fill byte) is = (IsField-from_test (codes "fill") refl, (IsField-encode_lower (byte ∷ []) (IsBytes-one byte is), tt))
text_fields_are keys context units (Bytes bytes) is = (IsField-from_test (codes "hex") refl, (IsField-encode_lower bytes is.0, tt))

-- fields before others
bio_fields_are : (keys : List NamedKey) (context : Option Context) (sector units : ℕ) (others : TextLine) → AreKeys keys → IsBio (bare_keys keys) context sector units → AreFields others → AreFields (bio_fields keys context sector units ++ others)
bio_fields_are keys context sector units others are is rest =
    let low = is.sector_is in
    let few = is.few_units in
    (IsField-key keys context are is.context_is, (IsField-decimal sector (omega arith), (IsField-decimal units (omega arith), (IsField-number keys context is.context_is, rest))))

op_line_is : (devices : ℕ) (keys : List NamedKey) → AreKeys keys → devices ≤ 8 → (op : Op) → IsOp devices (bare_keys keys) op → IsLine (op_line keys op)
op_line_is devices keys are few (ops.Write context sector units text) valid =
    (omega arith, (IsField-from_test (codes "write") refl, bio_fields_are keys context sector units (text_fields text) are valid.0 (text_fields_are keys context units text valid.1)))
op_line_is devices keys are few (ops.Read context sector units) valid = (omega arith, (IsField-from_test (codes "read") refl, bio_fields_are keys context sector units [] are valid tt))
op_line_is devices keys are few (ops.Evict key) valid = (omega arith, (IsField-from_test (codes "evict") refl, (IsField-name_of keys key are valid, tt)))
op_line_is devices keys are few (ops.Reset device) valid = (omega arith, (IsField-from_test (codes "reset") refl, (IsField-decimal device (omega arith), tt)))
op_line_is devices keys are few ops.Plug valid = (omega arith, (IsField-from_test (codes "plug") refl, tt))
op_line_is devices keys are few ops.Unplug valid = (omega arith, (IsField-from_test (codes "unplug") refl, tt))

op_lines_are : (devices : ℕ) (keys : List NamedKey) → AreKeys keys → devices ≤ 8 → (section : List Op) → AllByRecursion (IsOp devices (bare_keys keys)) section → AllByRecursion IsLine (map (op_line keys) section)
op_lines_are devices keys are few [] each = tt
op_lines_are devices keys are few (op ∷ section) each = (op_line_is devices keys are few op each.0, op_lines_are devices keys are few section each.1)

All-append : (xs ys : List TextLine) → AllByRecursion IsLine xs → AllByRecursion IsLine ys → AllByRecursion IsLine (xs ++ ys)
All-append [] ys p q = q
All-append (x ∷ xs) ys p q = (p.0, All-append xs ys p.1 q)

sections_are : (devices : ℕ) (keys : List NamedKey) → AreKeys keys → devices ≤ 8 → (threads : List (List Op)) → AllByRecursion (IsSection devices (bare_keys keys)) threads → AllByRecursion IsLine (flat_map (section_lines keys) threads)
sections_are devices keys are few [] each = tt
sections_are devices keys are few (section ∷ threads) each =
    All-append (section_lines keys section) (flat_map (section_lines keys) threads)
    ((omega arith, (IsField-from_test (codes "thread") refl, tt)), op_lines_are devices keys are few section each.0.each)
    (sections_are devices keys are few threads each.1)

fault_line_is : (fault : ℕ × ℕ) → IsFault fault → IsLine (fault_line fault)
fault_line_is fault is =
    let shard = is.shard in
    let access = is.access in
    (omega arith, (IsField-from_test (codes "fault") refl, (IsField-decimal fault.0 (omega arith), (IsField-decimal fault.1 (omega arith), tt))))

fault_lines_are : (faults : List (ℕ × ℕ)) → AllByRecursion IsFault faults → AllByRecursion IsLine (map fault_line faults)
fault_lines_are [] each = tt
fault_lines_are (f ∷ fs) each = (fault_line_is f each.0, fault_lines_are fs each.1)

device_line_is : (device : Target) → IsDevice device → IsLine (device_line device)
device_line_is device is =
    let first = is.first in
    let blocks = is.few_blocks in
    let slots = is.slots.most in
    let xts = is.xts in
    let essiv = is.essiv in
    let dun_bytes = is.few_dun_bytes in (
      omega arith,
      (
        IsField-from_test (codes "device") refl,
        (
          IsField-decimal device.first (omega arith),
          (
            IsField-decimal device.blocks (omega arith),
            (
              IsField-decimal device.slots (omega arith),
              (
                IsField-decimal device.caps.xts (omega arith),
                (IsField-decimal device.caps.essiv (omega arith), (IsField-decimal device.caps.max_dun_bytes (omega arith), tt)),
              ),
            ),
          ),
        ),
      ),
    )

device_lines_are : (devices : List Target) → AllByRecursion IsDevice devices → AllByRecursion IsLine (map device_line devices)
device_lines_are [] each = tt
device_lines_are (d ∷ ds) each = (device_line_is d each.0, device_lines_are ds each.1)

pub script_lines_are_lines : (s : Script) → IsScript s → AllByRecursion IsLine (script_lines s)
script_lines_are_lines s valid =
    let size = valid.blocks in
    let few = valid.devices.stack.few in (
      (omega arith, (IsField-from_test (codes "blkcrypt") refl, (IsField-from_test (codes "1") refl, tt))),
      (
        (omega arith, (IsField-from_test (codes "disk") refl, (IsField-decimal s.blocks (omega arith), tt))),
        (
          (omega arith, (IsField-from_test (codes "fallback") refl, (IsField-on_off s.fallback, tt))),
          All-append _ _ (device_lines_are s.targets valid.devices.each)
              (All-append _ _ (key_lines_are s.keys valid.keys.each)
              (All-append _ _ (fault_lines_are s.faults valid.faults.each)
              (All-append _ _ (sections_are (length s.targets) s.keys valid.keys few s.threads valid.threads.each) ((omega arith, (IsField-from_test (codes "end") refl, tt)), tt)))),
        ),
      ),
    )
