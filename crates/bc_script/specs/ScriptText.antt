-- The text of a script: its lines, each by its fields. Each sort of line is one definition.
use Rattle.std.specs.Prelude.{◌≡◌, ℕ, Bool, true, false, List, [], ◌∷◌, ◌++◌, codes, map, flat_map, slice_get, unwrap_or, Option, Some, None}
use Rattle.std.specs.Option.{option_map}
use Rattle.std.specs.Fmt.{decimal}
use Rattle.hex.specs.Hex.{encode_lower}
use Rattle.bc_text.specs.Lines.{TextLine, lines_text}
use Rattle.bc_text.specs.Fields.{byte_text}
use Rattle.bc_key.specs.declared.config.Mode.{Mode}
use Rattle.bc_key.specs.declared.config.Mode.TheVariants.{Aes256Xts, Aes128CbcEssiv}
use Rattle.bc_key.specs.declared.keys.KeyNo.{KeyNo}
use Rattle.bc_key.specs.DataUnits.{bytes_of}
use Rattle.bc_key.specs.NumberText.{number_text}
use Rattle.bc_bio.specs.declared.context.Context.{Context}
use Rattle.bc_stack.specs.declared.target.Target.{Target}
use Rattle.bc_script.specs.declared.named_key.NamedKey.{NamedKey}
use Rattle.bc_script.specs.declared.op.Op.{Op}
use Rattle.bc_script.specs.declared.op.Op.TheVariants.{Write, Read, Evict, Reset, Plug, Unplug}
use Rattle.bc_script.specs.declared.op.Text.{Text}
use Rattle.bc_script.specs.declared.op.Text.TheVariants.{Fill, Bytes}
use Rattle.bc_script.specs.Script.{Script, IsScript}

-- ---- the first three lines, and a line for each device

-- the name of the language, and its version
abbrev pub version_line : TextLine
version_line = codes "blkcrypt" ∷ codes "1" ∷ []

-- how many blocks the disk has
abbrev pub disk_line : ℕ → TextLine
disk_line blocks = codes "disk" ∷ decimal blocks ∷ []

-- a switch
abbrev pub on_off : Bool → List ℕ
on_off true = codes "on"
on_off false = codes "off"

-- whether software does what no device can
abbrev pub fallback_line : Bool → TextLine
fallback_line fallback = codes "fallback" ∷ on_off fallback ∷ []

-- the first block, the blocks, the keyslots, the masks of data unit sizes of both modes, and the
-- number bytes
abbrev pub device_line : Target → TextLine
device_line device =
    codes "device" ∷ decimal device.first ∷ decimal device.blocks ∷ decimal device.slots ∷ decimal device.caps.xts
    ∷ decimal device.caps.essiv ∷ decimal device.caps.max_dun_bytes ∷ []

-- the first three lines, and a line for each device
abbrev pub head_lines : Script → List TextLine
head_lines s =
    version_line ∷ disk_line s.blocks ∷ fallback_line s.fallback ∷ map device_line s.targets

-- ---- a line for each key

-- the word of a mode
abbrev pub mode_text : Mode → List ℕ
mode_text Aes256Xts = codes "aes-256-xts"
mode_text Aes128CbcEssiv = codes "aes-128-cbc-essiv"

-- the name, the mode, the data unit's bytes, the number bytes, and the key's bytes in hexadecimal
-- digits
abbrev pub key_line : NamedKey → TextLine
key_line named =
    codes "key" ∷ named.name ∷ mode_text named.key.config.mode ∷ decimal (bytes_of named.key.config.unit)
    ∷ decimal named.key.config.dun_bytes
    ∷ encode_lower named.key.raw ∷ []

-- ---- a line for each fault that is planned

-- the shard, and the place in its order
abbrev pub fault_line : ℕ × ℕ → TextLine
fault_line fault = codes "fault" ∷ decimal fault.0 ∷ decimal fault.1 ∷ []

-- ---- a line for each thread, and one for each of its operations

-- the name of the key with this number
abbrev pub key_name_of : List NamedKey → KeyNo → List ℕ
key_name_of keys number = unwrap_or (option_map (λ (named : NamedKey). named.name) (slice_get keys number.0)) []

-- what stands for no key, and for no number
abbrev pub dash : List ℕ
dash = codes "-"

-- the name of a bio's key
abbrev pub key_field : List NamedKey → Option Context → List ℕ
key_field keys None = dash
key_field keys (Some context) = key_name_of keys context.key

-- the number of a bio's first data unit
abbrev pub number_field : Option Context → List ℕ
number_field None = dash
number_field (Some context) = number_text context.dun

-- what a write writes, in hexadecimal digits
abbrev pub text_fields : Text → TextLine
text_fields (Fill byte) = codes "fill" ∷ byte_text byte ∷ []
text_fields (Bytes bytes) = codes "hex" ∷ encode_lower bytes ∷ []

-- the key, the sector, the number of units, and the number of the first unit
abbrev pub bio_fields : List NamedKey → Option Context → ℕ → ℕ → TextLine
bio_fields keys context sector units =
    key_field keys context ∷ decimal sector ∷ decimal units ∷ number_field context ∷ []

-- the line of an operation
abbrev pub op_line : List NamedKey → Op → TextLine
op_line keys (Write context sector units text) =
    codes "write" ∷ (bio_fields keys context sector units ++ text_fields text)
op_line keys (Read context sector units) = codes "read" ∷ bio_fields keys context sector units
op_line keys (Evict key) = codes "evict" ∷ key_name_of keys key ∷ []
op_line keys (Reset device) = codes "reset" ∷ decimal device ∷ []
op_line keys Plug = codes "plug" ∷ []
op_line keys Unplug = codes "unplug" ∷ []

-- the line that begins a section
abbrev pub thread_line : TextLine
thread_line = codes "thread" ∷ []

-- a section's first line, and a line for each of its operations
abbrev pub section_lines : List NamedKey → List Op → List TextLine
section_lines keys section = thread_line ∷ map (op_line keys) section

-- ---- the whole text

-- the last line
abbrev pub end_line : TextLine
end_line = codes "end" ∷ []

-- the lines of a script: the first three, then devices, keys, faults and sections, then the last
abbrev pub script_lines : Script → List TextLine
script_lines s =
    head_lines s
    ++ (map key_line s.keys
    ++ (map fault_line s.faults ++ (flat_map (section_lines s.keys) s.threads ++ end_line ∷ [])))

-- the one text of a script
abbrev pub script_text : Script → List ℕ
script_text s = lines_text (script_lines s)

-- the text is this script's
pub record SaysScript (text : List ℕ) (s : Script) : Type 0 where
  pub valid : IsScript s
  pub text_is : text ≡ script_text s

-- no script has this text
abbrev pub NoScriptHas : List ℕ → Type 0
NoScriptHas text = (s : Script) → IsScript s → text ≡ script_text s → ⊥
