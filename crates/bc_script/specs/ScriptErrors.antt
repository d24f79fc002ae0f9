-- The first line of a text that fails a test, and the first test that it fails.
--
-- A test speaks of its line and of the lines above: how many devices, keys, faults, operations or
-- data units those have is a count or a sum over their forms, which stand here with the nearest
-- line first.
use Rattle.std.specs.Prelude.{ℕ, ◌+◌, ◌*◌, ◌/◌, ◌^◌, ◌&&◌, ◌||◌, not, nat_lt, nat_le, nat_eq, Bool, true, false, if◌then◌else◌, List, [], ◌∷◌, length, Option, Some, None, is_some, sum_by, count_by, unwrap_or}
use Rattle.std.specs.Option.{option_map, option_map_or}
use Rattle.std.specs.Result.{result_ok}
use Rattle.std.specs.Str.{bytes_eq}
use Rattle.std.specs.Str.Parse.{digits_value}
use Rattle.std.specs.Fmt.{decimal}
use Rattle.hex.specs.Hex.{encode_lower, decode_of}
use Rattle.bc_text.specs.Lines.{TextLine, lines_of, is_nothing}
use Rattle.bc_key.specs.NumberText.{number_text}
use Rattle.bc_key.specs.KeyRefusal.{key_refusal}
use Rattle.bc_script.specs.declared.sort.Sort.{Sort}
use Rattle.bc_script.specs.declared.sort.Sort.TheVariants as sorts
use Rattle.bc_script.specs.declared.script_error.ScriptWhy.{ScriptWhy}
use Rattle.bc_script.specs.declared.script_error.ScriptWhy.TheVariants as why
use Rattle.bc_script.specs.declared.script_error.ScriptError.{ScriptError}
use Rattle.bc_script.specs.Name.{is_name}
use Rattle.bc_script.specs.Script.{is_before, max_blocks, last_block, max_devices, max_slots, max_unit_mask, max_device_dun_bytes, max_keys, max_faults, last_shard, last_access, max_threads, max_ops, max_units, max_bio_units, max_bio_sectors}
use Rattle.bc_script.specs.ScriptText.{dash}
use Rattle.bc_script.specs.Forms.{Form, Disk, Device, Key, Fault, Thread, Write, Read, Evict, Reset, Plug, Unplug, End, DeviceForm, KeyForm, FaultForm, BioForm, TextForm, Fill, Hex, form_of, sort_of}
use Rattle.bc_script.specs.Order.{may_follow}

-- ---- what fields say: a field is malformed where it isn't the text of its value

-- the number that decimal digits say
abbrev pub number_in : List ℕ → ℕ
number_in field = digits_value 10 field

-- the decimal text of a number in a range
abbrev pub is_number : ℕ → ℕ → List ℕ → Bool
is_number least most field =
    bytes_eq (decimal (number_in field)) field
    && (nat_le least (number_in field) && nat_le (number_in field) most)

-- the decimal text of a number below another
abbrev pub is_number_below : ℕ → List ℕ → Bool
is_number_below end field = bytes_eq (decimal (number_in field)) field && nat_lt (number_in field) end

-- the text of a data unit number
abbrev pub is_number_text : List ℕ → Bool
is_number_text field = bytes_eq (number_text (digits_value 16 field)) field && nat_lt (digits_value 16 field) (2 ^ 256)

-- the bytes that hexadecimal digits say
abbrev pub bytes_in : List ℕ → List ℕ
bytes_in field = unwrap_or (result_ok (decode_of field)) []

-- the lower-case digits of so many bytes, of which there are some
abbrev pub is_hex_text : ℕ → ℕ → List ℕ → Bool
is_hex_text least most field =
    bytes_eq (encode_lower (bytes_in field)) field
    && (nat_le least (length (bytes_in field)) && nat_le (length (bytes_in field)) most)

-- ---- what the lines above say

-- what the nearest line is for, if there is one
abbrev pub last_sort : List Form → Option Sort
last_sort [] = None
last_sort (form ∷ above) = Some (sort_of form)

-- how many blocks the disk has, by its line
abbrev pub disk_blocks_in : Form → ℕ
disk_blocks_in (Disk blocks) = number_in blocks
disk_blocks_in _ = 0

-- whether a line has a device
abbrev pub is_device : Form → Bool
is_device (Device device) = true
is_device _ = false

-- how many blocks a device has, by its line
abbrev pub device_blocks_in : Form → ℕ
device_blocks_in (Device device) = number_in device.blocks
device_blocks_in _ = 0

-- how many blocks the devices have together
abbrev pub device_blocks_above : List Form → ℕ
device_blocks_above above = sum_by device_blocks_in above

-- there are no devices, or they have as many blocks together as the disk
abbrev pub are_whole : List Form → Bool
are_whole above =
    nat_eq (count_by is_device above) 0 || nat_eq (device_blocks_above above) (sum_by disk_blocks_in above)

-- whether a line declares a key
abbrev pub declares_key : Form → Bool
declares_key (Key key) = true
declares_key _ = false

-- whether it plans a fault
abbrev pub plans_fault : Form → Bool
plans_fault (Fault fault) = true
plans_fault _ = false

-- whether it begins a section
abbrev pub is_thread : Form → Bool
is_thread Thread = true
is_thread _ = false

-- whether it is an operation
abbrev pub is_operation : Form → Bool
is_operation (Write bio text) = true
is_operation (Read bio) = true
is_operation (Evict key) = true
is_operation (Reset device) = true
is_operation Plug = true
is_operation Unplug = true
is_operation _ = false

-- how many data units a line's bio has
abbrev pub form_units : Form → ℕ
form_units (Write bio text) = number_in bio.units
form_units (Read bio) = number_in bio.units
form_units _ = 0

-- the key's line with this name
abbrev pub key_named : List ℕ → List Form → Option KeyForm
key_named name [] = None
key_named name (Key key ∷ above) = if bytes_eq key.name name then Some key else key_named name above
key_named name (form ∷ above) = key_named name above

-- whether a key has this name
abbrev pub is_declared : List ℕ → List Form → Bool
is_declared name above = is_some (key_named name above)

-- how many sectors a data unit has under the key with this name, and one without a key
abbrev pub sectors_under : List ℕ → List Form → ℕ
sectors_under name above = option_map_or (λ (key : KeyForm). number_in key.unit / 512) (key_named name above) 1

-- the fault that a line plans: the shard, and the place in its order
abbrev pub fault_in : FaultForm → ℕ × ℕ
fault_in fault = (number_in fault.shard, number_in fault.access)

-- whether a fault comes after the nearest one above, if there is one
abbrev pub ascends : List Form → FaultForm → Bool
ascends [] fault = true
ascends (Fault last ∷ above) fault = is_before (fault_in last) (fault_in fault)
ascends (form ∷ above) fault = ascends above fault

-- whether a plug is open: the nearest line that opens or closes one decides
abbrev pub is_open : List Form → Bool
is_open [] = false
is_open (Plug ∷ above) = true
is_open (Unplug ∷ above) = false
is_open (form ∷ above) = is_open above

-- ---- the tests of each form, in their order: its fields from left to right, then the key, the order, the devices and
-- the limits

-- the test that a line fails, if it fails one
abbrev pub Why : Type 0
Why = Option ScriptWhy

-- go on to the next test where this one is passed
abbrev pub first_why : Bool → ScriptWhy → Why → Why
first_why passed kind next = if passed then next else Some kind

-- go on to the next test where the field is the decimal text of a number in the range
abbrev pub number_test : ℕ → ℕ → List ℕ → Why → Why
number_test least most field next = first_why (is_number least most field) why.Number next

-- why the values of a key's fields are no key, if they are none
abbrev pub key_refused : KeyForm → Why
key_refused key =
    option_map (λ error. why.Key error)
    (key_refusal key.mode (bytes_in key.digits) (number_in key.unit) (number_in key.dun_bytes))

-- go on to the next test where the key is one
abbrev pub key_test : Why → Why → Why
key_test None next = next
key_test (Some kind) next = Some kind

-- The devices, if there are any, have the disk's blocks together. The line at which this fails, if
-- one does, is the first after the devices.
abbrev pub device_test : List Form → Why → Why
device_test above next = first_why (are_whole above) why.Device next

-- a first block, blocks, keyslots, two masks, and number bytes
abbrev pub device_fields : DeviceForm → Why → Why
device_fields device next =
    number_test 0 last_block device.first
    (number_test 1 max_blocks device.blocks
    (number_test 1 max_slots device.slots
    (number_test 0 max_unit_mask device.xts
    (number_test 0 max_unit_mask device.essiv
    (number_test 1 max_device_dun_bytes device.dun_bytes next)))))

-- its fields; the first block is the first after the devices above; and room for one more device
abbrev pub device_tests : List Form → DeviceForm → Why
device_tests above device =
    device_fields device
    (first_why (nat_eq (number_in device.first) (device_blocks_above above)) why.Device
    (first_why (nat_lt (count_by is_device above) max_devices) why.Limit
    None))

-- a new name; a mode, a unit and number bytes; some digits; a valid key; whole devices; and room
-- for one more key
abbrev pub key_tests : List Form → KeyForm → Why
key_tests above key =
    first_why (is_name key.name && not (is_declared key.name above)) why.Name
    (number_test 0 4294967295 key.unit
    (number_test 0 255 key.dun_bytes
    (first_why (is_hex_text 1 128 key.digits) why.Hex
    (key_test (key_refused key)
    (device_test above
    (first_why (nat_lt (count_by declares_key above) max_keys) why.Limit
    None))))))

-- a shard and a place in its order; after the fault before it; whole devices; and room for one more
-- fault
abbrev pub fault_tests : List Form → FaultForm → Why
fault_tests above fault =
    number_test 0 last_shard fault.shard
    (number_test 0 last_access fault.access
    (first_why (ascends above fault) why.Order
    (device_test above
    (first_why (nat_lt (count_by plans_fault above) max_faults) why.Limit
    None))))

-- a section has room for one more operation
abbrev pub op_limit : List Form → Why
op_limit above = first_why (nat_lt (count_by is_operation above) max_ops) why.Limit None

-- a bio has few enough sectors, and the script few enough data units and operations
abbrev pub bio_limits : List Form → BioForm → Why
bio_limits above bio =
    first_why (nat_le (number_in bio.units * sectors_under bio.key above) max_bio_sectors) why.Limit
    (first_why (nat_le (sum_by form_units above + number_in bio.units) max_units) why.Limit
    (op_limit above))

-- `-`, or a declared name; a sector; a number of data units; `-`, or a data unit number
abbrev pub bio_tests : List Form → BioForm → Why → Why
bio_tests above bio next =
    first_why (bytes_eq bio.key dash || is_declared bio.key above) why.Name
    (number_test 0 4294967295 bio.sector
    (number_test 0 max_bio_units bio.units
    (first_why (bytes_eq bio.number dash || is_number_text bio.number) why.Number
    next)))

-- one byte; or the bytes of all data units, of which there is one at least
abbrev pub is_text : ℕ → TextForm → Bool
is_text size (Fill digits) = is_hex_text 1 1 digits
is_text size (Hex digits) = is_hex_text size size digits && nat_lt 0 size

-- how many bytes a bio has
abbrev pub size_of : List Form → BioForm → ℕ
size_of above bio = number_in bio.units * (512 * sectors_under bio.key above)

-- the first test of its own that a line of this form fails
abbrev pub tests_of : List Form → Form → Why
tests_of above (Disk blocks) = number_test 1 max_blocks blocks None
tests_of above (Device device) = device_tests above device
tests_of above (Key key) = key_tests above key
tests_of above (Fault fault) = fault_tests above fault
tests_of above Thread =
    first_why (not (is_open above)) why.Order
    (device_test above
    (first_why (nat_lt (count_by is_thread above) max_threads) why.Limit None))
tests_of above (Write bio text) =
    bio_tests above bio
    (first_why (is_text (size_of above bio) text) why.Hex (bio_limits above bio))
tests_of above (Read bio) = bio_tests above bio (bio_limits above bio)
tests_of above (Evict name) = first_why (is_declared name above) why.Name (op_limit above)
tests_of above (Reset device) =
    first_why (is_number_below (count_by is_device above) device) why.Number (op_limit above)
tests_of above Plug = first_why (not (is_open above)) why.Order (op_limit above)
tests_of above Unplug = first_why (is_open above) why.Order (op_limit above)
tests_of above End = first_why (not (is_open above)) why.Order (device_test above None)
tests_of above _ = None

-- ---- the first line that fails

-- whether the nearest line is the `end` line
abbrev pub is_end : Option Sort → Bool
is_end (Some sorts.End) = true
is_end _ = false

-- the test that a line of this form fails, or of none
abbrev pub error_of_form : List Form → Option Form → Why
error_of_form above None = Some why.Word
error_of_form above (Some form) = first_why (may_follow (last_sort above) (sort_of form)) why.Word (tests_of above form)

-- the test that a line fails
abbrev pub error_at : List Form → TextLine → Why
error_at above line =
    first_why (not (is_end (last_sort above))) why.End (error_of_form above (form_of line))

-- the text ends here: after the `end` line, and with a line feed; or too early
abbrev pub error_at_end : List Form → TextLine → Why
error_at_end above tail = first_why (is_end (last_sort above) && is_nothing tail) why.End None

-- the forms above, with the form of one line more
abbrev pub with_form : Option Form → List Form → List Form
with_form None above = above
with_form (Some form) above = form ∷ above

-- this line's error, or that of the lines below where it has none
abbrev pub or_below : ℕ → Why → Option ScriptError → Option ScriptError
or_below number None below = below
or_below number (Some kind) below = Some (record { line = number; why = kind })

-- The first line, from 1, that fails, and the test. The last of the lines is what stands after the
-- last line feed.
abbrev pub first_error : List Form → List TextLine → Option ScriptError
first_error above [] = None
first_error above (tail ∷ []) = or_below (length above + 1) (error_at_end above tail) None
first_error above (line ∷ next ∷ below) =
    or_below (length above + 1) (error_at above line) (first_error (with_form (form_of line) above) (next ∷ below))

-- why a text is no script's, if it is none
abbrev pub error_of : List ℕ → Option ScriptError
error_of text = first_error [] (lines_of text)
