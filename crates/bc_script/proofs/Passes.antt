-- A line passes its tests where it stands in order and what it says fits after the lines above.
use Rattle.std.proofs.Common.{◌≡◌, ◌≢◌, ℕ, ◌<◌, ◌≤◌, ◌+◌, ◌*◌, ◌^◌, Bool, true, false, not, ◌&&◌, ◌||◌, nat_lt, nat_le, nat_eq, List, [], ◌∷◌, ◌++◌, length, take, drop, Option, Some, None, bytes_eq, option_map, is_some, is_none, if◌then◌else◌, refl, sym, ap, ◌∙◌, arith, eq-eqb, le-leb, lt-ltb, mul-pos}
use Rattle.std.specs.Prelude.{sum_by, count_by, IsSome}
use Rattle.std.specs.List.{AllByRecursion}
use Rattle.std.specs.Option.{option_map_or}
use Rattle.std.specs.Fmt.{decimal}
use Rattle.std.proofs.lemmas.Bool.{and_from, or_right, not_from_true, not_from_false}
use Rattle.hex.specs.Hex.{encode_lower}
use Rattle.bc_text.specs.Lines.{TextLine}
use Rattle.bc_key.specs.DataUnits.{bytes_of, sectors_of, unit_of}
use Rattle.bc_key.specs.declared.config.Mode.{Mode}
use Rattle.bc_key.specs.declared.config.Mode.TheVariants.{Aes256Xts, Aes128CbcEssiv}
use Rattle.bc_key.specs.declared.config.DataUnit.{DataUnit}
use Rattle.bc_key.specs.declared.config.DataUnit.TheVariants.{Bytes512, Bytes1024, Bytes2048, Bytes4096}
use Rattle.bc_key.specs.declared.key.KeyError.{KeyError}
use Rattle.bc_key.specs.declared.key.KeyError.TheVariants as errors
use Rattle.bc_key.specs.KeyData.{KeyData, key_size, HasHalves}
use Rattle.bc_key.specs.KeyList.{key_at}
use Rattle.bc_key.specs.KeyRefusal.{key_refusal, has_equal_halves}
use Rattle.bc_bio.specs.declared.context.Context.{Context}
use Rattle.bc_bio.specs.Extent.{unit_sectors}
use Rattle.bc_stack.specs.declared.target.Target.{Target}
use Rattle.bc_stack.specs.Targets.{CoverAll}
use Rattle.bc_script.specs.declared.named_key.NamedKey.{NamedKey}
use Rattle.bc_script.specs.declared.op.Op.{Op}
use Rattle.bc_script.specs.declared.op.Op.TheVariants as ops
use Rattle.bc_script.specs.declared.op.Text.{Text}
use Rattle.bc_script.specs.declared.op.Text.TheVariants as texts
use Rattle.bc_script.specs.declared.sort.Sort.{Sort}
use Rattle.bc_script.specs.declared.sort.Sort.TheVariants as sorts
use Rattle.bc_script.specs.declared.script_error.ScriptWhy.{ScriptWhy}
use Rattle.bc_script.specs.declared.script_error.ScriptWhy.TheVariants as why
use Rattle.bc_script.specs.Name.{is_name}
use Rattle.bc_script.specs.Script.{IsDiskSize, IsDevice, IsNamedKey, IsFault, IsContext, IsBio, IsText, IsOp, bare_keys, open_after, unit_count, unit_count_of_section, max_blocks, last_block, max_devices, max_slots, max_unit_mask, max_device_dun_bytes, max_keys, max_faults, last_shard, last_access, max_threads, max_ops, max_units, max_bio_units, max_bio_sectors}
use Rattle.bc_script.specs.ScriptText.{dash, key_name_of, key_field}
use Rattle.bc_script.specs.Forms.{Form, Disk, Device, Key, Fault, Thread, End, form_of, sort_of}
use Rattle.bc_script.specs.Order.{may_follow}
use Rattle.bc_script.specs.ScriptErrors.{Why, first_why, is_number, is_number_below, device_blocks_above, are_whole, device_test, device_fields, is_device, is_number_text, number_in, bytes_in, is_hex_text, number_test, key_refused, key_test, is_declared, sectors_under, is_open, ascends, declares_key, plans_fault, is_thread, is_operation, form_units, op_limit, bio_limits, bio_tests, is_text, size_of, last_sort, is_end, tests_of, error_of_form, error_at}
use Rattle.bc_script.specs.Progress.{Progress, IsProgress, blocks_of, forms_read, sections_read}
use Rattle.bc_script.proofs.Fields.{number_in-decimal, is_number-decimal, is_number_text-number_text, bytes_in-encode_lower, is_hex_text-encode_lower}
use Rattle.bc_script.proofs.KeyNames.{named_too}
use Rattle.bc_script.proofs.ByteLists.{IsBytes-All}
use Rattle.bc_script.proofs.LineFields.{IsBytes-one}
use Rattle.bc_script.proofs.Above.{key_fields, fault_fields, op_form, bio_form, text_form_of, last_sort-read, devices-read, device_blocks-read, are_whole-read, keys-read, faults-read, threads-read, operations-read, units-read, is_open-read, ascends-read, is_declared-read, is_declared-none, sectors_under-read}
use Rattle.bc_script.specs.Statements.{follows_faults}
use Rattle.bc_script.specs.DeviceFields.{device_form}
use Rattle.bc_script.proofs.Devices.{is_covered}
use Rattle.bc_script.proofs.Faults.{fault_in-fault_fields}
use Rattle.bc_script.proofs.LineForms.{bytes_eq-same, bytes_eq-other}

-- ---- tests, one after the other

-- a test that is passed is followed by the next
pub passed : (test : Bool) (kind : ScriptWhy) (next : Why) → test ≡ true → next ≡ None → first_why test kind next ≡ None
passed test kind next holds rest = ap (λ (b : Bool). first_why b kind next) holds ∙ rest

not_after_end : (last : Option Sort) (sort : Sort) → may_follow last sort ≡ true → is_end last ≡ false
not_after_end None sort h = refl
not_after_end (Some sorts.Version) sort h = refl
not_after_end (Some sorts.Disk) sort h = refl
not_after_end (Some sorts.Fallback) sort h = refl
not_after_end (Some sorts.Device) sort h = refl
not_after_end (Some sorts.Key) sort h = refl
not_after_end (Some sorts.Fault) sort h = refl
not_after_end (Some sorts.Thread) sort h = refl
not_after_end (Some sorts.Operation) sort h = refl
not_after_end (Some sorts.End) sorts.Version h = absurd cc
not_after_end (Some sorts.End) sorts.Disk h = absurd cc
not_after_end (Some sorts.End) sorts.Fallback h = absurd cc
not_after_end (Some sorts.End) sorts.Device h = absurd cc
not_after_end (Some sorts.End) sorts.Key h = absurd cc
not_after_end (Some sorts.End) sorts.Fault h = absurd cc
not_after_end (Some sorts.End) sorts.Thread h = absurd cc
not_after_end (Some sorts.End) sorts.Operation h = absurd cc
not_after_end (Some sorts.End) sorts.End h = absurd cc

-- a line passes where its form may stand and passes its own tests
pub error_at-passed : (p : Progress) (line : TextLine) (form : Form) → IsProgress p → form_of line ≡ Some form → may_follow p.last (sort_of form) ≡ true → tests_of (forms_read p) form ≡ None → error_at (forms_read p) line ≡ None
error_at-passed p line form is is_form follows tests =
    let above = forms_read p in
    let last = last_sort-read p is in
    let behind : is_end (last_sort above) ≡ false = ap is_end last ∙ not_after_end p.last (sort_of form) follows in
    let stands : may_follow (last_sort above) (sort_of form) ≡ true = ap (λ (l : Option Sort). may_follow l (sort_of form)) last ∙ follows in
    let of_form : error_of_form above (form_of line) ≡ None = ap (error_of_form above) is_form ∙ passed (may_follow (last_sort above) (sort_of form)) why.Word (tests_of above form) stands tests in
    passed (not (is_end (last_sort above))) why.End _ (not_from_false _ behind) of_form

-- ---- numbers

number_passed : (least most n : ℕ) (next : Why) → n < 2 ^ 64 → least ≤ n → n ≤ most → next ≡ None → number_test least most (decimal n) next ≡ None
number_passed least most n next small low high rest = passed (is_number least most (decimal n)) why.Number next (is_number-decimal least most n small low high) rest

pub disk_passed : (above : List Form) (blocks : ℕ) → IsDiskSize blocks → tests_of above (Disk (decimal blocks)) ≡ None
disk_passed above blocks size = let most = size.1 in number_passed 1 16384 blocks None (omega arith) size.0 size.1 refl

-- ---- devices

-- the fields of a device pass
pub fields_passed : (device : Target) (next : Why) → IsDevice device → next ≡ None → device_fields (device_form device) next ≡ None
fields_passed device next valid rest =
    let first = valid.first in
    let blocks = valid.few_blocks in
    let slots = valid.slots.most in
    let xts = valid.xts in
    let essiv = valid.essiv in
    let dun_bytes = valid.few_dun_bytes in
    number_passed 0 last_block device.first _ (omega arith) (omega arith) valid.first
    (number_passed 1 max_blocks device.blocks _ (omega arith) valid.some_blocks valid.few_blocks
    (number_passed 1 max_slots device.slots _ (omega arith) valid.slots.least valid.slots.most
    (number_passed 0 max_unit_mask device.caps.xts _ (omega arith) (omega arith) valid.xts
    (number_passed 0 max_unit_mask device.caps.essiv _ (omega arith) (omega arith) valid.essiv
    (number_passed 1 max_device_dun_bytes device.caps.max_dun_bytes _ (omega arith) valid.some_dun_bytes valid.few_dun_bytes rest)))))

-- a device after the blocks of the others passes, where there is room
pub device_passed : (p : Progress) (device : Target) → IsProgress p → IsDevice device → device.first ≡ blocks_of p.targets → length p.targets < max_devices → tests_of (forms_read p) (Device (device_form device)) ≡ None
device_passed p device is valid at room =
    let above = forms_read p in
    let few = valid.first in
    let first : nat_eq (number_in (decimal device.first)) (device_blocks_above above) ≡ true =
    eq-eqb (number_in (decimal device.first)) (device_blocks_above above) (number_in-decimal device.first (omega arith) ∙ at ∙ sym (device_blocks-read p is)) in
    let limit : nat_lt (count_by is_device above) max_devices ≡ true = ap (λ (n : ℕ). nat_lt n max_devices) (devices-read p is) ∙ lt-ltb (length p.targets) max_devices room in
    fields_passed device _ valid
    (passed (nat_eq (number_in (decimal device.first)) (device_blocks_above above)) why.Device _ first
    (passed (nat_lt (count_by is_device above) max_devices) why.Limit None limit refl))

-- devices that cover the disk pass at the lines after them
pub whole_passed : (p : Progress) (next : Why) → IsProgress p → CoverAll p.blocks p.targets → next ≡ None → device_test (forms_read p) next ≡ None
whole_passed p next is whole rest = passed (are_whole (forms_read p)) why.Device next (are_whole-read p is ∙ is_covered p.targets p.blocks whole) rest

-- ---- keys

unit_le : (unit : DataUnit) → bytes_of unit ≤ 4096
unit_le Bytes512 = omega arith
unit_le Bytes1024 = omega arith
unit_le Bytes2048 = omega arith
unit_le Bytes4096 = omega arith

unit_of-bytes_of : (unit : DataUnit) → unit_of (bytes_of unit) ≡ Some unit
unit_of-bytes_of Bytes512 = refl
unit_of-bytes_of Bytes1024 = refl
unit_of-bytes_of Bytes2048 = refl
unit_of-bytes_of Bytes4096 = refl

key_size_least : (mode : Mode) → 1 ≤ key_size mode
key_size_least Aes256Xts = omega arith
key_size_least Aes128CbcEssiv = omega arith

key_size_most : (mode : Mode) → key_size mode ≤ 128
key_size_most Aes256Xts = omega arith
key_size_most Aes128CbcEssiv = omega arith

unequal_halves : (mode : Mode) (raw : List ℕ) → HasHalves mode raw → has_equal_halves mode raw ≡ false
unequal_halves Aes256Xts raw halves = bytes_eq-other (take 32 raw) (drop 32 raw) halves
unequal_halves Aes128CbcEssiv raw halves = refl

otherwise : (test : Bool) (error : KeyError) (next : Option KeyError) → test ≡ false → next ≡ None → (if test then Some error else next) ≡ None
otherwise test error next fails rest = ap (λ (b : Bool). if b then Some error else next) fails ∙ rest

-- a valid key isn't refused
pub valid_key : (mode : Mode) (raw : List ℕ) (unit : DataUnit) (dun_bytes : ℕ) → length raw ≡ key_size mode → 1 ≤ dun_bytes → dun_bytes ≤ 16 → HasHalves mode raw → key_refusal mode raw (bytes_of unit) dun_bytes ≡ None
valid_key mode raw unit dun_bytes size least most halves =
    otherwise (not (nat_eq (length raw) (key_size mode))) _ _ (not_from_true _ (eq-eqb (length raw) (key_size mode) size))
    (otherwise (is_none (unit_of (bytes_of unit))) _ _ (ap (λ (o : Option DataUnit). is_none o) (unit_of-bytes_of unit))
    (otherwise (not (nat_le 1 dun_bytes && nat_le dun_bytes 16)) _ _ (not_from_true _ (and_from _ _ (le-leb 1 dun_bytes least) (le-leb dun_bytes 16 most)))
    (otherwise (has_equal_halves mode raw) errors.EqualHalves None (unequal_halves mode raw halves) refl)))

not_refused : (named : NamedKey) → IsNamedKey named → key_refused (key_fields named) ≡ None
not_refused named is =
    let config = named.key.config in
    let raw = named.key.raw in
    let few = unit_le config.unit in
    let most = is.valid.most in
    let digits : bytes_in (encode_lower raw) ≡ raw = bytes_in-encode_lower raw (IsBytes-All raw is.valid.bytes) in
    let unit : number_in (decimal (bytes_of config.unit)) ≡ bytes_of config.unit = number_in-decimal (bytes_of config.unit) (omega arith) in
    let dun : number_in (decimal config.dun_bytes) ≡ config.dun_bytes = number_in-decimal config.dun_bytes (omega arith) in
    let refusal : key_refusal config.mode (bytes_in (encode_lower raw)) (number_in (decimal (bytes_of config.unit))) (number_in (decimal config.dun_bytes)) ≡ None =
    ap (λ (bytes : List ℕ). key_refusal config.mode bytes (number_in (decimal (bytes_of config.unit))) (number_in (decimal config.dun_bytes))) digits
    ∙ ap (λ (n : ℕ). key_refusal config.mode raw n (number_in (decimal config.dun_bytes))) unit
    ∙ ap (λ (n : ℕ). key_refusal config.mode raw (bytes_of config.unit) n) dun
    ∙ valid_key config.mode raw config.unit config.dun_bytes is.valid.size is.valid.least is.valid.most is.valid.halves in
    ap (λ (o : Option KeyError). option_map (λ error. why.Key error) o) refusal

-- a valid key with a new name passes, where there is room
pub key_passed : (p : Progress) (named : NamedKey) → IsProgress p → CoverAll p.blocks p.targets → IsNamedKey named → AllByRecursion (λ (key : NamedKey). key.name ≢ named.name) p.keys → length p.keys < max_keys → tests_of (forms_read p) (Key (key_fields named)) ≡ None
key_passed p named is whole valid fresh room =
    let above = forms_read p in
    let few = unit_le named.key.config.unit in
    let dun = valid.valid.most in
    let size = valid.valid.size in
    let least = key_size_least named.key.config.mode in
    let most = key_size_most named.key.config.mode in
    let name : (is_name named.name && not (is_declared named.name above)) ≡ true = and_from _ _ valid.name (not_from_false _ (is_declared-none p named.name is fresh)) in
    let digits : is_hex_text 1 128 (encode_lower named.key.raw) ≡ true = is_hex_text-encode_lower 1 128 named.key.raw (IsBytes-All named.key.raw valid.valid.bytes) (omega arith) (omega arith) in
    let limit : nat_lt (count_by declares_key above) max_keys ≡ true = ap (λ (n : ℕ). nat_lt n max_keys) (keys-read p is) ∙ lt-ltb (length p.keys) max_keys room in
    passed (is_name named.name && not (is_declared named.name above)) why.Name _ name
    (number_passed 0 4294967295 (bytes_of named.key.config.unit) _ (omega arith) (omega arith) (omega arith)
    (number_passed 0 255 named.key.config.dun_bytes _ (omega arith) (omega arith) (omega arith)
    (passed (is_hex_text 1 128 (encode_lower named.key.raw)) why.Hex _ digits
    (ap (λ (w : Why). key_test w (device_test above (first_why (nat_lt (count_by declares_key above) max_keys) why.Limit None))) (not_refused named valid)
    ∙ whole_passed p _ is whole (passed (nat_lt (count_by declares_key above) max_keys) why.Limit None limit refl)))))

-- ---- planned faults

-- a fault that comes after the last one passes, where there is room
pub fault_passed : (p : Progress) (fault : ℕ × ℕ) → IsProgress p → CoverAll p.blocks p.targets → IsFault fault → follows_faults p.faults fault ≡ true → length p.faults < max_faults → tests_of (forms_read p) (Fault (fault_fields fault)) ≡ None
fault_passed p fault is whole valid after room =
    let above = forms_read p in
    let shard = valid.shard in
    let access = valid.access in
    let behind : ascends above (fault_fields fault) ≡ true = ascends-read p (fault_fields fault) is ∙ ap (follows_faults p.faults) (fault_in-fault_fields fault valid) ∙ after in
    let limit : nat_lt (count_by plans_fault above) max_faults ≡ true = ap (λ (n : ℕ). nat_lt n max_faults) (faults-read p is) ∙ lt-ltb (length p.faults) max_faults room in
    number_passed 0 last_shard fault.0 _ (omega arith) (omega arith) shard
    (number_passed 0 last_access fault.1 _ (omega arith) (omega arith) access
    (passed (ascends above (fault_fields fault)) why.Order _ behind
    (whole_passed p _ is whole (passed (nat_lt (count_by plans_fault above) max_faults) why.Limit None limit refl))))

-- ---- sections

closed : (p : Progress) → IsProgress p → open_after false p.section ≡ Some false → not (is_open (forms_read p)) ≡ true
closed p is behind = not_from_false _ (is_open-read p false is behind)

pub thread_passed : (p : Progress) → IsProgress p → CoverAll p.blocks p.targets → open_after false p.section ≡ Some false → length (sections_read p) < max_threads → tests_of (forms_read p) Thread ≡ None
thread_passed p is whole behind room =
    passed (not (is_open (forms_read p))) why.Order _ (closed p is behind)
    (whole_passed p _ is whole
    (passed (nat_lt (count_by is_thread (forms_read p)) max_threads) why.Limit None
    (ap (λ (n : ℕ). nat_lt n max_threads) (threads-read p is) ∙ lt-ltb (length (sections_read p)) max_threads room)
    refl))

pub end_passed : (p : Progress) → IsProgress p → CoverAll p.blocks p.targets → open_after false p.section ≡ Some false → tests_of (forms_read p) End ≡ None
end_passed p is whole behind = passed (not (is_open (forms_read p))) why.Order _ (closed p is behind) (whole_passed p None is whole refl)

-- ---- operations

op_room : (p : Progress) → IsProgress p → sum_by length (sections_read p) < max_ops → op_limit (forms_read p) ≡ None
op_room p is room =
    passed (nat_lt (count_by is_operation (forms_read p)) max_ops) why.Limit None
    (ap (λ (n : ℕ). nat_lt n max_ops) (operations-read p is) ∙ lt-ltb (sum_by length (sections_read p)) max_ops room)
    refl

key_known : (p : Progress) (context : Option Context) → IsProgress p → IsContext (bare_keys p.keys) context → (bytes_eq (key_field p.keys context) dash || is_declared (key_field p.keys context) (forms_read p)) ≡ true
key_known p None is valid = refl
key_known p (Some context) is valid =
    or_right (bytes_eq (key_name_of p.keys context.key) dash) (is_declared (key_name_of p.keys context.key) (forms_read p)) (is_declared-read p context.key is (named_too p.keys context.key.0 valid.0))

number_known : (p : Progress) (context : Option Context) (sector units : ℕ) → IsContext (bare_keys p.keys) context → (bytes_eq (bio_form p.keys context sector units).number dash || is_number_text (bio_form p.keys context sector units).number) ≡ true
number_known p None sector units valid = refl
number_known p (Some context) sector units valid = or_right _ _ (is_number_text-number_text context.dun valid.1)

bio_passed : (p : Progress) (context : Option Context) (sector units : ℕ) (next : Why) → IsProgress p → IsBio (bare_keys p.keys) context sector units → next ≡ None → bio_tests (forms_read p) (bio_form p.keys context sector units) next ≡ None
bio_passed p context sector units next is valid rest =
    let bio = bio_form p.keys context sector units in
    let small = valid.sector_is in
    let few = valid.few_units in
    passed (bytes_eq bio.key dash || is_declared bio.key (forms_read p)) why.Name _ (key_known p context is valid.context_is)
    (number_passed 0 4294967295 sector _ (omega arith) (omega arith) (omega arith)
    (number_passed 0 max_bio_units units _ (omega arith) (omega arith) (omega arith)
    (passed (bytes_eq bio.number dash || is_number_text bio.number) why.Number next (number_known p context sector units valid.context_is) rest)))

pub units_said : (p : Progress) (context : Option Context) (sector units : ℕ) → IsBio (bare_keys p.keys) context sector units → number_in (decimal units) ≡ units
units_said p context sector units valid = let few = valid.few_units in number_in-decimal units (omega arith)

bio_room : (p : Progress) (context : Option Context) (sector units : ℕ) → IsProgress p → IsBio (bare_keys p.keys) context sector units → sum_by length (sections_read p) < max_ops → sum_by unit_count_of_section (sections_read p) + units ≤ max_units
    → bio_limits (forms_read p) (bio_form p.keys context sector units) ≡ None
bio_room p context sector units is valid room fits =
    let bio = bio_form p.keys context sector units in
    let above = forms_read p in
    let said : number_in bio.units ≡ units = units_said p context sector units valid in
    let sectors : sectors_under bio.key above ≡ unit_sectors (bare_keys p.keys) context = sectors_under-read p context is valid.context_is in
    let product : number_in bio.units * sectors_under bio.key above ≡ units * unit_sectors (bare_keys p.keys) context = ap (λ (n : ℕ). n * sectors_under bio.key above) said ∙ ap (λ (n : ℕ). units * n) sectors in
    let sum : sum_by form_units above + number_in bio.units ≡ sum_by unit_count_of_section (sections_read p) + units = ap (λ (n : ℕ). n + number_in bio.units) (units-read p is) ∙ ap (λ (n : ℕ). sum_by unit_count_of_section (sections_read p) + n) said in
    passed (nat_le (number_in bio.units * sectors_under bio.key above) max_bio_sectors) why.Limit _
    (ap (λ (n : ℕ). nat_le n max_bio_sectors) product ∙ le-leb (units * unit_sectors (bare_keys p.keys) context) max_bio_sectors valid.few_sectors)
    (passed (nat_le (sum_by form_units above + number_in bio.units) max_units) why.Limit _
    (ap (λ (n : ℕ). nat_le n max_units) sum ∙ le-leb (sum_by unit_count_of_section (sections_read p) + units) max_units fits)
    (op_room p is room))

pub unit_sectors_least : (keys : List KeyData) (context : Option Context) → 1 ≤ unit_sectors keys context
unit_sectors_least keys None = omega arith
unit_sectors_least keys (Some context) = of_key (key_at keys context.key)
  where
    of_unit : (unit : DataUnit) → 1 ≤ sectors_of unit
    of_unit Bytes512 = omega arith
    of_unit Bytes1024 = omega arith
    of_unit Bytes2048 = omega arith
    of_unit Bytes4096 = omega arith

    of_key : (o : Option KeyData) → 1 ≤ option_map_or (λ (key : KeyData). sectors_of key.config.unit) o 1
    of_key None = omega arith
    of_key (Some key) = of_unit key.config.unit

-- the bytes of a write, of which there are as many as its bio has
text_passed : (p : Progress) (context : Option Context) (sector units : ℕ) (text : Text) → IsProgress p → IsBio (bare_keys p.keys) context sector units → IsText (bare_keys p.keys) context units text
    → is_text (size_of (forms_read p) (bio_form p.keys context sector units)) (text_form_of text) ≡ true
text_passed p context sector units (texts.Fill byte) is valid small = is_hex_text-encode_lower 1 1 (byte ∷ []) (IsBytes-one byte small) (omega arith) (omega arith)
text_passed p context sector units (texts.Bytes bytes) is valid (fits, some, long) =
    let bio = bio_form p.keys context sector units in
    let sectors = unit_sectors (bare_keys p.keys) context in
    let size : size_of (forms_read p) bio ≡ length bytes =
    ap (λ (n : ℕ). n * (512 * sectors_under bio.key (forms_read p))) (units_said p context sector units valid)
    ∙ ap (λ (n : ℕ). units * (512 * n)) (sectors_under-read p context is valid.context_is)
    ∙ sym long in
    let least = unit_sectors_least (bare_keys p.keys) context in
    let above : 0 < units * (512 * sectors) = mul-pos some (omega arith) in
    ap (λ (n : ℕ). is_hex_text n n (encode_lower bytes) && nat_lt 0 n) size
    ∙ and_from _ _ (is_hex_text-encode_lower (length bytes) (length bytes) bytes fits (omega arith) (omega arith)) (lt-ltb 0 (length bytes) (omega arith))

-- whether a plug may be opened, or closed
pub some_plugged : (o : Option Bool) → IsSome o → (plugged : Bool) × (o ≡ Some plugged)
some_plugged None h = absurd cc
some_plugged (Some plugged) h = (plugged, refl)

pub open_after-append : (before after : Bool) (section more : List Op) → open_after before section ≡ Some after → open_after before (section ++ more) ≡ open_after after more
open_after-append before after [] more h = ap (λ (b : Bool). open_after b more) (same before after h)
  where
    same : (a b : Bool) → Some a ≡ Some b → a ≡ b
    same a b e = cc
open_after-append before after (ops.Write context sector units text ∷ section) more h = open_after-append before after section more h
open_after-append before after (ops.Read context sector units ∷ section) more h = open_after-append before after section more h
open_after-append before after (ops.Evict key ∷ section) more h = open_after-append before after section more h
open_after-append before after (ops.Reset device ∷ section) more h = open_after-append before after section more h
open_after-append true after (ops.Plug ∷ section) more h = absurd cc
open_after-append false after (ops.Plug ∷ section) more h = open_after-append true after section more h
open_after-append true after (ops.Unplug ∷ section) more h = open_after-append false after section more h
open_after-append false after (ops.Unplug ∷ section) more h = absurd cc

plug_was_closed : (p : Progress) → IsProgress p → IsSome (open_after false (p.section ++ ops.Plug ∷ [])) → open_after false p.section ≡ Some false
plug_was_closed p is opens =
    let before = some_plugged (open_after false p.section) is.plugs in
    before.1 ∙ ap Some (only before.0 (sym (ap (λ (o : Option Bool). is_some o) (open_after-append false before.0 p.section (ops.Plug ∷ []) before.1)) ∙ opens))
  where
    only : (b : Bool) → IsSome (open_after b (ops.Plug ∷ [])) → b ≡ false
    only true h = absurd cc
    only false h = refl

plug_was_open : (p : Progress) → IsProgress p → IsSome (open_after false (p.section ++ ops.Unplug ∷ [])) → open_after false p.section ≡ Some true
plug_was_open p is closes =
    let before = some_plugged (open_after false p.section) is.plugs in
    before.1 ∙ ap Some (only before.0 (sym (ap (λ (o : Option Bool). is_some o) (open_after-append false before.0 p.section (ops.Unplug ∷ []) before.1)) ∙ closes))
  where
    only : (b : Bool) → IsSome (open_after b (ops.Unplug ∷ [])) → b ≡ true
    only true h = refl
    only false h = absurd cc

-- a valid operation passes, where there is room for it
pub op_passed : (p : Progress) (op : Op) → IsProgress p → IsOp (length p.targets) (bare_keys p.keys) op → IsSome (open_after false (p.section ++ op ∷ [])) → sum_by length (sections_read p) < max_ops → sum_by unit_count_of_section (sections_read p) + unit_count op ≤ max_units
    → tests_of (forms_read p) (op_form p.keys op) ≡ None
op_passed p (ops.Write context sector units text) is valid plugs room fits =
    bio_passed p context sector units _ is valid.0
    (passed (is_text (size_of (forms_read p) (bio_form p.keys context sector units)) (text_form_of text)) why.Hex _ (text_passed p context sector units text is valid.0 valid.1)
    (bio_room p context sector units is valid.0 room fits))
op_passed p (ops.Read context sector units) is valid plugs room fits = bio_passed p context sector units _ is valid (bio_room p context sector units is valid room fits)
op_passed p (ops.Evict key) is valid plugs room fits =
    passed (is_declared (key_name_of p.keys key) (forms_read p)) why.Name _ (is_declared-read p key is (named_too p.keys key.0 valid)) (op_room p is room)
op_passed p (ops.Reset device) is valid plugs room fits =
    let few = is.devices.count in
    let said = number_in-decimal device (omega arith) in
    let below : is_number_below (count_by is_device (forms_read p)) (decimal device) ≡ true =
    ap (λ (n : ℕ). is_number_below n (decimal device)) (devices-read p is)
    ∙ and_from _ _ (ap (λ (n : ℕ). bytes_eq (decimal n) (decimal device)) said ∙ bytes_eq-same (decimal device)) (ap (λ (n : ℕ). nat_lt n (length p.targets)) said ∙ lt-ltb device (length p.targets) valid) in
    passed (is_number_below (count_by is_device (forms_read p)) (decimal device)) why.Number _ below (op_room p is room)
op_passed p ops.Plug is valid plugs room fits = passed (not (is_open (forms_read p))) why.Order _ (closed p is (plug_was_closed p is plugs)) (op_room p is room)
op_passed p ops.Unplug is valid plugs room fits = passed (is_open (forms_read p)) why.Order _ (is_open-read p true is (plug_was_open p is plugs)) (op_room p is room)
