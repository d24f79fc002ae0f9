-- A line that passes its tests says one thing more: it is the printed line of the next key, operation or section, or the end.
use Rattle.std.proofs.Common.{◌≡◌, ◌≢◌, ℕ, zero, suc, ◌<◌, ◌≤◌, ◌+◌, ◌*◌, ◌⊎◌, inl, inr, ⊎_elim, Bool, true, false, not, ◌&&◌, ◌||◌, nat_lt, nat_le, nat_eq, List, [], ◌∷◌, ◌++◌, length, take, drop, Option, Some, None, bytes_eq, option_map, is_some, is_none, if◌then◌else◌, ◌==◌, refl, sym, ap, subst, ◌∙◌, arith, eqb-true, leb-true, ltb-true}
use Rattle.std.specs.Prelude.{sum_by, count_by, IsSome}
use Rattle.std.specs.List.{AllByRecursion}
use Rattle.std.specs.Fmt.{decimal}
use Rattle.std.specs.Str.Parse.{digits_value}
use Rattle.std.proofs.lemmas.Bool.{and_parts, both_ways, not-true, not-false}
use Rattle.std.proofs.lemmas.Slice.Eq.{bytes_eq-Decides}
use Rattle.hex.specs.Hex.{encode_lower, IsBytes}
use Rattle.bc_text.specs.Lines.{TextLine}
use Rattle.bc_key.specs.DataUnits.{bytes_of, unit_of}
use Rattle.bc_key.specs.declared.config.Mode.{Mode}
use Rattle.bc_key.specs.declared.config.Mode.TheVariants.{Aes256Xts, Aes128CbcEssiv}
use Rattle.bc_key.specs.declared.config.DataUnit.{DataUnit}
use Rattle.bc_key.specs.declared.config.DataUnit.TheVariants.{Bytes512, Bytes1024, Bytes2048, Bytes4096}
use Rattle.bc_key.specs.declared.key.KeyError.{KeyError}
use Rattle.bc_key.specs.declared.keys.KeyNo.{KeyNo}
use Rattle.bc_key.specs.KeyData.{key_size, HasHalves}
use Rattle.bc_key.specs.KeyRefusal.{key_refusal, has_equal_halves}
use Rattle.bc_bio.specs.declared.context.Context.{Context}
use Rattle.bc_bio.specs.Extent.{unit_sectors}
use Rattle.bc_stack.specs.declared.target.Target.{Target}
use Rattle.bc_script.specs.declared.named_key.NamedKey.{NamedKey}
use Rattle.bc_stack.specs.Targets.{CoverAll}
use Rattle.bc_script.specs.declared.op.Op.{Op}
use Rattle.bc_script.specs.declared.op.Op.TheVariants as ops
use Rattle.bc_script.specs.declared.op.Text.{Text}
use Rattle.bc_script.specs.declared.op.Text.TheVariants as texts
use Rattle.bc_script.specs.declared.sort.Sort.{Sort}
use Rattle.bc_script.specs.declared.sort.Sort.TheVariants as sorts
use Rattle.bc_script.specs.declared.script_error.ScriptWhy.{ScriptWhy}
use Rattle.bc_script.specs.declared.script_error.ScriptWhy.TheVariants as why
use Rattle.bc_script.specs.Name.{is_name}
use Rattle.bc_script.specs.Script.{IsDevice, IsNamedKey, IsFault, IsContext, IsBio, IsText, IsOp, bare_keys, open_after, unit_count, unit_count_of_section, max_blocks, last_block, max_devices, max_slots, max_unit_mask, max_device_dun_bytes, max_keys, max_faults, last_shard, last_access, max_threads, max_ops, max_units, max_bio_units, max_bio_sectors}
use Rattle.bc_script.specs.ScriptText.{dash, key_name_of, key_field, number_field, device_line, key_line, fault_line, op_line}
use Rattle.bc_script.specs.Forms.{Form, DeviceForm, KeyForm, FaultForm, BioForm, TextForm, Fill, Hex, Version, Disk, Fallback, Device, Key, Fault, Thread, Write, Read, Evict, Reset, Plug, Unplug, End, form_of, sort_of, dashes_agree}
use Rattle.bc_script.specs.Order.{may_follow}
use Rattle.bc_script.specs.ScriptErrors.{Why, first_why, is_number, is_number_below, is_device, device_blocks_above, are_whole, device_test, device_fields, is_number_text, number_in, bytes_in, is_hex_text, number_test, key_refused, key_test, is_declared, sectors_under, is_open, fault_in, ascends, declares_key, plans_fault, is_thread, is_operation, form_units, op_limit, bio_limits, bio_tests, is_text, size_of, last_sort, is_end, tests_of, error_of_form, error_at}
use Rattle.bc_script.specs.Progress.{Progress, IsProgress, blocks_of, lines_read, forms_read, sections_read}
use Rattle.bc_script.proofs.ByteLists.{All-IsBytes}
use Rattle.bc_script.proofs.Fields.{number_in-decimal, decimal-number_in, number_text-is_number_text, IsBytes-bytes_in, encode_lower-bytes_in}
use Rattle.bc_script.specs.Statements.{form_line, DashesAgree, follows_faults}
use Rattle.bc_script.specs.DeviceFields.{device_form}
use Rattle.bc_script.proofs.Devices.{covers}
use Rattle.bc_script.proofs.FormLines.{IsLineOf-form_of}
use Rattle.bc_script.proofs.Above.{op_form, bio_form, text_form_of, last_sort-read, devices-read, device_blocks-read, are_whole-read, keys-read, faults-read, threads-read, operations-read, units-read, is_open-read, ascends-read, is_declared-read, is_declared-none, sectors_under-read}
use Rattle.bc_script.proofs.Passes.{some_plugged, open_after-append}
use Rattle.bc_script.proofs.Steps.{with_version, with_disk, with_fallback, with_device, with_key, with_fault, with_op, with_section_ended, IsProgress-version, IsProgress-disk, IsProgress-fallback, IsProgress-device, IsProgress-key, IsProgress-fault, IsProgress-thread, IsProgress-op, IsProgress-end, lines_read-version, lines_read-disk, lines_read-fallback, lines_read-device, lines_read-key, lines_read-fault, lines_read-thread, lines_read-op, lines_read-end}
use Rattle.std.proofs.lemmas.List.{length-map}

-- what has been read with one more line
pub record Took (p : Progress) (line : TextLine) : Type 0 where
  pub after : Progress
  pub rules : IsProgress after
  pub lines : lines_read after ≡ lines_read p ++ line ∷ []

-- ---- tests, one after the other

-- where no test fails, the first is passed, and no other fails
both_passed : (test : Bool) (kind : ScriptWhy) (next : Why) → first_why test kind next ≡ None → (test ≡ true) × (next ≡ None)
both_passed true kind next e = (refl, e)
both_passed false kind next e = absurd cc

true_or : (a b : Bool) → (a || b) ≡ true → a ≡ false → b ≡ true
true_or true b h e = absurd cc
true_or false b h e = h

number_said : (least most : ℕ) (field : List ℕ) (next : Why) → number_test least most field next ≡ None → (field ≡ decimal (number_in field)) × (least ≤ number_in field) × (number_in field ≤ most) × (next ≡ None)
number_said least most field next e =
    let parts = both_passed (is_number least most field) why.Number next e in
    let said = decimal-number_in least most field parts.0 in
    (said.0, said.1, said.2, parts.1)

-- ---- devices

-- what the fields of a device say
record SaysFields (device : DeviceForm) (next : Why) : Type 0 where
  target : Target
  fields : device ≡ device_form target
  first_is : target.first ≡ number_in device.first
  valid : IsDevice target
  passes : next ≡ None

fields_said : (device : DeviceForm) (next : Why) → device_fields device next ≡ None → SaysFields device next
fields_said device next e =
    let first = number_said 0 last_block device.first _ e in
    let blocks = number_said 1 max_blocks device.blocks _ first.3 in
    let slots = number_said 1 max_slots device.slots _ blocks.3 in
    let xts = number_said 0 max_unit_mask device.xts _ slots.3 in
    let essiv = number_said 0 max_unit_mask device.essiv _ xts.3 in
    let dun_bytes = number_said 1 max_device_dun_bytes device.dun_bytes next essiv.3 in
    record {
      target = record {
        first = number_in device.first;
        blocks = number_in device.blocks;
        slots = number_in device.slots;
        caps = record { xts = number_in device.xts; essiv = number_in device.essiv; max_dun_bytes = number_in device.dun_bytes };
      };
      fields = λ i. record { first = first.0 i; blocks = blocks.0 i; slots = slots.0 i; xts = xts.0 i; essiv = essiv.0 i; dun_bytes = dun_bytes.0 i };
      first_is = refl;
      valid = record {
        first = first.2;
        some_blocks = blocks.1;
        few_blocks = blocks.2;
        slots = record { least = slots.1; most = slots.2 };
        xts = xts.2;
        essiv = essiv.2;
        some_dun_bytes = dun_bytes.1;
        few_dun_bytes = dun_bytes.2;
      };
      passes = dun_bytes.3;
    }

device_taken : (p : Progress) (device : DeviceForm) → IsProgress p → may_follow p.last sorts.Device ≡ true → tests_of (forms_read p) (Device device) ≡ None → Took p (form_line (Device device))
device_taken p device is follows e =
    let above = forms_read p in
    let said = fields_said device _ e in
    let a = both_passed (nat_eq (number_in device.first) (device_blocks_above above)) why.Device _ said.passes in
    let b = both_passed (nat_lt (count_by is_device above) max_devices) why.Limit None a.1 in
    let first : said.target.first ≡ blocks_of p.targets = said.first_is ∙ eqb-true (number_in device.first) (device_blocks_above above) a.0 ∙ device_blocks-read p is in
    let room : length p.targets < max_devices = subst (λ (n : ℕ). n < max_devices) (devices-read p is) (ltb-true (count_by is_device above) max_devices b.0) in
    let line : device_line said.target ≡ form_line (Device device) = ap (λ (d : DeviceForm). form_line (Device d)) (sym said.fields) in
    record {
      after = with_device p said.target;
      rules = IsProgress-device p said.target is follows said.valid first room;
      lines = lines_read-device p said.target is follows ∙ ap (λ (l : TextLine). lines_read p ++ l ∷ []) line;
    }

-- devices that pass at a line after them cover the disk
whole_said : (p : Progress) (next : Why) → IsProgress p → device_test (forms_read p) next ≡ None → CoverAll p.blocks p.targets × (next ≡ None)
whole_said p next is e =
    let a = both_passed (are_whole (forms_read p)) why.Device next e in
    (covers p.targets p.blocks is.devices (sym (are_whole-read p is) ∙ a.0), a.1)

-- ---- names

-- a name is some key's, or no key's
named_or_not : (name : List ℕ) (keys : List NamedKey) → ((number : KeyNo) × (number.0 < length keys) × (name ≡ key_name_of keys number)) ⊎ AllByRecursion (λ (named : NamedKey). named.name ≢ name) keys
named_or_not name [] = inr tt
named_or_not name (k ∷ ks) = first (bytes_eq k.name name) refl (named_or_not name ks)
  where
    first : (b : Bool) → bytes_eq k.name name ≡ b → ((number : KeyNo) × (number.0 < length ks) × (name ≡ key_name_of ks number)) ⊎ AllByRecursion (λ (named : NamedKey). named.name ≢ name) ks
        → ((number : KeyNo) × (number.0 < length (k ∷ ks)) × (name ≡ key_name_of (k ∷ ks) number)) ⊎ AllByRecursion (λ (named : NamedKey). named.name ≢ name) (k ∷ ks)
    first true is rest = inl (record { 0 = 0 }, omega arith, sym ((bytes_eq-Decides k.name name).0 is))
    first false is (inl found) = inl (record { 0 = suc found.0.0 }, (let lt = found.1 in omega arith), found.2)
    first false is (inr none) = inr (λ e. both_ways (bytes_eq k.name name) is ((bytes_eq-Decides k.name name).1 e), none)

declared_is : (p : Progress) (name : List ℕ) → IsProgress p → is_declared name (forms_read p) ≡ true → (number : KeyNo) × (number.0 < length p.keys) × (name ≡ key_name_of p.keys number)
declared_is p name is known =
    ⊎_elim (λ found. found) (λ none. absurd (both_ways (is_declared name (forms_read p)) (is_declared-none p name is none) known)) (named_or_not name p.keys)

undeclared_is : (p : Progress) (name : List ℕ) → IsProgress p → is_declared name (forms_read p) ≡ false → AllByRecursion (λ (named : NamedKey). named.name ≢ name) p.keys
undeclared_is p name is unknown =
    ⊎_elim (λ found. absurd (both_ways (is_declared name (forms_read p)) unknown (ap (λ (n : List ℕ). is_declared n (forms_read p)) found.2 ∙ is_declared-read p found.0 is found.1))) (λ none. none) (named_or_not name p.keys)

-- the number of a key without its name
bare_too : (keys : List NamedKey) (n : ℕ) → n < length keys → n < length (bare_keys keys)
bare_too keys n lt = omega (arith, length-map keys (λ (named : NamedKey). named.key), lt)

-- ---- keys

no_error : (test : Bool) (error : KeyError) (next : Option KeyError) → (if test then Some error else next) ≡ None → (test ≡ false) × (next ≡ None)
no_error true error next e = absurd cc
no_error false error next e = (refl, e)

unit_or : (n k : ℕ) (unit found : DataUnit) (others : Option DataUnit) → bytes_of unit ≡ k → (if n == k then Some unit else others) ≡ Some found → (others ≡ Some found → bytes_of found ≡ n) → bytes_of found ≡ n
unit_or n k unit found others size e rest = pick (nat_eq n k) refl
  where
    same : (a b : DataUnit) → Some a ≡ Some b → a ≡ b
    same a b e = cc

    pick : (b : Bool) → nat_eq n k ≡ b → bytes_of found ≡ n
    pick true is = sym (ap bytes_of (same unit found (sym (ap (λ (b : Bool). if b then Some unit else others) is) ∙ e))) ∙ size ∙ sym (eqb-true n k is)
    pick false is = rest (sym (ap (λ (b : Bool). if b then Some unit else others) is) ∙ e)

bytes_of-unit_of : (n : ℕ) (unit : DataUnit) → unit_of n ≡ Some unit → bytes_of unit ≡ n
bytes_of-unit_of n unit e =
    unit_or n 512 Bytes512 unit _ refl e (λ e. unit_or n 1024 Bytes1024 unit _ refl e (λ e. unit_or n 2048 Bytes2048 unit _ refl e (λ e. unit_or n 4096 Bytes4096 unit None refl e (λ e. absurd (none unit e)))))
  where
    none : (unit : DataUnit) → None ≡ Some unit → ⊥
    none unit e = cc

some_unit : (n : ℕ) → is_none (unit_of n) ≡ false → (unit : DataUnit) × (unit_of n ≡ Some unit)
some_unit n h = pick (unit_of n) refl
  where
    pick : (o : Option DataUnit) → unit_of n ≡ o → (unit : DataUnit) × (unit_of n ≡ Some unit)
    pick None e = absurd (both_ways (is_none (unit_of n)) h (ap (λ (o : Option DataUnit). is_none o) e))
    pick (Some unit) e = (unit, e)

halves_differ : (mode : Mode) (raw : List ℕ) → has_equal_halves mode raw ≡ false → HasHalves mode raw
halves_differ Aes256Xts raw h = λ e. both_ways (bytes_eq (take 32 raw) (drop 32 raw)) h ((bytes_eq-Decides (take 32 raw) (drop 32 raw)).1 e)
halves_differ Aes128CbcEssiv raw h = tt

-- what a key is that isn't refused
record IsKeyOf (mode : Mode) (raw : List ℕ) (size dun_bytes : ℕ) : Type 0 where
  unit : DataUnit
  unit_is : bytes_of unit ≡ size
  raw_size : length raw ≡ key_size mode
  least : 1 ≤ dun_bytes
  most : dun_bytes ≤ 16
  halves : HasHalves mode raw

key_of : (mode : Mode) (raw : List ℕ) (size dun_bytes : ℕ) → key_refusal mode raw size dun_bytes ≡ None → IsKeyOf mode raw size dun_bytes
key_of mode raw size dun_bytes e =
    let a = no_error (not (nat_eq (length raw) (key_size mode))) _ _ e in
    let b = no_error (is_none (unit_of size)) _ _ a.1 in
    let c = no_error (not (nat_le 1 dun_bytes && nat_le dun_bytes 16)) _ _ b.1 in
    let d = no_error (has_equal_halves mode raw) _ None c.1 in
    let unit = some_unit size b.0 in
    let range = and_parts _ _ (not-false _ c.0) in
    record {
      unit = unit.0;
      unit_is = bytes_of-unit_of size unit.0 unit.1;
      raw_size = eqb-true (length raw) (key_size mode) (not-false _ a.0);
      least = leb-true 1 dun_bytes range.0;
      most = leb-true dun_bytes 16 range.1;
      halves = halves_differ mode raw d.0;
    }

not_refused : (o : Option KeyError) → option_map (λ error. why.Key error) o ≡ None → o ≡ None
not_refused None e = refl
not_refused (Some error) e = absurd cc

none_of_key : (refused next : Why) → key_test refused next ≡ None → (refused ≡ None) × (next ≡ None)
none_of_key None next e = (refl, e)
none_of_key (Some kind) next e = absurd cc

key_taken : (p : Progress) (key : KeyForm) → IsProgress p → may_follow p.last sorts.Key ≡ true → tests_of (forms_read p) (Key key) ≡ None → Took p (form_line (Key key))
key_taken p key is follows e =
    let above = forms_read p in
    let a = both_passed (is_name key.name && not (is_declared key.name above)) why.Name _ e in
    let name = and_parts _ _ a.0 in
    let unit = number_said 0 4294967295 key.unit _ a.1 in
    let dun = number_said 0 255 key.dun_bytes _ unit.3 in
    let b = both_passed (is_hex_text 1 128 key.digits) why.Hex _ dun.3 in
    let digits = encode_lower-bytes_in 1 128 key.digits b.0 in
    let c = none_of_key (key_refused key) _ b.1 in
    let made = key_of key.mode (bytes_in key.digits) (number_in key.unit) (number_in key.dun_bytes) (not_refused _ c.0) in
    let whole = whole_said p _ is c.1 in
    let limit = both_passed (nat_lt (count_by declares_key above) max_keys) why.Limit None whole.1 in
    let room : length p.keys < max_keys = subst (λ (n : ℕ). n < max_keys) (keys-read p is) (ltb-true (count_by declares_key above) max_keys limit.0) in
    let fresh = undeclared_is p key.name is (not-true _ name.1) in
    let named : NamedKey = record { name = key.name; key = record { config = record { mode = key.mode; unit = made.unit; dun_bytes = number_in key.dun_bytes }; raw = bytes_in key.digits } } in
    let valid : IsNamedKey named = record {
      name = name.0;
      valid = record { size = made.raw_size; bytes = All-IsBytes (bytes_in key.digits) (IsBytes-bytes_in key.digits); least = made.least; most = made.most; halves = made.halves };
    } in
    let unit_is : key.unit ≡ decimal (bytes_of made.unit) = unit.0 ∙ ap decimal (sym made.unit_is) in
    let line : key_line named ≡ form_line (Key key) = λ i. form_line (Key (record { name = key.name; mode = key.mode; unit = sym unit_is i; dun_bytes = sym dun.0 i; digits = sym digits.0 i })) in
    record { after = with_key p named; rules = IsProgress-key p named is follows whole.0 valid fresh room; lines = lines_read-key p named is follows ∙ ap (λ (l : TextLine). lines_read p ++ l ∷ []) line }

-- ---- planned faults

fault_taken : (p : Progress) (fault : FaultForm) → IsProgress p → may_follow p.last sorts.Fault ≡ true → tests_of (forms_read p) (Fault fault) ≡ None → Took p (form_line (Fault fault))
fault_taken p fault is follows e =
    let above = forms_read p in
    let shard = number_said 0 last_shard fault.shard _ e in
    let access = number_said 0 last_access fault.access _ shard.3 in
    let a = both_passed (ascends above fault) why.Order _ access.3 in
    let whole = whole_said p _ is a.1 in
    let b = both_passed (nat_lt (count_by plans_fault above) max_faults) why.Limit None whole.1 in
    let room : length p.faults < max_faults = subst (λ (n : ℕ). n < max_faults) (faults-read p is) (ltb-true (count_by plans_fault above) max_faults b.0) in
    let after : follows_faults p.faults (fault_in fault) ≡ true = sym (ascends-read p fault is) ∙ a.0 in
    let valid : IsFault (fault_in fault) = record { shard = shard.2; access = access.2 } in
    let line : fault_line (fault_in fault) ≡ form_line (Fault fault) = λ i. form_line (Fault (record { shard = sym shard.0 i; access = sym access.0 i })) in
    record { after = with_fault p (fault_in fault); rules = IsProgress-fault p (fault_in fault) is follows whole.0 valid after room; lines = lines_read-fault p (fault_in fault) is follows ∙ ap (λ (l : TextLine). lines_read p ++ l ∷ []) line }

-- ---- plugs

-- whether a plug is open, by the forms above
plugged_is : (p : Progress) (plugged : Bool) → IsProgress p → is_open (forms_read p) ≡ plugged → open_after false p.section ≡ Some plugged
plugged_is p plugged is e =
    let now = some_plugged (open_after false p.section) is.plugs in
    now.1 ∙ ap Some (sym (is_open-read p now.0 is now.1) ∙ e)

closed_is : (p : Progress) → IsProgress p → not (is_open (forms_read p)) ≡ true → open_after false p.section ≡ Some false
closed_is p is e = plugged_is p false is (not-true _ e)

thread_taken : (p : Progress) → IsProgress p → may_follow p.last sorts.Thread ≡ true → tests_of (forms_read p) Thread ≡ None → Took p (form_line Thread)
thread_taken p is follows e =
    let a = both_passed (not (is_open (forms_read p))) why.Order _ e in
    let whole = whole_said p _ is a.1 in
    let b = both_passed (nat_lt (count_by is_thread (forms_read p)) max_threads) why.Limit None whole.1 in
    let room : length (sections_read p) < max_threads = subst (λ (n : ℕ). n < max_threads) (threads-read p is) (ltb-true (count_by is_thread (forms_read p)) max_threads b.0) in
    record { after = with_section_ended p sorts.Thread; rules = IsProgress-thread p is follows whole.0 (closed_is p is a.0) room; lines = lines_read-thread p is follows }

end_taken : (p : Progress) → IsProgress p → may_follow p.last sorts.End ≡ true → tests_of (forms_read p) End ≡ None → Took p (form_line End)
end_taken p is follows e =
    let a = both_passed (not (is_open (forms_read p))) why.Order _ e in
    let whole = whole_said p None is a.1 in
    record { after = with_section_ended p sorts.End; rules = IsProgress-end p is follows whole.0 (closed_is p is a.0); lines = lines_read-end p is follows }

-- ---- operations

form_line-op_form : (keys : List NamedKey) (op : Op) → op_line keys op ≡ form_line (op_form keys op)
form_line-op_form keys (ops.Write context sector units (texts.Fill byte)) = refl
form_line-op_form keys (ops.Write context sector units (texts.Bytes bytes)) = refl
form_line-op_form keys (ops.Read context sector units) = refl
form_line-op_form keys (ops.Evict key) = refl
form_line-op_form keys (ops.Reset device) = refl
form_line-op_form keys ops.Plug = refl
form_line-op_form keys ops.Unplug = refl

op_taken : (p : Progress) (op : Op) → IsProgress p → may_follow p.last sorts.Operation ≡ true → IsOp (length p.targets) (bare_keys p.keys) op → IsSome (open_after false (p.section ++ op ∷ []))
    → sum_by length (sections_read p) < max_ops → sum_by unit_count_of_section (sections_read p) + unit_count op ≤ max_units → Took p (form_line (op_form p.keys op))
op_taken p op is follows valid plugs room fits =
    record { after = with_op p op; rules = IsProgress-op p op is follows valid plugs room fits; lines = lines_read-op p op is follows ∙ ap (λ (l : TextLine). lines_read p ++ l ∷ []) (form_line-op_form p.keys op) }

-- there is room for one operation more
room_is : (p : Progress) → IsProgress p → op_limit (forms_read p) ≡ None → sum_by length (sections_read p) < max_ops
room_is p is e =
    let a = both_passed (nat_lt (count_by is_operation (forms_read p)) max_ops) why.Limit None e in
    subst (λ (n : ℕ). n < max_ops) (operations-read p is) (ltb-true (count_by is_operation (forms_read p)) max_ops a.0)

-- an operation that adds no data units
fits_none : (p : Progress) → IsProgress p → sum_by unit_count_of_section (sections_read p) + 0 ≤ max_units
fits_none p is = let few = is.few_units in omega arith

-- the plugs after one operation more
plugs_behind : (p : Progress) (plugged : Bool) (op : Op) → open_after false p.section ≡ Some plugged → IsSome (open_after plugged (op ∷ [])) → IsSome (open_after false (p.section ++ op ∷ []))
plugs_behind p plugged op behind h = ap (λ (o : Option Bool). is_some o) (open_after-append false plugged p.section (op ∷ []) behind) ∙ h

plug_taken : (p : Progress) → IsProgress p → may_follow p.last sorts.Operation ≡ true → tests_of (forms_read p) Plug ≡ None → Took p (form_line Plug)
plug_taken p is follows e =
    let a = both_passed (not (is_open (forms_read p))) why.Order _ e in
    op_taken p ops.Plug is follows tt (plugs_behind p false ops.Plug (closed_is p is a.0) refl) (room_is p is a.1) (fits_none p is)

unplug_taken : (p : Progress) → IsProgress p → may_follow p.last sorts.Operation ≡ true → tests_of (forms_read p) Unplug ≡ None → Took p (form_line Unplug)
unplug_taken p is follows e =
    let a = both_passed (is_open (forms_read p)) why.Order _ e in
    op_taken p ops.Unplug is follows tt (plugs_behind p true ops.Unplug (plugged_is p true is a.0) refl) (room_is p is a.1) (fits_none p is)

evict_taken : (p : Progress) (name : List ℕ) → IsProgress p → may_follow p.last sorts.Operation ≡ true → tests_of (forms_read p) (Evict name) ≡ None → Took p (form_line (Evict name))
evict_taken p name is follows e =
    let a = both_passed (is_declared name (forms_read p)) why.Name _ e in
    let key = declared_is p name is a.0 in
    let now = some_plugged (open_after false p.section) is.plugs in
    subst (λ (n : List ℕ). Took p (form_line (Evict n))) (sym key.2)
    (op_taken p (ops.Evict key.0) is follows (bare_too p.keys key.0.0 key.1) (plugs_behind p now.0 (ops.Evict key.0) now.1 refl) (room_is p is a.1) (fits_none p is))

reset_taken : (p : Progress) (device : List ℕ) → IsProgress p → may_follow p.last sorts.Operation ≡ true → tests_of (forms_read p) (Reset device) ≡ None → Took p (form_line (Reset device))
reset_taken p device is follows e =
    let a = both_passed (is_number_below (count_by is_device (forms_read p)) device) why.Number _ e in
    let said = and_parts _ _ a.0 in
    let text : decimal (number_in device) ≡ device = (bytes_eq-Decides (decimal (number_in device)) device).0 said.0 in
    let below : number_in device < length p.targets = subst (λ (n : ℕ). number_in device < n) (devices-read p is) (ltb-true (number_in device) (count_by is_device (forms_read p)) said.1) in
    let op = ops.Reset (number_in device) in
    let now = some_plugged (open_after false p.section) is.plugs in
    subst (λ (field : List ℕ). Took p (form_line (Reset field))) text
    (op_taken p op is follows below (plugs_behind p now.0 op now.1 refl) (room_is p is a.1) (fits_none p is))

-- ---- bios

-- the context that two fields say
record SaysContext (p : Progress) (bio : BioForm) : Type 0 where
  context : Option Context
  valid : IsContext (bare_keys p.keys) context
  key : bio.key ≡ key_field p.keys context
  number : bio.number ≡ number_field context

context_said : (p : Progress) (bio : BioForm) → IsProgress p → dashes_agree bio ≡ true → (bytes_eq bio.key dash || is_declared bio.key (forms_read p)) ≡ true → (bytes_eq bio.number dash || is_number_text bio.number) ≡ true → SaysContext p bio
context_said p bio is agree known numbered = pick (bytes_eq bio.key dash) refl
  where
    pick : (b : Bool) → bytes_eq bio.key dash ≡ b → SaysContext p bio
    pick true dashed =
        let number : bytes_eq bio.number dash ≡ true = sym (ap (λ (b : Bool). if b then bytes_eq bio.number dash else not (bytes_eq bio.number dash)) dashed) ∙ agree in
        record { context = None; valid = tt; key = (bytes_eq-Decides bio.key dash).0 dashed; number = (bytes_eq-Decides bio.number dash).0 number }
    pick false undashed =
        let number : not (bytes_eq bio.number dash) ≡ true = sym (ap (λ (b : Bool). if b then bytes_eq bio.number dash else not (bytes_eq bio.number dash)) undashed) ∙ agree in
        let key = declared_is p bio.key is (true_or _ _ known undashed) in
        let said = number_text-is_number_text bio.number (true_or _ _ numbered (not-true _ number)) in
        let context : Context = record { key = key.0; dun = digits_value 16 bio.number } in
        record { context = Some context; valid = (bare_too p.keys key.0.0 key.1, said.1); key = key.2; number = said.0 }

-- the bio that four fields say
record SaysBio (p : Progress) (bio : BioForm) (next : Why) : Type 0 where
  context : Option Context
  sector : ℕ
  units : ℕ
  fields : bio ≡ bio_form p.keys context sector units
  valid : IsContext (bare_keys p.keys) context
  low : sector ≤ 4294967295
  few : units ≤ max_bio_units
  passes : next ≡ None

bio_said : (p : Progress) (bio : BioForm) (next : Why) → IsProgress p → dashes_agree bio ≡ true → bio_tests (forms_read p) bio next ≡ None → SaysBio p bio next
bio_said p bio next is agree e =
    let a = both_passed (bytes_eq bio.key dash || is_declared bio.key (forms_read p)) why.Name _ e in
    let sector = number_said 0 4294967295 bio.sector _ a.1 in
    let units = number_said 0 max_bio_units bio.units _ sector.3 in
    let b = both_passed (bytes_eq bio.number dash || is_number_text bio.number) why.Number next units.3 in
    let context = context_said p bio is agree a.0 b.0 in
    record {
      context = context.context;
      sector = number_in bio.sector;
      units = number_in bio.units;
      fields = λ i. record { key = context.key i; sector = sector.0 i; units = units.0 i; number = context.number i };
      valid = context.valid;
      low = sector.2;
      few = units.2;
      passes = b.1;
    }

-- the limits of a bio
record SaysLimits (p : Progress) (context : Option Context) (units : ℕ) : Type 0 where
  few_sectors : units * unit_sectors (bare_keys p.keys) context ≤ max_bio_sectors
  fits : sum_by unit_count_of_section (sections_read p) + units ≤ max_units
  room : sum_by length (sections_read p) < max_ops

few_units_said : (units : ℕ) → units ≤ max_bio_units → number_in (decimal units) ≡ units
few_units_said units few = number_in-decimal units (omega arith)

limits_said : (p : Progress) (context : Option Context) (sector units : ℕ) → IsProgress p → IsContext (bare_keys p.keys) context → units ≤ max_bio_units → bio_limits (forms_read p) (bio_form p.keys context sector units) ≡ None → SaysLimits p context units
limits_said p context sector units is valid few e =
    let bio = bio_form p.keys context sector units in
    let above = forms_read p in
    let said = few_units_said units few in
    let product : number_in bio.units * sectors_under bio.key above ≡ units * unit_sectors (bare_keys p.keys) context =
    ap (λ (n : ℕ). n * sectors_under bio.key above) said ∙ ap (λ (n : ℕ). units * n) (sectors_under-read p context is valid) in
    let sum : sum_by form_units above + number_in bio.units ≡ sum_by unit_count_of_section (sections_read p) + units =
    ap (λ (n : ℕ). n + number_in bio.units) (units-read p is) ∙ ap (λ (n : ℕ). sum_by unit_count_of_section (sections_read p) + n) said in
    let a = both_passed (nat_le (number_in bio.units * sectors_under bio.key above) max_bio_sectors) why.Limit _ e in
    let b = both_passed (nat_le (sum_by form_units above + number_in bio.units) max_units) why.Limit _ a.1 in
    record {
      few_sectors = subst (λ (n : ℕ). n ≤ max_bio_sectors) product (leb-true _ max_bio_sectors a.0);
      fits = subst (λ (n : ℕ). n ≤ max_units) sum (leb-true _ max_units b.0);
      room = room_is p is b.1;
    }

-- a bio that passes is one
is_bio : (p : Progress) (context : Option Context) (sector units : ℕ) → IsContext (bare_keys p.keys) context → sector ≤ 4294967295 → units ≤ max_bio_units → SaysLimits p context units → IsBio (bare_keys p.keys) context sector units
is_bio p context sector units valid low few limits = record { context_is = valid; sector_is = omega arith; few_units = few; few_sectors = limits.few_sectors }

read_taken : (p : Progress) (bio : BioForm) → IsProgress p → may_follow p.last sorts.Operation ≡ true → dashes_agree bio ≡ true → tests_of (forms_read p) (Read bio) ≡ None → Took p (form_line (Read bio))
read_taken p bio is follows agree e =
    let said = bio_said p bio (bio_limits (forms_read p) bio) is agree e in
    let limits = limits_said p said.context said.sector said.units is said.valid said.few (ap (λ (b : BioForm). bio_limits (forms_read p) b) (sym said.fields) ∙ said.passes) in
    let op = ops.Read said.context said.sector said.units in
    let now = some_plugged (open_after false p.section) is.plugs in
    subst (λ (b : BioForm). Took p (form_line (Read b))) (sym said.fields)
    (op_taken p op is follows (is_bio p said.context said.sector said.units said.valid said.low said.few limits) (plugs_behind p now.0 op now.1 refl) limits.room limits.fits)

-- what a write writes
record SaysText (p : Progress) (context : Option Context) (units : ℕ) (form : TextForm) : Type 0 where
  text : Text
  valid : IsText (bare_keys p.keys) context units text
  fields : form ≡ text_form_of text

one_byte : (bytes : List ℕ) → IsBytes bytes → 1 ≤ length bytes → length bytes ≤ 1 → (byte : ℕ) × (byte < 256) × (bytes ≡ byte ∷ [])
one_byte [] fits low high = absurd (omega arith)
one_byte (b ∷ []) fits low high = (b, fits 0, refl)
one_byte (b ∷ c ∷ bytes) fits low high = absurd (omega arith)

factor : (a b : ℕ) → 0 < a * b → 1 ≤ a
factor zero b h = absurd (omega arith)
factor (suc a) b h = omega arith

text_said : (p : Progress) (context : Option Context) (sector units : ℕ) (form : TextForm) → IsProgress p → IsContext (bare_keys p.keys) context → units ≤ max_bio_units → is_text (size_of (forms_read p) (bio_form p.keys context sector units)) form ≡ true → SaysText p context units form
text_said p context sector units (Fill digits) is valid few e =
    let said = encode_lower-bytes_in 1 1 digits e in
    let byte = one_byte (bytes_in digits) (IsBytes-bytes_in digits) said.1 said.2 in
    record { text = texts.Fill byte.0; valid = byte.1; fields = ap Fill (said.0 ∙ ap encode_lower byte.2) }
text_said p context sector units (Hex digits) is valid few e =
    let bio = bio_form p.keys context sector units in
    let size : size_of (forms_read p) bio ≡ units * (512 * unit_sectors (bare_keys p.keys) context) =
    ap (λ (n : ℕ). n * (512 * sectors_under bio.key (forms_read p))) (few_units_said units few) ∙ ap (λ (n : ℕ). units * (512 * n)) (sectors_under-read p context is valid) in
    let n = units * (512 * unit_sectors (bare_keys p.keys) context) in
    let parts = and_parts _ _ (ap (λ (n : ℕ). is_hex_text n n digits && nat_lt 0 n) (sym size) ∙ e) in
    let said = encode_lower-bytes_in n n digits parts.0 in
    let least = said.1 in
    let most = said.2 in
    record { text = texts.Bytes (bytes_in digits); valid = (IsBytes-bytes_in digits, factor units _ (ltb-true 0 n parts.1), omega arith); fields = ap Hex said.0 }

write_taken : (p : Progress) (bio : BioForm) (form : TextForm) → IsProgress p → may_follow p.last sorts.Operation ≡ true → dashes_agree bio ≡ true → tests_of (forms_read p) (Write bio form) ≡ None → Took p (form_line (Write bio form))
write_taken p bio form is follows agree e =
    let above = forms_read p in
    let said = bio_said p bio (first_why (is_text (size_of above bio) form) why.Hex (bio_limits above bio)) is agree e in
    let a = both_passed (is_text (size_of above bio) form) why.Hex (bio_limits above bio) said.passes in
    let limits = limits_said p said.context said.sector said.units is said.valid said.few (ap (λ (b : BioForm). bio_limits above b) (sym said.fields) ∙ a.1) in
    let text = text_said p said.context said.sector said.units form is said.valid said.few (ap (λ (b : BioForm). is_text (size_of above b) form) (sym said.fields) ∙ a.0) in
    let op = ops.Write said.context said.sector said.units text.text in
    let now = some_plugged (open_after false p.section) is.plugs in
    subst (λ (b : BioForm). Took p (form_line (Write b form))) (sym said.fields)
    (subst (λ (t : TextForm). Took p (form_line (Write (bio_form p.keys said.context said.sector said.units) t))) (sym text.fields)
    (op_taken p op is follows (is_bio p said.context said.sector said.units said.valid said.low said.few limits, text.valid) (plugs_behind p now.0 op now.1 refl) limits.room limits.fits))

-- ---- any line

-- a line of a form that may stand there, which passes its tests, has been read
pub form_taken : (p : Progress) (form : Form) → IsProgress p → may_follow p.last (sort_of form) ≡ true → DashesAgree form → tests_of (forms_read p) form ≡ None → Took p (form_line form)
form_taken p Version is follows agrees e = record { after = with_version p; rules = IsProgress-version p is follows; lines = lines_read-version p is follows }
form_taken p (Disk blocks) is follows agrees e =
    let said = number_said 1 16384 blocks None e in
    let n = number_in blocks in
    subst (λ (field : List ℕ). Took p (form_line (Disk field))) (sym said.0)
    (record { after = with_disk p n; rules = IsProgress-disk p n is follows (said.1, said.2); lines = lines_read-disk p n is follows })
form_taken p (Fallback on) is follows agrees e = record { after = with_fallback p on; rules = IsProgress-fallback p on is follows; lines = lines_read-fallback p on is follows }
form_taken p (Device device) is follows agrees e = device_taken p device is follows e
form_taken p (Key key) is follows agrees e = key_taken p key is follows e
form_taken p (Fault fault) is follows agrees e = fault_taken p fault is follows e
form_taken p Thread is follows agrees e = thread_taken p is follows e
form_taken p (Write bio text) is follows agrees e = write_taken p bio text is follows agrees e
form_taken p (Read bio) is follows agrees e = read_taken p bio is follows agrees e
form_taken p (Evict name) is follows agrees e = evict_taken p name is follows e
form_taken p (Reset device) is follows agrees e = reset_taken p device is follows e
form_taken p Plug is follows agrees e = plug_taken p is follows e
form_taken p Unplug is follows agrees e = unplug_taken p is follows e
form_taken p End is follows agrees e = end_taken p is follows e

-- what a line has that passes
pub record PassesAs (p : Progress) (line : TextLine) : Type 0 where
  pub form : Form
  pub form_is : form_of line ≡ Some form
  pub took : Took p line

pub line_taken : (p : Progress) (line : TextLine) → IsProgress p → error_at (forms_read p) line ≡ None → PassesAs p line
line_taken p line is e =
    let above = forms_read p in
    let a = both_passed (not (is_end (last_sort above))) why.End _ e in
    by_form (form_of line) refl a.1
  where
    by_form : (o : Option Form) → form_of line ≡ o → error_of_form (forms_read p) o ≡ None → PassesAs p line
    by_form None is_form e = absurd cc
    by_form (Some form) is_form e =
        let c = both_passed (may_follow (last_sort (forms_read p)) (sort_of form)) why.Word (tests_of (forms_read p) form) e in
        let follows : may_follow p.last (sort_of form) ≡ true = ap (λ (l : Option Sort). may_follow l (sort_of form)) (sym (last_sort-read p is)) ∙ c.0 in
        let of_form = IsLineOf-form_of line form is_form in
        record { form = form; form_is = is_form; took = subst (Took p) (sym of_form.line_is) (form_taken p form is follows of_form.agrees c.1) }
