-- What the lines above say, of a script that is being read: the sort of the nearest, counts and sums, whether a plug is open,
-- and the key that a name names.
use Rattle.std.proofs.Common.{nat_eq, ◌||◌, ◌⊎◌, inl, inr, ⊎_elim, ◌≡◌, ◌≢◌, ℕ, zero, suc, ◌<◌, ◌≤◌, ◌+◌, ◌/◌, Bool, true, false, cond, List, [], ◌∷◌, ◌++◌, length, map, flat_map, slice_get, Option, Some, None, option_map, is_some, append-nil, length-append, bytes_eq, refl, sym, ap, subst, ◌∙◌, arith}
use Rattle.std.specs.Prelude.{sum_by, count_by, AllPairs}
use Rattle.std.specs.Option.{option_map_or}
use Rattle.std.specs.List.{AllByRecursion}
use Rattle.std.specs.Fmt.{decimal}
use Rattle.std.proofs.lemmas.List.Sums.{sum_by-cons, sum_by-append}
use Rattle.std.proofs.lemmas.List.Elements.{recursion_from_All}
use Rattle.std.proofs.lemmas.Option.{slice_get-map}
use Rattle.std.proofs.lemmas.List.{length-map}
use Rattle.bc_key.specs.DataUnits.{bytes_of, sectors_of}
use Rattle.bc_key.specs.declared.config.DataUnit.{DataUnit}
use Rattle.bc_key.specs.declared.config.DataUnit.TheVariants.{Bytes512, Bytes1024, Bytes2048, Bytes4096}
use Rattle.bc_key.specs.declared.keys.KeyNo.{KeyNo}
use Rattle.bc_key.specs.KeyData.{KeyData}
use Rattle.bc_bio.specs.declared.context.Context.{Context}
use Rattle.bc_bio.specs.Extent.{unit_sectors}
use Rattle.bc_stack.specs.declared.target.Target.{Target}
use Rattle.bc_script.specs.declared.named_key.NamedKey.{NamedKey}
use Rattle.bc_script.specs.declared.op.Op.{Op}
use Rattle.bc_script.specs.declared.op.Op.TheVariants as ops
use Rattle.bc_script.specs.declared.sort.Sort.{Sort}
use Rattle.bc_script.specs.declared.sort.Sort.TheVariants as sorts
use Rattle.bc_script.specs.Script.{IsDevice, IsNamedKey, IsFault, IsContext, IsOp, IsSection, bare_keys, is_before, open_after, unit_count, unit_count_of_section}
use Rattle.bc_script.specs.ScriptText.{key_name_of, dash, key_field}
use Rattle.bc_script.specs.Forms.{Form, DeviceForm, KeyForm, FaultForm, Version, Disk, Fallback, Device, Key, Fault, Thread, Plug, Unplug, End, sort_of}
use Rattle.bc_script.specs.ScriptErrors.{is_end, last_sort, is_device, device_blocks_in, device_blocks_above, disk_blocks_in, are_whole, declares_key, plans_fault, is_thread, is_operation, form_units, number_in, key_named, is_declared, sectors_under, is_open, fault_in, ascends}
use Rattle.bc_script.specs.Progress.{Progress, IsProgress, IsAt, blocks_of, is_whole, with_section, is_in_section, lines_read, forms_read, sections_read}
use Rattle.bc_script.proofs.Onto.{onto, onto-append, length-onto, length-HaveForms, sum_by-onto, sum_by-agree, sum_by-map, sum_by-flat_map, sum_by-zeros, sum_by-ones, last_sort-onto, key_named-onto, ascends-onto, AllByRecursion-append}
use Rattle.bc_script.proofs.Fields.{number_in-decimal}
use Rattle.bc_script.proofs.KeyNames.{named_too}
use Rattle.bc_script.specs.Statements.{follows_faults}
use Rattle.bc_script.specs.DeviceFields.{device_form}
use Rattle.bc_script.proofs.Faults.{after_more, fault_in-fault_fields}
use Rattle.bc_script.proofs.LineForms.{bytes_eq-same, bytes_eq-other, name_at, name_is_no_dash}
use Rattle.bc_script.proofs.FormsRead.{first_forms, device_forms, head_forms, key_forms, fault_forms, section_forms, end_forms, forms_in, ops_read, have_forms, forms_read-in, parts, last_section}
pub use Rattle.bc_script.proofs.FormsRead.{forms_read-step}
pub use Rattle.bc_script.proofs.Faults.{fault_fields}
pub use Rattle.bc_script.proofs.LineForms.{key_fields, op_form, bio_form, text_form_of, form_of-version, form_of-disk, form_of-fallback, form_of-device_line, form_of-thread, form_of-end, form_of-key_line, form_of-fault_line, form_of-op_line}

-- ---- counts and sums

-- what the first forms and an end add up to, where those forms add nothing
sum_first : (f : Form → ℕ) → f Version ≡ 0 → ((blocks : List ℕ) → f (Disk blocks) ≡ 0) → ((on : Bool) → f (Fallback on) ≡ 0) → (last : Option Sort) (blocks : ℕ) (fallback : Bool) → sum_by f (first_forms last blocks fallback) ≡ 0
sum_first f version disk switch None blocks fallback = refl
sum_first f version disk switch (Some sorts.Version) blocks fallback = omega arith
sum_first f version disk switch (Some sorts.Disk) blocks fallback = let d = disk (decimal blocks) in omega arith
sum_first f version disk switch (Some sorts.Fallback) blocks fallback = let d = disk (decimal blocks) in let s = switch fallback in omega arith
sum_first f version disk switch (Some sorts.Device) blocks fallback = let d = disk (decimal blocks) in let s = switch fallback in omega arith
sum_first f version disk switch (Some sorts.Key) blocks fallback = let d = disk (decimal blocks) in let s = switch fallback in omega arith
sum_first f version disk switch (Some sorts.Fault) blocks fallback = let d = disk (decimal blocks) in let s = switch fallback in omega arith
sum_first f version disk switch (Some sorts.Thread) blocks fallback = let d = disk (decimal blocks) in let s = switch fallback in omega arith
sum_first f version disk switch (Some sorts.Operation) blocks fallback = let d = disk (decimal blocks) in let s = switch fallback in omega arith
sum_first f version disk switch (Some sorts.End) blocks fallback = let d = disk (decimal blocks) in let s = switch fallback in omega arith

sum_end : (f : Form → ℕ) → f End ≡ 0 → (last : Option Sort) → sum_by f (end_forms last) ≡ 0
sum_end f none None = refl
sum_end f none (Some sorts.Version) = refl
sum_end f none (Some sorts.Disk) = refl
sum_end f none (Some sorts.Fallback) = refl
sum_end f none (Some sorts.Device) = refl
sum_end f none (Some sorts.Key) = refl
sum_end f none (Some sorts.Fault) = refl
sum_end f none (Some sorts.Thread) = refl
sum_end f none (Some sorts.Operation) = refl
sum_end f none (Some sorts.End) = omega arith

-- what the first forms add, what a device adds, what a key adds, what a planned fault adds, and what a section adds with
-- its operations
sum_read : (f : Form → ℕ) (first : ℕ) (device : Target → ℕ) (key fault : ℕ) (of_section : List Op → ℕ) (p : Progress) → IsProgress p → sum_by f (first_forms p.last p.blocks p.fallback) ≡ first → f End ≡ 0
    → ((t : Target) → IsDevice t → f (Device (device_form t)) ≡ device t)
    → ((named : KeyForm) → f (Key named) ≡ key)
    → ((planned : FaultForm) → f (Fault planned) ≡ fault)
    → ((section : List Op) → AllByRecursion (IsOp (length p.targets) (bare_keys p.keys)) section → sum_by f (section_forms p.keys section) ≡ of_section section)
    → sum_by f (forms_read p) ≡ first + sum_by device p.targets + sum_by (λ (named : NamedKey). key) p.keys + sum_by (λ (planned : ℕ × ℕ). fault) p.faults + sum_by of_section (sections_read p)
sum_read f first device key fault of_section p is of_first none each_device each_key each_fault each_section =
    let sections = flat_map (section_forms p.keys) (sections_read p) in
    let whole : sum_by f (onto (forms_in p) []) ≡ sum_by f (forms_in p) + 0 = sum_by-onto f (forms_in p) [] in
    let a = sum_by-append f (head_forms p) (key_forms p.keys ++ (fault_forms p.faults ++ (sections ++ end_forms p.last))) in
    let g = sum_by-append f (first_forms p.last p.blocks p.fallback) (device_forms p.targets) in
    let b = sum_by-append f (key_forms p.keys) (fault_forms p.faults ++ (sections ++ end_forms p.last)) in
    let c = sum_by-append f (fault_forms p.faults) (sections ++ end_forms p.last) in
    let d = sum_by-append f sections (end_forms p.last) in
    let end = sum_end f none p.last in
    let devices : sum_by f (device_forms p.targets) ≡ sum_by device p.targets =
    sum_by-map f (λ (t : Target). Device (device_form t)) p.targets
    ∙ sum_by-agree IsDevice (λ (t : Target). f (Device (device_form t))) device each_device p.targets is.devices.each in
    let keys : sum_by f (key_forms p.keys) ≡ sum_by (λ (named : NamedKey). key) p.keys =
    sum_by-map f (λ (named : NamedKey). Key (key_fields named)) p.keys
    ∙ sum_by-agree (λ (named : NamedKey). Unit {0}) (λ (named : NamedKey). f (Key (key_fields named))) (λ (named : NamedKey). key) (λ named u. each_key (key_fields named)) p.keys (all_units p.keys) in
    let faults : sum_by f (fault_forms p.faults) ≡ sum_by (λ (planned : ℕ × ℕ). fault) p.faults =
    sum_by-map f (λ (planned : ℕ × ℕ). Fault (fault_fields planned)) p.faults
    ∙ sum_by-agree (λ (planned : ℕ × ℕ). Unit {0}) (λ (planned : ℕ × ℕ). f (Fault (fault_fields planned))) (λ (planned : ℕ × ℕ). fault) (λ planned u. each_fault (fault_fields planned)) p.faults (all_units p.faults) in
    let of_sections : sum_by f sections ≡ sum_by of_section (sections_read p) =
    sum_by-flat_map f (section_forms p.keys) (sections_read p)
    ∙ sum_by-agree (AllByRecursion (IsOp (length p.targets) (bare_keys p.keys))) (λ section. sum_by f (section_forms p.keys section)) of_section each_section (sections_read p) (ops_read p is) in
    ap (sum_by f) (forms_read-in p is) ∙ omega arith
  where
    all_units : {X : Type 0} (xs : List X) → AllByRecursion (λ (x : X). Unit {0}) xs
    all_units [] = tt
    all_units (x ∷ xs) = (tt, all_units xs)

-- what counts for one
abbrev one : Bool → ℕ
one b = cond b 1 0

-- an operation's form is no key's, plans no fault and begins no section
pub op_is : (keys : List NamedKey) (op : Op)
    → (declares_key (op_form keys op) ≡ false) × (is_thread (op_form keys op) ≡ false) × (is_operation (op_form keys op) ≡ true) × (plans_fault (op_form keys op) ≡ false) × (is_device (op_form keys op) ≡ false)
    × (device_blocks_in (op_form keys op) ≡ 0) × (disk_blocks_in (op_form keys op) ≡ 0)
op_is keys (ops.Write context sector units text) = (refl, refl, refl, refl, refl, refl, refl)
op_is keys (ops.Read context sector units) = (refl, refl, refl, refl, refl, refl, refl)
op_is keys (ops.Evict key) = (refl, refl, refl, refl, refl, refl, refl)
op_is keys (ops.Reset device) = (refl, refl, refl, refl, refl, refl, refl)
op_is keys ops.Plug = (refl, refl, refl, refl, refl, refl, refl)
op_is keys ops.Unplug = (refl, refl, refl, refl, refl, refl, refl)

-- a section adds what its first line adds, and what its operations add
section_sum : (f : Form → ℕ) (g : Op → ℕ) (devices : ℕ) (keys : List NamedKey) (section : List Op) → ((op : Op) → IsOp devices (bare_keys keys) op → f (op_form keys op) ≡ g op) → AllByRecursion (IsOp devices (bare_keys keys)) section
    → sum_by f (section_forms keys section) ≡ f Thread + sum_by g section
section_sum f g devices keys section each valid =
    let a = sum_by-cons f Thread (map (op_form keys) section) in
    let b : sum_by f (map (op_form keys) section) ≡ sum_by g section =
    sum_by-map f (op_form keys) section ∙ sum_by-agree (IsOp devices (bare_keys keys)) (λ op. f (op_form keys op)) g each section valid in
    omega arith

pub keys-read : (p : Progress) → IsProgress p → count_by declares_key (forms_read p) ≡ length p.keys
keys-read p is =
    let no_device = sum_by-zeros p.targets in
    let ones = sum_by-ones p.keys in
    let zeros = sum_by-zeros (sections_read p) in
    let none = sum_by-zeros p.faults in
    sum_read (λ form. one (declares_key form)) 0 (λ device. 0) 1 0 (λ section. 0) p is (sum_first (λ form. one (declares_key form)) refl (λ blocks. refl) (λ on. refl) p.last p.blocks p.fallback) refl (λ t v. refl) (λ key. refl) (λ fault. refl)
    (λ section valid. section_sum (λ form. one (declares_key form)) (λ op. 0) (length p.targets) p.keys section (λ op v. ap one (op_is p.keys op).0) valid ∙ ap (λ n. 0 + n) (sum_by-zeros section))
    ∙ omega arith

pub faults-read : (p : Progress) → IsProgress p → count_by plans_fault (forms_read p) ≡ length p.faults
faults-read p is =
    let no_device = sum_by-zeros p.targets in
    let zeros = sum_by-zeros p.keys in
    let ones = sum_by-ones p.faults in
    let none = sum_by-zeros (sections_read p) in
    sum_read (λ form. one (plans_fault form)) 0 (λ device. 0) 0 1 (λ section. 0) p is (sum_first (λ form. one (plans_fault form)) refl (λ blocks. refl) (λ on. refl) p.last p.blocks p.fallback) refl (λ t v. refl) (λ key. refl) (λ fault. refl)
    (λ section valid. section_sum (λ form. one (plans_fault form)) (λ op. 0) (length p.targets) p.keys section (λ op v. ap one (op_is p.keys op).3) valid ∙ ap (λ n. 0 + n) (sum_by-zeros section))
    ∙ omega arith

pub threads-read : (p : Progress) → IsProgress p → count_by is_thread (forms_read p) ≡ length (sections_read p)
threads-read p is =
    let no_device = sum_by-zeros p.targets in
    let zeros = sum_by-zeros p.keys in
    let ones = sum_by-ones (sections_read p) in
    let none = sum_by-zeros p.faults in
    sum_read (λ form. one (is_thread form)) 0 (λ device. 0) 0 0 (λ section. 1) p is (sum_first (λ form. one (is_thread form)) refl (λ blocks. refl) (λ on. refl) p.last p.blocks p.fallback) refl (λ t v. refl) (λ key. refl) (λ fault. refl)
    (λ section valid. section_sum (λ form. one (is_thread form)) (λ op. 0) (length p.targets) p.keys section (λ op v. ap one (op_is p.keys op).1) valid ∙ ap (λ n. 1 + n) (sum_by-zeros section))
    ∙ omega arith

pub operations-read : (p : Progress) → IsProgress p → count_by is_operation (forms_read p) ≡ sum_by length (sections_read p)
operations-read p is =
    let no_device = sum_by-zeros p.targets in
    let zeros = sum_by-zeros p.keys in
    let none = sum_by-zeros p.faults in
    sum_read (λ form. one (is_operation form)) 0 (λ device. 0) 0 0 length p is (sum_first (λ form. one (is_operation form)) refl (λ blocks. refl) (λ on. refl) p.last p.blocks p.fallback) refl (λ t v. refl) (λ key. refl) (λ fault. refl)
    (λ section valid. section_sum (λ form. one (is_operation form)) (λ op. 1) (length p.targets) p.keys section (λ op v. ap one (op_is p.keys op).2) valid ∙ ap (λ n. 0 + n) (sum_by-ones section) ∙ omega arith)
    ∙ omega arith

-- an operation's line says how many data units its bio has
pub units_in-op_form : (devices : ℕ) (keys : List NamedKey) (op : Op) → IsOp devices (bare_keys keys) op → form_units (op_form keys op) ≡ unit_count op
units_in-op_form devices keys (ops.Write context sector units text) valid = let few = valid.0.few_units in number_in-decimal units (omega arith)
units_in-op_form devices keys (ops.Read context sector units) valid = let few = valid.few_units in number_in-decimal units (omega arith)
units_in-op_form devices keys (ops.Evict key) valid = refl
units_in-op_form devices keys (ops.Reset device) valid = refl
units_in-op_form devices keys ops.Plug valid = refl
units_in-op_form devices keys ops.Unplug valid = refl

pub units-read : (p : Progress) → IsProgress p → sum_by form_units (forms_read p) ≡ sum_by unit_count_of_section (sections_read p)
units-read p is =
    let no_device = sum_by-zeros p.targets in
    let zeros = sum_by-zeros p.keys in
    let none = sum_by-zeros p.faults in
    sum_read form_units 0 (λ device. 0) 0 0 unit_count_of_section p is (sum_first form_units refl (λ blocks. refl) (λ on. refl) p.last p.blocks p.fallback) refl (λ t v. refl) (λ key. refl) (λ fault. refl)
    (λ section valid. section_sum form_units unit_count (length p.targets) p.keys section (units_in-op_form (length p.targets) p.keys) valid ∙ omega arith)
    ∙ omega arith

pub devices-read : (p : Progress) → IsProgress p → count_by is_device (forms_read p) ≡ length p.targets
devices-read p is =
    let ones = sum_by-ones p.targets in
    let no_key = sum_by-zeros p.keys in
    let no_fault = sum_by-zeros p.faults in
    let zeros = sum_by-zeros (sections_read p) in
    sum_read (λ form. one (is_device form)) 0 (λ device. 1) 0 0 (λ section. 0) p is (sum_first (λ form. one (is_device form)) refl (λ blocks. refl) (λ on. refl) p.last p.blocks p.fallback) refl (λ t v. refl) (λ key. refl) (λ fault. refl)
    (λ section valid. section_sum (λ form. one (is_device form)) (λ op. 0) (length p.targets) p.keys section (λ op v. ap one (op_is p.keys op).4) valid ∙ ap (λ n. 0 + n) (sum_by-zeros section))
    ∙ omega arith

pub device_blocks-read : (p : Progress) → IsProgress p → device_blocks_above (forms_read p) ≡ blocks_of p.targets
device_blocks-read p is =
    let no_key = sum_by-zeros p.keys in
    let no_fault = sum_by-zeros p.faults in
    let zeros = sum_by-zeros (sections_read p) in
    sum_read device_blocks_in 0 (λ (device : Target). device.blocks) 0 0 (λ section. 0) p is (sum_first device_blocks_in refl (λ blocks. refl) (λ on. refl) p.last p.blocks p.fallback) refl
    (λ t v. let few = v.few_blocks in number_in-decimal t.blocks (omega arith)) (λ key. refl) (λ fault. refl)
    (λ section valid. section_sum device_blocks_in (λ op. 0) (length p.targets) p.keys section (λ op v. (op_is p.keys op).5) valid ∙ ap (λ n. 0 + n) (sum_by-zeros section))
    ∙ omega arith

-- the disk's blocks, where its line and the next have been read; before that there are no devices
disk_first : (last : Option Sort) (p : Progress) → IsAt last p → (p.targets ≡ []) ⊎ (sum_by disk_blocks_in (first_forms last p.blocks p.fallback) ≡ p.blocks)
disk_first None p at = inl at.4
disk_first (Some sorts.Version) p at = inl at.4
disk_first (Some sorts.Disk) p at = inl at.5
disk_first (Some sorts.Fallback) p at = inl at.5
disk_first (Some sorts.Device) p at = let most = at.0.1 in let said = number_in-decimal p.blocks (omega arith) in inr (omega arith)
disk_first (Some sorts.Key) p at = let most = at.0.1 in let said = number_in-decimal p.blocks (omega arith) in inr (omega arith)
disk_first (Some sorts.Fault) p at = let most = at.0.1 in let said = number_in-decimal p.blocks (omega arith) in inr (omega arith)
disk_first (Some sorts.Thread) p at = let most = at.0.1 in let said = number_in-decimal p.blocks (omega arith) in inr (omega arith)
disk_first (Some sorts.Operation) p at = let most = at.0.1 in let said = number_in-decimal p.blocks (omega arith) in inr (omega arith)
disk_first (Some sorts.End) p at = let most = at.0.1 in let said = number_in-decimal p.blocks (omega arith) in inr (omega arith)

disk_blocks-read : (p : Progress) → IsProgress p → sum_by disk_blocks_in (first_forms p.last p.blocks p.fallback) ≡ p.blocks → sum_by disk_blocks_in (forms_read p) ≡ p.blocks
disk_blocks-read p is first =
    let no_device = sum_by-zeros p.targets in
    let no_key = sum_by-zeros p.keys in
    let no_fault = sum_by-zeros p.faults in
    let zeros = sum_by-zeros (sections_read p) in
    sum_read disk_blocks_in p.blocks (λ device. 0) 0 0 (λ section. 0) p is first refl (λ t v. refl) (λ key. refl) (λ fault. refl)
    (λ section valid. section_sum disk_blocks_in (λ op. 0) (length p.targets) p.keys section (λ op v. (op_is p.keys op).6) valid ∙ ap (λ n. 0 + n) (sum_by-zeros section))
    ∙ omega arith

-- whether the devices have the disk's blocks together
pub are_whole-read : (p : Progress) → IsProgress p → are_whole (forms_read p) ≡ is_whole p
are_whole-read p is = ⊎_elim none some (disk_first p.last p is.at)
  where
    none : p.targets ≡ [] → are_whole (forms_read p) ≡ is_whole p
    none e =
        ap (λ (n : ℕ). nat_eq n 0 || nat_eq (device_blocks_above (forms_read p)) (sum_by disk_blocks_in (forms_read p))) (devices-read p is ∙ ap length e)
        ∙ sym (ap (λ (ts : List Target). nat_eq (length ts) 0 || nat_eq (blocks_of ts) p.blocks) e)

    some : sum_by disk_blocks_in (first_forms p.last p.blocks p.fallback) ≡ p.blocks → are_whole (forms_read p) ≡ is_whole p
    some first = λ i. nat_eq (devices-read p is i) 0 || nat_eq (device_blocks-read p is i) (disk_blocks-read p is first i)

pub length-read : (p : Progress) → IsProgress p → length (forms_read p) ≡ length (lines_read p)
length-read p is =
    let a = length-HaveForms (lines_read p) (forms_in p) (have_forms p is) in
    let b = length-onto (forms_in p) [] in
    ap length (forms_read-in p is) ∙ omega arith

-- 3 lines, 8 devices, 4096 keys, 1024 faults, 16 sections, 65536 operations, and the end
pub length-read_le : (p : Progress) → IsProgress p → length (forms_read p) ≤ 70684
length-read_le p is =
    let devices = is.devices.count in
    let keys = is.keys.count in
    let faults = is.faults.count in
    let threads = is.few_threads in
    let ops = is.few_ops in
    let a = length-onto (forms_in p) [] in
    let b = length-append (head_forms p) (key_forms p.keys ++ (fault_forms p.faults ++ (flat_map (section_forms p.keys) (sections_read p) ++ end_forms p.last))) in
    let c = length-append (key_forms p.keys) (fault_forms p.faults ++ (flat_map (section_forms p.keys) (sections_read p) ++ end_forms p.last)) in
    let f = length-append (fault_forms p.faults) (flat_map (section_forms p.keys) (sections_read p) ++ end_forms p.last) in
    let d = length-append (flat_map (section_forms p.keys) (sections_read p)) (end_forms p.last) in
    let h = length-append (first_forms p.last p.blocks p.fallback) (device_forms p.targets) in
    let m : length (device_forms p.targets) ≡ length p.targets = length-map p.targets (λ (t : Target). Device (device_form t)) in
    let head = first_le p.last p.blocks p.fallback in
    let end = end_le p.last in
    let k : length (key_forms p.keys) ≡ length p.keys = length-map p.keys (λ (named : NamedKey). Key (key_fields named)) in
    let g : length (fault_forms p.faults) ≡ length p.faults = length-map p.faults (λ (fault : ℕ × ℕ). Fault (fault_fields fault)) in
    let s = of_sections p.keys (sections_read p) in
    subst (λ (forms : List Form). length forms ≤ 70684) (sym (forms_read-in p is)) (omega arith)
  where
    first_le : (last : Option Sort) (blocks : ℕ) (fallback : Bool) → length (first_forms last blocks fallback) ≤ 3
    first_le None blocks fallback = omega arith
    first_le (Some sorts.Version) blocks fallback = omega arith
    first_le (Some sorts.Disk) blocks fallback = omega arith
    first_le (Some sorts.Fallback) blocks fallback = omega arith
    first_le (Some sorts.Device) blocks fallback = omega arith
    first_le (Some sorts.Key) blocks fallback = omega arith
    first_le (Some sorts.Fault) blocks fallback = omega arith
    first_le (Some sorts.Thread) blocks fallback = omega arith
    first_le (Some sorts.Operation) blocks fallback = omega arith
    first_le (Some sorts.End) blocks fallback = omega arith

    end_le : (last : Option Sort) → length (end_forms last) ≤ 1
    end_le None = omega arith
    end_le (Some sorts.Version) = omega arith
    end_le (Some sorts.Disk) = omega arith
    end_le (Some sorts.Fallback) = omega arith
    end_le (Some sorts.Device) = omega arith
    end_le (Some sorts.Key) = omega arith
    end_le (Some sorts.Fault) = omega arith
    end_le (Some sorts.Thread) = omega arith
    end_le (Some sorts.Operation) = omega arith
    end_le (Some sorts.End) = omega arith

    of_sections : (keys : List NamedKey) (sections : List (List Op)) → length (flat_map (section_forms keys) sections) ≡ length sections + sum_by length sections
    of_sections keys [] = refl
    of_sections keys (section ∷ sections) =
        let a = length-append (section_forms keys section) (flat_map (section_forms keys) sections) in
        let b : length (map (op_form keys) section) ≡ length section = length-map section (op_form keys) in
        let c = of_sections keys sections in
        let d = sum_by-cons length section sections in
        omega arith

-- ---- the nearest line

key_sorts : (keys : List NamedKey) → AllByRecursion (λ form. sort_of form ≡ sorts.Key) (key_forms keys)
key_sorts [] = tt
key_sorts (k ∷ ks) = (refl, key_sorts ks)

fault_sorts : (faults : List (ℕ × ℕ)) → AllByRecursion (λ form. sort_of form ≡ sorts.Fault) (fault_forms faults)
fault_sorts [] = tt
fault_sorts (f ∷ fs) = (refl, fault_sorts fs)

op_sort : (keys : List NamedKey) (op : Op) → sort_of (op_form keys op) ≡ sorts.Operation
op_sort keys (ops.Write context sector units text) = refl
op_sort keys (ops.Read context sector units) = refl
op_sort keys (ops.Evict key) = refl
op_sort keys (ops.Reset device) = refl
op_sort keys ops.Plug = refl
op_sort keys ops.Unplug = refl

op_sorts : (keys : List NamedKey) (section : List Op) → AllByRecursion (λ form. sort_of form ≡ sorts.Operation) (map (op_form keys) section)
op_sorts keys [] = tt
op_sorts keys (op ∷ section) = (op_sort keys op, op_sorts keys section)

device_sorts : (devices : List Target) → AllByRecursion (λ form. sort_of form ≡ sorts.Device) (device_forms devices)
device_sorts [] = tt
device_sorts (d ∷ ds) = (refl, device_sorts ds)

last_sort_of : (last : Option Sort) (blocks : ℕ) (fallback : Bool) (targets : List Target) (keys : List NamedKey) (faults : List (ℕ × ℕ)) (threads : List (List Op)) (section : List Op)
    → IsAt last (record { last = last; blocks = blocks; fallback = fallback; targets = targets; keys = keys; faults = faults; threads = threads; section = section })
    → last_sort (onto (end_forms last) (onto (flat_map (section_forms keys) (threads ++ with_section (is_in_section last) section)) (onto (fault_forms faults) (onto (key_forms keys) (onto (first_forms last blocks fallback ++ device_forms targets) []))))) ≡ last
last_sort_of None blocks fallback (d ∷ ds) keys faults threads section at = let e = at.4 in absurd cc
last_sort_of None blocks fallback [] [] [] [] section at = refl
last_sort_of None blocks fallback [] (k ∷ ks) faults threads section at = let e = at.0 in absurd cc
last_sort_of None blocks fallback [] [] (f ∷ fs) threads section at = let e = at.1 in absurd cc
last_sort_of None blocks fallback [] [] [] (t ∷ ts) section at = let e = at.2 in absurd cc
last_sort_of (Some sorts.Version) blocks fallback (d ∷ ds) keys faults threads section at = let e = at.4 in absurd cc
last_sort_of (Some sorts.Version) blocks fallback [] [] [] [] section at = refl
last_sort_of (Some sorts.Version) blocks fallback [] (k ∷ ks) faults threads section at = let e = at.0 in absurd cc
last_sort_of (Some sorts.Version) blocks fallback [] [] (f ∷ fs) threads section at = let e = at.1 in absurd cc
last_sort_of (Some sorts.Version) blocks fallback [] [] [] (t ∷ ts) section at = let e = at.2 in absurd cc
last_sort_of (Some sorts.Disk) blocks fallback (d ∷ ds) keys faults threads section at = let e = at.5 in absurd cc
last_sort_of (Some sorts.Disk) blocks fallback [] [] [] [] section at = refl
last_sort_of (Some sorts.Disk) blocks fallback [] (k ∷ ks) faults threads section at = let e = at.1 in absurd cc
last_sort_of (Some sorts.Disk) blocks fallback [] [] (f ∷ fs) threads section at = let e = at.2 in absurd cc
last_sort_of (Some sorts.Disk) blocks fallback [] [] [] (t ∷ ts) section at = let e = at.3 in absurd cc
last_sort_of (Some sorts.Fallback) blocks fallback (d ∷ ds) keys faults threads section at = let e = at.5 in absurd cc
last_sort_of (Some sorts.Fallback) blocks fallback [] [] [] [] section at = refl
last_sort_of (Some sorts.Fallback) blocks fallback [] (k ∷ ks) faults threads section at = let e = at.1 in absurd cc
last_sort_of (Some sorts.Fallback) blocks fallback [] [] (f ∷ fs) threads section at = let e = at.2 in absurd cc
last_sort_of (Some sorts.Fallback) blocks fallback [] [] [] (t ∷ ts) section at = let e = at.3 in absurd cc
last_sort_of (Some sorts.Device) blocks fallback [] keys faults threads section at = absurd (omega arith)
last_sort_of (Some sorts.Device) blocks fallback (d ∷ ds) (k ∷ ks) faults threads section at = let e = at.1 in absurd cc
last_sort_of (Some sorts.Device) blocks fallback (d ∷ ds) [] (f ∷ fs) threads section at = let e = at.2 in absurd cc
last_sort_of (Some sorts.Device) blocks fallback (d ∷ ds) [] [] (t ∷ ts) section at = let e = at.3 in absurd cc
last_sort_of (Some sorts.Device) blocks fallback (d ∷ ds) [] [] [] section at = last_sort-onto sorts.Device (device_forms ds) (Device (device_form d) ∷ Fallback fallback ∷ Disk (decimal blocks) ∷ Version ∷ []) (device_sorts ds) refl
last_sort_of (Some sorts.Key) blocks fallback targets [] faults threads section at = absurd (omega arith)
last_sort_of (Some sorts.Key) blocks fallback targets (k ∷ ks) (f ∷ fs) threads section at = let e = at.2 in absurd cc
last_sort_of (Some sorts.Key) blocks fallback targets (k ∷ ks) [] (t ∷ ts) section at = let e = at.3 in absurd cc
last_sort_of (Some sorts.Key) blocks fallback targets (k ∷ ks) [] [] section at = last_sort-onto sorts.Key (key_forms ks) (Key (key_fields k) ∷ onto (device_forms targets) (Fallback fallback ∷ Disk (decimal blocks) ∷ Version ∷ [])) (key_sorts ks) refl
last_sort_of (Some sorts.Fault) blocks fallback targets keys [] threads section at = absurd (omega arith)
last_sort_of (Some sorts.Fault) blocks fallback targets keys (f ∷ fs) (t ∷ ts) section at = let e = at.2 in absurd cc
last_sort_of (Some sorts.Fault) blocks fallback targets keys (f ∷ fs) [] section at =
    last_sort-onto sorts.Fault (fault_forms fs) (Fault (fault_fields f) ∷ onto (key_forms keys) (onto (device_forms targets) (Fallback fallback ∷ Disk (decimal blocks) ∷ Version ∷ []))) (fault_sorts fs) refl
last_sort_of (Some sorts.Thread) blocks fallback targets keys faults threads (op ∷ section) at = let e = at.1 in absurd cc
last_sort_of (Some sorts.Thread) blocks fallback targets keys faults threads [] at = ap last_sort (last_section keys threads [] (onto (fault_forms faults) (onto (key_forms keys) (onto (device_forms targets) (Fallback fallback ∷ Disk (decimal blocks) ∷ Version ∷ [])))))
last_sort_of (Some sorts.Operation) blocks fallback targets keys faults threads [] at = absurd (omega arith)
last_sort_of (Some sorts.Operation) blocks fallback targets keys faults threads (op ∷ section) at =
    let above = onto (fault_forms faults) (onto (key_forms keys) (onto (device_forms targets) (Fallback fallback ∷ Disk (decimal blocks) ∷ Version ∷ []))) in
    ap last_sort (last_section keys threads (op ∷ section) above)
    ∙ last_sort-onto sorts.Operation (map (op_form keys) section) (op_form keys op ∷ Thread ∷ onto (flat_map (section_forms keys) threads) above)
    (op_sorts keys section) (ap Some (op_sort keys op))
last_sort_of (Some sorts.End) blocks fallback targets keys faults threads section at = refl

pub last_sort-read : (p : Progress) → IsProgress p → last_sort (forms_read p) ≡ p.last
last_sort-read p is = ap last_sort (parts p is) ∙ last_sort_of p.last p.blocks p.fallback p.targets p.keys p.faults p.threads p.section is.at

-- ---- plugs

open_keys : (keys : List NamedKey) (above : List Form) → is_open (onto (key_forms keys) above) ≡ is_open above
open_keys [] above = refl
open_keys (k ∷ ks) above = open_keys ks (Key (key_fields k) ∷ above)

open_faults : (faults : List (ℕ × ℕ)) (above : List Form) → is_open (onto (fault_forms faults) above) ≡ is_open above
open_faults [] above = refl
open_faults (f ∷ fs) above = open_faults fs (Fault (fault_fields f) ∷ above)

open_devices : (devices : List Target) (above : List Form) → is_open (onto (device_forms devices) above) ≡ is_open above
open_devices [] above = refl
open_devices (d ∷ ds) above = open_devices ds (Device (device_form d) ∷ above)

open_first : (last : Option Sort) (blocks : ℕ) (fallback : Bool) → is_open (onto (first_forms last blocks fallback) []) ≡ false
open_first None blocks fallback = refl
open_first (Some sorts.Version) blocks fallback = refl
open_first (Some sorts.Disk) blocks fallback = refl
open_first (Some sorts.Fallback) blocks fallback = refl
open_first (Some sorts.Device) blocks fallback = refl
open_first (Some sorts.Key) blocks fallback = refl
open_first (Some sorts.Fault) blocks fallback = refl
open_first (Some sorts.Thread) blocks fallback = refl
open_first (Some sorts.Operation) blocks fallback = refl
open_first (Some sorts.End) blocks fallback = refl

open_head : (p : Progress) → is_open (onto (head_forms p) []) ≡ false
open_head p =
    ap is_open (onto-append (first_forms p.last p.blocks p.fallback) (device_forms p.targets) [])
    ∙ open_devices p.targets (onto (first_forms p.last p.blocks p.fallback) [])
    ∙ open_first p.last p.blocks p.fallback

open_end : (last : Option Sort) (above : List Form) → is_open (onto (end_forms last) above) ≡ is_open above
open_end None above = refl
open_end (Some sorts.Version) above = refl
open_end (Some sorts.Disk) above = refl
open_end (Some sorts.Fallback) above = refl
open_end (Some sorts.Device) above = refl
open_end (Some sorts.Key) above = refl
open_end (Some sorts.Fault) above = refl
open_end (Some sorts.Thread) above = refl
open_end (Some sorts.Operation) above = refl
open_end (Some sorts.End) above = refl

same_behind : (a b : Bool) → Some a ≡ Some b → a ≡ b
same_behind a b e = cc

open_ops : (keys : List NamedKey) (section : List Op) (above : List Form) (before behind : Bool) → is_open above ≡ before → open_after before section ≡ Some behind → is_open (onto (map (op_form keys) section) above) ≡ behind
open_ops keys [] above before behind e h = e ∙ same_behind before behind h
open_ops keys (ops.Write context sector units text ∷ section) above before behind e h = open_ops keys section (op_form keys (ops.Write context sector units text) ∷ above) before behind e h
open_ops keys (ops.Read context sector units ∷ section) above before behind e h = open_ops keys section (op_form keys (ops.Read context sector units) ∷ above) before behind e h
open_ops keys (ops.Evict key ∷ section) above before behind e h = open_ops keys section (op_form keys (ops.Evict key) ∷ above) before behind e h
open_ops keys (ops.Reset device ∷ section) above before behind e h = open_ops keys section (op_form keys (ops.Reset device) ∷ above) before behind e h
open_ops keys (ops.Plug ∷ section) above true behind e h = absurd cc
open_ops keys (ops.Plug ∷ section) above false behind e h = open_ops keys section (Plug ∷ above) true behind refl h
open_ops keys (ops.Unplug ∷ section) above true behind e h = open_ops keys section (Unplug ∷ above) false behind refl h
open_ops keys (ops.Unplug ∷ section) above false behind e h = absurd cc

open_sections : (devices : ℕ) (keys : List NamedKey) (threads : List (List Op)) (above : List Form) → AllByRecursion (IsSection devices (bare_keys keys)) threads → is_open above ≡ false → is_open (onto (flat_map (section_forms keys) threads) above) ≡ false
open_sections devices keys [] above each e = e
open_sections devices keys (thread ∷ threads) above each e =
    ap is_open (onto-append (section_forms keys thread) (flat_map (section_forms keys) threads) above)
    ∙ open_sections devices keys threads (onto (section_forms keys thread) above) each.1 (open_ops keys thread (Thread ∷ above) false false e each.0.plugs)

-- outside a section no operations are kept
outside : (last : Option Sort) (p : Progress) → is_in_section last ≡ false → IsAt last p → p.section ≡ []
outside None p out at = at.3
outside (Some sorts.Version) p out at = at.3
outside (Some sorts.Disk) p out at = at.4
outside (Some sorts.Fallback) p out at = at.4
outside (Some sorts.Device) p out at = at.4
outside (Some sorts.Key) p out at = at.4
outside (Some sorts.Fault) p out at = at.3
outside (Some sorts.Thread) p out at = absurd cc
outside (Some sorts.Operation) p out at = absurd cc
outside (Some sorts.End) p out at = at.1

open_last : (inside : Bool) (devices : ℕ) (keys : List NamedKey) (threads : List (List Op)) (section : List Op) (above : List Form) (plugged : Bool) → (inside ≡ false → section ≡ []) → AllByRecursion (IsSection devices (bare_keys keys)) threads
    → is_open above ≡ false → open_after false section ≡ Some plugged → is_open (onto (flat_map (section_forms keys) (threads ++ with_section inside section)) above) ≡ plugged
open_last true devices keys threads section above plugged out each e h =
    ap is_open (last_section keys threads section above)
    ∙ open_ops keys section (Thread ∷ onto (flat_map (section_forms keys) threads) above) false plugged (open_sections devices keys threads above each e) h
open_last false devices keys threads section above plugged out each e h =
    let none : Some false ≡ Some plugged = sym (ap (open_after false) (out refl)) ∙ h in
    ap (λ (t : List (List Op)). is_open (onto (flat_map (section_forms keys) t) above)) (append-nil threads)
    ∙ open_sections devices keys threads above each e
    ∙ same_behind false plugged none

-- Whether a plug is open. Outside a section there are no operations, and none is.
pub is_open-read : (p : Progress) (plugged : Bool) → IsProgress p → open_after false p.section ≡ Some plugged → is_open (forms_read p) ≡ plugged
is_open-read p plugged is behind =
    let heads = onto (head_forms p) [] in
    let keys = onto (key_forms p.keys) heads in
    let faults = onto (fault_forms p.faults) keys in
    ap is_open (parts p is)
    ∙ open_end p.last (onto (flat_map (section_forms p.keys) (sections_read p)) faults)
    ∙ open_last (is_in_section p.last) (length p.targets) p.keys p.threads p.section faults plugged (λ out. outside p.last p out is.at) is.threads (open_faults p.faults keys ∙ open_keys p.keys heads ∙ open_head p) behind

-- ---- names

-- forms of which none is of a kind
abbrev None_is : (Form → Bool) → List Form → Type 0
None_is is_kind forms = AllByRecursion (λ form. is_kind form ≡ false) forms

no_sections : (is_kind : Form → Bool) (keys : List NamedKey) → is_kind Thread ≡ false → ((op : Op) → is_kind (op_form keys op) ≡ false) → (sections : List (List Op)) → None_is is_kind (flat_map (section_forms keys) sections)
no_sections is_kind keys thread each [] = tt
no_sections is_kind keys thread each (section ∷ sections) =
    (thread, AllByRecursion-append (λ form. is_kind form ≡ false) (map (op_form keys) section) (flat_map (section_forms keys) sections) (no_ops section) (no_sections is_kind keys thread each sections))
  where
    no_ops : (section : List Op) → None_is is_kind (map (op_form keys) section)
    no_ops [] = tt
    no_ops (op ∷ section) = (each op, no_ops section)

no_end : (is_kind : Form → Bool) → is_kind End ≡ false → (last : Option Sort) → None_is is_kind (end_forms last)
no_end is_kind end None = tt
no_end is_kind end (Some sorts.Version) = tt
no_end is_kind end (Some sorts.Disk) = tt
no_end is_kind end (Some sorts.Fallback) = tt
no_end is_kind end (Some sorts.Device) = tt
no_end is_kind end (Some sorts.Key) = tt
no_end is_kind end (Some sorts.Fault) = tt
no_end is_kind end (Some sorts.Thread) = tt
no_end is_kind end (Some sorts.Operation) = tt
no_end is_kind end (Some sorts.End) = (end, tt)

no_fault_is_key : (faults : List (ℕ × ℕ)) → None_is declares_key (fault_forms faults)
no_fault_is_key [] = tt
no_fault_is_key (f ∷ fs) = (refl, no_fault_is_key fs)

no_device_is : (is_kind : Form → Bool) → ((device : DeviceForm) → is_kind (Device device) ≡ false) → (devices : List Target) → None_is is_kind (device_forms devices)
no_device_is is_kind none [] = tt
no_device_is is_kind none (d ∷ ds) = (none (device_form d), no_device_is is_kind none ds)

no_first : (name : List ℕ) (last : Option Sort) (blocks : ℕ) (fallback : Bool) → key_named name (onto (first_forms last blocks fallback) []) ≡ None
no_first name None blocks fallback = refl
no_first name (Some sorts.Version) blocks fallback = refl
no_first name (Some sorts.Disk) blocks fallback = refl
no_first name (Some sorts.Fallback) blocks fallback = refl
no_first name (Some sorts.Device) blocks fallback = refl
no_first name (Some sorts.Key) blocks fallback = refl
no_first name (Some sorts.Fault) blocks fallback = refl
no_first name (Some sorts.Thread) blocks fallback = refl
no_first name (Some sorts.Operation) blocks fallback = refl
no_first name (Some sorts.End) blocks fallback = refl

no_head : (name : List ℕ) (p : Progress) → key_named name (onto (head_forms p) []) ≡ None
no_head name p =
    ap (key_named name) (onto-append (first_forms p.last p.blocks p.fallback) (device_forms p.targets) [])
    ∙ key_named-onto name (device_forms p.targets) (onto (first_forms p.last p.blocks p.fallback) []) (no_device_is declares_key (λ device. refl) p.targets)
    ∙ no_first name p.last p.blocks p.fallback

-- a name is looked for among the keys alone
among_keys : (name : List ℕ) (p : Progress) → IsProgress p → key_named name (forms_read p) ≡ key_named name (onto (key_forms p.keys) (onto (head_forms p) []))
among_keys name p is =
    let heads = onto (head_forms p) [] in
    let keys = onto (key_forms p.keys) heads in
    let faults = onto (fault_forms p.faults) keys in
    ap (key_named name) (parts p is)
    ∙ key_named-onto name (end_forms p.last) (onto (flat_map (section_forms p.keys) (sections_read p)) faults) (no_end declares_key refl p.last)
    ∙ key_named-onto name (flat_map (section_forms p.keys) (sections_read p)) faults (no_sections declares_key p.keys refl (λ op. (op_is p.keys op).0) (sections_read p))
    ∙ key_named-onto name (fault_forms p.faults) keys (no_fault_is_key p.faults)

-- one that no key has isn't found
others : (name : List ℕ) (keys : List NamedKey) (above : List Form) → AllByRecursion (λ (named : NamedKey). named.name ≢ name) keys → key_named name (onto (key_forms keys) above) ≡ key_named name above
others name [] above differ = refl
others name (k ∷ ks) above differ =
    let no : bytes_eq k.name name ≡ false = bytes_eq-other k.name name differ.0 in
    others name ks (Key (key_fields k) ∷ above) differ.1 ∙ rw no refl

-- the keys after a key have other names
later_names : (k : NamedKey) (ks : List NamedKey) → AllPairs (λ (first second : NamedKey). first.name ≢ second.name) (k ∷ ks) → AllByRecursion (λ (named : NamedKey). named.name ≢ k.name) ks
later_names k ks pairs = recursion_from_All (λ (named : NamedKey). named.name ≢ k.name) ks (λ i d lt e. pairs 0 (suc i) d (omega arith) (omega arith) (sym e))

pairs_tail : (k : NamedKey) (ks : List NamedKey) → AllPairs (λ (first second : NamedKey). first.name ≢ second.name) (k ∷ ks) → AllPairs (λ (first second : NamedKey). first.name ≢ second.name) ks
pairs_tail k ks pairs i j d lt within = pairs (suc i) (suc j) d (omega arith) (omega arith)

same_Some : {X : Type 0} (x y : X) → Some x ≡ Some y → x ≡ y
same_Some x y e = cc

found : (keys : List NamedKey) (above : List Form) (i : ℕ) (named : NamedKey) → AllPairs (λ (first second : NamedKey). first.name ≢ second.name) keys → slice_get keys i ≡ Some named → key_named named.name (onto (key_forms keys) above) ≡ Some (key_fields named)
found [] above i named pairs at = absurd cc
found (k ∷ ks) above zero named pairs at =
    let here : key_named k.name (Key (key_fields k) ∷ above) ≡ Some (key_fields k) = rw (bytes_eq-same k.name) refl in
    subst (λ (n : NamedKey). key_named n.name (onto (key_forms (k ∷ ks)) above) ≡ Some (key_fields n)) (same_Some k named at)
    (others k.name ks (Key (key_fields k) ∷ above) (later_names k ks pairs) ∙ here)
found (k ∷ ks) above (suc i) named pairs at = found ks (Key (key_fields k) ∷ above) i named (pairs_tail k ks pairs) at

-- the key with a number is found by its name
pub key_named-read : (p : Progress) (number : KeyNo) (named : NamedKey) → IsProgress p → slice_get p.keys number.0 ≡ Some named → key_named (key_name_of p.keys number) (forms_read p) ≡ Some (key_fields named)
key_named-read p number named is at =
    ap (λ (name : List ℕ). key_named name (forms_read p)) (name_at p.keys number named at)
    ∙ among_keys named.name p is
    ∙ found p.keys (onto (head_forms p) []) number.0 named is.keys.names at

-- the key at a place of a list that is long enough
at_place : (keys : List NamedKey) (i : ℕ) → i < length keys → (named : NamedKey) × (slice_get keys i ≡ Some named)
at_place [] i within = absurd (omega arith)
at_place (k ∷ ks) zero within = (k, refl)
at_place (k ∷ ks) (suc i) within = at_place ks i (omega arith)

pub is_declared-read : (p : Progress) (number : KeyNo) → IsProgress p → number.0 < length p.keys → is_declared (key_name_of p.keys number) (forms_read p) ≡ true
is_declared-read p number is within =
    let key = at_place p.keys number.0 within in
    ap (λ (o : Option KeyForm). is_some o) (key_named-read p number key.0 is key.1)

-- no other name is found
pub key_named-none : (p : Progress) (name : List ℕ) → IsProgress p → AllByRecursion (λ (named : NamedKey). named.name ≢ name) p.keys → key_named name (forms_read p) ≡ None
key_named-none p name is differ = among_keys name p is ∙ others name p.keys (onto (head_forms p) []) differ ∙ no_head name p

pub is_declared-none : (p : Progress) (name : List ℕ) → IsProgress p → AllByRecursion (λ (named : NamedKey). named.name ≢ name) p.keys → is_declared name (forms_read p) ≡ false
is_declared-none p name is differ = ap (λ (o : Option KeyForm). is_some o) (key_named-none p name is differ)

-- no name is `-`
pub key_named-dash : (p : Progress) → IsProgress p → key_named dash (forms_read p) ≡ None
key_named-dash p is = key_named-none p dash is (no_dashes p.keys is.keys.each)
  where
    no_dashes : (keys : List NamedKey) → AllByRecursion IsNamedKey keys → AllByRecursion (λ (named : NamedKey). named.name ≢ dash) keys
    no_dashes [] each = tt
    no_dashes (k ∷ ks) each = (name_is_no_dash k.name each.0.name, no_dashes ks each.1)

sectors_in_field : (unit : DataUnit) → number_in (decimal (bytes_of unit)) / 512 ≡ sectors_of unit
sectors_in_field Bytes512 = ap (λ n. n / 512) (number_in-decimal 512 (omega arith))
sectors_in_field Bytes1024 = ap (λ n. n / 512) (number_in-decimal 1024 (omega arith))
sectors_in_field Bytes2048 = ap (λ n. n / 512) (number_in-decimal 2048 (omega arith))
sectors_in_field Bytes4096 = ap (λ n. n / 512) (number_in-decimal 4096 (omega arith))

-- how many sectors a data unit has, under a context or without one
pub sectors_under-read : (p : Progress) (context : Option Context) → IsProgress p → IsContext (bare_keys p.keys) context → sectors_under (key_field p.keys context) (forms_read p) ≡ unit_sectors (bare_keys p.keys) context
sectors_under-read p None is valid = ap (λ (o : Option KeyForm). option_map_or (λ (key : KeyForm). number_in key.unit / 512) o 1) (key_named-dash p is)
sectors_under-read p (Some context) is valid =
    let key = at_place p.keys context.key.0 (named_too p.keys context.key.0 valid.0) in
    let at : slice_get (bare_keys p.keys) context.key.0 ≡ Some key.0.key = slice_get-map (λ (named : NamedKey). named.key) p.keys context.key.0 ∙ ap (option_map (λ (named : NamedKey). named.key)) key.1 in
    ap (λ (o : Option KeyForm). option_map_or (λ (k : KeyForm). number_in k.unit / 512) o 1) (key_named-read p context.key key.0 is key.1)
    ∙ sectors_in_field key.0.key.config.unit
    ∙ sym (ap (λ (o : Option KeyData). option_map_or (λ (k : KeyData). sectors_of k.config.unit) o 1) at)

-- ---- planned faults

no_key_is_fault : (keys : List NamedKey) → None_is plans_fault (key_forms keys)
no_key_is_fault [] = tt
no_key_is_fault (k ∷ ks) = (refl, no_key_is_fault ks)

ascends_first : (fault : FaultForm) (last : Option Sort) (blocks : ℕ) (fallback : Bool) → ascends (onto (first_forms last blocks fallback) []) fault ≡ true
ascends_first fault None blocks fallback = refl
ascends_first fault (Some sorts.Version) blocks fallback = refl
ascends_first fault (Some sorts.Disk) blocks fallback = refl
ascends_first fault (Some sorts.Fallback) blocks fallback = refl
ascends_first fault (Some sorts.Device) blocks fallback = refl
ascends_first fault (Some sorts.Key) blocks fallback = refl
ascends_first fault (Some sorts.Fault) blocks fallback = refl
ascends_first fault (Some sorts.Thread) blocks fallback = refl
ascends_first fault (Some sorts.Operation) blocks fallback = refl
ascends_first fault (Some sorts.End) blocks fallback = refl

ascends_head : (fault : FaultForm) (p : Progress) → ascends (onto (head_forms p) []) fault ≡ true
ascends_head fault p =
    ap (λ (forms : List Form). ascends forms fault) (onto-append (first_forms p.last p.blocks p.fallback) (device_forms p.targets) [])
    ∙ ascends-onto fault (device_forms p.targets) (onto (first_forms p.last p.blocks p.fallback) []) (no_device_is plans_fault (λ device. refl) p.targets)
    ∙ ascends_first fault p.last p.blocks p.fallback

-- the nearest fault is the last one
ascends_faults : (fault : FaultForm) (faults : List (ℕ × ℕ)) (above : List Form) → AllByRecursion IsFault faults → ascends above fault ≡ true → ascends (onto (fault_forms faults) above) fault ≡ follows_faults faults (fault_in fault)
ascends_faults fault [] above each e = e
ascends_faults fault (f ∷ fs) above each e = behind f fs above each
  where
    behind : (f : ℕ × ℕ) (fs : List (ℕ × ℕ)) (above : List Form) → AllByRecursion IsFault (f ∷ fs) → ascends (onto (fault_forms fs) (Fault (fault_fields f) ∷ above)) fault ≡ follows_faults (f ∷ fs) (fault_in fault)
    behind f [] above each = ap (λ (g : ℕ × ℕ). is_before g (fault_in fault)) (fault_in-fault_fields f each.0)
    behind f (g ∷ fs) above each = behind g fs (Fault (fault_fields f) ∷ above) each.1 ∙ sym (after_more f g fs (fault_in fault))

-- whether a fault comes after the last one that has been read
pub ascends-read : (p : Progress) (fault : FaultForm) → IsProgress p → ascends (forms_read p) fault ≡ follows_faults p.faults (fault_in fault)
ascends-read p fault is =
    let heads = onto (head_forms p) [] in
    let keys = onto (key_forms p.keys) heads in
    let faults = onto (fault_forms p.faults) keys in
    ap (λ (forms : List Form). ascends forms fault) (parts p is)
    ∙ ascends-onto fault (end_forms p.last) (onto (flat_map (section_forms p.keys) (sections_read p)) faults) (no_end plans_fault refl p.last)
    ∙ ascends-onto fault (flat_map (section_forms p.keys) (sections_read p)) faults (no_sections plans_fault p.keys refl (λ op. (op_is p.keys op).3) (sections_read p))
    ∙ ascends_faults fault p.faults keys is.faults.each (ascends-onto fault (key_forms p.keys) heads (no_key_is_fault p.keys) ∙ ascends_head fault p)

-- ---- the last line

pub is_at_end : (last : Option Sort) → is_end last ≡ true → last ≡ Some sorts.End
is_at_end None h = absurd cc
is_at_end (Some sorts.Version) h = absurd cc
is_at_end (Some sorts.Disk) h = absurd cc
is_at_end (Some sorts.Fallback) h = absurd cc
is_at_end (Some sorts.Device) h = absurd cc
is_at_end (Some sorts.Key) h = absurd cc
is_at_end (Some sorts.Fault) h = absurd cc
is_at_end (Some sorts.Thread) h = absurd cc
is_at_end (Some sorts.Operation) h = absurd cc
is_at_end (Some sorts.End) h = refl
