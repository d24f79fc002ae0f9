-- No line of a script's text fails a test.
use Rattle.std.proofs.Common.{◌≡◌, ◌≢◌, ℕ, ◌<◌, ◌≤◌, ◌+◌, Bool, true, false, List, [], ◌∷◌, ◌++◌, length, map, flat_map, is_some, Option, Some, None, append-nil, append_assoc, length-append, refl, sym, ap, subst, ◌∙◌, arith}
use Rattle.std.specs.Prelude.{sum_by, IsSome, ⊤, ◌&&◌}
use Rattle.std.specs.List.{AllByRecursion}
use Rattle.std.proofs.lemmas.List.Sums.{sum_by-append, sum_by-cons}
use Rattle.bc_text.specs.Lines.{TextLine, lines_of, nothing}
use Rattle.bc_text.proofs.LineLaws.{lines_of-lines_text}
use Rattle.bc_stack.specs.declared.target.Target.{Target}
use Rattle.bc_stack.specs.Targets.{CoverAll}
use Rattle.bc_script.specs.declared.named_key.NamedKey.{NamedKey}
use Rattle.bc_script.specs.declared.op.Op.{Op}
use Rattle.bc_script.specs.declared.op.Op.TheVariants as ops
use Rattle.bc_script.specs.declared.sort.Sort.{Sort}
use Rattle.bc_script.specs.declared.sort.Sort.TheVariants as sorts
use Rattle.bc_script.specs.declared.script_error.ScriptError.{ScriptError}
use Rattle.bc_script.specs.declared.script_error.ScriptWhy.TheVariants as why
use Rattle.bc_script.specs.Script.{Script, IsScript, IsDiskSize, AreDevices, AreKeys, AreFaults, IsNamedKey, IsOp, IsSection, bare_keys, open_after, unit_count, unit_count_of_section, max_keys, max_threads, max_ops, max_units}
use Rattle.bc_script.specs.ScriptText.{NoScriptHas, script_text, script_lines, version_line, disk_line, fallback_line, device_line, key_line, fault_line, thread_line, op_line, section_lines, end_line}
use Rattle.bc_script.specs.Forms.{Form, Version, Disk, Fallback, Device, Key, Fault, Thread, End, form_of, sort_of}
use Rattle.bc_script.specs.Order.{may_follow}
use Rattle.bc_script.specs.ScriptErrors.{Why, first_why, with_form, error_at, error_at_end, first_error, error_of, or_below, last_sort, is_end}
use Rattle.bc_text.specs.Lines.{is_nothing}
use Rattle.bc_script.specs.Progress.{Progress, IsProgress, with_section, is_in_section, lines_read, forms_read, forms_below, sections_read}
use Rattle.bc_script.proofs.Onto.{forms_below-append}
use Rattle.bc_script.specs.DeviceFields.{device_form}
use Rattle.bc_script.proofs.Devices.{next_device}
use Rattle.bc_script.proofs.Faults.{pairs_before, at_middle, next_fault}
use Rattle.bc_script.proofs.Above.{key_fields, fault_fields, op_form, last_sort-read, forms_read-step, form_of-disk, form_of-fallback, form_of-device_line, form_of-key_line, form_of-fault_line, form_of-op_line}
use Rattle.bc_script.proofs.LineFields.{script_lines_are_lines}
use Rattle.bc_script.proofs.Passes.{error_at-passed, disk_passed, device_passed, key_passed, fault_passed, thread_passed, end_passed, op_passed}
use Rattle.bc_script.proofs.Steps.{nothing_read, with_version, with_disk, with_fallback, with_device, with_key, with_fault, with_op, with_section_ended, IsProgress-nothing_read, IsProgress-version, IsProgress-disk, IsProgress-fallback, IsProgress-device, IsProgress-key, IsProgress-fault, IsProgress-thread, IsProgress-op, IsProgress-end, lines_read-version, lines_read-disk, lines_read-fallback, lines_read-device, lines_read-key, lines_read-fault, lines_read-thread, lines_read-op, lines_read-end, counts-op, is_inside, no_faults_yet, no_keys_yet, whole_inside, no_sections}

-- ---- lines that pass

-- each line passes its tests after those above it
abbrev pub Pass : List Form → List TextLine → Type 0
Pass above [] = ⊤
Pass above (line ∷ lines) = (error_at above line ≡ None) × Pass (with_form (form_of line) above) lines

Pass-append : (above : List Form) (xs ys : List TextLine) → Pass above xs → Pass (forms_below above xs) ys → Pass above (xs ++ ys)
Pass-append above [] ys p q = q
Pass-append above (x ∷ xs) ys p q = (p.0, Pass-append (with_form (form_of x) above) xs ys p.1 q)

-- then no line of theirs is the first that fails, and nor is what stands after them
pub no_first_error : (above : List Form) (lines : List TextLine) (tail : TextLine) → Pass above lines → error_at_end (forms_below above lines) tail ≡ None → first_error above (lines ++ tail ∷ []) ≡ None
no_first_error above [] tail pass e = ap (λ (w : Why). or_below (length above + 1) w None) e
no_first_error above (l ∷ []) tail pass e =
    ap (λ (w : Why). or_below (length above + 1) w (first_error (with_form (form_of l) above) (tail ∷ []))) pass.0
    ∙ no_first_error (with_form (form_of l) above) [] tail pass.1 e
no_first_error above (l ∷ m ∷ ls) tail pass e =
    ap (λ (w : Why). or_below (length above + 1) w (first_error (with_form (form_of l) above) (m ∷ ls ++ tail ∷ []))) pass.0
    ∙ no_first_error (with_form (form_of l) above) (m ∷ ls) tail pass.1 e

-- ---- from one progress to a later one

-- lines that are read, each of which passes, and what has been read then
record Reads (p : Progress) (lines : List TextLine) (Then : Progress → Type 0) : Type 0 where
  after : Progress
  rules : IsProgress after
  pass : Pass (forms_read p) lines
  forms : forms_below (forms_read p) lines ≡ forms_read after
  holds : Then after

-- no lines
still : (p : Progress) (Then : Progress → Type 0) → IsProgress p → Then p → Reads p [] Then
still p Then is holds = record { after = p; rules = is; pass = tt; forms = refl; holds = holds }

-- one line
one : (p q : Progress) (line : TextLine) (form : Form) (Then : Progress → Type 0) → IsProgress q → error_at (forms_read p) line ≡ None → lines_read q ≡ lines_read p ++ line ∷ [] → form_of line ≡ Some form → Then q → Reads p (line ∷ []) Then
one p q line form Then rules passes lines is_form holds =
    let step = forms_read-step p q line form lines is_form in
    record { after = q; rules = rules; pass = (passes, tt); forms = ap (λ (o : Option Form). with_form o (forms_read p)) is_form ∙ sym step; holds = holds }

-- lines, and others after them
further : (p : Progress) (xs ys : List TextLine) (P Q : Progress → Type 0) → Reads p xs P → ((q : Progress) → IsProgress q → P q → Reads q ys Q) → Reads p (xs ++ ys) Q
further p xs ys P Q first rest =
    let then = rest first.after first.rules first.holds in
    record {
      after = then.after;
      rules = then.rules;
      pass = Pass-append (forms_read p) xs ys first.pass (subst (λ (above : List Form). Pass above ys) (sym first.forms) then.pass);
      forms = forms_below-append (forms_read p) xs ys ∙ ap (λ (above : List Form). forms_below above ys) first.forms ∙ then.forms;
      holds = then.holds;
    }

-- what holds then, and what follows from it
weaker : (p : Progress) (lines : List TextLine) (P Q : Progress → Type 0) → ((q : Progress) → P q → Q q) → Reads p lines P → Reads p lines Q
weaker p lines P Q f reads = record { after = reads.after; rules = reads.rules; pass = reads.pass; forms = reads.forms; holds = f reads.after reads.holds }

-- ---- the first three lines

-- after the first three lines
record HasHead (blocks : ℕ) (q : Progress) : Type 0 where
  last : q.last ≡ Some sorts.Fallback
  size : q.blocks ≡ blocks
  targets : q.targets ≡ []
  keys : q.keys ≡ []

head_passes : (blocks : ℕ) (on : Bool) → IsDiskSize blocks → Reads nothing_read (version_line ∷ disk_line blocks ∷ fallback_line on ∷ []) (HasHead blocks)
head_passes blocks on size =
    let a = nothing_read in
    let is_a = IsProgress-nothing_read in
    let b = with_version a in
    let is_b = IsProgress-version a is_a refl in
    let c = with_disk b blocks in
    let is_c = IsProgress-disk b blocks is_b refl size in
    let d = with_fallback c on in
    let is_d = IsProgress-fallback c on is_c refl in
    further a (version_line ∷ []) (disk_line blocks ∷ fallback_line on ∷ []) (λ q. q ≡ b) (HasHead blocks)
    (one a b version_line Version (λ q. q ≡ b) is_b (error_at-passed a version_line Version is_a refl refl refl) (lines_read-version a is_a refl) refl refl)
    (λ q is e. subst (λ (r : Progress). Reads r (disk_line blocks ∷ fallback_line on ∷ []) (HasHead blocks)) (sym e)
    (further b (disk_line blocks ∷ []) (fallback_line on ∷ []) (λ q. q ≡ c) (HasHead blocks)
    (one b c (disk_line blocks) (Disk _) (λ q. q ≡ c) is_c
    (error_at-passed b (disk_line blocks) (Disk _) is_b (form_of-disk blocks) refl (disk_passed (forms_read b) blocks size))
    (lines_read-disk b blocks is_b refl) (form_of-disk blocks) refl)
    (λ q is e. subst (λ (r : Progress). Reads r (fallback_line on ∷ []) (HasHead blocks)) (sym e)
    (one c d (fallback_line on) (Fallback on) (HasHead blocks) is_d (error_at-passed c (fallback_line on) (Fallback on) is_c (form_of-fallback on) refl refl) (lines_read-fallback c on is_c refl) (form_of-fallback on)
    (record { last = refl; size = refl; targets = refl; keys = refl })))))

-- ---- devices

-- after devices, where there are no keys yet
record HasDevices (blocks : ℕ) (all : List Target) (q : Progress) : Type 0 where
  follows : may_follow q.last sorts.Device ≡ true
  size : q.blocks ≡ blocks
  targets : q.targets ≡ all

devices_pass : (p : Progress) (devices : List Target) (blocks : ℕ) → IsProgress p → may_follow p.last sorts.Device ≡ true → AreDevices (p.targets ++ devices) blocks → Reads p (map device_line devices) (HasDevices p.blocks (p.targets ++ devices))
devices_pass p [] blocks is follows are = still p (HasDevices p.blocks (p.targets ++ [])) is (record { follows = follows; size = refl; targets = sym (append-nil p.targets) })
devices_pass p (d ∷ ds) blocks is follows are =
    let next = next_device p.targets ds d blocks are in
    let q = with_device p d in
    let same : q.targets ++ ds ≡ p.targets ++ d ∷ ds = append_assoc p.targets (d ∷ []) ds in
    further p (device_line d ∷ []) (map device_line ds) (λ r. r ≡ q) (HasDevices p.blocks (p.targets ++ d ∷ ds))
    (one p q (device_line d) (Device (device_form d)) (λ r. r ≡ q) (IsProgress-device p d is follows next.valid next.first next.room)
    (error_at-passed p (device_line d) (Device (device_form d)) is (form_of-device_line d) follows (device_passed p d is next.valid next.first next.room))
    (lines_read-device p d is follows) (form_of-device_line d) refl)
    (λ r is_r e. subst (λ (x : Progress). Reads x (map device_line ds) (HasDevices p.blocks (p.targets ++ d ∷ ds))) (sym e)
    (subst (λ (all : List Target). Reads q (map device_line ds) (HasDevices p.blocks all)) same
    (devices_pass q ds blocks (subst IsProgress e is_r) refl (subst (λ (all : List Target). AreDevices all blocks) (sym same) are))))

-- ---- keys

-- after keys, where no section has begun
record HasKeys (blocks : ℕ) (devices : List Target) (all : List NamedKey) (q : Progress) : Type 0 where
  follows : may_follow q.last sorts.Key ≡ true
  size : q.blocks ≡ blocks
  targets : q.targets ≡ devices
  keys : q.keys ≡ all

keys_pass : (p : Progress) (keys : List NamedKey) → IsProgress p → may_follow p.last sorts.Key ≡ true → CoverAll p.blocks p.targets → AreKeys (p.keys ++ keys) → Reads p (map key_line keys) (HasKeys p.blocks p.targets (p.keys ++ keys))
keys_pass p [] is follows whole are = still p (HasKeys p.blocks p.targets (p.keys ++ [])) is (record { follows = follows; size = refl; targets = refl; keys = sym (append-nil p.keys) })
keys_pass p (k ∷ ks) is follows whole are =
    let valid = at_middle IsNamedKey p.keys ks k are.each in
    let fresh = pairs_before (λ (first second : NamedKey). first.name ≢ second.name) p.keys ks k are.names in
    let count = are.count in
    let room : length p.keys < max_keys = omega (arith, length-append p.keys (k ∷ ks)) in
    let q = with_key p k in
    let same : q.keys ++ ks ≡ p.keys ++ k ∷ ks = append_assoc p.keys (k ∷ []) ks in
    further p (key_line k ∷ []) (map key_line ks) (λ r. r ≡ q) (HasKeys p.blocks p.targets (p.keys ++ k ∷ ks))
    (one p q (key_line k) (Key (key_fields k)) (λ r. r ≡ q) (IsProgress-key p k is follows whole valid fresh room)
    (error_at-passed p (key_line k) (Key (key_fields k)) is (form_of-key_line k) follows (key_passed p k is whole valid fresh room))
    (lines_read-key p k is follows) (form_of-key_line k) refl)
    (λ r is_r e. subst (λ (x : Progress). Reads x (map key_line ks) (HasKeys p.blocks p.targets (p.keys ++ k ∷ ks))) (sym e)
    (subst (λ (all : List NamedKey). Reads q (map key_line ks) (HasKeys p.blocks p.targets all)) same
    (keys_pass q ks (subst IsProgress e is_r) refl whole (subst AreKeys (sym same) are))))

-- ---- planned faults

-- after faults, where no section has begun
record HasFaults (blocks : ℕ) (devices : List Target) (own : List NamedKey) (all : List (ℕ × ℕ)) (q : Progress) : Type 0 where
  follows : may_follow q.last sorts.Fault ≡ true
  size : q.blocks ≡ blocks
  targets : q.targets ≡ devices
  keys : q.keys ≡ own
  faults : q.faults ≡ all

faults_pass : (p : Progress) (faults : List (ℕ × ℕ)) → IsProgress p → may_follow p.last sorts.Fault ≡ true → CoverAll p.blocks p.targets → AreFaults (p.faults ++ faults)
    → Reads p (map fault_line faults) (HasFaults p.blocks p.targets p.keys (p.faults ++ faults))
faults_pass p [] is follows whole are =
    still p (HasFaults p.blocks p.targets p.keys (p.faults ++ [])) is (record { follows = follows; size = refl; targets = refl; keys = refl; faults = sym (append-nil p.faults) })
faults_pass p (f ∷ fs) is follows whole are =
    let next = next_fault p.faults fs f are in
    let q = with_fault p f in
    let same : q.faults ++ fs ≡ p.faults ++ f ∷ fs = append_assoc p.faults (f ∷ []) fs in
    further p (fault_line f ∷ []) (map fault_line fs) (λ r. r ≡ q) (HasFaults p.blocks p.targets p.keys (p.faults ++ f ∷ fs))
    (one p q (fault_line f) (Fault (fault_fields f)) (λ r. r ≡ q) (IsProgress-fault p f is follows whole next.valid next.after next.room)
    (error_at-passed p (fault_line f) (Fault (fault_fields f)) is (form_of-fault_line f) follows (fault_passed p f is whole next.valid next.after next.room))
    (lines_read-fault p f is follows) (form_of-fault_line f) refl)
    (λ r is_r e. subst (λ (x : Progress). Reads x (map fault_line fs) (HasFaults p.blocks p.targets p.keys (p.faults ++ f ∷ fs))) (sym e)
    (subst (λ (all : List (ℕ × ℕ)). Reads q (map fault_line fs) (HasFaults p.blocks p.targets p.keys all)) same
    (faults_pass q fs (subst IsProgress e is_r) refl whole (subst AreFaults (sym same) are))))

-- ---- operations

-- after operations of a section
record HasOps (p : Progress) (all : List Op) (q : Progress) : Type 0 where
  follows : may_follow q.last sorts.Operation ≡ true
  blocks : q.blocks ≡ p.blocks
  targets : q.targets ≡ p.targets
  keys : q.keys ≡ p.keys
  threads : q.threads ≡ p.threads
  section : q.section ≡ all

-- a prefix of operations closes no plug that isn't open and opens none twice, where all of them don't
front_plugs : (before : Bool) (section more : List Op) → IsSome (open_after before (section ++ more)) → IsSome (open_after before section)
front_plugs before [] more h = refl
front_plugs before (ops.Write context sector units text ∷ section) more h = front_plugs before section more h
front_plugs before (ops.Read context sector units ∷ section) more h = front_plugs before section more h
front_plugs before (ops.Evict key ∷ section) more h = front_plugs before section more h
front_plugs before (ops.Reset device ∷ section) more h = front_plugs before section more h
front_plugs true (ops.Plug ∷ section) more h = absurd cc
front_plugs false (ops.Plug ∷ section) more h = front_plugs true section more h
front_plugs true (ops.Unplug ∷ section) more h = front_plugs false section more h
front_plugs false (ops.Unplug ∷ section) more h = absurd cc

pub op_sorted : (last : Option Sort) (keys : List NamedKey) (op : Op) → may_follow last (sort_of (op_form keys op)) ≡ may_follow last sorts.Operation
op_sorted last keys (ops.Write context sector units text) = refl
op_sorted last keys (ops.Read context sector units) = refl
op_sorted last keys (ops.Evict key) = refl
op_sorted last keys (ops.Reset device) = refl
op_sorted last keys ops.Plug = refl
op_sorted last keys ops.Unplug = refl

ops_pass : (p : Progress) (section : List Op) → IsProgress p → may_follow p.last sorts.Operation ≡ true → AllByRecursion (IsOp (length p.targets) (bare_keys p.keys)) section → IsSome (open_after false (p.section ++ section))
    → sum_by length (sections_read p) + length section ≤ max_ops → sum_by unit_count_of_section (sections_read p) + unit_count_of_section section ≤ max_units → Reads p (map (op_line p.keys) section) (HasOps p (p.section ++ section))
ops_pass p [] is follows valid plugs room fits = still p (HasOps p (p.section ++ [])) is (record { follows = follows; blocks = refl; targets = refl; keys = refl; threads = refl; section = sym (append-nil p.section) })
ops_pass p (op ∷ section) is follows valid plugs room fits =
    let q = with_op p op in
    let counts = counts-op p op follows in
    let same : q.section ++ section ≡ p.section ++ op ∷ section = append_assoc p.section (op ∷ []) section in
    let all_plugs : IsSome (open_after false (q.section ++ section)) = subst (λ (s : List Op). IsSome (open_after false s)) (sym same) plugs in
    let one_plugs : IsSome (open_after false q.section) = front_plugs false q.section section all_plugs in
    let units = sum_by-cons unit_count op section in
    let op_room : sum_by length (sections_read p) < max_ops = omega arith in
    let op_fits : sum_by unit_count_of_section (sections_read p) + unit_count op ≤ max_units = omega arith in
    let is_form = form_of-op_line (length p.targets) p.keys op is.keys valid.0 in
    further p (op_line p.keys op ∷ []) (map (op_line p.keys) section) (λ r. r ≡ q) (HasOps p (p.section ++ op ∷ section))
    (one p q (op_line p.keys op) (op_form p.keys op) (λ r. r ≡ q) (IsProgress-op p op is follows valid.0 one_plugs op_room op_fits)
    (error_at-passed p (op_line p.keys op) (op_form p.keys op) is is_form (op_sorted p.last p.keys op ∙ follows) (op_passed p op is valid.0 one_plugs op_room op_fits))
    (lines_read-op p op is follows) is_form refl)
    (λ r is_r e. subst (λ (x : Progress). Reads x (map (op_line p.keys) section) (HasOps p (p.section ++ op ∷ section))) (sym e)
    (subst (λ (all : List Op). Reads q (map (op_line p.keys) section) (HasOps p all)) same
    (weaker q (map (op_line p.keys) section) (HasOps q (q.section ++ section)) (HasOps p (q.section ++ section))
    (λ x then. record { follows = then.follows; blocks = then.blocks; targets = then.targets; keys = then.keys; threads = then.threads; section = then.section })
    (ops_pass q section (subst IsProgress e is_r) refl valid.1 all_plugs (omega (arith, counts.1)) (omega (arith, counts.2))))))

-- ---- sections

-- after sections, each of which is closed
record HasSections (p : Progress) (q : Progress) : Type 0 where
  follows : may_follow q.last sorts.End ≡ true
  whole : CoverAll q.blocks q.targets
  keys : q.keys ≡ p.keys
  closed : open_after false q.section ≡ Some false

threads_follow : (last : Option Sort) → may_follow last sorts.End ≡ true → may_follow last sorts.Thread ≡ true
threads_follow None h = absurd cc
threads_follow (Some sorts.Version) h = absurd cc
threads_follow (Some sorts.Disk) h = absurd cc
threads_follow (Some sorts.Fallback) h = refl
threads_follow (Some sorts.Device) h = refl
threads_follow (Some sorts.Key) h = refl
threads_follow (Some sorts.Fault) h = refl
threads_follow (Some sorts.Thread) h = refl
threads_follow (Some sorts.Operation) h = refl
threads_follow (Some sorts.End) h = absurd cc

-- the operations of a section stand after the sections before it
section_done : (p q : Progress) (section : List Op) → HasOps (with_section_ended p sorts.Thread) section q → sections_read q ≡ sections_read p ++ section ∷ []
section_done p q section has =
    ap (λ (t : List (List Op)). t ++ with_section (is_in_section q.last) q.section) has.threads
    ∙ ap (λ (b : Bool). sections_read p ++ with_section b q.section) (is_inside q.last has.follows)
    ∙ ap (λ (s : List Op). sections_read p ++ s ∷ []) has.section

ends_after_ops : (last : Option Sort) → may_follow last sorts.Operation ≡ true → may_follow last sorts.End ≡ true
ends_after_ops None h = absurd cc
ends_after_ops (Some sorts.Version) h = absurd cc
ends_after_ops (Some sorts.Disk) h = absurd cc
ends_after_ops (Some sorts.Fallback) h = refl
ends_after_ops (Some sorts.Device) h = refl
ends_after_ops (Some sorts.Key) h = refl
ends_after_ops (Some sorts.Fault) h = refl
ends_after_ops (Some sorts.Thread) h = refl
ends_after_ops (Some sorts.Operation) h = refl
ends_after_ops (Some sorts.End) h = absurd cc

-- one section
section_passes : (p : Progress) (section : List Op) → IsProgress p → may_follow p.last sorts.End ≡ true → CoverAll p.blocks p.targets → open_after false p.section ≡ Some false → IsSection (length p.targets) (bare_keys p.keys) section
    → length (sections_read p) < max_threads → sum_by length (sections_read p) + length section ≤ max_ops → sum_by unit_count_of_section (sections_read p) + unit_count_of_section section ≤ max_units
    → Reads p (section_lines p.keys section) (HasOps (with_section_ended p sorts.Thread) section)
section_passes p section is follows whole closed valid room ops_room units_room =
    let t = with_section_ended p sorts.Thread in
    let thread_follows = threads_follow p.last follows in
    let is_t = IsProgress-thread p is thread_follows whole closed room in
    let ops = sum_by-append length (sections_read p) ([] ∷ []) in
    let units = sum_by-append unit_count_of_section (sections_read p) ([] ∷ []) in
    further p (thread_line ∷ []) (map (op_line p.keys) section) (λ q. q ≡ t) (HasOps t section)
    (one p t thread_line Thread (λ q. q ≡ t) is_t
    (error_at-passed p thread_line Thread is refl thread_follows (thread_passed p is whole closed room))
    (lines_read-thread p is thread_follows) refl refl)
    (λ q is_q e. subst (λ (x : Progress). Reads x (map (op_line p.keys) section) (HasOps t section)) (sym e)
    (ops_pass t section is_t refl valid.each (ap (λ (o : Option Bool). is_some o) valid.plugs) (omega arith) (omega arith)))

sections_pass : (p : Progress) (sections : List (List Op)) → IsProgress p → may_follow p.last sorts.End ≡ true → CoverAll p.blocks p.targets → open_after false p.section ≡ Some false → AllByRecursion (IsSection (length p.targets) (bare_keys p.keys)) sections
    → length (sections_read p) + length sections ≤ max_threads → sum_by length (sections_read p) + sum_by length sections ≤ max_ops → sum_by unit_count_of_section (sections_read p) + sum_by unit_count_of_section sections ≤ max_units
    → Reads p (flat_map (section_lines p.keys) sections) (HasSections p)
sections_pass p [] is follows whole closed valid room ops_room units_room = still p (HasSections p) is (record { follows = follows; whole = whole; keys = refl; closed = closed })
sections_pass p (section ∷ sections) is follows whole closed valid room ops_room units_room =
    let t = with_section_ended p sorts.Thread in
    let ops = sum_by-cons length section sections in
    let units = sum_by-cons unit_count_of_section section sections in
    further p (section_lines p.keys section) (flat_map (section_lines p.keys) sections) (HasOps t section) (HasSections p)
    (section_passes p section is follows whole closed valid.0 (omega arith) (omega arith) (omega arith))
    (λ q is_q has.
    let done = section_done p q section has in
    let count = ap length done ∙ length-append (sections_read p) (section ∷ []) in
    let ops_done = ap (sum_by length) done ∙ sum_by-append length (sections_read p) (section ∷ []) in
    let units_done = ap (sum_by unit_count_of_section) done ∙ sum_by-append unit_count_of_section (sections_read p) (section ∷ []) in
    let rest = sections_pass q sections is_q (ends_after_ops q.last has.follows) (whole_inside q is_q has.follows) (ap (open_after false) has.section ∙ valid.0.plugs)
    (subst (λ (ds : List Target). AllByRecursion (IsSection (length ds) (bare_keys q.keys)) sections) (sym has.targets) (subst (λ (keys : List NamedKey). AllByRecursion (IsSection (length p.targets) (bare_keys keys)) sections) (sym has.keys) valid.1)) (omega arith) (omega arith) (omega arith) in
    subst (λ (keys : List NamedKey). Reads q (flat_map (section_lines keys) sections) (HasSections p)) has.keys
    (weaker q (flat_map (section_lines q.keys) sections) (HasSections q) (HasSections p)
    (λ r then. record { follows = then.follows; whole = then.whole; keys = then.keys ∙ has.keys; closed = then.closed })
    rest))

-- ---- the whole script

abbrev HasEnded : Progress → Type 0
HasEnded q = q.last ≡ Some sorts.End

end_passes : (p : Progress) → IsProgress p → may_follow p.last sorts.End ≡ true → CoverAll p.blocks p.targets → open_after false p.section ≡ Some false → Reads p (end_line ∷ []) HasEnded
end_passes p is follows whole closed =
    one p (with_section_ended p sorts.End) end_line End HasEnded (IsProgress-end p is follows whole closed)
    (error_at-passed p end_line End is refl follows (end_passed p is whole closed))
    (lines_read-end p is follows) refl refl

sections_and_end_pass : (s : Script) → IsScript s → (q : Progress) → IsProgress q → may_follow q.last sorts.Fault ≡ true → CoverAll q.blocks q.targets → q.targets ≡ s.targets → q.keys ≡ s.keys
    → Reads q (flat_map (section_lines s.keys) s.threads ++ end_line ∷ []) HasEnded
sections_and_end_pass s valid q is_q follows whole targets keys =
    let none = no_sections q is_q follows in
    let each : AllByRecursion (IsSection (length q.targets) (bare_keys q.keys)) s.threads =
    subst (λ (ds : List Target). AllByRecursion (IsSection (length ds) (bare_keys q.keys)) s.threads) (sym targets)
    (subst (λ (k : List NamedKey). AllByRecursion (IsSection (length s.targets) (bare_keys k)) s.threads) (sym keys) valid.threads.each) in
    let few = valid.threads.count in
    let few_ops = valid.threads.few_ops in
    let few_units = valid.threads.few_units in
    let all_sections : Reads q (flat_map (section_lines q.keys) s.threads) (HasSections q) =
    sections_pass q s.threads is_q none.2 whole (ap (open_after false) none.1) each
    (subst (λ (t : List (List Op)). length t + length s.threads ≤ max_threads) (sym none.0) (omega arith))
    (subst (λ (t : List (List Op)). sum_by length t + sum_by length s.threads ≤ max_ops) (sym none.0) (omega arith))
    (subst (λ (t : List (List Op)). sum_by unit_count_of_section t + sum_by unit_count_of_section s.threads ≤ max_units) (sym none.0) (omega arith)) in
    further q (flat_map (section_lines s.keys) s.threads) (end_line ∷ []) (HasSections q) HasEnded
    (subst (λ (k : List NamedKey). Reads q (flat_map (section_lines k) s.threads) (HasSections q)) keys all_sections)
    (λ r is_r done. end_passes r is_r done.follows done.whole done.closed)

-- the lines after the devices
behind_devices_pass : (s : Script) → IsScript s → (p : Progress) → IsProgress p → may_follow p.last sorts.Device ≡ true → p.blocks ≡ s.blocks → p.targets ≡ s.targets
    → Reads p (map key_line s.keys ++ (map fault_line s.faults ++ (flat_map (section_lines s.keys) s.threads ++ end_line ∷ []))) HasEnded
behind_devices_pass s valid p is follows size targets =
    let sections = flat_map (section_lines s.keys) s.threads in
    let faults = map fault_line s.faults in
    let no_key = no_keys_yet p is follows in
    let all : p.keys ++ s.keys ≡ s.keys = ap (λ (keys : List NamedKey). keys ++ s.keys) no_key.0 in
    let whole : CoverAll p.blocks p.targets = subst (λ (n : ℕ). CoverAll n p.targets) (sym size) (subst (λ (ds : List Target). CoverAll s.blocks ds) (sym targets) valid.devices.stack.cover) in
    further p (map key_line s.keys) (faults ++ (sections ++ end_line ∷ [])) (HasKeys p.blocks p.targets (p.keys ++ s.keys)) HasEnded (keys_pass p s.keys is no_key.1 whole (subst AreKeys (sym all) valid.keys))
    (λ q is_q then.
    let no_fault = no_faults_yet q is_q then.follows in
    let planned : q.faults ++ s.faults ≡ s.faults = ap (λ (faults : List (ℕ × ℕ)). faults ++ s.faults) no_fault.0 in
    let whole_q = moved p q then.size then.targets whole in
    further q faults (sections ++ end_line ∷ []) (HasFaults q.blocks q.targets q.keys (q.faults ++ s.faults)) HasEnded (faults_pass q s.faults is_q no_fault.1 whole_q (subst AreFaults (sym planned) valid.faults))
    (λ r is_r now. sections_and_end_pass s valid r is_r now.follows (moved q r now.size now.targets whole_q) (now.targets ∙ then.targets ∙ targets) (now.keys ∙ then.keys ∙ all)))
  where
    moved : (p q : Progress) → q.blocks ≡ p.blocks → q.targets ≡ p.targets → CoverAll p.blocks p.targets → CoverAll q.blocks q.targets
    moved p q size targets whole = subst (λ (n : ℕ). CoverAll n q.targets) (sym size) (subst (λ (ds : List Target). CoverAll p.blocks ds) (sym targets) whole)

whole_passes : (s : Script) → IsScript s → Reads nothing_read (script_lines s) HasEnded
whole_passes s valid =
    let rest = map key_line s.keys ++ (map fault_line s.faults ++ (flat_map (section_lines s.keys) s.threads ++ end_line ∷ [])) in
    let devices = map device_line s.targets in
    further nothing_read (version_line ∷ disk_line s.blocks ∷ fallback_line s.fallback ∷ []) (devices ++ rest) (HasHead s.blocks) HasEnded (head_passes s.blocks s.fallback valid.blocks)
    (λ p is has.
    let all : p.targets ++ s.targets ≡ s.targets = ap (λ (ds : List Target). ds ++ s.targets) has.targets in
    let follows : may_follow p.last sorts.Device ≡ true = ap (λ (last : Option Sort). may_follow last sorts.Device) has.last in
    further p devices rest (HasDevices p.blocks (p.targets ++ s.targets)) HasEnded
    (devices_pass p s.targets s.blocks is follows (subst (λ (ds : List Target). AreDevices ds s.blocks) (sym all) valid.devices))
    (λ q is_q then. behind_devices_pass s valid q is_q then.follows (then.size ∙ has.size) (then.targets ∙ all)))

-- no line of a script's text fails
pub no_error : (s : Script) → IsScript s → error_of (script_text s) ≡ None
no_error s valid =
    let lines : lines_of (script_text s) ≡ script_lines s ++ nothing ∷ [] = lines_of-lines_text (script_lines s) (script_lines_are_lines s valid) in
    let reads = whole_passes s valid in
    let ended : is_end (last_sort (forms_below [] (script_lines s))) ≡ true =
    ap (λ (above : List Form). is_end (last_sort above)) reads.forms ∙ ap (λ (last : Option Sort). is_end last) (last_sort-read reads.after reads.rules ∙ reads.holds) in
    ap (first_error []) lines
    ∙ no_first_error [] (script_lines s) nothing reads.pass (ap (λ (b : Bool). first_why (b && is_nothing nothing) why.End None) ended)

-- so a text with a line that fails is no script's
pub no_script_has : (text : List ℕ) (e : ScriptError) → error_of text ≡ Some e → NoScriptHas text
no_script_has text e fails s valid is = let none : Some e ≡ None = sym fails ∙ ap error_of is ∙ no_error s valid in absurd cc
