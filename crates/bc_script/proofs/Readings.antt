-- What a reader of scripts keeps, line after line.
use Rattle.std.proofs.Common.{◌≡◌, ℕ, ◌<◌, ◌≤◌, ◌+◌, Bool, true, false, List, [], ◌∷◌, ◌++◌, length, map, flat_map, Option, Some, None, append-nil, refl, sym, ap, subst, ◌∙◌, arith}
use Rattle.std.specs.Prelude.{sum_by, IsSome, ◌&&◌}
use Rattle.std.proofs.lemmas.List.Sums.{sum_by-append}
use Rattle.bc_text.specs.Lines.{TextLine}
use Rattle.bc_stack.specs.declared.target.Target.{Target}
use Rattle.bc_script.specs.declared.named_key.NamedKey.{NamedKey}
use Rattle.bc_script.specs.declared.op.Op.{Op}
use Rattle.bc_script.specs.declared.sort.Sort.{Sort}
use Rattle.bc_script.specs.declared.sort.Sort.TheVariants as sorts
use Rattle.bc_script.specs.declared.statement.Statement.{Statement}
use Rattle.bc_script.specs.declared.statement.Statement.TheVariants as statements
use Rattle.bc_script.specs.declared.script_error.ScriptWhy.TheVariants as why
use Rattle.bc_script.specs.Script.{Script, IsScript, IsDiskSize, open_after, unit_count, unit_count_of_section, max_threads, max_ops, max_units}
use Rattle.bc_script.specs.ScriptText.{script_lines, version_line, disk_line, fallback_line, device_line, key_line, fault_line, thread_line, op_line, section_lines, end_line}
use Rattle.bc_script.specs.Forms.{Form, Version, Fallback, Device, Key, Fault, Thread, End, form_of}
use Rattle.bc_script.specs.Order.{may_follow}
use Rattle.bc_script.specs.ScriptErrors.{with_form, error_at, error_at_end, last_sort, is_end}
use Rattle.bc_text.specs.Lines.{is_nothing}
use Rattle.bc_script.specs.Progress.{Progress, IsProgress, IsAt, first_read, with_section, is_in_section, end_read, lines_read, forms_read, sections_read}
use Rattle.bc_script.specs.Statements.{Fits, FitsDevice, FitsKey, FitsFault, FitsOp, CoverDisk, PlugsAreClosed, EndsSection, HasRoomFor, IsNextStatement, sort_of_statement, statement_line, with_statement, with_section_ended}
use Rattle.bc_script.specs.Reading.{IsReading, TookScriptLine, left_section}
use Rattle.bc_script.proofs.FormsRead.{forms_read-step}
use Rattle.bc_script.proofs.Faults.{fault_fields}
use Rattle.bc_script.proofs.LineForms.{key_fields, op_form, form_of-fallback, form_of-device_line, form_of-key_line, form_of-fault_line, form_of-op_line}
use Rattle.bc_script.proofs.Above.{last_sort-read, length-read_le}
use Rattle.bc_script.proofs.Passes.{error_at-passed, disk_passed, device_passed, key_passed, fault_passed, thread_passed, end_passed, op_passed, open_after-append}
use Rattle.bc_script.proofs.Steps.{nothing_read, IsProgress-nothing_read, IsProgress-version, IsProgress-disk, IsProgress-fallback, IsProgress-device, IsProgress-key, IsProgress-fault, IsProgress-thread, IsProgress-op, IsProgress-end, lines_read-version, lines_read-disk, lines_read-fallback, lines_read-device, lines_read-key, lines_read-fault, lines_read-thread, lines_read-op, lines_read-end, counts-op}
use Rattle.bc_script.specs.DeviceFields.{device_form}
use Rattle.bc_script.proofs.Devices.{are_devices}
use Rattle.bc_script.proofs.NoError.{op_sorted}
use Rattle.bc_script.proofs.Refusals.{fails, goes_on, others}

-- ---- one line more

pub reading_none : IsReading nothing_read 0 false 0 0
reading_none = record { rules = IsProgress-nothing_read; line_count = refl; plug = refl; op_count = refl; unit_count = refl }

pub few_lines : (p : Progress) (lines count units : ℕ) (plugged : Bool) → IsReading p lines plugged count units → lines ≤ 70684
few_lines p lines count units plugged is = subst (λ (n : ℕ). n ≤ 70684) (sym is.line_count) (length-read_le p is.rules)

reading_step : (p q : Progress) (line : TextLine) (form : Form) (lines count units counted united : ℕ) (plugged closed : Bool) → IsReading p lines plugged count units → IsProgress q → lines_read q ≡ lines_read p ++ line ∷ [] → form_of line ≡ Some form
    → open_after false q.section ≡ Some closed → counted ≡ sum_by length (sections_read q) → united ≡ sum_by unit_count_of_section (sections_read q) → IsReading q (lines + 1) closed counted united
reading_step p q line form lines count units counted united plugged closed is rules more is_form plug few many =
    let longer = ap length (forms_read-step p q line form more is_form) in
    let before = is.line_count in
    record { rules = rules; line_count = omega arith; plug = plug; op_count = few; unit_count = many }

abbrev is_before : Sort → Bool
is_before sorts.Version = true
is_before sorts.Disk = true
is_before sorts.Fallback = true
is_before sorts.Device = true
is_before sorts.Key = true
is_before sorts.Fault = true
is_before _ = false

-- no section is read yet where one of the lines before the sections may stand
outside : (last : Option Sort) (sort : Sort) → is_before sort ≡ true → may_follow last sort ≡ true → is_in_section last ≡ false
outside None sort before follows = refl
outside (Some sorts.Version) sort before follows = refl
outside (Some sorts.Disk) sort before follows = refl
outside (Some sorts.Fallback) sort before follows = refl
outside (Some sorts.Device) sort before follows = refl
outside (Some sorts.Key) sort before follows = refl
outside (Some sorts.Fault) sort before follows = refl
outside (Some sorts.End) sort before follows = refl
outside (Some sorts.Thread) sorts.Version before follows = absurd cc
outside (Some sorts.Thread) sorts.Disk before follows = absurd cc
outside (Some sorts.Thread) sorts.Fallback before follows = absurd cc
outside (Some sorts.Thread) sorts.Device before follows = absurd cc
outside (Some sorts.Thread) sorts.Key before follows = absurd cc
outside (Some sorts.Thread) sorts.Fault before follows = absurd cc
outside (Some sorts.Thread) sorts.Thread before follows = absurd cc
outside (Some sorts.Thread) sorts.Operation before follows = absurd cc
outside (Some sorts.Thread) sorts.End before follows = absurd cc
outside (Some sorts.Operation) sorts.Version before follows = absurd cc
outside (Some sorts.Operation) sorts.Disk before follows = absurd cc
outside (Some sorts.Operation) sorts.Fallback before follows = absurd cc
outside (Some sorts.Operation) sorts.Device before follows = absurd cc
outside (Some sorts.Operation) sorts.Key before follows = absurd cc
outside (Some sorts.Operation) sorts.Fault before follows = absurd cc
outside (Some sorts.Operation) sorts.Thread before follows = absurd cc
outside (Some sorts.Operation) sorts.Operation before follows = absurd cc
outside (Some sorts.Operation) sorts.End before follows = absurd cc

sections_before : (p : Progress) (sort : Sort) → is_before sort ≡ true → may_follow p.last sort ≡ true → sections_read p ≡ p.threads ++ []
sections_before p sort before follows = ap (λ (b : Bool). p.threads ++ with_section b p.section) (outside p.last sort before follows)

module _ (p : Progress) (lines count units : ℕ) (plugged : Bool) (is : IsReading p lines plugged count units) where
  pub reading_version : may_follow p.last sorts.Version ≡ true → IsReading (with_statement p statements.Version) (lines + 1) plugged count units
  reading_version follows =
      let same = sections_before p sorts.Version refl follows in
      reading_step p (with_statement p statements.Version) version_line Version lines count units count units plugged plugged is (IsProgress-version p is.rules follows) (lines_read-version p is.rules follows) refl is.plug
      (is.op_count ∙ ap (λ (t : List (List Op)). sum_by length t) same) (is.unit_count ∙ ap (λ (t : List (List Op)). sum_by unit_count_of_section t) same)

  pub reading_disk : (blocks : ℕ) → may_follow p.last sorts.Disk ≡ true → IsDiskSize blocks → IsReading (with_statement p (statements.Disk blocks)) (lines + 1) plugged count units
  reading_disk blocks follows size =
      let same = sections_before p sorts.Disk refl follows in
      reading_step p (with_statement p (statements.Disk blocks)) (disk_line blocks) _ lines count units count units plugged plugged is (IsProgress-disk p blocks is.rules follows size) (lines_read-disk p blocks is.rules follows) refl is.plug
      (is.op_count ∙ ap (λ (t : List (List Op)). sum_by length t) same) (is.unit_count ∙ ap (λ (t : List (List Op)). sum_by unit_count_of_section t) same)

  pub reading_fallback : (on : Bool) → may_follow p.last sorts.Fallback ≡ true → IsReading (with_statement p (statements.Fallback on)) (lines + 1) plugged count units
  reading_fallback on follows =
      let same = sections_before p sorts.Fallback refl follows in
      reading_step p (with_statement p (statements.Fallback on)) (fallback_line on) (Fallback on) lines count units count units plugged plugged is (IsProgress-fallback p on is.rules follows) (lines_read-fallback p on is.rules follows) (form_of-fallback on) is.plug
      (is.op_count ∙ ap (λ (t : List (List Op)). sum_by length t) same) (is.unit_count ∙ ap (λ (t : List (List Op)). sum_by unit_count_of_section t) same)

  pub reading_device : (device : Target) → may_follow p.last sorts.Device ≡ true → FitsDevice p device → IsReading (with_statement p (statements.Device device)) (lines + 1) plugged count units
  reading_device device follows fits =
      let same = sections_before p sorts.Device refl follows in
      reading_step p (with_statement p (statements.Device device)) (device_line device) (Device (device_form device)) lines count units count units plugged plugged is
      (IsProgress-device p device is.rules follows fits.valid fits.first fits.room) (lines_read-device p device is.rules follows) (form_of-device_line device) is.plug
      (is.op_count ∙ ap (λ (t : List (List Op)). sum_by length t) same) (is.unit_count ∙ ap (λ (t : List (List Op)). sum_by unit_count_of_section t) same)

  pub reading_key : (named : NamedKey) → may_follow p.last sorts.Key ≡ true → FitsKey p named → IsReading (with_statement p (statements.Key named)) (lines + 1) plugged count units
  reading_key named follows fits =
      let same = sections_before p sorts.Key refl follows in
      reading_step p (with_statement p (statements.Key named)) (key_line named) (Key (key_fields named)) lines count units count units plugged plugged is
      (IsProgress-key p named is.rules follows fits.whole fits.valid (others p.keys named.name fits.fresh) fits.room) (lines_read-key p named is.rules follows) (form_of-key_line named) is.plug
      (is.op_count ∙ ap (λ (t : List (List Op)). sum_by length t) same) (is.unit_count ∙ ap (λ (t : List (List Op)). sum_by unit_count_of_section t) same)

  pub reading_fault : (fault : ℕ × ℕ) → may_follow p.last sorts.Fault ≡ true → FitsFault p fault → IsReading (with_statement p (statements.Fault fault)) (lines + 1) plugged count units
  reading_fault fault follows fits =
      let same = sections_before p sorts.Fault refl follows in
      reading_step p (with_statement p (statements.Fault fault)) (fault_line fault) (Fault (fault_fields fault)) lines count units count units plugged plugged is
      (IsProgress-fault p fault is.rules follows fits.whole fits.valid fits.ascends fits.room) (lines_read-fault p fault is.rules follows) (form_of-fault_line fault) is.plug
      (is.op_count ∙ ap (λ (t : List (List Op)). sum_by length t) same) (is.unit_count ∙ ap (λ (t : List (List Op)). sum_by unit_count_of_section t) same)

  pub may_plug : (op : Op) → FitsOp p op → IsSome (open_after plugged (op ∷ []))
  may_plug op fits = subst (λ (o : Option Bool). IsSome o) (open_after-append false plugged p.section (op ∷ []) is.plug) fits.plugs

  pub reading_op : (op : Op) (more : ℕ) (closed : Bool) → may_follow p.last sorts.Operation ≡ true → FitsOp p op → more ≡ unit_count op → open_after plugged (op ∷ []) ≡ Some closed
      → IsReading (with_statement p (statements.Operation op)) (lines + 1) closed (count + 1) (units + more)
  reading_op op more closed follows fits more_is plugs =
      let counts = counts-op p op follows in
      let rules = is.rules in
      let ops = is.op_count in
      let all = is.unit_count in
      reading_step p (with_statement p (statements.Operation op)) (op_line p.keys op) (op_form p.keys op) lines count units (count + 1) (units + more) plugged closed is
      (IsProgress-op p op rules follows fits.valid fits.plugs fits.room fits.units) (lines_read-op p op rules follows) (form_of-op_line (length p.targets) p.keys op rules.keys fits.valid)
      (open_after-append false plugged p.section (op ∷ []) is.plug ∙ plugs)
      (ap (λ (n : ℕ). n + 1) is.op_count ∙ sym counts.1) ((λ i. is.unit_count i + more_is i) ∙ sym counts.2)

  pub few_ops : (op : Op) → FitsOp p op → (count < 65536) × (units + unit_count op ≤ 65536)
  few_ops op fits =
      let room = fits.room in
      let most = fits.units in
      let ops = is.op_count in
      let all = is.unit_count in
      (omega arith, omega arith)

  pub reading_ended : (sort : Sort) → EndsSection sort → may_follow p.last sort ≡ true → PlugsAreClosed p → CoverDisk p → HasRoomFor p sort → IsReading (with_section_ended p sort) (lines + 1) plugged count units
  reading_ended sorts.Thread ends follows closed whole room =
      let ops = sum_by-append length (sections_read p) ([] ∷ []) in
      let all = sum_by-append unit_count_of_section (sections_read p) ([] ∷ []) in
      let few = is.op_count in
      let many = is.unit_count in
      reading_step p (with_section_ended p sorts.Thread) thread_line Thread lines count units count units plugged plugged is (IsProgress-thread p is.rules follows whole closed room) (lines_read-thread p is.rules follows) refl (sym closed ∙ is.plug) (omega arith) (omega arith)
  reading_ended sorts.End ends follows closed whole room =
      let same : sections_read p ≡ sections_read p ++ [] = sym (append-nil (sections_read p)) in
      reading_step p (with_section_ended p sorts.End) end_line End lines count units count units plugged plugged is (IsProgress-end p is.rules follows whole closed) (lines_read-end p is.rules follows) refl (sym closed ∙ is.plug)
      (is.op_count ∙ ap (λ (t : List (List Op)). sum_by length t) same) (is.unit_count ∙ ap (λ (t : List (List Op)). sum_by unit_count_of_section t) same)
  reading_ended sorts.Version ends follows closed whole room = absurd ends
  reading_ended sorts.Disk ends follows closed whole room = absurd ends
  reading_ended sorts.Fallback ends follows closed whole room = absurd ends
  reading_ended sorts.Device ends follows closed whole room = absurd ends
  reading_ended sorts.Key ends follows closed whole room = absurd ends
  reading_ended sorts.Fault ends follows closed whole room = absurd ends
  reading_ended sorts.Operation ends follows closed whole room = absurd ends

-- outside a section there are no operations
pub no_section : (p : Progress) → IsProgress p → is_in_section p.last ≡ false → p.section ≡ []
no_section p is out = at p.last out is.at
  where
    at : (last : Option Sort) → is_in_section last ≡ false → IsAt last p → p.section ≡ []
    at None out h = h.3
    at (Some sorts.Version) out h = h.3
    at (Some sorts.Disk) out h = h.4
    at (Some sorts.Fallback) out h = h.4
    at (Some sorts.Device) out h = h.4
    at (Some sorts.Key) out h = h.4
    at (Some sorts.Fault) out h = h.3
    at (Some sorts.Thread) out h = h.1
    at (Some sorts.Operation) out h = absurd cc
    at (Some sorts.End) out h = h.1

pub none_left : (p : Progress) → IsProgress p → left_section (is_in_section p.last) p.section ≡ []
none_left p is = at (is_in_section p.last) refl
  where
    at : (inside : Bool) → is_in_section p.last ≡ inside → left_section inside p.section ≡ []
    at true e = refl
    at false e = no_section p is e

-- ---- a line that has been read

-- what follows passes, and its line is read with it
module _ (p : Progress) (is : IsProgress p) where
  abbrev TookStatement : Statement → Type 0
  TookStatement statement = TookScriptLine p (statement_line p.keys statement) (with_statement p statement)

  taken : (statement : Statement) (form : Form) → form_of (statement_line p.keys statement) ≡ Some form → error_at (forms_read p) (statement_line p.keys statement) ≡ None → lines_read (with_statement p statement) ≡ lines_read p ++ statement_line p.keys statement ∷ [] → TookStatement statement
  taken statement form is_form passes lines = record {
    passes = passes;
    lines = lines;
    forms = forms_read-step p (with_statement p statement) (statement_line p.keys statement) form lines is_form ∙ sym (ap (λ (f : Option Form). with_form f (forms_read p)) is_form);
  }

  took_statement : (statement : Statement) → may_follow p.last (sort_of_statement statement) ≡ true → Fits p statement → TookStatement statement
  took_statement statements.Version follows fits =
      taken statements.Version Version refl (error_at-passed p version_line Version is refl follows refl) (lines_read-version p is follows)
  took_statement (statements.Disk blocks) follows fits =
      taken (statements.Disk blocks) _ refl (error_at-passed p (disk_line blocks) _ is refl follows (disk_passed (forms_read p) blocks fits)) (lines_read-disk p blocks is follows)
  took_statement (statements.Fallback on) follows fits =
      taken (statements.Fallback on) (Fallback on) (form_of-fallback on) (error_at-passed p (fallback_line on) (Fallback on) is (form_of-fallback on) follows refl) (lines_read-fallback p on is follows)
  took_statement (statements.Device device) follows fits =
      taken (statements.Device device) (Device (device_form device)) (form_of-device_line device)
      (error_at-passed p (device_line device) (Device (device_form device)) is (form_of-device_line device) follows (device_passed p device is fits.valid fits.first fits.room))
      (lines_read-device p device is follows)
  took_statement (statements.Key named) follows fits =
      taken (statements.Key named) (Key (key_fields named)) (form_of-key_line named)
      (error_at-passed p (key_line named) (Key (key_fields named)) is (form_of-key_line named) follows (key_passed p named is fits.whole fits.valid (others p.keys named.name fits.fresh) fits.room))
      (lines_read-key p named is follows)
  took_statement (statements.Fault fault) follows fits =
      taken (statements.Fault fault) (Fault (fault_fields fault)) (form_of-fault_line fault)
      (error_at-passed p (fault_line fault) (Fault (fault_fields fault)) is (form_of-fault_line fault) follows (fault_passed p fault is fits.whole fits.valid fits.ascends fits.room))
      (lines_read-fault p fault is follows)
  took_statement statements.Thread follows fits =
      taken statements.Thread Thread refl (error_at-passed p thread_line Thread is refl follows (thread_passed p is fits.2 fits.0 fits.1)) (lines_read-thread p is follows)
  took_statement (statements.Operation op) follows fits =
      taken (statements.Operation op) (op_form p.keys op) (form_of-op_line (length p.targets) p.keys op is.keys fits.valid)
      (error_at-passed p (op_line p.keys op) (op_form p.keys op) is (form_of-op_line (length p.targets) p.keys op is.keys fits.valid) (op_sorted p.last p.keys op ∙ follows)
      (op_passed p op is fits.valid fits.plugs fits.room fits.units))
      (lines_read-op p op is follows)
  took_statement statements.End follows fits = taken statements.End End refl (error_at-passed p end_line End is refl follows (end_passed p is fits.1 fits.0)) (lines_read-end p is follows)

pub took : (p : Progress) (line : TextLine) (statement : Statement) (q : Progress) → IsNextStatement p line statement → q ≡ with_statement p statement → TookScriptLine p line q
took p line statement q next same =
    subst (λ (r : Progress). TookScriptLine p line r) (sym same) (subst (λ (l : TextLine). TookScriptLine p l (with_statement p statement)) (sym next.line_is) (took_statement p next.rules statement next.follows next.fits))

-- ---- the end

-- a text that goes on, or ends too early
module _ (p : Progress) (is : IsProgress p) (rest : TextLine) (last : Option Sort) (nearest : last ≡ p.last) where
  ended_is : (is_end (last_sort (forms_read p)) && is_nothing rest) ≡ (is_end last && is_nothing rest)
  ended_is = ap (λ (l : Option Sort). is_end l && is_nothing rest) (last_sort-read p is ∙ sym nearest)

  pub fails_at_end : (is_end last && is_nothing rest) ≡ false → error_at_end (forms_read p) rest ≡ Some why.End
  fails_at_end h = fails (is_end (last_sort (forms_read p)) && is_nothing rest) why.End None (ended_is ∙ h)

  pub passes_at_end : (is_end last && is_nothing rest) ≡ true → error_at_end (forms_read p) rest ≡ None
  passes_at_end h = goes_on (is_end (last_sort (forms_read p)) && is_nothing rest) why.End None (ended_is ∙ h)

-- what has been read when the last line has been read
abbrev pub script_read : Progress → Script
script_read p = record { blocks = p.blocks; fallback = p.fallback; targets = p.targets; keys = p.keys; faults = p.faults; threads = p.threads }

module _ (p : Progress) (is : IsProgress p) (last : p.last ≡ Some sorts.End) where
  all_sections : sections_read p ≡ p.threads
  all_sections = ap (λ (l : Option Sort). p.threads ++ with_section (is_in_section l) p.section) last ∙ append-nil p.threads

  pub is_script : IsScript (script_read p)
  is_script =
      let at = subst (λ (l : Option Sort). IsAt l p) last is.at in
      record {
        blocks = at.0;
        devices = are_devices p.targets p.blocks is.devices at.2;
        keys = is.keys;
        faults = is.faults;
        threads = record {
          count = subst (λ (t : List (List Op)). length t ≤ max_threads) all_sections is.few_threads;
          each = is.threads;
          few_ops = subst (λ (t : List (List Op)). sum_by length t ≤ max_ops) all_sections is.few_ops;
          few_units = subst (λ (t : List (List Op)). sum_by unit_count_of_section t ≤ max_units) all_sections is.few_units;
        };
      }

  pub all_lines : script_lines (script_read p) ≡ lines_read p
  all_lines =
      sym (ap (λ (l : Option Sort). (first_read l p.blocks p.fallback ++ map device_line p.targets) ++ (map key_line p.keys ++ (map fault_line p.faults ++ (flat_map (section_lines p.keys) (p.threads ++ with_section (is_in_section l) p.section) ++ end_read l)))) last
      ∙ ap (λ (t : List (List Op)). (version_line ∷ disk_line p.blocks ∷ fallback_line p.fallback ∷ map device_line p.targets) ++ (map key_line p.keys ++ (map fault_line p.faults ++ (flat_map (section_lines p.keys) t ++ end_line ∷ [])))) (append-nil p.threads))

pub and_both : (a b : Bool) → a ≡ true → b ≡ true → (a && b) ≡ true
and_both a b p q = λ i. p i && q i
