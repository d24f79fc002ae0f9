-- The forms of the lines that have been read, from the first, of a script that is being read.
use Rattle.std.proofs.Common.{◌≡◌, ℕ, Bool, true, false, List, [], ◌∷◌, ◌++◌, length, map, flat_map, Option, Some, None, refl, sym, ap, ◌∙◌}
use Rattle.std.specs.List.{AllByRecursion}
use Rattle.std.specs.Fmt.{decimal}
use Rattle.bc_text.specs.Lines.{TextLine}
use Rattle.bc_stack.specs.declared.target.Target.{Target}
use Rattle.bc_script.specs.declared.named_key.NamedKey.{NamedKey}
use Rattle.bc_script.specs.declared.op.Op.{Op}
use Rattle.bc_script.specs.declared.sort.Sort.{Sort}
use Rattle.bc_script.specs.declared.sort.Sort.TheVariants as sorts
use Rattle.bc_script.specs.Script.{AreKeys, IsOp, IsSection, bare_keys}
use Rattle.bc_script.specs.ScriptText.{device_line, key_line, fault_line, op_line, section_lines}
use Rattle.bc_script.specs.Forms.{Form, Version, Disk, Fallback, Device, Key, Fault, Thread, End, form_of}
use Rattle.bc_script.specs.ScriptErrors.{with_form}
use Rattle.bc_script.specs.Progress.{Progress, IsProgress, first_read, head_read, with_section, is_in_section, end_read, lines_read, forms_read, forms_below, sections_read}
use Rattle.bc_script.specs.DeviceFields.{device_form}
use Rattle.bc_script.proofs.Onto.{onto, onto-append, forms_below-append, HaveForms, HaveForms-append, forms_below-onto, AllByRecursion-append}
use Rattle.bc_script.proofs.Faults.{fault_fields}
use Rattle.bc_script.proofs.LineForms.{key_fields, op_form, form_of-key_line, form_of-fault_line, form_of-op_line}

-- ---- the forms of the lines that have been read, from the first

abbrev pub first_forms : Option Sort → ℕ → Bool → List Form
first_forms None blocks fallback = []
first_forms (Some sorts.Version) blocks fallback = Version ∷ []
first_forms (Some sorts.Disk) blocks fallback = Version ∷ Disk (decimal blocks) ∷ []
first_forms (Some _) blocks fallback = Version ∷ Disk (decimal blocks) ∷ Fallback fallback ∷ []

abbrev pub device_forms : List Target → List Form
device_forms devices = map (λ (device : Target). Device (device_form device)) devices

abbrev pub head_forms : Progress → List Form
head_forms p = first_forms p.last p.blocks p.fallback ++ device_forms p.targets

abbrev pub key_forms : List NamedKey → List Form
key_forms keys = map (λ (named : NamedKey). Key (key_fields named)) keys

abbrev pub fault_forms : List (ℕ × ℕ) → List Form
fault_forms faults = map (λ (fault : ℕ × ℕ). Fault (fault_fields fault)) faults

abbrev pub section_forms : List NamedKey → List Op → List Form
section_forms keys section = Thread ∷ map (op_form keys) section

abbrev pub end_forms : Option Sort → List Form
end_forms (Some sorts.End) = End ∷ []
end_forms _ = []

abbrev pub forms_in : Progress → List Form
forms_in p = head_forms p ++ (key_forms p.keys ++ (fault_forms p.faults ++ (flat_map (section_forms p.keys) (sections_read p) ++ end_forms p.last)))

have_first : (last : Option Sort) (blocks : ℕ) (fallback : Bool) → HaveForms (first_read last blocks fallback) (first_forms last blocks fallback)
have_first None blocks fallback = refl
have_first (Some sorts.Version) blocks fallback = refl
have_first (Some sorts.Disk) blocks fallback = refl
have_first (Some sorts.Fallback) blocks true = refl
have_first (Some sorts.Fallback) blocks false = refl
have_first (Some sorts.Device) blocks true = refl
have_first (Some sorts.Device) blocks false = refl
have_first (Some sorts.Key) blocks true = refl
have_first (Some sorts.Key) blocks false = refl
have_first (Some sorts.Fault) blocks true = refl
have_first (Some sorts.Fault) blocks false = refl
have_first (Some sorts.Thread) blocks true = refl
have_first (Some sorts.Thread) blocks false = refl
have_first (Some sorts.Operation) blocks true = refl
have_first (Some sorts.Operation) blocks false = refl
have_first (Some sorts.End) blocks true = refl
have_first (Some sorts.End) blocks false = refl

have_devices : (devices : List Target) → HaveForms (map device_line devices) (device_forms devices)
have_devices [] = refl
have_devices (d ∷ ds) = ap (λ t. Some (Device (device_form d)) ∷ t) (have_devices ds)

have_head : (p : Progress) → HaveForms (head_read p) (head_forms p)
have_head p =
    HaveForms-append (first_read p.last p.blocks p.fallback) (map device_line p.targets) (first_forms p.last p.blocks p.fallback) (device_forms p.targets)
    (have_first p.last p.blocks p.fallback) (have_devices p.targets)

have_end : (last : Option Sort) → HaveForms (end_read last) (end_forms last)
have_end None = refl
have_end (Some sorts.Version) = refl
have_end (Some sorts.Disk) = refl
have_end (Some sorts.Fallback) = refl
have_end (Some sorts.Device) = refl
have_end (Some sorts.Key) = refl
have_end (Some sorts.Fault) = refl
have_end (Some sorts.Thread) = refl
have_end (Some sorts.Operation) = refl
have_end (Some sorts.End) = refl

have_keys : (keys : List NamedKey) → HaveForms (map key_line keys) (key_forms keys)
have_keys [] = refl
have_keys (k ∷ ks) = ap (λ (o : Option Form). o ∷ map form_of (map key_line ks)) (form_of-key_line k) ∙ ap (λ t. Some (Key (key_fields k)) ∷ t) (have_keys ks)

have_faults : (faults : List (ℕ × ℕ)) → HaveForms (map fault_line faults) (fault_forms faults)
have_faults [] = refl
have_faults (f ∷ fs) = ap (λ (o : Option Form). o ∷ map form_of (map fault_line fs)) (form_of-fault_line f) ∙ ap (λ t. Some (Fault (fault_fields f)) ∷ t) (have_faults fs)

have_ops : (devices : ℕ) (keys : List NamedKey) (section : List Op) → AreKeys keys → AllByRecursion (IsOp devices (bare_keys keys)) section → HaveForms (map (op_line keys) section) (map (op_form keys) section)
have_ops devices keys [] are valid = refl
have_ops devices keys (op ∷ section) are valid =
    ap (λ (o : Option Form). o ∷ map form_of (map (op_line keys) section)) (form_of-op_line devices keys op are valid.0)
    ∙ ap (λ t. Some (op_form keys op) ∷ t) (have_ops devices keys section are valid.1)

-- all operations of the sections are valid
abbrev pub AreOps : ℕ → List NamedKey → List (List Op) → Type 0
AreOps devices keys sections = AllByRecursion (AllByRecursion (IsOp devices (bare_keys keys))) sections

have_sections : (devices : ℕ) (keys : List NamedKey) (sections : List (List Op)) → AreKeys keys → AreOps devices keys sections → HaveForms (flat_map (section_lines keys) sections) (flat_map (section_forms keys) sections)
have_sections devices keys [] are valid = refl
have_sections devices keys (section ∷ sections) are valid =
    HaveForms-append (section_lines keys section) (flat_map (section_lines keys) sections) (section_forms keys section) (flat_map (section_forms keys) sections)
    (ap (λ t. Some Thread ∷ t) (have_ops devices keys section are valid.0))
    (have_sections devices keys sections are valid.1)

ops_of_sections : (devices : ℕ) (keys : List NamedKey) (sections : List (List Op)) → AllByRecursion (IsSection devices (bare_keys keys)) sections → AreOps devices keys sections
ops_of_sections devices keys [] each = tt
ops_of_sections devices keys (section ∷ sections) each = (each.0.each, ops_of_sections devices keys sections each.1)

pub ops_read : (p : Progress) → IsProgress p → AreOps (length p.targets) p.keys (sections_read p)
ops_read p is =
    AllByRecursion-append (AllByRecursion (IsOp (length p.targets) (bare_keys p.keys))) p.threads (with_section (is_in_section p.last) p.section)
    (ops_of_sections (length p.targets) p.keys p.threads is.threads)
    (last (is_in_section p.last))
  where
    last : (inside : Bool) → AreOps (length p.targets) p.keys (with_section inside p.section)
    last true = (is.section, tt)
    last false = tt

pub have_forms : (p : Progress) → IsProgress p → HaveForms (lines_read p) (forms_in p)
have_forms p is =
    HaveForms-append (head_read p) _ (head_forms p) _ (have_head p)
    (HaveForms-append (map key_line p.keys) _ (key_forms p.keys) _ (have_keys p.keys)
    (HaveForms-append (map fault_line p.faults) _ (fault_forms p.faults) _ (have_faults p.faults)
    (HaveForms-append (flat_map (section_lines p.keys) (sections_read p)) (end_read p.last) (flat_map (section_forms p.keys) (sections_read p)) (end_forms p.last)
    (have_sections (length p.targets) p.keys (sections_read p) is.keys (ops_read p is))
    (have_end p.last))))

pub forms_read-in : (p : Progress) → IsProgress p → forms_read p ≡ onto (forms_in p) []
forms_read-in p is = forms_below-onto (lines_read p) (forms_in p) [] (have_forms p is)

-- ---- steps

-- one more line that is read is one more form
pub forms_read-step : (p q : Progress) (line : TextLine) (form : Form) → lines_read q ≡ lines_read p ++ line ∷ [] → form_of line ≡ Some form → forms_read q ≡ form ∷ forms_read p
forms_read-step p q line form more is =
    ap (forms_below []) more ∙ forms_below-append [] (lines_read p) (line ∷ []) ∙ ap (λ (o : Option Form). with_form o (forms_read p)) is

-- the forms by their parts
pub parts : (p : Progress) → IsProgress p → forms_read p ≡ onto (end_forms p.last) (onto (flat_map (section_forms p.keys) (sections_read p)) (onto (fault_forms p.faults) (onto (key_forms p.keys) (onto (head_forms p) []))))
parts p is =
    let sections = flat_map (section_forms p.keys) (sections_read p) in
    let heads = onto (head_forms p) [] in
    forms_read-in p is
    ∙ onto-append (head_forms p) (key_forms p.keys ++ (fault_forms p.faults ++ (sections ++ end_forms p.last))) []
    ∙ onto-append (key_forms p.keys) (fault_forms p.faults ++ (sections ++ end_forms p.last)) heads
    ∙ onto-append (fault_forms p.faults) (sections ++ end_forms p.last) (onto (key_forms p.keys) heads)
    ∙ onto-append sections (end_forms p.last) (onto (fault_forms p.faults) (onto (key_forms p.keys) heads))

-- the last section stands nearest
pub last_section : (keys : List NamedKey) (threads : List (List Op)) (section : List Op) (above : List Form)
    → onto (flat_map (section_forms keys) (threads ++ section ∷ [])) above ≡ onto (map (op_form keys) section) (Thread ∷ onto (flat_map (section_forms keys) threads) above)
last_section keys [] section above = onto-append (map (op_form keys) section) [] (Thread ∷ above)
last_section keys (thread ∷ threads) section above =
    onto-append (section_forms keys thread) (flat_map (section_forms keys) (threads ++ section ∷ [])) above
    ∙ last_section keys threads section (onto (section_forms keys thread) above)
    ∙ ap (λ (t : List Form). onto (map (op_form keys) section) (Thread ∷ t)) (sym (onto-append (section_forms keys thread) (flat_map (section_forms keys) threads) above))
