-- No script's text begins another's.
use Rattle.std.proofs.Common.{◌≡◌, ℕ, ◌≤◌, length, List, [], ◌∷◌, ◌++◌, map, refl, sym, ap, subst, ◌∙◌, append_assoc, arith, inl, inr}
use Rattle.std.specs.Prelude.{codes, flat_map, ◌⊎◌}
use Rattle.std.specs.List.{AllByRecursion}
use Rattle.std.proofs.lemmas.Fmt.{decimal_injective}
use Rattle.std.proofs.lemmas.List.{append-nil}
use Rattle.bc_text.specs.Lines.{TextLine, StartsAs, lines_text}
use Rattle.bc_text.proofs.LineLaws.{lines_text-begins}
use Rattle.bc_text.proofs.Sorts.{same_reading}
use Rattle.bc_stack.specs.declared.target.Target.{Target}
use Rattle.bc_script.specs.declared.named_key.NamedKey.{NamedKey}
use Rattle.bc_script.specs.declared.op.Op.{Op}
use Rattle.bc_script.specs.declared.op.Op.TheVariants as ops
use Rattle.bc_script.specs.Script.{Script, IsScript, IsDevice, AreKeys, IsNamedKey, IsFault, IsOp, IsSection, bare_keys, IsDiskSize}
use Rattle.bc_script.specs.ScriptText.{script_lines, script_text, version_line, disk_line, fallback_line, device_line, key_line, fault_line, op_line, section_lines, thread_line, end_line}
use Rattle.bc_script.proofs.LineFields.{script_lines_are_lines}
use Rattle.bc_script.proofs.LineLaws.{clash, clash_words, on_off_injective, device_line_injective, key_line_injective, fault_line_injective, op_line_injective}

-- ---- sections

-- the lines go on with a section's first line, or with the last line
abbrev EndsSection : List TextLine → Type 0
EndsSection lines = StartsAs (codes "thread") lines ⊎ StartsAs (codes "end") lines

op_goes : (devices : ℕ) (keys : List NamedKey) (op : Op) (rest : List TextLine) → IsOp devices (bare_keys keys) op → EndsSection (op_line keys op ∷ rest) → ⊥
op_goes devices keys (ops.Write context sector units text) rest valid (inl e) = clash_words (codes "write") (codes "thread") refl e
op_goes devices keys (ops.Write context sector units text) rest valid (inr e) = clash_words (codes "write") (codes "end") refl e
op_goes devices keys (ops.Read context sector units) rest valid (inl e) = clash_words (codes "read") (codes "thread") refl e
op_goes devices keys (ops.Read context sector units) rest valid (inr e) = clash_words (codes "read") (codes "end") refl e
op_goes devices keys (ops.Evict key) rest valid (inl e) = clash_words (codes "evict") (codes "thread") refl e
op_goes devices keys (ops.Evict key) rest valid (inr e) = clash_words (codes "evict") (codes "end") refl e
op_goes devices keys (ops.Reset device) rest valid (inl e) = clash_words (codes "reset") (codes "thread") refl e
op_goes devices keys (ops.Reset device) rest valid (inr e) = clash_words (codes "reset") (codes "end") refl e
op_goes devices keys ops.Plug rest valid (inl e) = clash_words (codes "plug") (codes "thread") refl e
op_goes devices keys ops.Plug rest valid (inr e) = clash_words (codes "plug") (codes "end") refl e
op_goes devices keys ops.Unplug rest valid (inl e) = clash_words (codes "unplug") (codes "thread") refl e
op_goes devices keys ops.Unplug rest valid (inr e) = clash_words (codes "unplug") (codes "end") refl e

drop_first : (x y : TextLine) (a b : List TextLine) → x ∷ a ≡ y ∷ b → a ≡ b
drop_first x y a b e = cc

thread_is_no_end : (a b : List TextLine) → thread_line ∷ a ≡ end_line ∷ b → ⊥
thread_is_no_end a b e = clash (codes "thread") (codes "end") [] [] refl (first_line thread_line end_line a b e)
  where
    first_line : (x y : TextLine) (a b : List TextLine) → x ∷ a ≡ y ∷ b → x ≡ y
    first_line x y a b e = cc

-- the lines of sections and the last line, and what stands after them
abbrev sections_and_end : List NamedKey → List (List Op) → List TextLine → List TextLine
sections_and_end keys threads rest = flat_map (section_lines keys) threads ++ end_line ∷ rest

ends_section : (keys : List NamedKey) (threads : List (List Op)) (rest : List TextLine) → EndsSection (sections_and_end keys threads rest)
ends_section keys [] rest = inr refl
ends_section keys (section ∷ threads) rest = inl refl

-- the first section's lines, and the others
first_section : (keys : List NamedKey) (section : List Op) (threads : List (List Op)) (rest : List TextLine)
    → sections_and_end keys (section ∷ threads) rest ≡ thread_line ∷ (map (op_line keys) section ++ sections_and_end keys threads rest)
first_section keys section threads rest = append_assoc (section_lines keys section) (flat_map (section_lines keys) threads) (end_line ∷ rest)

begins_no_other_sections : (devices : ℕ) (keys : List NamedKey) → AreKeys keys → devices ≤ 8 → (a b : List (List Op)) (c : List TextLine) → AllByRecursion (IsSection devices (bare_keys keys)) a → AllByRecursion (IsSection devices (bare_keys keys)) b
    → sections_and_end keys a c ≡ sections_and_end keys b [] → (a ≡ b) × (c ≡ [])
begins_no_other_sections devices keys are few [] [] c p q e = (refl, drop_first end_line end_line c [] e)
begins_no_other_sections devices keys are few [] (t ∷ b) c p q e = absurd (thread_is_no_end _ _ (sym e))
begins_no_other_sections devices keys are few (s ∷ a) [] c p q e = absurd (thread_is_no_end _ _ e)
begins_no_other_sections devices keys are few (s ∷ a) (t ∷ b) c p q e =
    let tails = drop_first thread_line thread_line _ _ (sym (first_section keys s a c) ∙ e ∙ first_section keys t b []) in
    let same = same_reading Op (op_line keys) (λ op. IsOp devices (bare_keys keys) op) EndsSection (op_line_injective devices keys are few) (op_goes devices keys) s t (sections_and_end keys a c) (sections_and_end keys b []) p.0.each q.0.each (ends_section keys a c) (ends_section keys b []) tails in
    let more = begins_no_other_sections devices keys are few a b c p.1 q.1 same.1 in
    (λ i. same.0 i ∷ more.0 i, more.1)

-- ---- planned faults

-- the lines of faults and of what follows them, and what stands after that
abbrev faults_and_rest : List NamedKey → List (ℕ × ℕ) → List (List Op) → List TextLine → List TextLine
faults_and_rest keys faults threads rest = map fault_line faults ++ sections_and_end keys threads rest

-- the lines go on with another line than a fault's
abbrev EndsFaults : List TextLine → Type 0
EndsFaults lines = StartsAs (codes "fault") lines → ⊥

fault_goes : (fault : ℕ × ℕ) (rest : List TextLine) → IsFault fault → EndsFaults (fault_line fault ∷ rest) → ⊥
fault_goes fault rest valid ends = ends refl

ends_faults : (keys : List NamedKey) (threads : List (List Op)) (rest : List TextLine) → EndsFaults (sections_and_end keys threads rest)
ends_faults keys [] rest e = clash_words (codes "end") (codes "fault") refl e
ends_faults keys (section ∷ threads) rest e = clash_words (codes "thread") (codes "fault") refl e

-- ---- keys

-- the lines go on with another line than a key's
abbrev EndsKeys : List TextLine → Type 0
EndsKeys lines = StartsAs (codes "key") lines → ⊥

key_goes : (key : NamedKey) (rest : List TextLine) → IsNamedKey key → EndsKeys (key_line key ∷ rest) → ⊥
key_goes key rest valid ends = ends refl

ends_keys : (keys : List NamedKey) (faults : List (ℕ × ℕ)) (threads : List (List Op)) (rest : List TextLine) → EndsKeys (faults_and_rest keys faults threads rest)
ends_keys keys [] [] rest e = clash_words (codes "end") (codes "key") refl e
ends_keys keys [] (section ∷ threads) rest e = clash_words (codes "thread") (codes "key") refl e
ends_keys keys (fault ∷ faults) threads rest e = clash_words (codes "fault") (codes "key") refl e

-- ---- devices

-- the lines of keys and of what follows them, and what stands after that
abbrev keys_and_rest : Script → List TextLine → List TextLine
keys_and_rest s rest = map key_line s.keys ++ faults_and_rest s.keys s.faults s.threads rest

-- the lines go on with another line than a device's
abbrev EndsDevices : List TextLine → Type 0
EndsDevices lines = StartsAs (codes "device") lines → ⊥

device_goes : (device : Target) (rest : List TextLine) → IsDevice device → EndsDevices (device_line device ∷ rest) → ⊥
device_goes device rest valid ends = ends refl

ends_devices : (own keys : List NamedKey) (faults : List (ℕ × ℕ)) (threads : List (List Op)) (rest : List TextLine) → EndsDevices (map key_line keys ++ faults_and_rest own faults threads rest)
ends_devices own [] [] [] rest e = clash_words (codes "end") (codes "device") refl e
ends_devices own [] [] (section ∷ threads) rest e = clash_words (codes "thread") (codes "device") refl e
ends_devices own [] (fault ∷ faults) threads rest e = clash_words (codes "fault") (codes "device") refl e
ends_devices own (key ∷ keys) faults threads rest e = clash_words (codes "key") (codes "device") refl e

-- ---- the whole

abbrev behind_head : Script → List TextLine → List TextLine
behind_head s rest = map device_line s.targets ++ keys_and_rest s rest

-- the first three lines
abbrev first_lines : Script → List TextLine
first_lines s = version_line ∷ disk_line s.blocks ∷ fallback_line s.fallback ∷ []

lines_of_script : (s : Script) (rest : List TextLine) → script_lines s ++ rest ≡ first_lines s ++ behind_head s rest
lines_of_script s rest =
    let devices = map device_line s.targets in
    let keys = map key_line s.keys in
    let faults = map fault_line s.faults in
    let sections = flat_map (section_lines s.keys) s.threads in
    ap (λ (t : List TextLine). first_lines s ++ t)
    (append_assoc devices (keys ++ (faults ++ (sections ++ end_line ∷ []))) rest
    ∙ ap (λ (t : List TextLine). devices ++ t)
    (append_assoc keys (faults ++ (sections ++ end_line ∷ [])) rest
    ∙ ap (λ (t : List TextLine). keys ++ t) (append_assoc faults (sections ++ end_line ∷ []) rest ∙ ap (λ (t : List TextLine). faults ++ t) (append_assoc sections (end_line ∷ []) rest))))

after_head : (a b : Script) (x y : List TextLine) → IsDiskSize a.blocks → IsDiskSize b.blocks → first_lines a ++ x ≡ first_lines b ++ y → (a.blocks ≡ b.blocks) × (a.fallback ≡ b.fallback) × (x ≡ y)
after_head a b x y p q e =
    let parts = second_and_rest _ _ _ _ _ _ _ _ _ _ _ _ e in
    (decimal_injective a.blocks b.blocks (omega arith) (omega arith) parts.0, on_off_injective a.fallback b.fallback parts.1, parts.2)
  where
    second_and_rest : (p v : TextLine) (w z m n r s x y : List ℕ) (a b : List TextLine) → p ∷ (w ∷ m ∷ []) ∷ (r ∷ x ∷ []) ∷ a ≡ v ∷ (z ∷ n ∷ []) ∷ (s ∷ y ∷ []) ∷ b → (m ≡ n) × (x ≡ y) × (a ≡ b)
    second_and_rest p v w z m n r s x y a b e = (cc, cc, cc)

begins_no_other : (a b : Script) (c : List TextLine) → IsScript a → IsScript b → script_lines a ++ c ≡ script_lines b ++ [] → (a ≡ b) × (c ≡ [])
begins_no_other a b c p q e =
    let head = after_head a b _ _ p.blocks q.blocks (sym (lines_of_script a c) ∙ e ∙ lines_of_script b []) in
    let devices = same_reading Target device_line IsDevice EndsDevices device_line_injective device_goes a.targets b.targets (keys_and_rest a c) (keys_and_rest b []) p.devices.each q.devices.each
    (ends_devices a.keys a.keys a.faults a.threads c) (ends_devices b.keys b.keys b.faults b.threads []) head.2 in
    let keys = same_reading NamedKey key_line IsNamedKey EndsKeys key_line_injective key_goes a.keys b.keys (faults_and_rest a.keys a.faults a.threads c) (faults_and_rest b.keys b.faults b.threads []) p.keys.each q.keys.each
    (ends_keys a.keys a.faults a.threads c) (ends_keys b.keys b.faults b.threads []) devices.1 in
    let faults = same_reading (ℕ × ℕ) fault_line IsFault EndsFaults fault_line_injective fault_goes a.faults b.faults (sections_and_end a.keys a.threads c) (sections_and_end b.keys b.threads []) p.faults.each q.faults.each
    (ends_faults a.keys a.threads c) (ends_faults b.keys b.threads []) keys.1 in
    let others : AllByRecursion (IsSection (length a.targets) (bare_keys a.keys)) b.threads =
    subst (λ (ks : List NamedKey). AllByRecursion (IsSection (length a.targets) (bare_keys ks)) b.threads) (sym keys.0)
    (subst (λ (ds : List Target). AllByRecursion (IsSection (length ds) (bare_keys b.keys)) b.threads) (sym devices.0) q.threads.each) in
    let threads = begins_no_other_sections (length a.targets) a.keys p.keys p.devices.stack.few a.threads b.threads c p.threads.each others (faults.1 ∙ ap (λ (ks : List NamedKey). sections_and_end ks b.threads []) (sym keys.0)) in
    (λ i. record { blocks = head.0 i; fallback = head.1 i; targets = devices.0 i; keys = keys.0 i; faults = faults.0 i; threads = threads.0 i }, threads.1)

pub no_text_begins_another : (a b : Script) (more : List ℕ) → IsScript a → IsScript b → script_text a ++ more ≡ script_text b → (a ≡ b) × (more ≡ [])
no_text_begins_another a b more p q e =
    let r = lines_text-begins (script_lines a) (script_lines b) more (script_lines_are_lines a p) (script_lines_are_lines b q) e in
    let same = begins_no_other a b r.0 p q (sym r.1 ∙ sym (append-nil (script_lines b))) in
    (same.0, r.2 ∙ ap lines_text same.1)
