-- One more line that is read: what has been read with it, and that the rules hold of that too.
use Rattle.std.proofs.Common.{◌≡◌, ◌≢◌, ℕ, suc, ◌<◌, ◌≤◌, ◌+◌, Bool, true, false, List, [], ◌∷◌, ◌++◌, length, map, flat_map, get_or, Option, Some, None, append-nil, append_assoc, length-append, refl, sym, ap, subst, ◌∙◌, arith}
use Rattle.std.specs.Prelude.{sum_by, AllPairs, IsSome}
use Rattle.std.specs.List.{AllByRecursion}
use Rattle.std.proofs.lemmas.Grind.{flat_map-append}
use Rattle.std.proofs.lemmas.List.Sums.{sum_by-append}
use Rattle.std.proofs.lemmas.List.Kept.{AllPairs-cons}
use Rattle.std.proofs.lemmas.List.Elements.{All-from_recursion}
use Rattle.bc_text.specs.Lines.{TextLine}
use Rattle.bc_stack.specs.declared.target.Target.{Target}
use Rattle.bc_stack.specs.Targets.{CoverAll}
use Rattle.bc_script.specs.declared.named_key.NamedKey.{NamedKey}
use Rattle.bc_script.specs.declared.op.Op.{Op}
use Rattle.bc_script.specs.declared.sort.Sort.{Sort}
use Rattle.bc_script.specs.declared.sort.Sort.TheVariants as sorts
use Rattle.bc_script.specs.Script.{IsDiskSize, IsDevice, AreKeys, IsNamedKey, IsFault, IsOp, IsSection, bare_keys, open_after, unit_count, unit_count_of_section, max_devices, max_keys, max_faults, max_threads, max_ops, max_units}
use Rattle.bc_script.specs.ScriptText.{version_line, disk_line, fallback_line, device_line, key_line, fault_line, thread_line, op_line, section_lines, end_line}
use Rattle.bc_script.specs.Order.{may_follow}
use Rattle.bc_script.specs.Progress.{Progress, IsProgress, IsAt, blocks_of, first_read, head_read, with_section, is_in_section, end_read, lines_read, sections_read}
use Rattle.bc_script.specs.Statements.{follows_faults}
use Rattle.bc_script.proofs.Onto.{map-append, AllByRecursion-append}
use Rattle.bc_script.proofs.Faults.{no_faults, AreFaults-push}
use Rattle.bc_script.proofs.Devices.{no_devices, follow_push}

-- ---- what has been read

abbrev pub nothing_read : Progress
nothing_read = record { last = None; blocks = 0; fallback = true; targets = []; keys = []; faults = []; threads = []; section = [] }

abbrev pub with_version : Progress → Progress
with_version p = record p { last = Some sorts.Version }

abbrev pub with_disk : Progress → ℕ → Progress
with_disk p blocks = record p { last = Some sorts.Disk; blocks = blocks }

abbrev pub with_fallback : Progress → Bool → Progress
with_fallback p on = record p { last = Some sorts.Fallback; fallback = on }

abbrev pub with_device : Progress → Target → Progress
with_device p device = record p { last = Some sorts.Device; targets = p.targets ++ device ∷ [] }

abbrev pub with_key : Progress → NamedKey → Progress
with_key p named = record p { last = Some sorts.Key; keys = p.keys ++ named ∷ [] }

abbrev pub with_fault : Progress → ℕ × ℕ → Progress
with_fault p fault = record p { last = Some sorts.Fault; faults = p.faults ++ fault ∷ [] }

abbrev pub with_op : Progress → Op → Progress
with_op p op = record p { last = Some sorts.Operation; section = p.section ++ op ∷ [] }

-- the section that is being read has ended, with a line of this sort
abbrev pub with_section_ended : Progress → Sort → Progress
with_section_ended p sort = record { last = Some sort; blocks = p.blocks; fallback = p.fallback; targets = p.targets; keys = p.keys; faults = p.faults; threads = sections_read p; section = [] }

-- ---- the first three lines

-- where there are no keys, faults and sections, the lines are those of the head
head_only : (p : Progress) → p.keys ≡ [] → p.faults ≡ [] → p.threads ≡ [] → is_in_section p.last ≡ false → end_read p.last ≡ [] → lines_read p ≡ head_read p
head_only p keys faults threads outside unended =
    let sections = flat_map (section_lines p.keys) (sections_read p) ++ end_read p.last in
    ap (λ (ks : List NamedKey). head_read p ++ (map key_line ks ++ (map fault_line p.faults ++ sections))) keys
    ∙ ap (λ (fs : List (ℕ × ℕ)). head_read p ++ (map fault_line fs ++ sections)) faults
    ∙ ap (λ (ts : List (List Op)). head_read p ++ (flat_map (section_lines p.keys) (ts ++ with_section (is_in_section p.last) p.section) ++ end_read p.last)) threads
    ∙ ap (λ (b : Bool). head_read p ++ (flat_map (section_lines p.keys) (with_section b p.section) ++ end_read p.last)) outside
    ∙ ap (λ (e : List TextLine). head_read p ++ e) unended
    ∙ append-nil (head_read p)

-- and where there are no devices either, they are the first three, or as many as there are
first_only : (p : Progress) (last : Option Sort) → p.keys ≡ [] → p.faults ≡ [] → p.threads ≡ [] → p.targets ≡ [] → p.last ≡ last → is_in_section last ≡ false → end_read last ≡ [] → lines_read p ≡ first_read last p.blocks p.fallback
first_only p last keys faults threads targets nearest outside unended =
    head_only p keys faults threads (ap is_in_section nearest ∙ outside) (ap end_read nearest ∙ unended)
    ∙ ap (λ (ts : List Target). first_read p.last p.blocks p.fallback ++ map device_line ts) targets
    ∙ append-nil (first_read p.last p.blocks p.fallback)
    ∙ ap (λ (l : Option Sort). first_read l p.blocks p.fallback) nearest

-- after which lines each of the first three stands
behind_none : (last : Option Sort) → may_follow last sorts.Version ≡ true → last ≡ None
behind_none None h = refl
behind_none (Some sorts.Version) h = absurd cc
behind_none (Some sorts.Disk) h = absurd cc
behind_none (Some sorts.Fallback) h = absurd cc
behind_none (Some sorts.Device) h = absurd cc
behind_none (Some sorts.Key) h = absurd cc
behind_none (Some sorts.Fault) h = absurd cc
behind_none (Some sorts.Thread) h = absurd cc
behind_none (Some sorts.Operation) h = absurd cc
behind_none (Some sorts.End) h = absurd cc

behind_version : (last : Option Sort) → may_follow last sorts.Disk ≡ true → last ≡ Some sorts.Version
behind_version None h = absurd cc
behind_version (Some sorts.Version) h = refl
behind_version (Some sorts.Disk) h = absurd cc
behind_version (Some sorts.Fallback) h = absurd cc
behind_version (Some sorts.Device) h = absurd cc
behind_version (Some sorts.Key) h = absurd cc
behind_version (Some sorts.Fault) h = absurd cc
behind_version (Some sorts.Thread) h = absurd cc
behind_version (Some sorts.Operation) h = absurd cc
behind_version (Some sorts.End) h = absurd cc

behind_disk : (last : Option Sort) → may_follow last sorts.Fallback ≡ true → last ≡ Some sorts.Disk
behind_disk None h = absurd cc
behind_disk (Some sorts.Version) h = absurd cc
behind_disk (Some sorts.Disk) h = refl
behind_disk (Some sorts.Fallback) h = absurd cc
behind_disk (Some sorts.Device) h = absurd cc
behind_disk (Some sorts.Key) h = absurd cc
behind_disk (Some sorts.Fault) h = absurd cc
behind_disk (Some sorts.Thread) h = absurd cc
behind_disk (Some sorts.Operation) h = absurd cc
behind_disk (Some sorts.End) h = absurd cc

-- the rules of a progress that has no keys, no faults and no sections
no_keys : AreKeys []
no_keys = record { count = omega arith; each = tt; names = λ i j d lt within. omega arith }

-- no devices, keys, faults and sections yet
bare : (p : Progress) → p.keys ≡ [] → p.faults ≡ [] → p.threads ≡ [] → p.section ≡ [] → p.targets ≡ [] → (last : Option Sort) (blocks : ℕ) (fallback : Bool) → is_in_section last ≡ false
    → IsAt last (record { last = last; blocks = blocks; fallback = fallback; targets = []; keys = []; faults = []; threads = []; section = [] })
    → IsProgress (record p { last = last; blocks = blocks; fallback = fallback })
bare p keys faults threads section targets last blocks fallback outside at = subst IsProgress (sym same) (record {
  at = at;
  devices = no_devices;
  keys = no_keys;
  faults = no_faults;
  threads = tt;
  section = tt;
  plugs = refl;
  few_threads = subst (λ (b : Bool). length (with_section b []) ≤ max_threads) (sym outside) (omega arith);
  few_ops = subst (λ (b : Bool). sum_by length (with_section b []) ≤ max_ops) (sym outside) (omega arith);
  few_units = subst (λ (b : Bool). sum_by unit_count_of_section (with_section b []) ≤ max_units) (sym outside) (omega arith);
})
  where
    same : record p { last = last; blocks = blocks; fallback = fallback } ≡ record { last = last; blocks = blocks; fallback = fallback; targets = []; keys = []; faults = []; threads = []; section = [] }
    same = λ i. record { last = last; blocks = blocks; fallback = fallback; targets = targets i; keys = keys i; faults = faults i; threads = threads i; section = section i }

pub IsProgress-nothing_read : IsProgress nothing_read
IsProgress-nothing_read = bare nothing_read refl refl refl refl refl None 0 true refl (refl, refl, refl, refl, refl)

pub IsProgress-version : (p : Progress) → IsProgress p → may_follow p.last sorts.Version ≡ true → IsProgress (with_version p)
IsProgress-version p is follows =
    let at = subst (λ (last : Option Sort). IsAt last p) (behind_none p.last follows) is.at in
    bare p at.0 at.1 at.2 at.3 at.4 (Some sorts.Version) p.blocks p.fallback refl (refl, refl, refl, refl, refl)

pub lines_read-version : (p : Progress) → IsProgress p → may_follow p.last sorts.Version ≡ true → lines_read (with_version p) ≡ lines_read p ++ version_line ∷ []
lines_read-version p is follows =
    let last = behind_none p.last follows in
    let at = subst (λ (last : Option Sort). IsAt last p) last is.at in
    let before : lines_read p ≡ [] = first_only p None at.0 at.1 at.2 at.4 last refl refl in
    first_only (with_version p) (Some sorts.Version) at.0 at.1 at.2 at.4 refl refl refl ∙ sym (ap (λ (ls : List TextLine). ls ++ version_line ∷ []) before)

pub IsProgress-disk : (p : Progress) (blocks : ℕ) → IsProgress p → may_follow p.last sorts.Disk ≡ true → IsDiskSize blocks → IsProgress (with_disk p blocks)
IsProgress-disk p blocks is follows size =
    let at = subst (λ (last : Option Sort). IsAt last p) (behind_version p.last follows) is.at in
    bare p at.0 at.1 at.2 at.3 at.4 (Some sorts.Disk) blocks p.fallback refl (size, refl, refl, refl, refl, refl)

pub lines_read-disk : (p : Progress) (blocks : ℕ) → IsProgress p → may_follow p.last sorts.Disk ≡ true → lines_read (with_disk p blocks) ≡ lines_read p ++ disk_line blocks ∷ []
lines_read-disk p blocks is follows =
    let last = behind_version p.last follows in
    let at = subst (λ (last : Option Sort). IsAt last p) last is.at in
    let before : lines_read p ≡ version_line ∷ [] = first_only p (Some sorts.Version) at.0 at.1 at.2 at.4 last refl refl in
    first_only (with_disk p blocks) (Some sorts.Disk) at.0 at.1 at.2 at.4 refl refl refl ∙ sym (ap (λ (ls : List TextLine). ls ++ disk_line blocks ∷ []) before)

pub IsProgress-fallback : (p : Progress) (on : Bool) → IsProgress p → may_follow p.last sorts.Fallback ≡ true → IsProgress (with_fallback p on)
IsProgress-fallback p on is follows =
    let at = subst (λ (last : Option Sort). IsAt last p) (behind_disk p.last follows) is.at in
    bare p at.1 at.2 at.3 at.4 at.5 (Some sorts.Fallback) p.blocks on refl (at.0, refl, refl, refl, refl, refl)

pub lines_read-fallback : (p : Progress) (on : Bool) → IsProgress p → may_follow p.last sorts.Fallback ≡ true → lines_read (with_fallback p on) ≡ lines_read p ++ fallback_line on ∷ []
lines_read-fallback p on is follows =
    let last = behind_disk p.last follows in
    let at = subst (λ (last : Option Sort). IsAt last p) last is.at in
    let before : lines_read p ≡ version_line ∷ disk_line p.blocks ∷ [] = first_only p (Some sorts.Disk) at.1 at.2 at.3 at.5 last refl refl in
    first_only (with_fallback p on) (Some sorts.Fallback) at.1 at.2 at.3 at.5 refl refl refl ∙ sym (ap (λ (ls : List TextLine). ls ++ fallback_line on ∷ []) before)

-- ---- after the first three lines

-- After the first three lines, and before the end.
record IsBehindHead (last : Option Sort) : Type 0 where
  head : (blocks : ℕ) (fallback : Bool) → first_read last blocks fallback ≡ version_line ∷ disk_line blocks ∷ fallback_line fallback ∷ []
  unended : end_read last ≡ []
  size : (p : Progress) → IsAt last p → IsDiskSize p.blocks

behind_head : (last : Option Sort) → may_follow last sorts.End ≡ true → IsBehindHead last
behind_head None h = absurd cc
behind_head (Some sorts.Version) h = absurd cc
behind_head (Some sorts.Disk) h = absurd cc
behind_head (Some sorts.Fallback) h = record { head = λ blocks fallback. refl; unended = refl; size = λ p at. at.0 }
behind_head (Some sorts.Device) h = record { head = λ blocks fallback. refl; unended = refl; size = λ p at. at.0 }
behind_head (Some sorts.Key) h = record { head = λ blocks fallback. refl; unended = refl; size = λ p at. at.0 }
behind_head (Some sorts.Fault) h = record { head = λ blocks fallback. refl; unended = refl; size = λ p at. at.0 }
behind_head (Some sorts.Thread) h = record { head = λ blocks fallback. refl; unended = refl; size = λ p at. at.0 }
behind_head (Some sorts.Operation) h = record { head = λ blocks fallback. refl; unended = refl; size = λ p at. at.0 }
behind_head (Some sorts.End) h = absurd cc

-- where the end may stand, and where a section may begin
thread_or_end : (last : Option Sort) → may_follow last sorts.Thread ≡ may_follow last sorts.End
thread_or_end None = refl
thread_or_end (Some sorts.Version) = refl
thread_or_end (Some sorts.Disk) = refl
thread_or_end (Some sorts.Fallback) = refl
thread_or_end (Some sorts.Device) = refl
thread_or_end (Some sorts.Key) = refl
thread_or_end (Some sorts.Fault) = refl
thread_or_end (Some sorts.Thread) = refl
thread_or_end (Some sorts.Operation) = refl
thread_or_end (Some sorts.End) = refl

-- a planned fault stands after the first three lines, keys and other faults, so there are no sections yet
record IsBeforeSections (last : Option Sort) : Type 0 where
  ends : may_follow last sorts.End ≡ true
  outside : is_in_section last ≡ false
  threads : (p : Progress) → IsAt last p → p.threads ≡ []
  section : (p : Progress) → IsAt last p → p.section ≡ []

before_sections : (last : Option Sort) → may_follow last sorts.Fault ≡ true → IsBeforeSections last
before_sections None h = absurd cc
before_sections (Some sorts.Version) h = absurd cc
before_sections (Some sorts.Disk) h = absurd cc
before_sections (Some sorts.Fallback) h = record { ends = refl; outside = refl; threads = λ p at. at.3; section = λ p at. at.4 }
before_sections (Some sorts.Device) h = record { ends = refl; outside = refl; threads = λ p at. at.3; section = λ p at. at.4 }
before_sections (Some sorts.Key) h = record { ends = refl; outside = refl; threads = λ p at. at.3; section = λ p at. at.4 }
before_sections (Some sorts.Fault) h = record { ends = refl; outside = refl; threads = λ p at. at.2; section = λ p at. at.3 }
before_sections (Some sorts.Thread) h = absurd cc
before_sections (Some sorts.Operation) h = absurd cc
before_sections (Some sorts.End) h = absurd cc

-- where a key may stand, a fault may, and there are no faults yet
record IsBeforeFaults (last : Option Sort) : Type 0 where
  fault : may_follow last sorts.Fault ≡ true
  faults : (p : Progress) → IsAt last p → p.faults ≡ []

before_faults : (last : Option Sort) → may_follow last sorts.Key ≡ true → IsBeforeFaults last
before_faults None h = absurd cc
before_faults (Some sorts.Version) h = absurd cc
before_faults (Some sorts.Disk) h = absurd cc
before_faults (Some sorts.Fallback) h = record { fault = refl; faults = λ p at. at.2 }
before_faults (Some sorts.Device) h = record { fault = refl; faults = λ p at. at.2 }
before_faults (Some sorts.Key) h = record { fault = refl; faults = λ p at. at.2 }
before_faults (Some sorts.Fault) h = absurd cc
before_faults (Some sorts.Thread) h = absurd cc
before_faults (Some sorts.Operation) h = absurd cc
before_faults (Some sorts.End) h = absurd cc

-- where a device may stand, a key may, and there are no keys yet
record IsBeforeKeys (last : Option Sort) : Type 0 where
  key : may_follow last sorts.Key ≡ true
  keys : (p : Progress) → IsAt last p → p.keys ≡ []

before_keys : (last : Option Sort) → may_follow last sorts.Device ≡ true → IsBeforeKeys last
before_keys None h = absurd cc
before_keys (Some sorts.Version) h = absurd cc
before_keys (Some sorts.Disk) h = absurd cc
before_keys (Some sorts.Fallback) h = record { key = refl; keys = λ p at. at.1 }
before_keys (Some sorts.Device) h = record { key = refl; keys = λ p at. at.1 }
before_keys (Some sorts.Key) h = absurd cc
before_keys (Some sorts.Fault) h = absurd cc
before_keys (Some sorts.Thread) h = absurd cc
before_keys (Some sorts.Operation) h = absurd cc
before_keys (Some sorts.End) h = absurd cc

-- an operation stands in a section
record IsInside (last : Option Sort) : Type 0 where
  whole : (p : Progress) → IsAt last p → CoverAll p.blocks p.targets
  ends : may_follow last sorts.End ≡ true
  inside : is_in_section last ≡ true

inside_section : (last : Option Sort) → may_follow last sorts.Operation ≡ true → IsInside last
inside_section None h = absurd cc
inside_section (Some sorts.Version) h = absurd cc
inside_section (Some sorts.Disk) h = absurd cc
inside_section (Some sorts.Fallback) h = absurd cc
inside_section (Some sorts.Device) h = absurd cc
inside_section (Some sorts.Key) h = absurd cc
inside_section (Some sorts.Fault) h = absurd cc
inside_section (Some sorts.Thread) h = record { whole = λ p at. at.2; ends = refl; inside = refl }
inside_section (Some sorts.Operation) h = record { whole = λ p at. at.2; ends = refl; inside = refl }
inside_section (Some sorts.End) h = absurd cc

pub is_inside : (last : Option Sort) → may_follow last sorts.Operation ≡ true → is_in_section last ≡ true
is_inside last follows = (inside_section last follows).inside

-- in a section, the devices cover the disk
pub whole_inside : (p : Progress) → IsProgress p → may_follow p.last sorts.Operation ≡ true → CoverAll p.blocks p.targets
whole_inside p is follows = (inside_section p.last follows).whole p is.at

abbrev full_head : Progress → List TextLine
full_head p = version_line ∷ disk_line p.blocks ∷ fallback_line p.fallback ∷ map device_line p.targets

head_is : (p : Progress) → IsBehindHead p.last → head_read p ≡ full_head p
head_is p behind = ap (λ (first : List TextLine). first ++ map device_line p.targets) (behind.head p.blocks p.fallback)

-- the lines after the head
body : (p : Progress) → IsBehindHead p.last → lines_read p ≡ full_head p ++ (map key_line p.keys ++ (map fault_line p.faults ++ flat_map (section_lines p.keys) (sections_read p)))
body p behind =
    let sections = flat_map (section_lines p.keys) (sections_read p) in
    ap (λ (head : List TextLine). head ++ (map key_line p.keys ++ (map fault_line p.faults ++ (sections ++ end_read p.last)))) (head_is p behind)
    ∙ ap (λ (end : List TextLine). full_head p ++ (map key_line p.keys ++ (map fault_line p.faults ++ (sections ++ end)))) behind.unended
    ∙ ap (λ (ls : List TextLine). full_head p ++ (map key_line p.keys ++ (map fault_line p.faults ++ ls))) (append-nil sections)

-- one more line after three lists of lines
one_more : (a b c : List TextLine) (line : TextLine) → (a ++ (b ++ c)) ++ line ∷ [] ≡ a ++ (b ++ (c ++ line ∷ []))
one_more a b c line = append_assoc a (b ++ c) (line ∷ []) ∙ ap (λ (ls : List TextLine). a ++ ls) (append_assoc b c (line ∷ []))

-- and after four
one_more_behind : (a b c d : List TextLine) (line : TextLine) → (a ++ (b ++ (c ++ d))) ++ line ∷ [] ≡ a ++ (b ++ (c ++ (d ++ line ∷ [])))
one_more_behind a b c d line = one_more a b (c ++ d) line ∙ ap (λ (ls : List TextLine). a ++ (b ++ ls)) (append_assoc c d (line ∷ []))

-- ---- devices

-- where a device may stand, there are no keys, and a key may stand
pub no_keys_yet : (p : Progress) → IsProgress p → may_follow p.last sorts.Device ≡ true → (p.keys ≡ []) × (may_follow p.last sorts.Key ≡ true)
no_keys_yet p is follows = let before = before_keys p.last follows in (before.keys p is.at, before.key)

pub lines_read-device : (p : Progress) (device : Target) → IsProgress p → may_follow p.last sorts.Device ≡ true → lines_read (with_device p device) ≡ lines_read p ++ device_line device ∷ []
lines_read-device p device is follows =
    let no_key = no_keys_yet p is follows in
    let between = before_faults p.last no_key.1 in
    let before = before_sections p.last between.fault in
    let faults = between.faults p is.at in
    let threads = before.threads p is.at in
    let behind = behind_head p.last before.ends in
    let old : lines_read p ≡ full_head p = head_only p no_key.0 faults threads before.outside behind.unended ∙ head_is p behind in
    let new : lines_read (with_device p device) ≡ full_head (with_device p device) = head_only (with_device p device) no_key.0 faults threads refl refl in
    new
    ∙ ap (λ (ls : List TextLine). version_line ∷ disk_line p.blocks ∷ fallback_line p.fallback ∷ ls) (map-append device_line p.targets (device ∷ []))
    ∙ sym (ap (λ (ls : List TextLine). ls ++ device_line device ∷ []) old)

pub IsProgress-device : (p : Progress) (device : Target) → IsProgress p → may_follow p.last sorts.Device ≡ true → IsDevice device → device.first ≡ blocks_of p.targets → length p.targets < max_devices → IsProgress (with_device p device)
IsProgress-device p device is follows valid first room =
    let no_key = no_keys_yet p is follows in
    let between = before_faults p.last no_key.1 in
    let before = before_sections p.last between.fault in
    let threads = before.threads p is.at in
    let section = before.section p is.at in
    let count = length (p.targets ++ device ∷ []) in
    let none : p.threads ++ [] ≡ [] = append-nil p.threads ∙ threads in
    record {
      at = ((behind_head p.last before.ends).size p is.at, no_key.0, between.faults p is.at, threads, section, omega (arith, length-append p.targets (device ∷ [])));
      devices = follow_push p.targets device is.devices valid first room;
      keys = is.keys;
      faults = is.faults;
      threads = subst (λ (t : List (List Op)). AllByRecursion (IsSection count (bare_keys p.keys)) t) (sym threads) tt;
      section = subst (λ (t : List Op). AllByRecursion (IsOp count (bare_keys p.keys)) t) (sym section) tt;
      plugs = is.plugs;
      few_threads = subst (λ (t : List (List Op)). length t ≤ max_threads) (sym none) (omega arith);
      few_ops = subst (λ (t : List (List Op)). sum_by length t ≤ max_ops) (sym none) (omega arith);
      few_units = subst (λ (t : List (List Op)). sum_by unit_count_of_section t ≤ max_units) (sym none) (omega arith);
    }

-- ---- keys

no_sections_yet : (p : Progress) → IsProgress p → IsBeforeSections p.last → sections_read p ≡ []
no_sections_yet p is before =
    ap (λ (t : List (List Op)). t ++ with_section (is_in_section p.last) p.section) (before.threads p is.at)
    ∙ ap (λ (b : Bool). with_section b p.section) before.outside

-- where a key may stand, there are no faults, and a fault may stand
pub no_faults_yet : (p : Progress) → IsProgress p → may_follow p.last sorts.Key ≡ true → (p.faults ≡ []) × (may_follow p.last sorts.Fault ≡ true)
no_faults_yet p is follows = let before = before_faults p.last follows in (before.faults p is.at, before.fault)

-- where a fault may stand, there are no sections, and the end may stand
pub no_sections : (p : Progress) → IsProgress p → may_follow p.last sorts.Fault ≡ true → (sections_read p ≡ []) × (p.section ≡ []) × (may_follow p.last sorts.End ≡ true)
no_sections p is follows =
    let before = before_sections p.last follows in
    (no_sections_yet p is before, before.section p is.at, before.ends)

pub lines_read-key : (p : Progress) (named : NamedKey) → IsProgress p → may_follow p.last sorts.Key ≡ true → lines_read (with_key p named) ≡ lines_read p ++ key_line named ∷ []
lines_read-key p named is follows =
    let no_fault = no_faults_yet p is follows in
    let before = before_sections p.last no_fault.1 in
    let sections = no_sections_yet p is before in
    let threads : p.threads ++ [] ≡ [] = append-nil p.threads ∙ before.threads p is.at in
    let keys = p.keys ++ named ∷ [] in
    let old : lines_read p ≡ full_head p ++ (map key_line p.keys ++ []) =
    body p (behind_head p.last before.ends)
    ∙ ap (λ (faults : List (ℕ × ℕ)). full_head p ++ (map key_line p.keys ++ (map fault_line faults ++ flat_map (section_lines p.keys) (sections_read p)))) no_fault.0
    ∙ ap (λ (t : List (List Op)). full_head p ++ (map key_line p.keys ++ flat_map (section_lines p.keys) t)) sections in
    let new : lines_read (with_key p named) ≡ full_head p ++ (map key_line keys ++ []) =
    ap (λ (faults : List (ℕ × ℕ)). full_head p ++ (map key_line keys ++ (map fault_line faults ++ (flat_map (section_lines keys) (p.threads ++ []) ++ [])))) no_fault.0
    ∙ ap (λ (t : List (List Op)). full_head p ++ (map key_line keys ++ (flat_map (section_lines keys) t ++ []))) threads in
    new
    ∙ ap (λ (ls : List TextLine). full_head p ++ ls) (append-nil (map key_line keys) ∙ map-append key_line p.keys (named ∷ []))
    ∙ sym (ap (λ (ls : List TextLine). ls ++ key_line named ∷ []) old ∙ one_more (full_head p) (map key_line p.keys) [] (key_line named))

-- one more key, which has a name of its own
names_push : (keys : List NamedKey) (named : NamedKey) → AllPairs (λ (first second : NamedKey). first.name ≢ second.name) keys → AllByRecursion (λ (key : NamedKey). key.name ≢ named.name) keys
    → AllPairs (λ (first second : NamedKey). first.name ≢ second.name) (keys ++ named ∷ [])
names_push [] named pairs fresh = λ i j d lt within. omega arith
names_push (k ∷ ks) named pairs fresh =
    AllPairs-cons (λ (first second : NamedKey). first.name ≢ second.name) k (ks ++ named ∷ [])
    (All-from_recursion (λ (second : NamedKey). k.name ≢ second.name) (ks ++ named ∷ [])
    (AllByRecursion-append (λ (second : NamedKey). k.name ≢ second.name) ks (named ∷ []) (later k ks pairs) (fresh.0, tt)))
    (names_push ks named (λ i j d lt within. pairs (suc i) (suc j) d (omega arith) (omega arith)) fresh.1)
  where
    at : (k : NamedKey) (ks : List NamedKey) → ((j : ℕ) (d : NamedKey) → j < length ks → k.name ≢ (get_or ks j d).name) → AllByRecursion (λ (second : NamedKey). k.name ≢ second.name) ks
    at k [] h = tt
    at k (x ∷ xs) h = (h 0 x (omega arith), at k xs (λ j d within. h (suc j) d (omega arith)))

    later : (k : NamedKey) (ks : List NamedKey) → AllPairs (λ (first second : NamedKey). first.name ≢ second.name) (k ∷ ks) → AllByRecursion (λ (second : NamedKey). k.name ≢ second.name) ks
    later k ks pairs = at k ks (λ j d within. pairs 0 (suc j) d (omega arith) (omega arith))

pub AreKeys-push : (keys : List NamedKey) (named : NamedKey) → AreKeys keys → IsNamedKey named → AllByRecursion (λ (key : NamedKey). key.name ≢ named.name) keys → length keys < max_keys → AreKeys (keys ++ named ∷ [])
AreKeys-push keys named are valid fresh room = record {
  count = omega (arith, length-append keys (named ∷ []));
  each = AllByRecursion-append IsNamedKey keys (named ∷ []) are.each (valid, tt);
  names = names_push keys named are.names fresh;
}

pub IsProgress-key : (p : Progress) (named : NamedKey) → IsProgress p → may_follow p.last sorts.Key ≡ true → CoverAll p.blocks p.targets → IsNamedKey named → AllByRecursion (λ (key : NamedKey). key.name ≢ named.name) p.keys → length p.keys < max_keys → IsProgress (with_key p named)
IsProgress-key p named is follows whole valid fresh room =
    let no_fault = no_faults_yet p is follows in
    let before = before_sections p.last no_fault.1 in
    let threads = before.threads p is.at in
    let section = before.section p is.at in
    let keys = p.keys ++ named ∷ [] in
    let none : p.threads ++ [] ≡ [] = append-nil p.threads ∙ threads in
    record {
      at = ((behind_head p.last before.ends).size p is.at, omega (arith, length-append p.keys (named ∷ [])), no_fault.0, threads, section, whole);
      devices = is.devices;
      keys = AreKeys-push p.keys named is.keys valid fresh room;
      faults = is.faults;
      threads = subst (λ (t : List (List Op)). AllByRecursion (IsSection (length p.targets) (bare_keys keys)) t) (sym threads) tt;
      section = subst (λ (t : List Op). AllByRecursion (IsOp (length p.targets) (bare_keys keys)) t) (sym section) tt;
      plugs = is.plugs;
      few_threads = subst (λ (t : List (List Op)). length t ≤ max_threads) (sym none) (omega arith);
      few_ops = subst (λ (t : List (List Op)). sum_by length t ≤ max_ops) (sym none) (omega arith);
      few_units = subst (λ (t : List (List Op)). sum_by unit_count_of_section t ≤ max_units) (sym none) (omega arith);
    }

-- ---- planned faults

pub lines_read-fault : (p : Progress) (fault : ℕ × ℕ) → IsProgress p → may_follow p.last sorts.Fault ≡ true → lines_read (with_fault p fault) ≡ lines_read p ++ fault_line fault ∷ []
lines_read-fault p fault is follows =
    let before = before_sections p.last follows in
    let keys = map key_line p.keys in
    let faults = p.faults ++ fault ∷ [] in
    let threads : p.threads ++ [] ≡ [] = append-nil p.threads ∙ before.threads p is.at in
    let old : lines_read p ≡ full_head p ++ (keys ++ (map fault_line p.faults ++ [])) =
    body p (behind_head p.last before.ends)
    ∙ ap (λ (t : List (List Op)). full_head p ++ (keys ++ (map fault_line p.faults ++ flat_map (section_lines p.keys) t))) (no_sections_yet p is before) in
    let new : lines_read (with_fault p fault) ≡ full_head p ++ (keys ++ (map fault_line faults ++ [])) =
    ap (λ (t : List (List Op)). full_head p ++ (keys ++ (map fault_line faults ++ (flat_map (section_lines p.keys) t ++ [])))) threads in
    new
    ∙ ap (λ (ls : List TextLine). full_head p ++ (keys ++ ls)) (append-nil (map fault_line faults) ∙ map-append fault_line p.faults (fault ∷ []))
    ∙ sym (ap (λ (ls : List TextLine). ls ++ fault_line fault ∷ []) old ∙ one_more_behind (full_head p) keys (map fault_line p.faults) [] (fault_line fault))

pub IsProgress-fault : (p : Progress) (fault : ℕ × ℕ) → IsProgress p → may_follow p.last sorts.Fault ≡ true → CoverAll p.blocks p.targets → IsFault fault → follows_faults p.faults fault ≡ true → length p.faults < max_faults → IsProgress (with_fault p fault)
IsProgress-fault p fault is follows whole valid after room =
    let before = before_sections p.last follows in
    let threads = before.threads p is.at in
    let section = before.section p is.at in
    let none : p.threads ++ [] ≡ [] = append-nil p.threads ∙ threads in
    record {
      at = ((behind_head p.last before.ends).size p is.at, omega (arith, length-append p.faults (fault ∷ [])), threads, section, whole);
      devices = is.devices;
      keys = is.keys;
      faults = AreFaults-push p.faults fault is.faults valid after room;
      threads = is.threads;
      section = is.section;
      plugs = is.plugs;
      few_threads = subst (λ (t : List (List Op)). length t ≤ max_threads) (sym none) (omega arith);
      few_ops = subst (λ (t : List (List Op)). sum_by length t ≤ max_ops) (sym none) (omega arith);
      few_units = subst (λ (t : List (List Op)). sum_by unit_count_of_section t ≤ max_units) (sym none) (omega arith);
    }

-- ---- sections

pub lines_read-thread : (p : Progress) → IsProgress p → may_follow p.last sorts.Thread ≡ true → lines_read (with_section_ended p sorts.Thread) ≡ lines_read p ++ thread_line ∷ []
lines_read-thread p is follows =
    let lines = section_lines p.keys in
    let sections = flat_map lines (sections_read p) in
    let new : flat_map lines (sections_read p ++ [] ∷ []) ++ [] ≡ sections ++ thread_line ∷ [] = append-nil (flat_map lines (sections_read p ++ [] ∷ [])) ∙ flat_map-append lines (sections_read p) ([] ∷ []) in
    ap (λ (ls : List TextLine). full_head p ++ (map key_line p.keys ++ (map fault_line p.faults ++ ls))) new
    ∙ sym (ap (λ (ls : List TextLine). ls ++ thread_line ∷ []) (body p (behind_head p.last (sym (thread_or_end p.last) ∙ follows))) ∙ one_more_behind (full_head p) (map key_line p.keys) (map fault_line p.faults) sections thread_line)

pub lines_read-end : (p : Progress) → IsProgress p → may_follow p.last sorts.End ≡ true → lines_read (with_section_ended p sorts.End) ≡ lines_read p ++ end_line ∷ []
lines_read-end p is follows =
    let lines = section_lines p.keys in
    let sections = flat_map lines (sections_read p) in
    ap (λ (t : List (List Op)). full_head p ++ (map key_line p.keys ++ (map fault_line p.faults ++ (flat_map lines t ++ end_line ∷ [])))) (append-nil (sections_read p))
    ∙ sym (ap (λ (ls : List TextLine). ls ++ end_line ∷ []) (body p (behind_head p.last follows)) ∙ one_more_behind (full_head p) (map key_line p.keys) (map fault_line p.faults) sections end_line)

pub lines_read-op : (p : Progress) (op : Op) → IsProgress p → may_follow p.last sorts.Operation ≡ true → lines_read (with_op p op) ≡ lines_read p ++ op_line p.keys op ∷ []
lines_read-op p op is follows =
    let inside = inside_section p.last follows in
    let lines = section_lines p.keys in
    let threads = flat_map lines p.threads in
    let one : (section : List Op) → flat_map lines (p.threads ++ section ∷ []) ≡ threads ++ lines section = λ section. flat_map-append lines p.threads (section ∷ []) ∙ ap (λ (ls : List TextLine). threads ++ ls) (append-nil (lines section)) in
    let old : flat_map lines (sections_read p) ≡ threads ++ lines p.section = ap (λ (b : Bool). flat_map lines (p.threads ++ with_section b p.section)) inside.inside ∙ one p.section in
    let new : flat_map lines (p.threads ++ (p.section ++ op ∷ []) ∷ []) ++ [] ≡ flat_map lines (sections_read p) ++ op_line p.keys op ∷ [] =
    append-nil (flat_map lines (p.threads ++ (p.section ++ op ∷ []) ∷ []))
    ∙ one (p.section ++ op ∷ [])
    ∙ ap (λ (ls : List TextLine). threads ++ thread_line ∷ ls) (map-append (op_line p.keys) p.section (op ∷ []))
    ∙ sym (append_assoc threads (lines p.section) (op_line p.keys op ∷ []))
    ∙ ap (λ (ls : List TextLine). ls ++ op_line p.keys op ∷ []) (sym old) in
    ap (λ (ls : List TextLine). full_head p ++ (map key_line p.keys ++ (map fault_line p.faults ++ ls))) new
    ∙ sym (ap (λ (ls : List TextLine). ls ++ op_line p.keys op ∷ []) (body p (behind_head p.last inside.ends))
    ∙ one_more_behind (full_head p) (map key_line p.keys) (map fault_line p.faults) (flat_map lines (sections_read p)) (op_line p.keys op))

-- each section that has been read is valid, where the last of them is closed
sections_valid : (p : Progress) → IsProgress p → open_after false p.section ≡ Some false → AllByRecursion (IsSection (length p.targets) (bare_keys p.keys)) (sections_read p)
sections_valid p is closed = AllByRecursion-append (IsSection (length p.targets) (bare_keys p.keys)) p.threads (with_section (is_in_section p.last) p.section) is.threads (last (is_in_section p.last))
  where
    last : (inside : Bool) → AllByRecursion (IsSection (length p.targets) (bare_keys p.keys)) (with_section inside p.section)
    last true = (record { each = is.section; plugs = closed }, tt)
    last false = tt

pub IsProgress-thread : (p : Progress) → IsProgress p → may_follow p.last sorts.Thread ≡ true → CoverAll p.blocks p.targets → open_after false p.section ≡ Some false → length (sections_read p) < max_threads → IsProgress (with_section_ended p sorts.Thread)
IsProgress-thread p is follows whole closed room =
    let ops = sum_by-append length (sections_read p) ([] ∷ []) in
    let units = sum_by-append unit_count_of_section (sections_read p) ([] ∷ []) in
    let few_ops = is.few_ops in
    let few_units = is.few_units in
    record {
      at = ((behind_head p.last (sym (thread_or_end p.last) ∙ follows)).size p is.at, refl, whole);
      devices = is.devices;
      keys = is.keys;
      faults = is.faults;
      threads = sections_valid p is closed;
      section = tt;
      plugs = refl;
      few_threads = omega (arith, length-append (sections_read p) ([] ∷ []));
      few_ops = omega arith;
      few_units = omega arith;
    }

pub IsProgress-end : (p : Progress) → IsProgress p → may_follow p.last sorts.End ≡ true → CoverAll p.blocks p.targets → open_after false p.section ≡ Some false → IsProgress (with_section_ended p sorts.End)
IsProgress-end p is follows whole closed =
    let same = append-nil (sections_read p) in
    record {
      at = ((behind_head p.last follows).size p is.at, refl, whole);
      devices = is.devices;
      keys = is.keys;
      faults = is.faults;
      threads = sections_valid p is closed;
      section = tt;
      plugs = refl;
      few_threads = subst (λ (t : List (List Op)). length t ≤ max_threads) (sym same) is.few_threads;
      few_ops = subst (λ (t : List (List Op)). sum_by length t ≤ max_ops) (sym same) is.few_ops;
      few_units = subst (λ (t : List (List Op)). sum_by unit_count_of_section t ≤ max_units) (sym same) is.few_units;
    }

-- one operation more adds itself and its data units
pub counts-op : (p : Progress) (op : Op) → may_follow p.last sorts.Operation ≡ true
    → (length (sections_read (with_op p op)) ≡ length (sections_read p)) × (sum_by length (sections_read (with_op p op)) ≡ sum_by length (sections_read p) + 1) × (sum_by unit_count_of_section (sections_read (with_op p op)) ≡ sum_by unit_count_of_section (sections_read p) + unit_count op)
counts-op p op follows =
    let inside = inside_section p.last follows in
    let section = p.section ++ op ∷ [] in
    let old : sections_read p ≡ p.threads ++ p.section ∷ [] = ap (λ (b : Bool). p.threads ++ with_section b p.section) inside.inside in
    let a = length-append p.threads (section ∷ []) in
    let b = length-append p.threads (p.section ∷ []) in
    let c = sum_by-append length p.threads (section ∷ []) in
    let d = sum_by-append length p.threads (p.section ∷ []) in
    let e = sum_by-append unit_count_of_section p.threads (section ∷ []) in
    let f = sum_by-append unit_count_of_section p.threads (p.section ∷ []) in
    let g = length-append p.section (op ∷ []) in
    let h = sum_by-append unit_count p.section (op ∷ []) in (
      omega arith ∙ sym (ap length old),
      omega arith ∙ sym (ap (λ (t : List (List Op)). sum_by length t + 1) old),
      omega arith ∙ sym (ap (λ (t : List (List Op)). sum_by unit_count_of_section t + unit_count op) old),
    )

pub IsProgress-op : (p : Progress) (op : Op) → IsProgress p → may_follow p.last sorts.Operation ≡ true → IsOp (length p.targets) (bare_keys p.keys) op → IsSome (open_after false (p.section ++ op ∷ []))
    → sum_by length (sections_read p) < max_ops → sum_by unit_count_of_section (sections_read p) + unit_count op ≤ max_units → IsProgress (with_op p op)
IsProgress-op p op is follows valid plugs room units =
    let counts = counts-op p op follows in
    let few = is.few_threads in
    record {
      at = ((behind_head p.last (inside_section p.last follows).ends).size p is.at, omega (arith, length-append p.section (op ∷ [])), whole_inside p is follows);
      devices = is.devices;
      keys = is.keys;
      faults = is.faults;
      threads = is.threads;
      section = AllByRecursion-append (IsOp (length p.targets) (bare_keys p.keys)) p.section (op ∷ []) is.section (valid, tt);
      plugs = plugs;
      few_threads = omega (arith, counts.0);
      few_ops = omega (arith, counts.1);
      few_units = omega (arith, counts.2);
    }
