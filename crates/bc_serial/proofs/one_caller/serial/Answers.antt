use Rattle.std.proofs.Common.{◌≡◌, ◌∙◌, ℕ, ◌*◌, ◌<◌, ◌≤◌, ◌^◌, List, length, map, Vec, Global, sym, ap, subst, arith}
use Rattle.std.specs.Prelude.{sum_by}
use Rattle.bc_base.specs.Lists.{AllAt, Each}
use Rattle.bc_base.specs.RamStores.{HaveAllSectors, contents}
use Rattle.bc_medium.specs.declared.entry.Entry.{Entry}
use Rattle.bc_medium.specs.Layout.{shard_of}
use Rattle.bc_medium.specs.KeyedDisk.{image_sectors}
use Rattle.bc_script.specs.Script.{IsScript, max_ops, max_units, unit_count_of_section}
use Rattle.bc_report.specs.Report.{Report, IsEvent, IsPart, IsReport}
use Rattle.bc_report.specs.LawfulRun.{LawfulRun}
use Rattle.bc_report.specs.RunOf.{run_of}
use Rattle.bc_report.specs.SerialRun.{IsSerial}
use Rattle.bc_compose.specs.ClosedOrders.{report_line_of}
use Rattle.bc_serial.specs.Keyslots.{KeyslotsData}
use Rattle.bc_section.specs.Sections.{SectionsDone}
use Rattle.bc_serial.specs.Standing.{CourseData, HasBegun, own_device}
use Rattle.bc_section.proofs.Lists.{each_of_map}
use Rattle.bc_serial.proofs.Beginning.{no_event}
use Rattle.bc_serial.proofs.Turns.{cost_all}
use Rattle.bc_serial.proofs.Ending.{have_all, orders_few, made_of, are_sections, follow, uses, is_report}
use Rattle.bc_serial.proofs.one_caller.serial.Goals as goal
use Rattle.bc_base.proofs.Members.{map-map}

pub carry_sections_out-requires-clause-unused : goal.carry_sections_out-requires-clause-unused
carry_sections_out-requires-clause-unused c = no_event c.args.script.now c.in_ok-direct.direct.journals c.in_ok-direct.ensures.unused

pub carry_sections_out-requires-clause-spare : goal.carry_sections_out-requires-clause-spare
carry_sections_out-requires-clause-spare c =
    let all = cost_all c.threads.result.now in
    let units : sum_by unit_count_of_section c.threads.result.now ≤ max_units = subst (λ l. sum_by unit_count_of_section l ≤ max_units) (sym c.threads.ensures.value) c.threads.ensures.rules.threads.few_units in
    let ops : sum_by length c.threads.result.now ≤ max_ops = subst (λ l. sum_by length l ≤ max_ops) (sym c.threads.ensures.value) c.threads.ensures.rules.threads.few_ops in
    omega (arith, c.in_ok-direct.ensures.left)

pub into_image-requires : goal.into_image-requires
into_image-requires c =
    let script = c.args.script.now in
    let rules : IsScript script = c.blocks-2.ensures.rules in
    let v0 = c.in_ok-direct.direct in
    let keyslots : KeyslotsData = c.course.inside.keyslots in
    let v1 : CourseData = record {
      script = c.course.inside.script.now;
      shards = c.course.inside.shards;
      thread = c.course.inside.thread;
      left = c.course.inside.left;
      journals = keyslots.journals;
      begun = keyslots.begun;
      opened = keyslots.opened;
    } in
    let is : v1 ≡ c.carry_sections_out.new.direct = c.course.view_is ∙ c.direct.view_is in
    let done : SectionsDone (own_device v0) (own_device v1) script.threads c.in_ok-answers.answers =
    subst (λ (v : CourseData). SectionsDone (own_device v0) (own_device v) script.threads c.in_ok-answers.answers) (sym is)
    (subst (λ l. SectionsDone (own_device v0) (own_device c.carry_sections_out.new.direct) l c.in_ok-answers.answers) c.threads.ensures.value c.in_ok-answers.ensures.done) in
    let has : HasBegun v1.begun v1.journals = subst (λ (v : CourseData). HasBegun v.begun v.journals) (sym is) c.in_ok-answers.ensures.begun in
    let orders : List (List Entry) = map (λ o. o.items) c.close-stores.result.1.items in
    subst (λ b. HaveAllSectors b c.close-stores.result.0.items) (sym c.blocks-2.ensures.value) (have_all script rules c.args.image.items c.args.shards c.requires.shards.0 c.requires.shards.1 c.requires.length v0 v1 c.in_ok-direct.ensures c.in_ok-answers.answers done has c.course.inside.ciphers keyslots c.course.invariant c.close-stores.result.0.items orders c.close-stores.ensures.stores c.close-stores.ensures.entries c.close-stores.ensures.orders c.close-stores.ensures.left)

pub lines_of_shards-requires : goal.lines_of_shards-requires
lines_of_shards-requires c =
    let script = c.args.script.now in
    let rules : IsScript script = c.blocks-2.ensures.rules in
    let v0 = c.in_ok-direct.direct in
    let keyslots : KeyslotsData = c.course.inside.keyslots in
    let v1 : CourseData = record {
      script = c.course.inside.script.now;
      shards = c.course.inside.shards;
      thread = c.course.inside.thread;
      left = c.course.inside.left;
      journals = keyslots.journals;
      begun = keyslots.begun;
      opened = keyslots.opened;
    } in
    let is : v1 ≡ c.carry_sections_out.new.direct = c.course.view_is ∙ c.direct.view_is in
    let done : SectionsDone (own_device v0) (own_device v1) script.threads c.in_ok-answers.answers =
    subst (λ (v : CourseData). SectionsDone (own_device v0) (own_device v) script.threads c.in_ok-answers.answers) (sym is)
    (subst (λ l. SectionsDone (own_device v0) (own_device c.carry_sections_out.new.direct) l c.in_ok-answers.answers) c.threads.ensures.value c.in_ok-answers.ensures.done) in
    let has : HasBegun v1.begun v1.journals = subst (λ (v : CourseData). HasBegun v.begun v.journals) (sym is) c.in_ok-answers.ensures.begun in
    let orders : List (List Entry) = map (λ o. o.items) c.close-stores.result.1.items in
    record {
      few = subst (Each (λ (o : Vec Entry Global). length o.items < 2 ^ 32)) (sym c.as_slice.ensures.value)
          (each_of_map (λ (o : Vec Entry Global). o.items) (λ (l : List Entry). length l < 2 ^ 32) c.close-stores.result.1.items (orders_few script rules c.args.image.items c.args.shards c.requires.shards.0 c.requires.shards.1 c.requires.length v0 v1 c.in_ok-direct.ensures c.in_ok-answers.answers done has c.course.inside.ciphers keyslots c.course.invariant c.close-stores.result.0.items orders c.close-stores.ensures.stores c.close-stores.ensures.entries c.close-stores.ensures.orders c.close-stores.ensures.left));
    }

pub new-requires : goal.new-requires
new-requires c =
    let script = c.args.script.now in
    let rules : IsScript script = c.blocks-2.ensures.rules in
    let v0 = c.in_ok-direct.direct in
    let keyslots : KeyslotsData = c.course.inside.keyslots in
    let v1 : CourseData = record {
      script = c.course.inside.script.now;
      shards = c.course.inside.shards;
      thread = c.course.inside.thread;
      left = c.course.inside.left;
      journals = keyslots.journals;
      begun = keyslots.begun;
      opened = keyslots.opened;
    } in
    let is : v1 ≡ c.carry_sections_out.new.direct = c.course.view_is ∙ c.direct.view_is in
    let done : SectionsDone (own_device v0) (own_device v1) script.threads c.in_ok-answers.answers =
    subst (λ (v : CourseData). SectionsDone (own_device v0) (own_device v) script.threads c.in_ok-answers.answers) (sym is)
    (subst (λ l. SectionsDone (own_device v0) (own_device c.carry_sections_out.new.direct) l c.in_ok-answers.answers) c.threads.ensures.value c.in_ok-answers.ensures.done) in
    let has : HasBegun v1.begun v1.journals = subst (λ (v : CourseData). HasBegun v.begun v.journals) (sym is) c.in_ok-answers.ensures.begun in
    let orders : List (List Entry) = map (λ o. o.items) c.close-stores.result.1.items in
    let left = c.in_ok-image.image.items in
    let long : length left ≡ 4096 * script.blocks = c.in_ok-image.ensures.length ∙ ap (λ n. 4096 * n) c.blocks-2.ensures.value in
    let sectors : (s : ℕ) → s < 8 * script.blocks → AllAt c.close-stores.result.0.items (shard_of (length c.close-stores.result.0.items) s) (λ store. image_sectors left s ≡ contents store s) =
    subst (λ b. (s : ℕ) → s < 8 * b → AllAt c.close-stores.result.0.items (shard_of (length c.close-stores.result.0.items) s) (λ store. image_sectors left s ≡ contents store s)) c.blocks-2.ensures.value
    c.in_ok-image.ensures.sectors in
    let lines : c.in_ok-lines.lines ≡ map (map report_line_of) orders =
    c.in_ok-lines.ensures.lines ∙ ap (map (λ (o : Vec Entry Global). map report_line_of o.items)) c.as_slice.ensures.value ∙ sym (map-map (λ (o : Vec Entry Global). o.items) (map report_line_of) c.close-stores.result.1.items) in
    let devices : c.in_ok-devices.devices ≡ v1.journals = c.in_ok-devices.ensures.journals in
    let fit : Each (IsPart IsEvent) v1.journals = subst (Each (IsPart IsEvent)) devices c.in_ok-devices.ensures.ranges in
    subst (λ d. IsReport (record { threads = c.in_ok-answers.answers; shards = c.in_ok-lines.lines; devices = d })) (sym devices) (is_report script rules c.args.image.items c.args.shards c.requires.shards.0 c.requires.shards.1 c.requires.length v0 v1 c.in_ok-direct.ensures c.in_ok-answers.answers done has c.course.inside.ciphers keyslots c.course.invariant c.close-stores.result.0.items orders c.close-stores.ensures.stores c.close-stores.ensures.entries c.close-stores.ensures.orders c.close-stores.ensures.left left long sectors c.in_ok-lines.lines lines c.in_ok-lines.ensures.ranges c.in_ok-devices.ensures.lawful fit)

pub returns-clause-lawful : goal.returns-clause-lawful
returns-clause-lawful c =
    let script = c.args.script.now in
    let rules : IsScript script = c.blocks-2.ensures.rules in
    let v0 = c.in_ok-direct.direct in
    let keyslots : KeyslotsData = c.course.inside.keyslots in
    let v1 : CourseData = record {
      script = c.course.inside.script.now;
      shards = c.course.inside.shards;
      thread = c.course.inside.thread;
      left = c.course.inside.left;
      journals = keyslots.journals;
      begun = keyslots.begun;
      opened = keyslots.opened;
    } in
    let is : v1 ≡ c.carry_sections_out.new.direct = c.course.view_is ∙ c.direct.view_is in
    let done : SectionsDone (own_device v0) (own_device v1) script.threads c.in_ok-answers.answers =
    subst (λ (v : CourseData). SectionsDone (own_device v0) (own_device v) script.threads c.in_ok-answers.answers) (sym is)
    (subst (λ l. SectionsDone (own_device v0) (own_device c.carry_sections_out.new.direct) l c.in_ok-answers.answers) c.threads.ensures.value c.in_ok-answers.ensures.done) in
    let has : HasBegun v1.begun v1.journals = subst (λ (v : CourseData). HasBegun v.begun v.journals) (sym is) c.in_ok-answers.ensures.begun in
    let orders : List (List Entry) = map (λ o. o.items) c.close-stores.result.1.items in
    let left = c.in_ok-image.image.items in
    let long : length left ≡ 4096 * script.blocks = c.in_ok-image.ensures.length ∙ ap (λ n. 4096 * n) c.blocks-2.ensures.value in
    let sectors : (s : ℕ) → s < 8 * script.blocks → AllAt c.close-stores.result.0.items (shard_of (length c.close-stores.result.0.items) s) (λ store. image_sectors left s ≡ contents store s) =
    subst (λ b. (s : ℕ) → s < 8 * b → AllAt c.close-stores.result.0.items (shard_of (length c.close-stores.result.0.items) s) (λ store. image_sectors left s ≡ contents store s)) c.blocks-2.ensures.value
    c.in_ok-image.ensures.sectors in
    let lines : c.in_ok-lines.lines ≡ map (map report_line_of) orders =
    c.in_ok-lines.ensures.lines ∙ ap (map (λ (o : Vec Entry Global). map report_line_of o.items)) c.as_slice.ensures.value ∙ sym (map-map (λ (o : Vec Entry Global). o.items) (map report_line_of) c.close-stores.result.1.items) in
    let devices : c.in_ok-devices.devices ≡ v1.journals = c.in_ok-devices.ensures.journals in
    let fit : Each (IsPart IsEvent) v1.journals = subst (Each (IsPart IsEvent)) devices c.in_ok-devices.ensures.ranges in
    let report : Report = record { threads = c.in_ok-answers.answers; shards = c.in_ok-lines.lines; devices = v1.journals } in
    let report_is : c.new.result ≡ report = c.new.ensures ∙ ap (λ d. record { threads = c.in_ok-answers.answers; shards = c.in_ok-lines.lines; devices = d }) devices in
    let sections = are_sections script rules c.args.image.items c.args.shards c.requires.shards.0 c.requires.shards.1 c.requires.length v0 v1 c.in_ok-direct.ensures c.in_ok-answers.answers done has c.course.inside.ciphers keyslots c.course.invariant c.close-stores.result.0.items orders c.close-stores.ensures.stores c.close-stores.ensures.entries c.close-stores.ensures.orders c.close-stores.ensures.left left long sectors c.in_ok-lines.lines lines c.in_ok-lines.ensures.ranges c.in_ok-devices.ensures.lawful fit in
    let serial : IsSerial script (run_of script c.args.image.items report) report =
    c.sections_in_turn_make_a_serial_run.ensures script c.args.image.items c.args.shards report left (made_of script rules c.args.image.items c.args.shards c.requires.shards.0 c.requires.shards.1 c.requires.length v0 v1 c.in_ok-direct.ensures c.in_ok-answers.answers done has c.course.inside.ciphers keyslots c.course.invariant c.close-stores.result.0.items orders c.close-stores.ensures.stores c.close-stores.ensures.entries c.close-stores.ensures.orders c.close-stores.ensures.left) orders done.stories sections (follow script rules c.args.image.items c.args.shards c.requires.shards.0 c.requires.shards.1 c.requires.length v0 v1 c.in_ok-direct.ensures c.in_ok-answers.answers done has c.course.inside.ciphers keyslots c.course.invariant c.close-stores.result.0.items orders c.close-stores.ensures.stores c.close-stores.ensures.entries c.close-stores.ensures.orders c.close-stores.ensures.left left long sectors c.in_ok-lines.lines lines c.in_ok-lines.ensures.ranges c.in_ok-devices.ensures.lawful fit) (uses script rules c.args.image.items c.args.shards c.requires.shards.0 c.requires.shards.1 c.requires.length v0 v1 c.in_ok-direct.ensures c.in_ok-answers.answers done has c.course.inside.ciphers keyslots c.course.invariant c.close-stores.result.0.items orders c.close-stores.ensures.stores c.close-stores.ensures.entries c.close-stores.ensures.orders c.close-stores.ensures.left left long sectors c.in_ok-lines.lines lines c.in_ok-lines.ensures.ranges c.in_ok-devices.ensures.lawful fit) in
    let but = c.sections_make_a_lawful_run.ensures script c.args.image.items c.args.shards report left (made_of script rules c.args.image.items c.args.shards c.requires.shards.0 c.requires.shards.1 c.requires.length v0 v1 c.in_ok-direct.ensures c.in_ok-answers.answers done has c.course.inside.ciphers keyslots c.course.invariant c.close-stores.result.0.items orders c.close-stores.ensures.stores c.close-stores.ensures.entries c.close-stores.ensures.orders c.close-stores.ensures.left) orders done.stories sections in
    let known = c.serial_runs_have_known_holders.ensures script (run_of script c.args.image.items report) report rules serial in
    subst (λ r. LawfulRun script c.args.image.items c.args.shards r left) (sym report_is) (record { but_holders = but; holders = known })

pub returns-clause-serial : goal.returns-clause-serial
returns-clause-serial c =
    let script = c.args.script.now in
    let rules : IsScript script = c.blocks-2.ensures.rules in
    let v0 = c.in_ok-direct.direct in
    let keyslots : KeyslotsData = c.course.inside.keyslots in
    let v1 : CourseData = record {
      script = c.course.inside.script.now;
      shards = c.course.inside.shards;
      thread = c.course.inside.thread;
      left = c.course.inside.left;
      journals = keyslots.journals;
      begun = keyslots.begun;
      opened = keyslots.opened;
    } in
    let is : v1 ≡ c.carry_sections_out.new.direct = c.course.view_is ∙ c.direct.view_is in
    let done : SectionsDone (own_device v0) (own_device v1) script.threads c.in_ok-answers.answers =
    subst (λ (v : CourseData). SectionsDone (own_device v0) (own_device v) script.threads c.in_ok-answers.answers) (sym is)
    (subst (λ l. SectionsDone (own_device v0) (own_device c.carry_sections_out.new.direct) l c.in_ok-answers.answers) c.threads.ensures.value c.in_ok-answers.ensures.done) in
    let has : HasBegun v1.begun v1.journals = subst (λ (v : CourseData). HasBegun v.begun v.journals) (sym is) c.in_ok-answers.ensures.begun in
    let orders : List (List Entry) = map (λ o. o.items) c.close-stores.result.1.items in
    let left = c.in_ok-image.image.items in
    let long : length left ≡ 4096 * script.blocks = c.in_ok-image.ensures.length ∙ ap (λ n. 4096 * n) c.blocks-2.ensures.value in
    let sectors : (s : ℕ) → s < 8 * script.blocks → AllAt c.close-stores.result.0.items (shard_of (length c.close-stores.result.0.items) s) (λ store. image_sectors left s ≡ contents store s) =
    subst (λ b. (s : ℕ) → s < 8 * b → AllAt c.close-stores.result.0.items (shard_of (length c.close-stores.result.0.items) s) (λ store. image_sectors left s ≡ contents store s)) c.blocks-2.ensures.value
    c.in_ok-image.ensures.sectors in
    let lines : c.in_ok-lines.lines ≡ map (map report_line_of) orders =
    c.in_ok-lines.ensures.lines ∙ ap (map (λ (o : Vec Entry Global). map report_line_of o.items)) c.as_slice.ensures.value ∙ sym (map-map (λ (o : Vec Entry Global). o.items) (map report_line_of) c.close-stores.result.1.items) in
    let devices : c.in_ok-devices.devices ≡ v1.journals = c.in_ok-devices.ensures.journals in
    let fit : Each (IsPart IsEvent) v1.journals = subst (Each (IsPart IsEvent)) devices c.in_ok-devices.ensures.ranges in
    let report : Report = record { threads = c.in_ok-answers.answers; shards = c.in_ok-lines.lines; devices = v1.journals } in
    let report_is : c.new.result ≡ report = c.new.ensures ∙ ap (λ d. record { threads = c.in_ok-answers.answers; shards = c.in_ok-lines.lines; devices = d }) devices in
    let sections = are_sections script rules c.args.image.items c.args.shards c.requires.shards.0 c.requires.shards.1 c.requires.length v0 v1 c.in_ok-direct.ensures c.in_ok-answers.answers done has c.course.inside.ciphers keyslots c.course.invariant c.close-stores.result.0.items orders c.close-stores.ensures.stores c.close-stores.ensures.entries c.close-stores.ensures.orders c.close-stores.ensures.left left long sectors c.in_ok-lines.lines lines c.in_ok-lines.ensures.ranges c.in_ok-devices.ensures.lawful fit in
    let serial : IsSerial script (run_of script c.args.image.items report) report =
    c.sections_in_turn_make_a_serial_run.ensures script c.args.image.items c.args.shards report left (made_of script rules c.args.image.items c.args.shards c.requires.shards.0 c.requires.shards.1 c.requires.length v0 v1 c.in_ok-direct.ensures c.in_ok-answers.answers done has c.course.inside.ciphers keyslots c.course.invariant c.close-stores.result.0.items orders c.close-stores.ensures.stores c.close-stores.ensures.entries c.close-stores.ensures.orders c.close-stores.ensures.left) orders done.stories sections (follow script rules c.args.image.items c.args.shards c.requires.shards.0 c.requires.shards.1 c.requires.length v0 v1 c.in_ok-direct.ensures c.in_ok-answers.answers done has c.course.inside.ciphers keyslots c.course.invariant c.close-stores.result.0.items orders c.close-stores.ensures.stores c.close-stores.ensures.entries c.close-stores.ensures.orders c.close-stores.ensures.left left long sectors c.in_ok-lines.lines lines c.in_ok-lines.ensures.ranges c.in_ok-devices.ensures.lawful fit) (uses script rules c.args.image.items c.args.shards c.requires.shards.0 c.requires.shards.1 c.requires.length v0 v1 c.in_ok-direct.ensures c.in_ok-answers.answers done has c.course.inside.ciphers keyslots c.course.invariant c.close-stores.result.0.items orders c.close-stores.ensures.stores c.close-stores.ensures.entries c.close-stores.ensures.orders c.close-stores.ensures.left left long sectors c.in_ok-lines.lines lines c.in_ok-lines.ensures.ranges c.in_ok-devices.ensures.lawful fit) in
    subst (λ r. IsSerial script (run_of script c.args.image.items r) r) (sym report_is) serial
