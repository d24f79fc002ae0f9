use Rattle.std.proofs.Common.{take, ◌≡◌, ◌≤◌, List, [], refl, sym, ap, subst, arith, length, None}
use Rattle.std.specs.List.{AllByRecursion}
use Rattle.std.specs.Prelude.{sum_by}
use Rattle.bc_script.specs.declared.op.Op.{Op}
use Rattle.bc_script.specs.Script.{Script, IsScriptSection, max_ops, max_threads}
use Rattle.bc_report.specs.declared.answer.Answer.{Answer}
use Rattle.bc_section.specs.Sections.{SectionsDone, cost_of_section}
use Rattle.bc_section.specs.SectionProgress.{CarriesSection}
use Rattle.bc_serial.specs.Standing.{CourseData, HasBegun, own_device}
use Rattle.bc_section.proofs.Lists.{all_read}
use Rattle.bc_serial.proofs.Turns.{new_thread, length-taken, sections_none, sections_more, left_more, left_next, few_ops}
use Rattle.bc_serial.proofs.one_caller.carry_sections_out.Goals as goal

pub loop-thread-init : goal.loop-thread-init
loop-thread-init c =
    let d : CourseData = c.args.direct.now in
    let begun : HasBegun d.begun d.journals = subst (λ (v : CourseData). HasBegun v.begun v.journals) c.direct.view_is c.has_begun.ensures in
    record {
      done = subst (λ (l : List (List Answer)). SectionsDone (own_device d) (own_device d) [] l) (sym c.in_ok-answers.ensures.items) (sections_none d begun c.requires.untouched c.requires.unused);
      begun = begun;
      left = omega arith;
    }

pub loop-thread-preserved : goal.loop-thread-preserved
loop-thread-preserved c =
    let b : CourseData = c.loop-thread.direct in
    let d : CourseData = c.carry_section_out.new.direct in
    let section = c.index-sections-thread.result in
    let start = own_device (record b { thread = c.loop-thread.thread; begun = b.journals; opened = None }) in
    let begun : HasBegun d.begun d.journals = subst (λ (v : CourseData). HasBegun v.begun v.journals) c.direct-in-loop-thread.view_is c.has_begun-in-loop-thread.ensures in
    let carried : CarriesSection start (own_device d) section c.in_ok-answered.answered =
    subst (λ (l : List Op). CarriesSection start (own_device d) l c.in_ok-answered.answered) c.as_slice.ensures c.in_ok-answered.ensures in
    record {
      done = sections_more c.args.direct.now b d c.loop-thread.thread c.args.sections.now c.loop-thread.thread c.loop-thread.answers.items c.push.new.self.items section c.in_ok-answered.answered
          c.loop-thread.invariant.begun begun refl c.loop-thread-test.true c.index-sections-thread.is c.in_ok-push.ensures.items c.loop-thread.invariant.done carried;
      begun = begun;
      left = left_more b d c.loop-thread.thread c.args.sections.now c.loop-thread.thread section c.in_ok-answered.answered c.args.direct.now.left c.loop-thread-test.true c.index-sections-thread.is
          c.loop-thread.invariant.left carried;
    }

pub carry_section_out-requires : goal.carry_section_out-requires
carry_section_out-requires c =
    let section = c.index-sections-thread.result in
    let script : c.loop-thread.direct.script ≡ c.args.direct.now.script = ap (λ d. d.script) c.loop-thread.invariant.done.same in
    let all : AllByRecursion (IsScriptSection c.args.direct.now.script) c.args.sections.now =
    subst (AllByRecursion (IsScriptSection c.args.direct.now.script)) (sym c.requires.sections) c.requires.rules.threads.each in
    let most = subst (λ l. sum_by length l ≤ max_ops) (sym c.requires.sections) c.requires.rules.threads.few_ops in
    let few = few_ops c.args.sections.now c.loop-thread.thread section c.loop-thread-test.true c.index-sections-thread.is in
    record {
      rules = subst (λ (s : Script). IsScriptSection s c.as_slice.result.now) (sym script)
          (subst (IsScriptSection c.args.direct.now.script) (sym c.as_slice.ensures)
          (all_read (IsScriptSection c.args.direct.now.script) c.args.sections.now c.loop-thread.thread section all c.loop-thread-test.true c.index-sections-thread.is));
      new = λ shard. new_thread (own_device c.args.direct.now) (own_device c.loop-thread.direct) (take c.loop-thread.thread c.args.sections.now) c.loop-thread.answers.items c.loop-thread.thread shard
          (sym (length-taken c.args.sections.now c.loop-thread.thread c.loop-thread-test.true)) c.loop-thread.invariant.done;
      few = omega (arith, ap length c.as_slice.ensures);
      spare = omega (
        arith,
        ap cost_of_section c.as_slice.ensures,
        left_next c.loop-thread.direct.left c.args.direct.now.left c.args.sections.now c.loop-thread.thread section c.loop-thread-test.true c.index-sections-thread.is
            c.requires.spare c.loop-thread.invariant.left,
      );
    }

pub overflow_cast-thread : goal.overflow_cast-thread
overflow_cast-thread c =
    let count : length c.args.direct.now.script.threads ≤ max_threads = c.requires.rules.threads.count in
    omega (arith, ap length c.requires.sections, c.loop-thread-test.true)
