use Rattle.std.proofs.Common.{◌≡◌, ◌∙◌, ◌≤◌, ℕ, List, [], length, map, drop, sym, ap, subst, Some, None, arith}
use Rattle.std.specs.List.{enumerate_from}
use Rattle.std.proofs.lemmas.List.{length-map, map-id}
use Rattle.bc_base.specs.Lists.{list_at}
use Rattle.bc_base.specs.Story.{own}
use Rattle.bc_profile.specs.Story.{author_of}
use Rattle.bc_report.specs.declared.answer.Answer.{Answer}
use Rattle.bc_compose.specs.SectionDone.{IsReply}
use Rattle.bc_section.specs.Sections.{cost_in}
use Rattle.bc_section.specs.SectionProgress.{CarriesSection}
use Rattle.bc_section.proofs.Carrying.{units_at}
use Rattle.bc_serial.specs.Standing.{CourseData, own_device}
use Rattle.bc_serial.proofs.Turns.{no_events}
use Rattle.bc_serial.proofs.Windowing.{same_replies, replied_all, taken}
use Rattle.bc_serial.proofs.one_caller.carry_section_out.Goals as goal

pub returns : goal.returns
returns c =
    let done = c.in_ok-carry_out.ensures.done in
    let begun = own_device c.begin.new.self in
    let section : CarriesSection begun (own_device c.carry_out.new.device) c.args.section.now done.0 =
    subst (λ (l : List Answer). CarriesSection begun (own_device c.carry_out.new.device) c.args.section.now l) (map-id done.0) done.2 in
    let count : c.in_ok-noted.noted.len ≡ length c.carry_out.new.answers =
    omega (arith, c.in_ok-noted.ensures.len, ap length done.1, length-map done.0 (λ a. Some a), replied_all (IsReply begun.script begun.shards begun.base begun.thread (own_device c.carry_out.new.device).seen) 0 c.args.section.now done.0 section.done.answers) in
    let noted : c.as_slice.result.now ≡ c.carry_out.new.answers =
    c.as_slice.ensures.value ∙ taken c.carry_out.new.answers (drop (length c.carry_out.new.answers) c.in_ok-noted.noted.items) c.in_ok-noted.noted.len count in
    let same : done.0 ≡ c.in_ok-answers.answers = same_replies done.0 c.in_ok-answers.answers (sym done.1 ∙ sym noted ∙ sym c.in_ok-answers.ensures) in
    let start : CourseData = record c.args.direct.now { thread = c.args.thread; begun = c.args.direct.now.journals; opened = None } in
    subst (λ (l : List Answer). CarriesSection (own_device start) (own_device c.carry_out.new.device) c.args.section.now l) same
    (subst (λ (v : CourseData). CarriesSection (own_device v) (own_device c.carry_out.new.device) c.args.section.now done.0) c.begin.ensures section)

pub carry_out-requires-clause-afforded : goal.carry_out-requires-clause-afforded
carry_out-requires-clause-afforded c =
    subst (λ (v : CourseData). cost_in (enumerate_from 0 c.args.section.now) ≤ v.left) (sym c.begin.ensures)
    (omega (arith, units_at 0 c.args.section.now, c.requires.spare))

pub carry_out-requires-clause-no_events : goal.carry_out-requires-clause-no_events
carry_out-requires-clause-no_events c = subst
    (λ (v : CourseData). (number : ℕ) → own author_of (own_device v).thread (list_at (own_device v).noted number) ≡ []) (sym c.begin.ensures)
    (no_events c.args.thread c.args.direct.now.journals)
