use Rattle.std.proofs.Common.{None, ◌∙◌, subst}
use Rattle.std.specs.Prelude.{count_by, nat_lt}
use Rattle.bc_script.specs.declared.script_error.ScriptWhy.TheVariants as why
use Rattle.bc_script.specs.Script.{max_threads}
use Rattle.bc_script.specs.ScriptErrors.{first_why, device_test, is_thread}
use Rattle.bc_script.specs.Progress.{Progress, forms_read}
use Rattle.bc_script.specs.Reading.{IsReading}
use Rattle.bc_script.proofs.Refusals.{is_plugged, is_unplugged, not_whole, goes_on_whole, too_many_threads}
use Rattle.bc_script.proofs.reader.Reader.thread.Goals as goal

pub returns-then-self : goal.returns-then-self
returns-then-self c =
    let here = c.self.inside in
    let is = subst (λ (p : Progress). IsReading p here.lines here.plugged here.ops here.units) c.self.view_is c.self.invariant in
    let room = first_why (nat_lt (count_by is_thread (forms_read c.args.self.now)) max_threads) why.Limit None in
    is_plugged c.args.self.now here.lines here.ops here.units here.plugged (device_test (forms_read c.args.self.now) room) is c.if-self.true

pub returns-then-not-are_whole : goal.returns-then-not-are_whole
returns-then-not-are_whole c =
    let here = c.self.inside in
    let is = subst (λ (p : Progress). IsReading p here.lines here.plugged here.ops here.units) c.self.view_is c.self.invariant in
    let room = first_why (nat_lt (count_by is_thread (forms_read c.args.self.now)) max_threads) why.Limit None in
    is_unplugged c.args.self.now here.lines here.ops here.units here.plugged (device_test (forms_read c.args.self.now) room) is c.if-self.false
    ∙ not_whole c.args.self.now room c.are_whole.result is.rules c.are_whole.ensures.test c.if-not-are_whole.true

pub returns-then-section_count-ge-MAX_THREADS : goal.returns-then-section_count-ge-MAX_THREADS
returns-then-section_count-ge-MAX_THREADS c =
    let here = c.self.inside in
    let is = subst (λ (p : Progress). IsReading p here.lines here.plugged here.ops here.units) c.self.view_is c.self.invariant in
    let room = first_why (nat_lt (count_by is_thread (forms_read c.args.self.now)) max_threads) why.Limit None in
    is_unplugged c.args.self.now here.lines here.ops here.units here.plugged (device_test (forms_read c.args.self.now) room) is c.if-self.false
    ∙ goes_on_whole c.args.self.now room c.are_whole.result is.rules c.are_whole.ensures.test c.if-not-are_whole.false
    ∙ too_many_threads c.args.self.now c.section_count.result is.rules c.section_count.ensures c.if-section_count-ge-MAX_THREADS.true
