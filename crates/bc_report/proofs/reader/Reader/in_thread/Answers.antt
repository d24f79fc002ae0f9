use Rattle.std.proofs.Common.{◌≢◌, subst, ◌∙◌}
use Rattle.bc_report.specs.declared.sort.Sort.TheVariants as sorts
use Rattle.bc_report.specs.LinePlaces.{sort_of_line}
use Rattle.bc_report.specs.Progress.{Progress, TookReportLine, RefusesLine}
use Rattle.bc_report.proofs.Stuck.{took_after_thread, refuses_after_thread, map_ok, map_err}
use Rattle.bc_report.proofs.reader.Reader.in_thread.Goals as goal

pub returns-in_ok-close_thread-in_default : goal.returns-in_ok-close_thread-in_default
returns-in_ok-close_thread-in_default c =
    let closed = c.in_ok-close_thread-in_default.ensures in
    let other : sort_of_line c.args.line ≢ sorts.Other = λ e. c.in_default.not-Other (c.sort.ensures ∙ e) in
    record {
      ok =
          map_ok c.next_part.result
          (λ (t : TookReportLine c.close_thread.new.self c.args.line c.next_part.new.self).
          took_after_thread c.args.self.now c.next_part.new.self c.args.line c.requires (subst (λ (q : Progress). TookReportLine q c.args.line c.next_part.new.self) closed t))
          c.next_part.ensures.ok;
      bad =
          map_err (RefusesLine c.close_thread.new.self c.args.line) (RefusesLine c.args.self.now c.args.line) c.next_part.result
          (λ e r. refuses_after_thread c.args.self.now c.args.line e c.requires other (subst (λ (q : Progress). RefusesLine q c.args.line e) closed r))
          c.next_part.ensures.bad;
    }
