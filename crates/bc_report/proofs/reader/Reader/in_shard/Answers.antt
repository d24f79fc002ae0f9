use Rattle.std.proofs.Common.{◌≡◌, ◌≤◌, subst, arith}
use Rattle.bc_report.specs.Progress.{Progress, TookReportLine, RefusesLine}
use Rattle.bc_report.proofs.Taken.{took_entry}
use Rattle.bc_report.proofs.Stuck.{took_after_shard, refuses_after_shard, map_ok, map_err}
use Rattle.bc_report.proofs.reader.Reader.in_shard.Goals as goal

pub returns-then-self-eq0-clause-ok : goal.returns-then-self-eq0-clause-ok
returns-then-self-eq0-clause-ok c =
    let none : c.args.self.now.owed ≡ 0 = rw (← c.self.view_is) c.if-self-eq0.true in
    map_ok c.next_part.result
    (λ (t : TookReportLine c.close_shard.new.self c.args.line c.next_part.new.self).
    took_after_shard c.args.self.now c.next_part.new.self c.args.line c.requires none (subst (λ (q : Progress). TookReportLine q c.args.line c.next_part.new.self) c.in_ok-close_shard.ensures t))
    c.next_part.ensures.ok

pub returns-then-self-eq0-clause-bad : goal.returns-then-self-eq0-clause-bad
returns-then-self-eq0-clause-bad c =
    let none : c.args.self.now.owed ≡ 0 = rw (← c.self.view_is) c.if-self-eq0.true in
    map_err (RefusesLine c.close_shard.new.self c.args.line) (RefusesLine c.args.self.now c.args.line) c.next_part.result
    (λ e r. refuses_after_shard c.args.self.now c.args.line e c.requires none (subst (λ (q : Progress). RefusesLine q c.args.line e) c.in_ok-close_shard.ensures r))
    c.next_part.ensures.bad

pub returns-clause-ok : goal.returns-clause-ok
returns-clause-ok c =
    let owed : 1 ≤ c.args.self.now.owed = rw (← c.self.view_is) (omega (arith, c.if-self-eq0.false)) in
    took_entry c.args.self.now c.add_entry.new.self c.args.line c.in-Some.entry c.requires owed c.in-Some.ensures.0 c.in-Some.ensures.1 c.in_ok-add_entry.ensures
