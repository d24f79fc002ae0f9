use Rattle.std.proofs.Common.{◌≡◌, length, take, drop, reverse, vec_capacity}
use Rattle.std.specs.List.{AllByRecursion}
use Rattle.bc_report.specs.Report.{IsAnswer}
use Rattle.bc_threads.specs.Outcomes.{answer_of_reply}
use Rattle.bc_threads.specs.Plugging.{AreNoted, SameBeside}
use Rattle.bc_threads.proofs.sharing.note_all.Given as goal

abbrev pub invariant-loop-op : goal.invariant-loop-op
invariant-loop-op g l = record {
  rest : l.replies.items ≡ reverse (drop l.op-index l.fn.replies.items);
  noted : AreNoted l.answers (take l.op-index l.window) (take l.op-index l.fn.replies.items);
  others : SameBeside (take l.op-index l.window) l.fn.answers l.answers;
  fits : AllByRecursion (λ reply. IsAnswer (answer_of_reply reply)) (take l.op-index l.fn.replies.items);
  long : length l.answers ≡ length l.fn.answers;
  room : vec_capacity l.replies ≡ vec_capacity l.fn.replies;
}
