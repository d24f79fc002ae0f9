use Rattle.std.proofs.Common.{◌≡◌, ℕ, ◌<◌, List, sym, subst, Some}
use Rattle.std.specs.Prelude.{flat_map, slice_get}
use Rattle.bc_bio.specs.declared.reply.Reply.{Reply}
use Rattle.bc_bio.specs.declared.unit.Unit.{Unit}
use Rattle.bc_report.specs.Report.{IsAnswer}
use Rattle.bc_threads.specs.Outcomes.{answer_of_reply, bytes_of_unit}
use Rattle.bc_threads.proofs.Digests.{done_fits}
use Rattle.bc_threads.proofs.sharing.reply_law.Goals as goal

pub returns-in-Done : goal.returns-in-Done
returns-in-Done c =
    subst (λ (r : Reply). IsAnswer (answer_of_reply r)) (sym c.in-Done.is)
    (done_fits c.in-Done.bio.access c.in-Done.bio (subst (λ (l : List Unit). (byte : ℕ) → slice_get (flat_map bytes_of_unit l) 0 ≡ Some byte → byte < 256) c.as_slice.ensures c.units_law.ensures))
