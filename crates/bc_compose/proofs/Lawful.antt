-- The report is that of a run that is lawful but for who held a slot: all points together.
use Rattle.std.proofs.Common.{ℕ, List}
use Rattle.bc_bio.specs.Laws.{UnitsHaveSizes, UnitsLieInBlocks, UnrefusedIsAccepted}
use Rattle.bc_medium.specs.declared.entry.Entry.{Entry}
use Rattle.bc_profile.specs.declared.noted.Noted.{Noted}
use Rattle.bc_script.specs.Script.{Script}
use Rattle.bc_report.specs.Report.{Report}
use Rattle.bc_report.specs.LawfulRun.{LawfulButHolders}
use Rattle.bc_compose.specs.ComposedRun.{AreSectionsOf}
use Rattle.bc_compose.proofs.Whole.{orders_hold, answers_hold, image_holds, ways_hold}
use Rattle.bc_compose.proofs.Counted.{journals_hold, evictions_hold, busy_answers_hold, counts_hold}
use Rattle.bc_compose.proofs.Programmed.{programmings_hold}

module _ (sizes : UnitsHaveSizes) (blocks : UnitsLieInBlocks) (unrefused : UnrefusedIsAccepted)
    (script : Script) (image : List ℕ) (shards : ℕ) (report : Report) (left : List ℕ) (made : ℕ → List Entry) (orders : List (List Entry)) (journals : List (List Noted))
    (done : AreSectionsOf script image shards report left made orders journals) where
  pub lawful_run : LawfulButHolders script image shards report left
  lawful_run = record {
    orders = orders_hold sizes blocks unrefused script image shards report left made orders journals done;
    answers = answers_hold sizes blocks unrefused script image shards report left made orders journals done;
    image_left = image_holds sizes blocks unrefused script image shards report left made orders journals done;
    ways = ways_hold sizes blocks unrefused script image shards report left made orders journals done;
    journals = journals_hold sizes blocks unrefused script image shards report left made orders journals done;
    programmings = programmings_hold sizes blocks unrefused script image shards report left made orders journals done;
    evictions = evictions_hold sizes blocks unrefused script image shards report left made orders journals done;
    busy_answers = busy_answers_hold sizes blocks unrefused script image shards report left made orders journals done;
    counts = counts_hold sizes blocks unrefused script image shards report left made orders journals done;
  }
