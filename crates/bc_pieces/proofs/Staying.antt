-- What became of a bio, along longer orders.
use Rattle.std.proofs.Common.{ℕ, ◌<◌, Bool, true, false, List, length, Option, Some, None}
use Rattle.std.specs.Prelude.{MatchOption}
use Rattle.bc_base.specs.Lists.{list_at}
use Rattle.bc_base.specs.Story.{StartsWith}
use Rattle.bc_bio.specs.declared.bio.Bio.{Bio}
use Rattle.bc_bio.specs.declared.marked_bio.MarkedBio.{MarkedBio}
use Rattle.bc_medium.specs.declared.entry.Entry.{Entry}
use Rattle.bc_medium.specs.LawfulOrders.{unit_name_of}
use Rattle.bc_medium.specs.Laws.{AnswersStay, KnownStays}
use Rattle.bc_queue.specs.Carrying.{AccessFacts, answer_of}
use Rattle.bc_queue.proofs.Growing.{told_more}
use Rattle.bc_pieces.specs.Becoming.{planned_in, IsAnswered, IsStopped, Becomes}
use Rattle.bc_pieces.proofs.Becoming.{known_bio}

module _ (stay : AnswersStay) (known_stays : KnownStays) (facts : AccessFacts) (seen seen' : List (List Entry)) (fronts : (shard : ℕ) → StartsWith (list_at seen' shard) (list_at seen shard)) where
  answer_stays : (old new : Bio) (i : ℕ) (failed : Bool) → IsAnswered facts seen old new i failed → IsAnswered facts seen' old new i failed
  answer_stays old new i failed a = record {
    place = a.place;
    shard = a.shard;
    bytes = a.bytes;
    content = a.content;
    full = a.full;
    written = a.written;
    told = told_more stay facts.keys (facts.opening a.place.shard) (list_at seen a.place.shard) (list_at seen' a.place.shard) a.place.index (unit_name_of facts.caller (planned_in facts.keys old i)) (answer_of old.access failed a.bytes) (fronts a.place.shard) a.told;
    known = λ base opened. known_stays facts.keys facts.shards base facts.caller seen seen' (planned_in facts.keys old i) (answer_of old.access failed a.bytes) fronts (a.known base opened);
  }

  outcome_stays : (old new : Bio) (mark : Option ℕ) → MatchOption mark ((i : ℕ) → i < length old.units → IsAnswered facts seen old new i false) (IsStopped facts seen old new)
      → MatchOption mark ((i : ℕ) → i < length old.units → IsAnswered facts seen' old new i false) (IsStopped facts seen' old new)
  outcome_stays old new None done = λ i within. answer_stays old new i false (done i within)
  outcome_stays old new (Some unit) stopped = record {
    within = stopped.within;
    fault = answer_stays old new unit true stopped.fault;
    done = λ i less. answer_stays old new i false (stopped.done i less);
    left = stopped.left;
  }

  pub becomes_stays : (was is : MarkedBio) → Becomes facts seen was is → Becomes facts seen' was is
  becomes_stays was is b =
      let outcome = outcome_stays was.bio is.bio is.fault b.outcome in record {
        same = b.same;
        outcome = outcome;
        known = known_bio facts seen' was is b.same is.fault outcome;
      }
