-- What a thread carries while it works on its section, over its own entries and events and what it
-- has seen. It acts when it submits an accepted bio, evicts and resets; other operations are
-- answered by themselves.
use Rattle.std.specs.Prelude.{ℕ, ◌<◌, Bool, true, false, List, [], flat_map, is_none}
use Rattle.std.specs.Option.{option_map_or}
use Rattle.bc_base.specs.Lists.{Each}
use Rattle.bc_medium.specs.declared.entry.Entry.{Entry}
use Rattle.bc_medium.specs.Growth.{Grows, Attempts}
use Rattle.bc_profile.specs.declared.noted.Noted.{Noted}
use Rattle.bc_script.specs.declared.op.Op.{Op}
use Rattle.bc_script.specs.declared.op.Op.TheVariants as ops
use Rattle.bc_script.specs.Script.{Script}
use Rattle.bc_script.specs.Bios.{bio_of, refusal_of}
use Rattle.bc_script.specs.Plan.{units_of}
use Rattle.bc_report.specs.Evictions.{Eviction}
use Rattle.bc_compose.specs.SectionDone.{SaysItsWay, Bounds, own_events}
use Rattle.bc_compose.specs.OrderedHolds.{Ordered}

-- an operation that a thread acts on: an accepted bio, an eviction, a reset
abbrev pub is_act : Script → ℕ × Op → Bool
is_act script (op, ops.Evict key) = true
is_act script (op, ops.Reset device) = true
is_act script (op, operation) = option_map_or (λ bio. is_none (refusal_of script bio)) (bio_of operation) false

-- `acts` are the operations that were acted on, in order, all with numbers below `next`; `opening`
-- is what the thread had seen of the orders when its section began
pub record Acted (script : Script) (shards thread : ℕ) (opening : List (List Entry)) (acts : List (ℕ × Op)) (next : ℕ)
    (seen : List (List Entry)) (noted : List (List Noted)) (made : List Entry) (evictions : List Eviction)
    : Type 0 where
  pub before : Each (λ act. act.0 < next) acts
  pub grows : Grows shards thread opening seen made
  pub attempts : Attempts thread [] (flat_map (units_of script) acts) made
  pub ways : Each (SaysItsWay script) made
  pub ordered : Ordered script thread next made evictions noted
  pub bounds : Bounds script acts evictions (own_events thread noted)
