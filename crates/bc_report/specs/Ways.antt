-- The ways of a report's entries: each is the plan's, and an inline one names the device of its
-- sector.
use Rattle.std.specs.Prelude.{◌≡◌, List, IsSomeAnd, All}
use Rattle.bc_medium.specs.declared.via.Via.{Via}
use Rattle.bc_medium.specs.declared.via.Via.TheVariants as vias
use Rattle.bc_medium.specs.Outcome.{Run, unit_named}
use Rattle.bc_script.specs.Script.{Script}
use Rattle.bc_script.specs.Way.{Way, plain, soft, inline, way_of}
use Rattle.bc_report.specs.declared.line.Line.{Line}
use Rattle.bc_report.specs.RunOf.{name_in}

-- the way that an entry says
abbrev pub way_in : Via → Way
way_in vias.Plain = plain
way_in vias.Soft = soft
way_in (vias.Inline device slot event) = inline device

-- an entry is a unit of the plan, and says its way
abbrev pub HasWay : Script → Run → Line → Type 0
HasWay script run line =
    IsSomeAnd (unit_named run (name_in line)) (λ u. way_in line.via ≡ way_of script u.context u.sector)

-- each entry of each shard does
abbrev pub HaveWays : Script → Run → List (List Line) → Type 0
HaveWays script run shards = All (All (HasWay script run)) shards
