-- The run of the keyed disk that a report is of: the script's plan and faults, from an image, along
-- the orders that the report lists.
use Rattle.std.specs.Prelude.{ℕ, List, map, Option, option_map, option_and_then}
use Rattle.bc_medium.specs.declared.unit_name.UnitName.{UnitName}
use Rattle.bc_medium.specs.Outcome.{Run, unit_named}
use Rattle.bc_script.specs.Script.{Script, keys_of}
use Rattle.bc_script.specs.Plan.{plan_of}
use Rattle.bc_report.specs.declared.line.Line.{Line}
use Rattle.bc_report.specs.Report.{Report}

-- the data unit of an entry, by name
abbrev pub name_in : Line → UnitName
name_in line = record { thread = line.thread; op = line.op; unit = line.unit }

-- the orders that a report lists
abbrev pub orders_of : Report → List (List UnitName)
orders_of report = map (map name_in) report.shards

-- the script's plan and faults, from this image, along the report's orders
abbrev pub run_of : Script → List ℕ → Report → Run
run_of script image report =
    record {
      image = image;
      keys = keys_of script;
      plan = plan_of script;
      faults = script.faults;
      orders = orders_of report;
    }

-- the key of a unit of the plan, by number, if the unit has a context
abbrev pub own_key : Run → UnitName → Option ℕ
own_key run name = option_and_then (λ u. option_map (λ context. context.key.0) u.context) (unit_named run name)
