-- What shards and devices tell when they are closed: one order for each shard and one journal for
-- each device, of which each thread has seen the front, and what each order leaves.
use Rattle.std.specs.Prelude.{◌≡◌, ℕ, ◌<◌, List, map, length}
use Rattle.bc_base.specs.Lists.{Each, At, list_at}
use Rattle.bc_base.specs.Story.{IsFront}
use Rattle.bc_medium.specs.declared.entry.Entry.{Entry}
use Rattle.bc_medium.specs.Layout.{shard_of}
use Rattle.bc_medium.specs.KeyedDisk.{Sectors, image_sectors, meets_fault}
use Rattle.bc_medium.specs.Entries.{caller_of, left_by}
use Rattle.bc_profile.specs.declared.noted.Noted.{Noted}
use Rattle.bc_profile.specs.Story.{author_of, events_of}
use Rattle.bc_script.specs.Script.{Script, keys_of}
use Rattle.bc_report.specs.declared.line.Line.{Line}
use Rattle.bc_report.specs.LawfulRun.{HaveLawfulJournals}
use Rattle.bc_report.specs.Report.{Report}

-- the orders of so many shards and callers: `seen` is what each caller has seen
pub record ShardsClosed (faults : List (ℕ × ℕ)) (shards callers : ℕ) (seen : ℕ → List (List Entry))
    (orders : List (List Entry)) : Type 0 where
  pub one_for_each : length orders ≡ shards
  pub fronts : (caller shard : ℕ) → caller < callers → shard < shards
      → IsFront caller_of caller (list_at (seen caller) shard) (list_at orders shard)
  pub no_strangers : (shard : ℕ) → shard < shards → Each (λ e. caller_of e < callers) (list_at orders shard)
  -- an entry failed exactly where the plan has its place
  pub planned : (shard place : ℕ) (e : Entry) → shard < shards → At (list_at orders shard) place e
      → e.failed ≡ meets_fault faults shard place

-- each shard had its own sectors of the image, and they are left as its order leaves them
pub record StoresClosed (script : Script) (shards : ℕ) (base : ℕ → Sectors) (image : List ℕ)
    (orders : List (List Entry)) (left : List ℕ) : Type 0 where
  pub opening : (s : ℕ) → base (shard_of shards s) s ≡ image_sectors image s
  pub closing : (s : ℕ) → image_sectors left s
      ≡ left_by (keys_of script) (base (shard_of shards s)) (list_at orders (shard_of shards s)) s
  pub size : length left ≡ length image

-- how a report says an entry
abbrev pub report_line_of : Entry → Line
report_line_of e = record { thread = e.at.caller; op = e.at.tag; unit = e.at.unit; via = e.via }

-- the journals of the script's devices: `noted` is what each caller has seen
pub record DevicesClosed (script : Script) (callers : ℕ) (noted : ℕ → List (List Noted))
    (journals : List (List Noted)) : Type 0 where
  pub fronts : (caller device : ℕ) → caller < callers
      → IsFront author_of caller (list_at (noted caller) device) (list_at journals device)
  pub no_strangers : (device : ℕ) → Each (λ n. author_of n < callers) (list_at journals device)
  pub lawful : HaveLawfulJournals script.targets (map events_of journals)

-- the report says these orders and these journals
pub record IsReported (orders : List (List Entry)) (journals : List (List Noted)) (report : Report) : Type 0 where
  pub shards : report.shards ≡ map (map report_line_of) orders
  pub devices : report.devices ≡ map events_of journals
