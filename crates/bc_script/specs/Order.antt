-- The order of lines: which sort of line may stand after which.
use Rattle.std.specs.Prelude.{Bool, true, false, Option, Some, None}
use Rattle.bc_script.specs.declared.sort.Sort.{Sort}
use Rattle.bc_script.specs.declared.sort.Sort.TheVariants as sorts

-- A line of this sort may stand after the line of that sort, or as the first line. The first three
-- lines stand once and in order; then come devices, then keys, then planned faults, then sections,
-- then the end.
abbrev pub may_follow : Option Sort → Sort → Bool
may_follow None sorts.Version = true
may_follow (Some sorts.Version) sorts.Disk = true
may_follow (Some sorts.Disk) sorts.Fallback = true
may_follow (Some sorts.Fallback) sorts.Device = true
may_follow (Some sorts.Fallback) sorts.Key = true
may_follow (Some sorts.Fallback) sorts.Fault = true
may_follow (Some sorts.Fallback) sorts.Thread = true
may_follow (Some sorts.Fallback) sorts.End = true
may_follow (Some sorts.Device) sorts.Device = true
may_follow (Some sorts.Device) sorts.Key = true
may_follow (Some sorts.Device) sorts.Fault = true
may_follow (Some sorts.Device) sorts.Thread = true
may_follow (Some sorts.Device) sorts.End = true
may_follow (Some sorts.Key) sorts.Key = true
may_follow (Some sorts.Key) sorts.Fault = true
may_follow (Some sorts.Key) sorts.Thread = true
may_follow (Some sorts.Key) sorts.End = true
may_follow (Some sorts.Fault) sorts.Fault = true
may_follow (Some sorts.Fault) sorts.Thread = true
may_follow (Some sorts.Fault) sorts.End = true
may_follow (Some sorts.Thread) sorts.Operation = true
may_follow (Some sorts.Thread) sorts.Thread = true
may_follow (Some sorts.Thread) sorts.End = true
may_follow (Some sorts.Operation) sorts.Operation = true
may_follow (Some sorts.Operation) sorts.Thread = true
may_follow (Some sorts.Operation) sorts.End = true
may_follow _ _ = false
